use Rattle.std.proofs.Common.{refl, arith}
use Rattle.md_write_cases.proofs.FitLemmas.{next-fits}
use Rattle.md_write_cases.proofs.fit.row_fits.Goals as goal

pub loop-place-preserved : goal.loop-place-preserved
loop-place-preserved c =
    next-fits c.args.counts.now c.args.columns.now c.args.numbers.now c.loop-place.place _ (omega (arith, c.if-numbers-columns.false)) c.loop-place-test.true
    (c.if-not-fits.ensures refl) c.loop-place.invariant

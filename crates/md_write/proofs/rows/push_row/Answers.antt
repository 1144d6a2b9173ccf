use Rattle.md_write.proofs.WriteLemmas.{next-number}
use Rattle.md_write.proofs.rows.push_row.Goals as goal

pub push_number-requires : goal.push_number-requires
push_number-requires c = c.requires.few c.loop-place.place

pub loop-place-preserved : goal.loop-place-preserved
loop-place-preserved c =
    next-number c.args.out.now c.loop-place.out c.push_number.new.out c.args.widths.now c.args.numbers.now c.loop-place.place
    c.requires.same c.loop-place-test.true c.loop-place.invariant c.in_ok-push_number.ensures

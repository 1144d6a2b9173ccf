use Rattle.std.proofs.Common.{◌≡◌, ℕ, subst, arith}
use Rattle.md_write_cases.proofs.FitLemmas.{TablesFit, tables-fit}
use Rattle.md_write_cases.proofs.fit.tables_fit.Goals as goal

pub returns : goal.returns
returns c =
    let end : c.loop-table.table ≡ 64 = omega arith in
    λ _. tables-fit c.args.counts.now c.args.tables.now c.requires (subst (λ (n : ℕ). TablesFit c.args.counts.now c.args.tables.now n) end c.loop-table.invariant)

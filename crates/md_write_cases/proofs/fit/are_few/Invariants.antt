use Rattle.md_write_cases.proofs.FitLemmas.{AreFew}
use Rattle.md_write_cases.proofs.fit.are_few.Given as goal

-- no table so far has too many rows
abbrev pub invariant-loop-rows : goal.invariant-loop-rows
invariant-loop-rows l = AreFew l.tables l.rows-index

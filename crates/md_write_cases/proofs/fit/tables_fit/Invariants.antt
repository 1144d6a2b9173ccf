use Rattle.md_write_cases.proofs.FitLemmas.{TablesFit}
use Rattle.md_write_cases.proofs.fit.tables_fit.Given as goal

-- the rows of the tables so far fit
abbrev pub invariant-loop-table : goal.invariant-loop-table
invariant-loop-table l = TablesFit l.counts l.tables l.table

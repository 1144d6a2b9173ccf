use Rattle.md_write_cases.proofs.FitLemmas.{RowsFit}
use Rattle.md_write_cases.proofs.fit.table_fits.Given as goal

-- the rows so far fit
abbrev pub invariant-loop-row : goal.invariant-loop-row
invariant-loop-row l = RowsFit l.counts l.table l.rows l.row-index

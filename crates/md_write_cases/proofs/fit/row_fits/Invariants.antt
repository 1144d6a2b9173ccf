use Rattle.std.proofs.Common.{take}
use Rattle.md_schema.specs.Column.{seen_columns}
use Rattle.md_tables.specs.Written.{Fits}
use Rattle.md_write_cases.proofs.fit.row_fits.Given as goal

-- the numbers so far fit
abbrev pub invariant-loop-place : goal.invariant-loop-place
invariant-loop-place l = Fits l.counts (seen_columns (take l.place l.columns)) (take l.place l.numbers)

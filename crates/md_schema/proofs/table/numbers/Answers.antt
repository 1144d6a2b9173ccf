-- The constants, in order, are the numbers of the standard.
use Rattle.std.proofs.Common.{refl}
use Rattle.md_schema.specs.Schema.{tables}
use Rattle.md_schema.proofs.table.numbers.Goals as goal

pub returns : goal.returns
unfolding tables
returns c = refl

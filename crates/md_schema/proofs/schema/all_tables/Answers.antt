-- Both tables compute to the same list.
use Rattle.std.proofs.Common.{refl}
use Rattle.md_schema.specs.Schema.{tables}
use Rattle.md_schema.proofs.schema.all_tables.Goals as goal

pub returns : goal.returns
unfolding tables
returns c = refl

-- Both lists compute to the same.
use Rattle.std.proofs.Common.{refl}
use Rattle.il_code.proofs.table.rows.Goals as goal

pub returns : goal.returns
returns c = refl

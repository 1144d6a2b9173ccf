use Rattle.std.proofs.Common.{take}
use Rattle.write_plan.specs.inner.Tables.{IsSplit}
use Rattle.write_plan.proofs.kept_rows.split.Given as goal

abbrev pub invariant-loop-token : goal.invariant-loop-token
invariant-loop-token l = IsSplit (take l.token-index l.all) l.tables.items

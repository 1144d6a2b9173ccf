use Rattle.std.proofs.Common.{◌≡◌, [], length, replicate, take}
use Rattle.std.specs.Prelude.{fold}
use Rattle.write_plan.specs.Written.{table_written}
use Rattle.write_plan.specs.inner.Taken.{value_kept}
use Rattle.write_plan.proofs.writing.written_lists.Given as goal

abbrev pub invariant-loop-table : goal.invariant-loop-table
invariant-loop-table l =
    (l.lists ≡ fold (table_written (value_kept l.kept) l.rows) (replicate 256 []) (take l.table-index l.table-items))
    × (length l.lists ≡ 256)

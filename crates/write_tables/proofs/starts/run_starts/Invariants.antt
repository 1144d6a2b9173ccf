use Rattle.std.proofs.Common.{◌≡◌, ◌+◌, map, take}
use Rattle.std.specs.List.{range_with_len, sum_by}
use Rattle.write_tables.specs.WrittenRows.{run_length}
use Rattle.write_tables.proofs.starts.run_starts.Given as goal

abbrev pub invariant-loop-owner : goal.invariant-loop-owner
invariant-loop-owner l = record {
  starts : l.starts ≡ map (λ place. 1 + sum_by (run_length l.plan l.owned) (take place l.owners)) (range_with_len 0 l.owner-index);
  start : l.start ≡ 1 + sum_by (run_length l.plan l.owned) (take l.owner-index l.owners);
}

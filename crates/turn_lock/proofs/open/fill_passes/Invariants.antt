use Rattle.std.proofs.Common.{◌≡◌, ◌≤◌, map, vec_len, vec_capacity}
use Rattle.std.specs.List.{range_with_len}
use Rattle.turn_lock.specs.Passes.{new_pass}
use Rattle.turn_lock.specs.Seats.{HasGiven}
use Rattle.turn_lock.proofs.open.fill_passes.Given as goal

abbrev pub invariant-loop-number : goal.invariant-loop-number
invariant-loop-number g l = record {
  board : l.maker.table_id ≡ l.fn.maker.table_id;
  given : HasGiven l.maker.me l.number;
  base : l.maker.me.0.base ≡ l.fn.maker.me.0.base;
  passes : l.passes.items ≡ map (new_pass l.board.table_id l.fn.maker.me.0.base) (range_with_len 0 l.number);
  length : vec_len l.passes ≡ l.number;
  room : l.callers ≤ vec_capacity l.passes;
}

use Rattle.std.proofs.Common.{◌≡◌, ◌++◌, length, All}
use Rattle.turn_lock.specs.Joined.{HasJoined, marks}
use Rattle.turn_lock.proofs.close.join_all.Given as goal

abbrev pub invariant-loop-pass : goal.invariant-loop-pass
invariant-loop-pass g l = record {
  board : l.maker.table_id ≡ l.fn.maker.table_id;
  joined : HasJoined l.maker.me l.fn.maker.me.0.next l.maker.me.0.joined;
  marked : marks l.passes ++ l.maker.me.0.joined ≡ marks l.fn.passes;
  base : l.maker.me.0.base ≡ l.fn.maker.me.0.base;
  passes : All (λ p. p.lock ≡ l.board.table_id) l.passes;
}

abbrev pub decreases-loop-pass : goal.decreases-loop-pass
decreases-loop-pass g l = length l.passes

use Rattle.std.proofs.Common.{rules, ◌∙◌}
use Rattle.turn_lock.proofs.AtSeats.{looks_at}
use Rattle.turn_lock.proofs.enter.await_turn.Goals as goal

pub load-requires : goal.load-requires
load-requires g c = let ch = g.S.Chronicle in
    (search rules, search rules, looks_at ch.base ch.entries ch.caller _ _ _ c.loop.place.me _ _ _ _ _ (c.loop.invariant.3 ∙ c.requires.waits.0))

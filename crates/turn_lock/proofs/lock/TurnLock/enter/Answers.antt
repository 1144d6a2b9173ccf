use Rattle.std.proofs.Common.{rules, ap, Some}
use Rattle.turn_lock.proofs.AtSeats.{draws_ticket_at, first_held}
use Rattle.turn_lock.proofs.lock.TurnLock.enter.Goals as goal

pub fetch_add-ticket-requires : goal.fetch_add-ticket-requires
fetch_add-ticket-requires g c = let ch = g.S.Chronicle in
    (search rules, search rules, draws_ticket_at ch.base ch.entries ch.caller _ _ _ c.pass.inside.place.me _ _ _ _ c.pass.invariant.1)

pub exchange-requires : goal.exchange-requires
exchange-requires g c = let turn = c.await_turn.ensures.turn in
    (search rules, (Some turn.0, first_held c.await_turn.new.place.me.1 _ 0 (Some turn.0) (ap (λ m. m.1) turn.1.0)))

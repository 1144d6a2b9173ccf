use Rattle.std.proofs.Common.{rules}
use Rattle.turn_lock.proofs.AtSeats.{passes_home_at}
use Rattle.turn_lock.proofs.lock.TurnLock.leave.Goals as goal

pub fetch_add-requires : goal.fetch_add-requires
fetch_add-requires g c = let ch = g.S.Chronicle in
    (search rules, search rules, passes_home_at ch.base ch.entries ch.caller _ _ _ c.exchange.new.seat.me _ c.held.inside.state c.count_new_entries-all.new.place.me c.count_new_entries-all.ensures.seat.0 c.exchange.ensures.3 (search rules))

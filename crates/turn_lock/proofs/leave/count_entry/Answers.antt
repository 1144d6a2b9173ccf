use Rattle.std.proofs.Common.{rules, arith}
use Rattle.turn_lock.proofs.AtSeats.{counts_next_at}
use Rattle.turn_lock.proofs.leave.count_entry.Goals as goal

pub fetch_add-requires : goal.fetch_add-requires
fetch_add-requires g c = let ch = g.S.Chronicle in
    (search rules, search rules, counts_next_at ch.base ch.entries ch.caller _ _ _ c.args.place.now.me c.args.number _ _ c.requires.list c.requires.seat c.requires.new.0 c.requires.new.1 (search (rules, arith)))

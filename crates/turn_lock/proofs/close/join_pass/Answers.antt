use Rattle.std.proofs.Common.{rules}
use Rattle.turn_lock.proofs.AtSeats.{joins_seat_at}
use Rattle.turn_lock.proofs.close.join_pass.Goals as goal

pub join_seat-requires : goal.join_seat-requires
join_seat-requires g c = let ch = g.S.Chronicle in
    (search rules, search rules, search rules, search rules, joins_seat_at ch.base ch.entries ch.caller _ _ c.args.board.now.table_id.slots c.args.maker.now.me _ _ _ _ _ c.requires.maker _ c.pass.inside.place.me _ _ _ _ c.pass.invariant.1)

use Rattle.std.proofs.Common.{rules}
use Rattle.turn_lock.proofs.AtSeats.{draws_number_at, gives_number_at, given_drawn}
use Rattle.turn_lock.proofs.open.draw_pass.Goals as goal

pub fetch_add-requires : goal.fetch_add-requires
fetch_add-requires g c = let ch = g.S.Chronicle in
    (search rules, search rules, draws_number_at ch.base ch.entries ch.caller _ _ _ c.args.maker.now.me _ _ _ _ _ c.requires.maker c.requires.small)

pub split_seat-place-requires : goal.split_seat-place-requires
split_seat-place-requires g c = let ch = g.S.Chronicle in
    let drawn = given_drawn c.args.maker.now.me c.fetch_add.new.seat.me c.args.number _ c.requires.maker c.fetch_add.ensures.2 in
    (search rules, search rules, gives_number_at ch.base ch.entries ch.caller _ _ c.args.board.now.table_id.slots c.fetch_add.new.seat.me _ _ _ _ _ _ drawn)

use denote.RattleType.{RattleType}
use denote.Param.Send.{IsSend}
use Rattle.turn_lock.specs.contracts.idle_seat.IdleSeat.{the_row}
use Rattle.turn_lock.proofs.SeatValues.{idle_send}

pub send : (S V : RattleType) → IsSend S → IsSend (the_row S V)
send S V s = idle_send S V s

use denote.RattleType.{RattleType}
use denote.Param.Send.{IsSend, IsSync, part_keyless}
use Rattle.turn_lock.specs.contracts.idle_seat.IdleSeat.{the_row}
use Rattle.turn_lock.proofs.SeatValues.{idle_send}

pub sync : (S V : RattleType) → IsSend S → IsSync (the_row S V)
sync S V s = record { shared = λ d b o ν q. part_keyless (the_row S V) (idle_send S V s) q d b o }

-- The machine values of a seat that is put away.
use Rattle.std.proofs.Common.{◌≡◌, List, [], ◌∷◌, ◌++◌, ap, ◌∙◌}
use mir.Val.{Val, vstruct, vcons, vnil, of_list}
use denote.RattleType.{RattleType}
use denote.Laws.{Is}
use denote.Param.Send.{IsSend}
use Rattle.atomic_table.proofs.Fields.{token_val, token_told}
use Rattle.atomic_table.proofs.Sent.{seat_keyless}
use Rattle.turn_lock.specs.contracts.idle_seat.IdleSeat as idle_seat

abbrev pub idle_val : Val
idle_val = vstruct (vcons token_val vnil)

module _ (S V : RattleType) where
  pub idle_told : (d : (idle_seat.the_row S V).Denot) (vs : List Val) → Is (idle_seat.the_row S V) d vs → vs ≡ idle_val ∷ []
  idle_told d vs so = let is = so.0 in is.1.0 ∙ ap (λ (ws : List Val). vstruct (of_list (ws ++ [])) ∷ []) (token_told S V is.0.0 is.1.1.0.0)

  pub idle_send : IsSend S → IsSend (idle_seat.the_row S V)
  idle_send s = record { owned = λ d vs. ((λ vss. (tt, (((λ uss. (tt, ((λ wss. (tt, tt)), tt))), seat_keyless S s V.coded.code d.seat.table_id d.seat.id d.seat.me), tt))), tt); leaving = λ k x vs. (tt, tt) }

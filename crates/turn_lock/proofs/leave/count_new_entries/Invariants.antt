use Rattle.std.proofs.Common.{◌≡◌, take}
use Rattle.turn_lock.specs.Seats.{HoldsEmpty}
use Rattle.turn_lock.proofs.leave.count_new_entries.Given as goal

abbrev pub ghosts-count_entry : goal.ghosts-count_entry
ghosts-count_entry g a = record { list = g.S.Chronicle.entries a.state.now }

abbrev pub invariant-loop-i : goal.invariant-loop-i
invariant-loop-i g l = (l.place.table_id ≡ l.fn.place.table_id) × HoldsEmpty l.place.me l.number (take l._i (g.S.Chronicle.entries l.state)) × (l.place.me.0.base ≡ l.fn.place.me.0.base)

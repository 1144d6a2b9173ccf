-- What a walk has taken, on its way. No public contract cites these words.
use Rattle.std.specs.Prelude.{◌≡◌, ℕ, List, [], ◌∷◌, ◌++◌, Option, None, Result, Ok, Err}
use Rattle.std.specs.Prelude.{◌==◌, if◌then◌else◌}
use Rattle.std.specs.List.{list_any}
use Rattle.std.specs.Option.{option_map, option_or}
use Rattle.cil_base.specs.Token.{Token}
use Rattle.node_model.specs.Keys.{same_key, same_token}
use Rattle.node_model.specs.declared.key.Key.{Key}
use Rattle.node_model.specs.declared.key.Key.TheVariants.{Row}
use Rattle.node_model.specs.declared.look.Look.{Look}
use Rattle.node_model.specs.declared.value.Value.{Value}
use Rattle.write_plan.specs.GraphWalk.{Met, Walked, own_keys, value_among}
use Rattle.write_plan.specs.Planned.{kept_value}
use Rattle.write_plan.specs.Refusals.{Refused, first_fault}
use Rattle.write_plan.specs.Seen.{is_seen, value_seen}
use Rattle.write_plan.specs.declared.kept.Kept.{Kept}
use Rattle.write_plan.specs.declared.met.MetRows.{MetRows}
use Rattle.write_plan.specs.declared.refusal.WriteRefusal.{WriteRefusal}
use Rattle.write_plan.specs.declared.refusal.WriteRefusal.TheVariants.{Reached}

abbrev pub value_kept : Kept → Key → Option Value
value_kept w k = kept_value w.values.entries k

-- what was taken is what is seen there, and none of it is a fault
pub record IsTaken (see : Key → Look) (w : Kept) : Type 0 where
  pub values : (k : Key) → value_kept w k ≡ value_among see w.keys k
  pub sound : first_fault see w.keys ≡ None

-- a key more was taken, where this was seen
abbrev pub KeepsOne : Key → Look → Kept → Kept → Type 0
KeepsOne key seen old new =
    (new.keys ≡ old.keys ++ key ∷ [])
    × ((k : Key) → value_kept new k
    ≡ (if same_key key k then option_or (value_seen seen) (value_kept old k) else value_kept old k))

-- these keys more were taken, or the first fault at them was reached
abbrev pub Takes : (Key → Look) → Kept → List Key → Kept → Result (Unit {0}) WriteRefusal → Type 0
Takes see old keys new (Ok _) = (new.keys ≡ old.keys ++ keys) × IsTaken see new
Takes see old keys new (Err refusal) = Refused (option_map Reached (first_fault see keys)) refusal

-- the rows that were met, as the definitions have them; they are looked up in a set beside the list
abbrev pub met_rows : MetRows → Met
met_rows m = record { all = m.all; rows = m.rows; again = m.again }

abbrev pub IsMet : MetRows → Type 0
IsMet m = m.seen.keys ≡ m.all

-- the keys that a row brings, where it is there and new
abbrev pub row_new_keys : (Key → Look) → Met → Token → List Key
row_new_keys see m t =
    if is_seen (see (Row t)) then (if list_any (same_token t) m.all then [] else own_keys t) else []

-- those that a member of a list of rows of the table brings
abbrev pub new_keys : (Key → Look) → ℕ → Met → Token → List Key
new_keys see table m t = if t.table == table then row_new_keys see m t else []

abbrev pub walked_so : Kept → MetRows → Walked
walked_so w m = record { keys = w.keys; all = m.all; again = m.again }

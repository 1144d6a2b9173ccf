-- The items of a list, and the members of an object.
use Rattle.std.proofs.Common.{◌≡◌, ◌∙◌, List, [], ◌∷◌, length, map, suc, refl, ap}
use Rattle.std.proofs.lemmas.List.{length-map}
use Rattle.std.specs.Prelude.{String}
use Rattle.std.specs.declared.alloc.Global.{Global}
use Rattle.serde_json.specs.Data.{Data}
use Rattle.serde_json.specs.Events.{members_len}
use Rattle.serde_json.specs.View.{items_of, members_of, members_view, view}
use Rattle.serde_json.specs.declared.value.Value.{Value}
use Rattle.job_text.specs.Values.{list_of}

pub list_of_items : (ds : List Data) → list_of (items_of ds) ≡ ds
list_of_items [] = refl
list_of_items (d ∷ ds) = ap (λ xs. d ∷ xs) (list_of_items ds)

entries_counted : (ms : List (String Global × Data)) → members_len (members_of ms) ≡ length ms
entries_counted [] = refl
entries_counted (m ∷ ms) = ap suc (entries_counted ms)

-- an object has as many members as its map has entries
pub members_counted : (ms : List (String Global × Value)) → members_len (members_view ms) ≡ length ms
members_counted ms =
    entries_counted (map (λ (m : String Global × Value). (m.0, view m.1)) ms)
    ∙ length-map ms (λ (m : String Global × Value). (m.0, view m.1))

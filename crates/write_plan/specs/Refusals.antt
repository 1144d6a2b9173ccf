-- Why a graph is not written, as far as that is known before anything is laid out: the refusals in the order in which
-- they are tried.
use Rattle.std.specs.Prelude.{◌≡◌, ℕ, ◌-◌, ◌^◌, Bool, true, false, not, List, [], ◌∷◌, Option, Some, None}
use Rattle.std.specs.Prelude.{◌==◌, ◌||◌, ◌&&◌, Result, Ok, Err, bit_and, nat_lt, length, slice_get, if◌then◌else◌}
use Rattle.std.specs.List.{list_any, range_with_len}
use Rattle.std.specs.Option.{option_map, option_map_or}
use Rattle.cil_base.specs.Steps.{◌>>=◌}
use Rattle.cil_base.specs.Token.{Token}
use Rattle.md_schema.specs.Entry.{owner_of}
use Rattle.pe_image.specs.declared.facts.Facts.{Facts}
use Rattle.node_model.specs.EditRefusals.{first_made, first_some}
use Rattle.node_model.specs.declared.key.Key.{Key}
use Rattle.node_model.specs.declared.key.Key.TheVariants.{Owned}
use Rattle.node_model.specs.declared.look.Look.{Look}
use Rattle.node_model.specs.declared.slot.Fault.{Fault}
use Rattle.node_model.specs.declared.value.BodyValue.TheVariants.{Native}
use Rattle.node_model.specs.declared.value.Value.{Value}
use Rattle.node_model.specs.declared.value.Value.TheVariants as values
use Rattle.write_plan.specs.GraphWalk.{Walked, graph_walk, rows_of_table, walked_value}
use Rattle.write_plan.specs.Named.{dangling_in}
use Rattle.write_plan.specs.Seen.{fault_seen, list_members}
use Rattle.write_plan.specs.Unfit.{unfit}
use Rattle.write_plan.specs.declared.refusal.WriteRefusal.{WriteRefusal}
use Rattle.write_plan.specs.declared.refusal.WriteRefusal.TheVariants.{Reached, NotPureIl, Twice, Dangling, TooMany}
use Rattle.write_plan.specs.declared.refusal.WriteRefusal.TheVariants.{Unfit, NoMemory}

-- the first fault at these keys
abbrev pub first_fault : (Key → Look) → List Key → Option Fault
first_fault see keys = first_made (λ k. fault_seen (see k)) keys

-- ILONLY is not set, or NATIVE_ENTRYPOINT is, or the headers name native code (II.25.3.3.1)
abbrev pub is_impure_image : Facts → Bool
is_impure_image facts = (bit_and facts.flags 1 == 0) || not (bit_and facts.flags 0x10 == 0) || facts.native

abbrev pub is_impure : Option Value → Bool
is_impure (Some (values.Facts facts)) = is_impure_image facts
is_impure (Some (values.Body (Native rva))) = true
is_impure _ = false

-- the first token that the value of a key names and that is not kept
abbrev pub dangling_at : List Token → Key → Option Value → Option WriteRefusal
dangling_at rows k value = value >>= λ v. option_map (Dangling k) (dangling_in rows v)

-- the last owner of rows of the table has none
abbrev pub ends_empty : (Key → Option Value) → List Token → ℕ → Bool
ends_empty value rows table =
    option_map_or (λ last. length (list_members (value (Owned last table))) == 0)
    (owner_of table >>= λ owner. slice_get (rows_of_table owner rows) (length (rows_of_table owner rows) - 1)) false

-- a row number has 24 bits; and the column of two bytes that starts a run cannot hold the number 65,536, at which the
-- run of the last owner would start (II.22, II.24.2.6)
abbrev pub is_too_many : (Key → Option Value) → List Token → ℕ → ℕ → Bool
is_too_many value rows table n = nat_lt (2 ^ 24 - 1) n || ((n == 65535) && ends_empty value rows table)

abbrev pub too_many : (Key → Option Value) → List Token → ℕ → Option WriteRefusal
too_many value rows table =
    if is_too_many value rows table (length (rows_of_table table rows))
    then Some (TooMany table (length (rows_of_table table rows)))
    else None

abbrev pub not_pure : (Key → Option Value) → List Key → Option WriteRefusal
not_pure value keys = if list_any (λ k. is_impure (value k)) keys then Some NotPureIl else None

-- what is tried after the walk
unfoldable pub later_refusal : (Key → Option Value) → Walked → Option WriteRefusal
later_refusal value w = first_some (
    not_pure value w.keys
    ∷ option_map Twice (slice_get w.again 0)
    ∷ first_made (λ k. dangling_at w.all k (value k)) w.keys
    ∷ first_made (too_many value w.all) (range_with_len 0 64)
    ∷ option_map Unfit (unfit value w.all)
    ∷ [])

-- the first refusal of the graph that shows this at its keys
unfoldable pub plan_refusal : (Key → Look) → Option WriteRefusal
plan_refusal see = first_some (
    option_map Reached (first_fault see (graph_walk see).keys)
    ∷ later_refusal (walked_value see) (graph_walk see)
    ∷ [])

-- a refusal that is answered is the one that is to come; want of memory says nothing
abbrev pub Refused : Option WriteRefusal → WriteRefusal → Type 0
Refused wanted NoMemory = Unit {0}
Refused wanted refusal = wanted ≡ Some refusal

-- nothing is refused where no refusal is to come
abbrev pub Refuses : {A : Type 0} → Option WriteRefusal → Result A WriteRefusal → Type 0
Refuses wanted (Ok _) = wanted ≡ None
Refuses wanted (Err refusal) = Refused wanted refusal

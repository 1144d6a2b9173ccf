-- What an edit changes, by what its keys hold: each end of its walk, for the values that the graph has on the way to it.
use Rattle.std.proofs.Common.{◌≡◌, ◌∙◌, refl, sym, ap, subst, Bool, true, false, List, [], ◌∷◌, map, Option, Some, Result, Ok, Err}
use Rattle.std.specs.List.{AllByRecursion, list_all}
use Rattle.std.proofs.lemmas.Bool.{and_parts}
use Rattle.cil_base.specs.Token.{Token}
use Rattle.node_model.specs.Changes.{Changing}
use Rattle.node_model.specs.EditWalks.{asks_list, asks_lists}
use Rattle.node_model.specs.Graph.{Graph}
use Rattle.node_model.specs.KeyKinds.{has_kind}
use Rattle.node_model.specs.Keys.{is_key_there}
use Rattle.node_model.specs.Replies.{all_slots}
use Rattle.node_model.specs.Walk.{Content, Walk, Gives, Asks, part, said, then_said}
use Rattle.node_model.specs.declared.change.Change.{Change}
use Rattle.node_model.specs.declared.key.Key.{Key}
use Rattle.node_model.specs.declared.key.Key.TheVariants.{Row, Sig, Owned, Linked, Body, Data, Resource, Facts}
use Rattle.node_model.specs.declared.slot.Slot.{Slot}
use Rattle.node_model.specs.declared.slot.Slot.TheVariants as slots
use Rattle.node_model.specs.declared.value.Value.{Value}
use Rattle.node_model.specs.declared.value.Value.TheVariants as values
use Rattle.node_model.specs.declared.walk.Halt.{Halt}
use Rattle.node_model.proofs.KnownLemmas.{Known, knows}
use Rattle.node_model.proofs.LeafLemmas.{is_list_key}
use Rattle.graph_facts.specs.GraphHolds.{IsKeyOf}
use Rattle.graph_facts.proofs.ListLemmas.{IsHeldList}

-- what a key holds, as a value
abbrev pub value_of : (k : Key) → Content k → Value
value_of (Row t) v = values.Row v
value_of (Sig t) v = values.Sig v
value_of (Owned t n) v = values.Tokens v
value_of (Linked t l) v = values.Tokens v
value_of (Body t) v = values.Body v
value_of (Data t) v = values.Data v
value_of (Resource t) v = values.Resource v
value_of Facts v = values.Facts v

part_is : (k : Key) (s : Slot) (v : Content k) → part k (Some s) ≡ Ok v → s ≡ slots.Value (value_of k v)
part_is (Row t) (slots.Value (values.Row row)) v e = let same : row ≡ v = cc in ap (λ x. slots.Value (values.Row x)) same
part_is (Sig t) (slots.Value (values.Sig sig)) v e = let same : sig ≡ v = cc in ap (λ x. slots.Value (values.Sig x)) same
part_is (Owned t n) (slots.Value (values.Tokens ts)) v e = let same : ts ≡ v = cc in ap (λ x. slots.Value (values.Tokens x)) same
part_is (Linked t l) (slots.Value (values.Tokens ts)) v e = let same : ts ≡ v = cc in ap (λ x. slots.Value (values.Tokens x)) same
part_is (Body t) (slots.Value (values.Body body)) v e = let same : body ≡ v = cc in ap (λ x. slots.Value (values.Body x)) same
part_is (Data t) (slots.Value (values.Data bytes)) v e = let same : bytes ≡ v = cc in ap (λ x. slots.Value (values.Data x)) same
part_is (Resource t) (slots.Value (values.Resource value)) v e = let same : value ≡ v = cc in ap (λ x. slots.Value (values.Resource x)) same
part_is Facts (slots.Value (values.Facts facts)) v e = let same : facts ≡ v = cc in ap (λ x. slots.Value (values.Facts x)) same
part_is _ _ v e = absurd cc

-- each change at an end of the walk has the property, for the values that the graph's keys hold
abbrev pub Leads : Graph → (Change → Type 0) → Walk Changing → Type 0
Leads g P (Gives (Ok change)) = P change
Leads g P (Gives (Err r)) = Unit {0}
Leads g P (Asks k f) = (v : Content k) → g.held k ≡ slots.Value (value_of k v) → IsKeyOf g k → Leads g P (f v)

known_key : (g : Graph) (k : Key) → knows g.nodes k ≡ true → IsKeyOf g k
known_key g k e = let parts = and_parts (is_key_there g.nodes.rows k) (has_kind k) e in record { there = parts.0; kind = parts.1 }

pub led : (g : Graph) (P : Change → Type 0) (w : Walk Changing) (change : Change) → Known g.nodes w → Leads g P w → said (all_slots g) w ≡ Ok (Ok change) → P change
led g P (Gives (Ok c)) change known leads e = let same : c ≡ change = cc in subst P same leads
led g P (Gives (Err r)) change known leads e = absurd cc
led g P (Asks k f) change known leads e = by (part k (Some (g.held k))) refl e (λ v is. led g P (f v) change (known.1 v) (leads v (part_is k (g.held k) v is) (known_key g k known.0)))
  where
    by : (s : Result (Content k) Halt) → part k (Some (g.held k)) ≡ s → then_said s (λ v. said (all_slots g) (f v)) ≡ Ok (Ok change)
        → ((v : Content k) → part k (Some (g.held k)) ≡ Ok v → said (all_slots g) (f v) ≡ Ok (Ok change) → P change) → P change
    by (Ok v) is e more = more v is e
    by (Err h) is e more = absurd cc

abbrev pub keys_of : List (Key × List Token) → List Key
keys_of lists = map (λ (l : Key × List Token). l.0) lists

-- lists that are looked at are those that the keys hold
pub lists_lead : (g : Graph) (P : Change → Type 0) (ks : List Key) (f : List (Key × List Token) → Walk Changing) → list_all is_list_key ks ≡ true
    → ((lists : List (Key × List Token)) → keys_of lists ≡ ks → AllByRecursion (IsHeldList g) lists → Leads g P (f lists)) → Leads g P (asks_lists ks f)
lists_lead g P [] f all leads = leads [] refl tt
lists_lead g P (Owned t n ∷ ks) f all leads =
    λ ts held key. lists_lead g P ks (λ rest. f ((Owned t n, ts) ∷ rest)) all
    (λ rest same others. leads ((Owned t n, ts) ∷ rest) (ap (λ more. Owned t n ∷ more) same) (record { held = held; known = key; list = refl }, others))
lists_lead g P (Linked t l ∷ ks) f all leads =
    λ ts held key. lists_lead g P ks (λ rest. f ((Linked t l, ts) ∷ rest)) all
    (λ rest same others. leads ((Linked t l, ts) ∷ rest) (ap (λ more. Linked t l ∷ more) same) (record { held = held; known = key; list = refl }, others))
lists_lead g P (_ ∷ ks) f all leads = absurd cc

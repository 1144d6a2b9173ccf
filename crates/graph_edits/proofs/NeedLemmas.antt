-- The keys that an edit's own words name are the first that it looks at.
use Rattle.std.proofs.Common.{◌≡◌, refl, ◌∙◌, ap, Bool, true, false, List, [], ◌∷◌, ◌++◌, length, take, Option, Result, Ok, Err, if◌then◌else◌, not}
use Rattle.std.specs.Prelude.{◌==◌}
use Rattle.std.specs.List.{list_all}
use Rattle.std.specs.Result.{is_ok}
use Rattle.cil_base.specs.Token.{Token}
use Rattle.md_schema.specs.Tables.{nested_class}
use Rattle.node_model.specs.Changes.{new_row, row_added, row_removed}
use Rattle.node_model.specs.EditWalks.{asks_lists, edit_walk, leave_walk}
use Rattle.node_model.specs.Nodes.{Nodes}
use Rattle.node_model.specs.RowLists.{added_lists, enclosing_lists, list_key}
use Rattle.node_model.specs.Walk.{Gives, Asks, looked, part, then_looked}
use Rattle.node_model.specs.declared.edit.Edit.TheVariants as edits
use Rattle.node_model.specs.declared.key.Key.{Key}
use Rattle.node_model.specs.declared.key.Key.TheVariants.{Row, Sig, Owned, Linked, Body, Data, Resource, Facts}
use Rattle.node_model.specs.declared.slot.Slot.{Slot}
use Rattle.node_model.specs.declared.value.RowValue.{RowValue}
use Rattle.node_model.specs.declared.walk.Halt.{Halt}
use Rattle.node_model.proofs.LeafLemmas.{is_list_key}
use Rattle.node_model.proofs.ListKeyLemmas.{added_are, enclosing_are, list_key_is}
use Rattle.graph_edits.specs.Needs.{NeedsAreLooked, says_nothing}
use Rattle.graph_edits.specs.Stands.{up_to}
use Rattle.graph_edits.specs.inner.ListWalks.{lists_looked}
use Rattle.graph_edits.proofs.ListLemmas.{looked_lists}

one_key : (p : Key → Option Slot) (k : Key) → k ∷ [] ≡ up_to (says_nothing p) (k ∷ [])
one_key p k = alone (says_nothing p k)
  where
    alone : (x : Bool) → k ∷ [] ≡ k ∷ (if x then [] else [])
    alone true = refl
    alone false = refl

-- the keys of lists are looked at up to the first that holds none
lists_up_to : (p : Key → Option Slot) (ks : List Key) → list_all is_list_key ks ≡ true → lists_looked p ks ≡ up_to (says_nothing p) ks
lists_up_to p [] all = refl
lists_up_to p (Owned t n ∷ ks) all = ap (λ js. Owned t n ∷ js) (by_part (part (Owned t n) (p (Owned t n))) (lists_up_to p ks all))
  where
    by_part : (s : Result (List Token) Halt) → lists_looked p ks ≡ up_to (says_nothing p) ks
        → then_looked s (λ ts. lists_looked p ks) ≡ (if not (is_ok s) then [] else up_to (says_nothing p) ks)
    by_part (Ok ts) more = more
    by_part (Err h) more = refl
lists_up_to p (Linked t l ∷ ks) all = ap (λ js. Linked t l ∷ js) (by_part (part (Linked t l) (p (Linked t l))) (lists_up_to p ks all))
  where
    by_part : (s : Result (List Token) Halt) → lists_looked p ks ≡ up_to (says_nothing p) ks
        → then_looked s (λ ts. lists_looked p ks) ≡ (if not (is_ok s) then [] else up_to (says_nothing p) ks)
    by_part (Ok ts) more = more
    by_part (Err h) more = refl
lists_up_to p (_ ∷ ks) all = absurd cc

cut_none : (ks xs : List Key) → xs ≡ [] → take (length ks) xs ≡ xs
cut_none [] [] e = refl
cut_none (k ∷ ks) [] e = refl
cut_none ks (x ∷ xs) e = absurd cc

-- keys up to the first that passes a test, as far as the first of them go
take_up_to : (test : Key → Bool) (ks more : List Key) → take (length ks) (up_to test (ks ++ more)) ≡ up_to test ks
take_up_to test [] more = refl
take_up_to test (k ∷ ks) more = ap (λ js. k ∷ js) (by_test (test k) (take_up_to test ks more))
  where
    by_test : (x : Bool) → take (length ks) (up_to test (ks ++ more)) ≡ up_to test ks
        → take (length ks) (if x then [] else up_to test (ks ++ more)) ≡ (if x then [] else up_to test ks)
    by_test true rest = cut_none ks [] refl
    by_test false rest = rest

take_all_up_to : (test : Key → Bool) (ks : List Key) → take (length ks) (up_to test ks) ≡ up_to test ks
take_all_up_to test [] = refl
take_all_up_to test (k ∷ ks) = ap (λ js. k ∷ js) (by_test (test k) (take_all_up_to test ks))
  where
    by_test : (x : Bool) → take (length ks) (up_to test ks) ≡ up_to test ks → take (length ks) (if x then [] else up_to test ks) ≡ (if x then [] else up_to test ks)
    by_test true rest = cut_none ks [] refl
    by_test false rest = rest

-- a row that is added
adds : {R : Type 0} (p : Key → Option Slot) (ks : List Key) (f : List (Key × List Token) → R) → list_all is_list_key ks ≡ true
    → take (length ks) (looked p (asks_lists ks (λ ls. Gives (f ls)))) ≡ up_to (says_nothing p) ks
adds p ks f all =
    ap (take (length ks)) (looked_lists p ks f ∙ lists_up_to p ks all) ∙ take_all_up_to (says_nothing p) ks

-- the owner's list is the first of those that a row leaves
leaves : (p : Key → Option Slot) (owner t : Token) (ks : List Key) → list_all is_list_key ks ≡ true
    → take 1 (looked p (leave_walk t (list_key owner t.table ∷ ks))) ≡ up_to (says_nothing p) (list_key owner t.table ∷ [])
leaves p owner t ks all =
    ap (take 1) (looked_lists p (list_key owner t.table ∷ ks) (row_removed t)
    ∙ lists_up_to p (list_key owner t.table ∷ ks) (rw (list_key_is owner t.table, all) refl))
    ∙ take_up_to (says_nothing p) (list_key owner t.table ∷ []) ks

-- a NestedClass row that is removed is looked at before its lists
nesting : (n : Nodes) (p : Key → Option Slot) (owner t : Token) (s : Result RowValue Halt)
    → take 1 (then_looked s (λ row. looked p (leave_walk t (list_key owner t.table ∷ enclosing_lists n t.table row.cells))))
    ≡ (if not (is_ok s) then [] else up_to (says_nothing p) (list_key owner t.table ∷ []))
nesting n p owner t (Ok row) = leaves p owner t (enclosing_lists n t.table row.cells) (enclosing_are n t.table row.cells)
nesting n p owner t (Err h) = refl

removes : (n : Nodes) (p : Key → Option Slot) (owner t : Token) (x : Bool)
    → take (length (if x then Row t ∷ list_key owner t.table ∷ [] else list_key owner t.table ∷ []))
    (looked p (if x then Asks (Row t) (λ row. leave_walk t (list_key owner t.table ∷ enclosing_lists n t.table row.cells)) else leave_walk t (list_key owner t.table ∷ [])))
    ≡ up_to (says_nothing p) (if x then Row t ∷ list_key owner t.table ∷ [] else list_key owner t.table ∷ [])
removes n p owner t true = ap (λ ks. Row t ∷ ks) (nesting n p owner t (part (Row t) (p (Row t))))
removes n p owner t false = leaves p owner t [] refl

pub needs_looked : NeedsAreLooked
unfolding edit_walk
needs_looked n p (edits.Set t column cell) = one_key p (Row t)
needs_looked n p (edits.SetSig t sig) = one_key p (Sig t)
needs_looked n p (edits.SetBody t body) = one_key p (Body t)
needs_looked n p (edits.SetData t bytes) = one_key p (Data t)
needs_looked n p (edits.SetResource t value) = one_key p (Resource t)
needs_looked n p (edits.SetEntry t) = one_key p Facts
needs_looked n p (edits.Add table cells sig) = adds p (added_lists table cells) (λ lists. Ok (row_added (new_row n table cells) sig lists)) (added_are table cells)
needs_looked n p (edits.Insert owner table at cells sig) = one_key p (Owned owner table)
needs_looked n p (edits.Remove owner t) = removes n p owner t (t.table == nested_class)
needs_looked n p (edits.IlInsert t at instr) = one_key p (Body t)
needs_looked n p (edits.IlRemove t at) = one_key p (Body t)
needs_looked n p (edits.IlReplace t at instr) = one_key p (Body t)
needs_looked n p (edits.IlHead t max_stack init_locals locals) = one_key p (Body t)
needs_looked n p (edits.AddHandler t handler) = one_key p (Body t)
needs_looked n p (edits.RemoveHandler t at) = one_key p (Body t)

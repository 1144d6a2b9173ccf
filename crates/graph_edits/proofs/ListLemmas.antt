-- Lists of rows that are looked at, and lists of what is made of them.
use Rattle.std.proofs.Common.{◌≡◌, ◌∙◌, ℕ, ◌≤◌, ◌-◌, get_or, take, drop, refl, sym, ap, arith, Bool, true, false, cond, List, [], ◌∷◌, ◌++◌, map, length, Option, Result, Ok, Err}
use Rattle.std.specs.Prelude.{IfOk, slice_set, ◌==◌}
use Rattle.std.proofs.lemmas.Bool.Decides.{nat_tests}
use Rattle.std.proofs.lemmas.List.{map-append, set_past, take_all}
use Rattle.cil_base.specs.Token.{Token}
use Rattle.md_schema.specs.Tables.{nested_class}
use Rattle.node_model.specs.Changes.{new_row, row_added, row_removed}
use Rattle.node_model.specs.EditWalks.{add_walk, asks_list, asks_lists, edit_walk, leave_walk, remove_walk}
use Rattle.node_model.specs.Nodes.{Nodes, next_row}
use Rattle.node_model.specs.RowLists.{added_lists, enclosing_lists, list_key}
use Rattle.node_model.specs.Walk.{Content, Walk, Gives, Asks, looked, part, said, then_looked, then_said}
use Rattle.node_model.specs.declared.cell.Cell.{Cell}
use Rattle.node_model.specs.declared.change.Change.{Change}
use Rattle.node_model.specs.declared.edit.Edit.TheVariants as edits
use Rattle.node_model.specs.declared.edit.OptSig.{OptSig}
use Rattle.node_model.specs.declared.key.Key.{Key}
use Rattle.node_model.specs.declared.key.Key.TheVariants.{Row, Sig, Owned, Linked, Body, Data, Resource, Facts}
use Rattle.node_model.specs.declared.slot.Slot.{Slot}
use Rattle.node_model.specs.declared.value.RowValue.{RowValue}
use Rattle.node_model.specs.declared.walk.Halt.{Halt}
use Rattle.graph_edits.specs.inner.ListWalks.{list_before, list_said, lists_looked, lists_said, lists_with, row_made}

pub set_beyond : {X : Type 0} (xs : List X) (i : ℕ) (x : X) → length xs ≤ i → slice_set xs i x ≡ xs
set_beyond xs i x e = set_past xs i x e

-- a list that has a first item
pub first_of : {X : Type 0} (xs : List X) (x : X) → 1 ≤ length xs → x ≡ get_or xs 0 x → xs ≡ x ∷ take (length xs - 1) (drop 1 xs)
first_of [] x n e = absurd (omega arith)
first_of (y ∷ ys) x n e = rw e (ap (λ zs. y ∷ zs) (sym (take_all (length (y ∷ ys) - 1) ys (omega arith))))

pub map_last : {X Y : Type 0} (f : X → Y) (xs : List X) (x : X) → map f (xs ++ x ∷ []) ≡ map f xs ++ f x ∷ []
map_last f xs x = map-append f xs (x ∷ [])

said_list : {R : Type 0} (p : Key → Option Slot) (k : Key) (f : List Token → Walk R)
    → said p (asks_list k f) ≡ then_said (list_said p k) (λ ts. said p (f ts))
said_list p (Row t) f = refl
said_list p (Sig t) f = refl
said_list p (Owned t n) f = refl
said_list p (Linked t l) f = refl
said_list p (Body t) f = refl
said_list p (Data t) f = refl
said_list p (Resource t) f = refl
said_list p Facts f = refl

-- what is said of lists that are looked at, by the lists
pub said_lists : {R : Type 0} (p : Key → Option Slot) (ks : List Key) (f : List (Key × List Token) → Walk R)
    → said p (asks_lists ks f) ≡ then_said (lists_said p ks) (λ ls. said p (f ls))
said_lists p [] f = refl
said_lists p (k ∷ ks) f =
    said_list p k (λ ts. asks_lists ks (λ rest. f ((k, ts) ∷ rest)))
    ∙ by_list (list_said p k) (λ ts. said_lists p ks (λ rest. f ((k, ts) ∷ rest)))
  where
    by_rest : (ts : List Token) (rest : Result (List (Key × List Token)) Halt)
        → then_said rest (λ ls. said p (f ((k, ts) ∷ ls))) ≡ then_said (then_said rest (list_before k ts)) (λ ls. said p (f ls))
    by_rest ts (Ok ls) = refl
    by_rest ts (Err e) = refl

    by_list : (s : Result (List Token) Halt)
        → ((ts : List Token) → said p (asks_lists ks (λ rest. f ((k, ts) ∷ rest))) ≡ then_said (lists_said p ks) (λ ls. said p (f ((k, ts) ∷ ls))))
        → then_said s (λ ts. said p (asks_lists ks (λ rest. f ((k, ts) ∷ rest))))
        ≡ then_said (then_said s (λ ts. then_said (lists_said p ks) (list_before k ts))) (λ ls. said p (f ls))
    by_list (Ok ts) more = more ts ∙ by_rest ts (lists_said p ks)
    by_list (Err e) more = refl

-- what Add says, by the lists that were looked at
pub add_said : (n : Nodes) (p : Key → Option Slot) (table : ℕ) (cells : List Cell) (sig : OptSig) (ks : List Key) (lists : List (Key × List Token)) (change : Change)
    → ks ≡ added_lists table cells → lists_said p ks ≡ Ok lists
    → change ≡ row_made (new_row n table cells) sig (lists_with (next_row n table) lists) → said p (add_walk n table cells sig) ≡ Ok (Ok change)
add_said n p table cells sig ks lists change keys held made =
    said_lists p (added_lists table cells) (λ ls. Gives (Ok (row_added (new_row n table cells) sig ls)))
    ∙ ap (λ (r : Result (List (Key × List Token)) Halt). then_said r (λ ls. said p (Gives (Ok (row_added (new_row n table cells) sig ls))))) (ap (lists_said p) (sym keys) ∙ held)
    ∙ ap (λ (c : Change). Ok (Ok c)) (sym made)

-- a walk that looks at one key
pub one_looked : {R : Type 0} (p : Key → Option Slot) (k : Key) (f : Content k → R) → looked p (Asks k (λ v. Gives (f v))) ≡ k ∷ []
one_looked p k f = by (part k (p k))
  where
    by : (s : Result (Content k) Halt) → k ∷ then_looked s (λ v. []) ≡ k ∷ []
    by (Ok v) = refl
    by (Err e) = refl

-- the keys of lists that are looked at
pub looked_lists : {R : Type 0} (p : Key → Option Slot) (ks : List Key) (f : List (Key × List Token) → R)
    → looked p (asks_lists ks (λ ls. Gives (f ls))) ≡ lists_looked p ks
looked_lists p [] f = refl
looked_lists p (Owned t n ∷ ks) f = by (part (Owned t n) (p (Owned t n))) (λ ts. looked_lists p ks (λ rest. f ((Owned t n, ts) ∷ rest)))
  where
    by : (s : Result (List Token) Halt) → ((ts : List Token) → looked p (asks_lists ks (λ rest. Gives (f ((Owned t n, ts) ∷ rest)))) ≡ lists_looked p ks)
        → Owned t n ∷ then_looked s (λ ts. looked p (asks_lists ks (λ rest. Gives (f ((Owned t n, ts) ∷ rest))))) ≡ Owned t n ∷ then_looked s (λ ts. lists_looked p ks)
    by (Ok ts) more = ap (λ rest. Owned t n ∷ rest) (more ts)
    by (Err e) more = refl
looked_lists p (Linked t l ∷ ks) f = by (part (Linked t l) (p (Linked t l))) (λ ts. looked_lists p ks (λ rest. f ((Linked t l, ts) ∷ rest)))
  where
    by : (s : Result (List Token) Halt) → ((ts : List Token) → looked p (asks_lists ks (λ rest. Gives (f ((Linked t l, ts) ∷ rest)))) ≡ lists_looked p ks)
        → Linked t l ∷ then_looked s (λ ts. looked p (asks_lists ks (λ rest. Gives (f ((Linked t l, ts) ∷ rest))))) ≡ Linked t l ∷ then_looked s (λ ts. lists_looked p ks)
    by (Ok ts) more = ap (λ rest. Linked t l ∷ rest) (more ts)
    by (Err e) more = refl
looked_lists p (Row t ∷ ks) f = looked_lists p ks (λ rest. f ((Row t, []) ∷ rest))
looked_lists p (Sig t ∷ ks) f = looked_lists p ks (λ rest. f ((Sig t, []) ∷ rest))
looked_lists p (Body t ∷ ks) f = looked_lists p ks (λ rest. f ((Body t, []) ∷ rest))
looked_lists p (Data t ∷ ks) f = looked_lists p ks (λ rest. f ((Data t, []) ∷ rest))
looked_lists p (Resource t ∷ ks) f = looked_lists p ks (λ rest. f ((Resource t, []) ∷ rest))
looked_lists p (Facts ∷ ks) f = looked_lists p ks (λ rest. f ((Facts, []) ∷ rest))

-- the keys that Add looks at
pub add_looked : (n : Nodes) (p : Key → Option Slot) (table : ℕ) (cells : List Cell) (sig : OptSig)
    → lists_looked p (added_lists table cells) ≡ looked p (edit_walk n (edits.Add table cells sig))
unfolding edit_walk
add_looked n p table cells sig = sym (looked_lists p (added_lists table cells) (λ lists. Ok (row_added (new_row n table cells) sig lists)))

-- the keys that Remove of a NestedClass row looks at
pub nesting_looked : (n : Nodes) (p : Key → Option Slot) (owner t : Token) (row : RowValue) → t.table ≡ nested_class → part (Row t) (p (Row t)) ≡ Ok row
    → Row t ∷ lists_looked p (list_key owner t.table ∷ enclosing_lists n t.table row.cells) ≡ looked p (remove_walk n owner t)
nesting_looked n p owner t row nested is = sym (by (t.table == nested_class) (grind (arith, nat_tests)))
  where
    by : (x : Bool) → x ≡ true → looked p (cond x (Asks (Row t) (λ r. leave_walk t (list_key owner t.table ∷ enclosing_lists n t.table r.cells)))
        (leave_walk t (list_key owner t.table ∷ []))) ≡ Row t ∷ lists_looked p (list_key owner t.table ∷ enclosing_lists n t.table row.cells)
    by true e =
        ap (λ s. Row t ∷ then_looked s (λ r. looked p (leave_walk t (list_key owner t.table ∷ enclosing_lists n t.table r.cells)))) is
        ∙ ap (λ ks. Row t ∷ ks) (looked_lists p (list_key owner t.table ∷ enclosing_lists n t.table row.cells) (row_removed t))
    by false e = absurd cc

pub ok_is : {A E : Type 0} (r : Result A E) (a b : A) → IfOk r (λ x. x ≡ a) → a ≡ b → IfOk r (λ x. x ≡ b)
ok_is (Ok x) a b is same = is ∙ same
ok_is (Err e) a b is same = tt

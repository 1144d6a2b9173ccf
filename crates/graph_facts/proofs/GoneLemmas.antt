-- A row leaves lists and is no more: what held of the graph holds again.
use Rattle.std.proofs.Common.{◌≡◌, ◌∙◌, refl, sym, ap, subst, ℕ, Bool, true, false, cond, List, [], ◌∷◌, ◌++◌, not, arith}
use Rattle.std.specs.Prelude.{◌&&◌, ◌||◌}
use Rattle.std.specs.List.{AllByRecursion, list_any}
use Rattle.std.proofs.lemmas.Bool.{and_from, or_parts}
use Rattle.std.proofs.lemmas.List.Folds.{list_any-append}
use Rattle.cil_base.specs.Token.{Token}
use Rattle.md_schema.specs.Link.{link_table_of}
use Rattle.md_schema.specs.declared.link.Link.{Link}
use Rattle.node_model.specs.Changes.{all_without, changed_slot, without_token}
use Rattle.node_model.specs.Graph.{Graph, graph_changed}
use Rattle.node_model.specs.Keys.{is_row, same_token}
use Rattle.node_model.specs.Lists.{tokens_slot}
use Rattle.node_model.specs.Nodes.{Nodes, is_live_row, is_live_status, with_removed}
use Rattle.node_model.specs.declared.key.Key.{Key}
use Rattle.node_model.specs.declared.key.Key.TheVariants as keys
use Rattle.node_model.specs.declared.nodes.RowStatus.TheVariants.{Absent, Removed, Live}
use Rattle.node_model.specs.declared.slot.Slot.TheVariants as slots
use Rattle.node_model.specs.declared.value.RowValue.{RowValue}
use Rattle.node_model.specs.declared.value.Value.{Value}
use Rattle.node_model.specs.declared.value.Value.TheVariants as values
use Rattle.node_model.proofs.LeafLemmas.{is_list_key}
use Rattle.graph_facts.specs.GraphHolds.{GraphHolds, IsKeyOf}
use Rattle.graph_facts.specs.HoldsValue.{HoldsValue, IsRowOfTable, ListsRows}
use Rattle.graph_facts.proofs.GrowLemmas.{holds_more}
use Rattle.graph_facts.proofs.ItemLemmas.{all_filter, any_passing, distinct_filter, passes_of, token_turned}
use Rattle.graph_facts.proofs.ListLemmas.{FoundList, IsHeldList, found_list, is_list_of, no_list}

abbrev pub gone_graph : Graph → Token → List (Key × List Token) → Graph
gone_graph g t lists = graph_changed g (all_without t lists)

-- a key afterwards: its list is shorter, or it is as it was
data GoneAt (g : Graph) (t : Token) (lists : List (Key × List Token)) (q : Key) : Type 0 where
  Shorter : (found : FoundList g (without_token t) lists q) → (gone_graph g t lists).held q ≡ tokens_slot (without_token t found.tokens) → GoneAt g t lists q
  Same : (gone_graph g t lists).held q ≡ g.held q → GoneAt g t lists q

gone_at : (g : Graph) (t : Token) (lists : List (Key × List Token)) (q : Key) → AllByRecursion (IsHeldList g) lists → GoneAt g t lists q
unfolding changed_slot
gone_at g t lists q held = by (list_any (is_list_of q) lists) refl
  where
    by : (b : Bool) → list_any (is_list_of q) lists ≡ b → GoneAt g t lists q
    by true is = let found = found_list g (without_token t) q lists held is in Shorter found (rw found.now refl)
    by false is = Same (rw (no_list (without_token t) q lists is) refl)

same_value : (x y : Value) → slots.Value x ≡ slots.Value y → x ≡ y
same_value x y e = cc

same_list : (x y : List Token) → tokens_slot x ≡ tokens_slot y → x ≡ y
same_list x y e = cc

shorter_list : (n : Nodes) (t : Token) (table : ℕ) (ts : List Token) → ListsRows n table ts → ListsRows n table (without_token t ts)
shorter_list n t table ts h = record {
  rows = all_filter (IsRowOfTable n table) (λ x. not (same_token t x)) ts h.rows;
  once = distinct_filter (λ x. not (same_token t x)) ts h.once;
}

shorter_holds : (n : Nodes) (t : Token) (q : Key) (ts : List Token) → is_list_key q ≡ true → HoldsValue n q (values.Tokens ts) → HoldsValue n q (values.Tokens (without_token t ts))
shorter_holds n t (keys.Owned o table) ts list h = shorter_list n t table ts h
shorter_holds n t (keys.Linked o l) ts list h = shorter_list n t (link_table_of l) ts h
shorter_holds n t _ ts list h = absurd cc

row_held : (g : Graph) (t : Token) (lists : List (Key × List Token)) (m : Token) → AllByRecursion (IsHeldList g) lists → (gone_graph g t lists).held (keys.Row m) ≡ g.held (keys.Row m)
row_held g t lists m held = by (gone_at g t lists (keys.Row m) held)
  where
    by : GoneAt g t lists (keys.Row m) → (gone_graph g t lists).held (keys.Row m) ≡ g.held (keys.Row m)
    by (Shorter found is) = let bad : false ≡ true = found.list in absurd cc
    by (Same is) = is

-- a row that is there was there, and is another one
live_before : (n : Nodes) (t m : Token) → is_live_row (with_removed n t) m ≡ true → (is_live_row n m ≡ true) × (same_token m t ≡ false)
live_before n t m live = by (is_row n.rows m) refl live
  where
    not_found : (x : Bool) → is_live_status (cond x Removed Live) ≡ true → x ≡ false
    not_found true e = absurd cc
    not_found false e = refl

    one : (x : Bool) → (x || false) ≡ false → x ≡ false
    one true e = absurd cc
    one false e = refl

    by : (b : Bool) → is_row n.rows m ≡ b → is_live_status (cond b (cond (list_any (same_token m) (n.removed ++ (t ∷ []))) Removed Live) Absent) ≡ true
        → (is_live_row n m ≡ true) × (same_token m t ≡ false)
    by true is e =
        let parts = or_parts (list_any (same_token m) n.removed) (list_any (same_token m) (t ∷ []))
        (sym (list_any-append (same_token m) n.removed (t ∷ [])) ∙ not_found (list_any (same_token m) (n.removed ++ (t ∷ []))) e) in
        (rw (is, parts.0) refl, one (same_token m t) parts.1)
    by false is e = absurd cc

gone_named : (g : Graph) (x : Token) (lists : List (Key × List Token)) → GraphHolds g → AllByRecursion (IsHeldList g) lists
    → (t m : Token) (l : Link) (ts : List Token) → IsKeyOf g (keys.Linked t l) → (gone_graph g x lists).held (keys.Linked t l) ≡ tokens_slot ts → list_any (same_token m) ts ≡ true
    → (us : List Token) × (g.held (keys.Linked t l) ≡ tokens_slot us) × (list_any (same_token m) us ≡ true)
gone_named g x lists sound held t m l ts key e has = by (gone_at g x lists (keys.Linked t l) held)
  where
    by : GoneAt g x lists (keys.Linked t l) → (us : List Token) × (g.held (keys.Linked t l) ≡ tokens_slot us) × (list_any (same_token m) us ≡ true)
    by (Shorter found is) =
        let shorter = same_list ts (without_token x found.tokens) (sym e ∙ is) in
        (found.tokens, found.held, (passes_of m (λ y. not (same_token x y)) found.tokens (ap (list_any (same_token m)) (sym shorter) ∙ has)).1)
    by (Same is) = (ts, sym is ∙ e, has)

gone_listed : (g : Graph) (x : Token) (lists : List (Key × List Token)) → AllByRecursion (IsHeldList g) lists
    → (t m : Token) (l : Link) (ts : List Token) → same_token m x ≡ false → (gone_graph g x lists).held (keys.Linked t l) ≡ tokens_slot ts
    → ((us : List Token) → g.held (keys.Linked t l) ≡ tokens_slot us → list_any (same_token m) us ≡ true) → list_any (same_token m) ts ≡ true
gone_listed g x lists held t m l ts other e before = by (gone_at g x lists (keys.Linked t l) held)
  where
    by : GoneAt g x lists (keys.Linked t l) → list_any (same_token m) ts ≡ true
    by (Shorter found is) =
        let passes : not (same_token x m) ≡ true = ap not (token_turned x m ∙ other) in
        ap (list_any (same_token m)) (same_list ts (without_token x found.tokens) (sym e ∙ is)) ∙ any_passing m (λ y. not (same_token x y)) found.tokens
        ∙ and_from (not (same_token x m)) (list_any (same_token m) found.tokens) passes (before found.tokens found.held)
    by (Same is) = before ts (sym is ∙ e)

pub gone_sound : (g : Graph) (x : Token) (lists : List (Key × List Token)) → GraphHolds g → AllByRecursion (IsHeldList g) lists → GraphHolds (gone_graph g x lists)
gone_sound g x lists sound held = record {
  few = sound.few;
  holds = λ q w key e. holds_more g.nodes (with_removed g.nodes x) q w (λ table. omega arith) (by q w (record { there = key.there; kind = key.kind }) e (gone_at g x lists q held));
  named = λ t m l ts r key e has is.
      let known : IsKeyOf g (keys.Linked t l) = record { there = key.there; kind = key.kind } in
      let before = gone_named g x lists sound held t m l ts known e has in
      sound.named t m l before.0 r known before.1 before.2 (sym (row_held g x lists m held) ∙ is);
  listed = λ t m l ts r live table is names e.
      let before = live_before g.nodes x m live in
      gone_listed g x lists held t m l ts before.1 e (λ us list. sound.listed t m l us r before.0 table (sym (row_held g x lists m held) ∙ is) names list);
}
  where
    by : (q : Key) (w : Value) → IsKeyOf g q → (gone_graph g x lists).held q ≡ slots.Value w → GoneAt g x lists q → HoldsValue g.nodes q w
    by q w key e (Shorter found is) =
        subst (HoldsValue g.nodes q) (same_value (values.Tokens (without_token x found.tokens)) w (sym is ∙ e)) (shorter_holds g.nodes x q found.tokens found.list (sound.holds q (values.Tokens found.tokens) found.known found.held))
    by q w key e (Same is) = sound.holds q w key (sym is ∙ e)

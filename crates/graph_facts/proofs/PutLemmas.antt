-- One key gets another value: what held of the graph holds again.
use Rattle.std.proofs.Common.{◌≡◌, ◌∙◌, refl, sym, ap, subst, Bool, true, false, cond, List}
use Rattle.std.specs.List.{list_any}
use Rattle.cil_base.specs.Token.{Token}
use Rattle.md_schema.specs.Link.{link_table_of}
use Rattle.md_schema.specs.declared.link.Link.{Link}
use Rattle.node_model.specs.Changes.{changed_slot, puts}
use Rattle.node_model.specs.Graph.{Graph, graph_changed}
use Rattle.node_model.specs.Keys.{same_key, same_token}
use Rattle.node_model.specs.Lists.{tokens_slot}
use Rattle.node_model.specs.declared.key.Key.{Key}
use Rattle.node_model.specs.declared.key.Key.TheVariants as keys
use Rattle.node_model.specs.declared.slot.Slot.TheVariants as slots
use Rattle.node_model.specs.declared.value.RowValue.{RowValue}
use Rattle.node_model.specs.declared.value.Value.{Value}
use Rattle.node_model.specs.declared.value.Value.TheVariants as values
use Rattle.node_model.specs.inner.KeyEquality.{key_is}
use Rattle.node_model.proofs.LeafLemmas.{is_list_key}
use Rattle.graph_facts.specs.GraphHolds.{GraphHolds, IsKeyOf, link_cell}
use Rattle.graph_facts.specs.HoldsValue.{HoldsValue, IsRowOfTable, ListsRows}
use Rattle.graph_facts.proofs.ItemLemmas.{all_at}

-- a row that names in its link columns what the row at this key named
pub record RowBefore (g : Graph) (m : Token) (row : RowValue) : Type 0 where
  pub before : RowValue
  pub held : g.held (keys.Row m) ≡ slots.Value (values.Row before)
  pub links : (l : Link) → m.table ≡ link_table_of l → link_cell l row ≡ link_cell l before

-- a row stays as it was in its link columns
abbrev pub KeepsLinks : Graph → Key → Value → Type 0
KeepsLinks g (keys.Row m) (values.Row row) = RowBefore g m row
KeepsLinks g (keys.Row m) _ = ⊥
KeepsLinks g _ v = Unit {0}

-- a member of a link's list is a row of the link's table
pub member_row : (g : Graph) (t m : Token) (l : Link) (ts : List Token) → GraphHolds g → IsKeyOf g (keys.Linked t l) → g.held (keys.Linked t l) ≡ tokens_slot ts
    → list_any (same_token m) ts ≡ true → IsRowOfTable g.nodes (link_table_of l) m
member_row g t m l ts sound key held has =
    let list : ListsRows g.nodes (link_table_of l) ts = sound.holds (keys.Linked t l) (values.Tokens ts) key held in
    all_at (IsRowOfTable g.nodes (link_table_of l)) m ts list.rows has

put_held : (g : Graph) (k : Key) (v : Value) (q : Key) → (graph_changed g (puts k v)).held q ≡ cond (same_key q k) (slots.Value v) (g.held q)
unfolding changed_slot
put_held g k v q = by (same_key q k) refl
  where
    by : (b : Bool) → same_key q k ≡ b → (graph_changed g (puts k v)).held q ≡ cond b (slots.Value v) (g.held q)
    by true is = rw is refl
    by false is = rw is refl

same_value : (x y : Value) → slots.Value x ≡ slots.Value y → x ≡ y
same_value x y e = cc

put_row : (g : Graph) (k : Key) (v : Value) (m : Token) (row : RowValue) → KeepsLinks g k v → (graph_changed g (puts k v)).held (keys.Row m) ≡ slots.Value (values.Row row) → RowBefore g m row
put_row g k v m row keeps e = by (same_key (keys.Row m) k) refl (sym (put_held g k v (keys.Row m)) ∙ e)
  where
    by : (b : Bool) → same_key (keys.Row m) k ≡ b → cond b (slots.Value v) (g.held (keys.Row m)) ≡ slots.Value (values.Row row) → RowBefore g m row
    by true is e =
        let kept : KeepsLinks g (keys.Row m) (values.Row row) =
        subst (λ q. KeepsLinks g q (values.Row row)) (sym (key_is (keys.Row m) k is)) (subst (KeepsLinks g k) (same_value v (values.Row row) e) keeps) in
        kept
    by false is e = record { before = row; held = e; links = λ l same. refl }

put_list : (g : Graph) (k : Key) (v : Value) (t : Token) (l : Link) → is_list_key k ≡ false → (graph_changed g (puts k v)).held (keys.Linked t l) ≡ g.held (keys.Linked t l)
put_list g k v t l other = put_held g k v (keys.Linked t l) ∙ by (same_key (keys.Linked t l) k) refl
  where
    by : (b : Bool) → same_key (keys.Linked t l) k ≡ b → cond b (slots.Value v) (g.held (keys.Linked t l)) ≡ g.held (keys.Linked t l)
    by true is = let bad : true ≡ false = ap is_list_key (key_is (keys.Linked t l) k is) ∙ other in absurd cc
    by false is = refl

pub put_sound : (g : Graph) (k : Key) (v : Value) → GraphHolds g → is_list_key k ≡ false → HoldsValue g.nodes k v → KeepsLinks g k v → GraphHolds (graph_changed g (puts k v))
put_sound g k v sound other hold keeps = record {
  few = sound.few;
  holds = λ q w key e. by q w (record { there = key.there; kind = key.kind }) (same_key q k) refl (sym (put_held g k v q) ∙ e);
  named = λ t m l ts row key e has r.
      let before = put_row g k v m row keeps r in
      let known : IsKeyOf g (keys.Linked t l) = record { there = key.there; kind = key.kind } in
      let held = sym (put_list g k v t l other) ∙ e in
      before.links l (member_row g t m l ts sound known held has).table_is ∙ sound.named t m l ts before.before known held has before.held;
  listed = λ t m l ts row live table r names e.
      let before = put_row g k v m row keeps r in
      sound.listed t m l ts before.before live table before.held (sym (before.links l table) ∙ names) (sym (put_list g k v t l other) ∙ e);
}
  where
    by : (q : Key) (w : Value) → IsKeyOf g q → (b : Bool) → same_key q k ≡ b → cond b (slots.Value v) (g.held q) ≡ slots.Value w → HoldsValue g.nodes q w
    by q w key true is e = subst (λ x. HoldsValue g.nodes x w) (sym (key_is q k is)) (subst (HoldsValue g.nodes k) (same_value v w e) hold)
    by q w key false is e = sound.holds q w key e

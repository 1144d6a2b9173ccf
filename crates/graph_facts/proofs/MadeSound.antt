-- What held of a graph holds with a new row, of keys and of links both ways.
use Rattle.std.proofs.Common.{◌≡◌, ◌∙◌, refl, sym, ap, subst, ℕ, suc, ◌<◌, ◌^◌, Bool, true, false, cond, List, [], ◌∷◌, Option, Some, None, is_some, arith}
use Rattle.std.specs.Prelude.{◌==◌, ◌&&◌, ◌||◌}
use Rattle.std.specs.List.{list_any}
use Rattle.std.specs.Option.{option_map}
use Rattle.std.proofs.lemmas.Bool.{and_parts, eqb-true, or_left, or_right}
use Rattle.cil_base.specs.Token.{Token}
use Rattle.md_schema.specs.Entry.{columns_of}
use Rattle.md_schema.specs.Link.{link_column_of, link_table_of}
use Rattle.md_schema.specs.Schema.{tables}
use Rattle.md_schema.specs.declared.link.Link.{Link}
use Rattle.md_schema.specs.declared.link.Link.TheVariants.{InterfaceImpl, Constant, CustomAttribute, FieldMarshal, DeclSecurity, ClassLayout, FieldLayout, EventMap, PropertyMap, MethodSemantics, MethodImpl, ImplMap, FieldRVA, NestedClass, Nested, GenericParam, GenericParamConstraint}
use Rattle.node_model.specs.Graph.{Graph}
use Rattle.node_model.specs.KeyKinds.{has_kind}
use Rattle.node_model.specs.Keys.{is_row, same_token, token_of_key}
use Rattle.node_model.specs.Lists.{tokens_slot}
use Rattle.node_model.specs.Nodes.{Nodes, is_live_row, is_live_status, with_row}
use Rattle.node_model.specs.RowFaults.{cell_columns}
use Rattle.node_model.specs.declared.cell.Cell.{Cell}
use Rattle.node_model.specs.declared.cell.Cell.TheVariants as cells
use Rattle.node_model.specs.declared.change.RowChange.TheVariants.{Made}
use Rattle.node_model.specs.declared.edit.OptSig.{OptSig}
use Rattle.node_model.specs.declared.key.Key.{Key}
use Rattle.node_model.specs.declared.key.Key.TheVariants as keys
use Rattle.node_model.specs.declared.nodes.RowStatus.TheVariants.{Absent, Removed, Live}
use Rattle.node_model.specs.declared.slot.Slot.TheVariants as slots
use Rattle.node_model.specs.declared.value.RowValue.{RowValue}
use Rattle.node_model.specs.declared.value.Value.{Value}
use Rattle.node_model.specs.declared.value.Value.TheVariants as values
use Rattle.node_model.specs.inner.KeyEquality.{token_is, token_self}
use Rattle.node_model.proofs.KnownLemmas.{live_there}
use Rattle.node_model.proofs.RowLemmas.{IsNext, row_after}
use Rattle.graph_facts.specs.GraphHolds.{GraphHolds, IsKeyOf, LinksNameOwners, OwnersListLinks, link_cell}
use Rattle.graph_facts.specs.HoldsValue.{HoldsValue}
use Rattle.graph_facts.specs.RowHolds.{HoldsCell, HoldsCells, HoldsRow}
use Rattle.graph_facts.proofs.ColumnLemmas.{Placed, at_link, beside, beside_holds, beside_is}
use Rattle.graph_facts.proofs.GrowLemmas.{holds_more}
use Rattle.graph_facts.proofs.ItemLemmas.{token_turned}
use Rattle.graph_facts.proofs.ListLemmas.{is_list_of, list_has}
use Rattle.graph_facts.proofs.MadeLemmas.{Longer, MadeAt, MakesRow, New, Same, list_table, longer_holds, made_at, made_graph, more_rows, new_holds, new_row_held, not_there, old_row, put_has, was_there}
use Rattle.graph_facts.proofs.PutLemmas.{member_row}

same_value : (x y : Value) → slots.Value x ≡ slots.Value y → x ≡ y
same_value x y e = cc

same_list : (x y : List Token) → tokens_slot x ≡ tokens_slot y → x ≡ y
same_list x y e = cc

-- the tables of links are tables
pub link_row_kind : (l : Link) → is_some (columns_of (link_table_of l)) ≡ true
unfolding tables
link_row_kind InterfaceImpl = refl
link_row_kind Constant = refl
link_row_kind CustomAttribute = refl
link_row_kind FieldMarshal = refl
link_row_kind DeclSecurity = refl
link_row_kind ClassLayout = refl
link_row_kind FieldLayout = refl
link_row_kind EventMap = refl
link_row_kind PropertyMap = refl
link_row_kind MethodSemantics = refl
link_row_kind MethodImpl = refl
link_row_kind ImplMap = refl
link_row_kind FieldRVA = refl
link_row_kind NestedClass = refl
link_row_kind Nested = refl
link_row_kind GenericParam = refl
link_row_kind GenericParamConstraint = refl

-- the row that a link's column names is there
pub reference_there : (n : Nodes) (m t : Token) (r : RowValue) (l : Link) → m.table ≡ link_table_of l → HoldsRow n m r → link_cell l r ≡ Some (cells.Ref t) → is_row n.rows t ≡ true
reference_there n m t r l table hold names = by (beside (at_link l) (cell_columns (link_table_of l)) r.cells) refl (sym (beside_is (at_link l) (cell_columns (link_table_of l)) r.cells) ∙ names)
  where
    some_cell : (x y : Cell) → Some x ≡ Some y → x ≡ y
    some_cell x y e = cc

    by : (o : Option (Placed × Cell)) → beside (at_link l) (cell_columns (link_table_of l)) r.cells ≡ o → option_map (λ (p : Placed × Cell). p.1) o ≡ Some (cells.Ref t) → is_row n.rows t ≡ true
    by None is e = absurd cc
    by (Some p) is e =
        let held = beside_holds n (at_link l) (cell_columns (link_table_of l)) r.cells p (subst (λ x. HoldsCells n (cell_columns x) r.cells) table hold.cells) is in
        let ref : HoldsCell n p.0.1.kind (cells.Ref t) = subst (HoldsCell n p.0.1.kind) (some_cell p.1 (cells.Ref t) e) held in
        ref.within.there

-- a row other than the new one is there where it was
live_before : (n : Nodes) (row : RowValue) (sig : OptSig) (m : Token) → IsNext n row sig → same_token row.token m ≡ false → is_live_row (with_row n row.token.table) m ≡ true → is_live_row n m ≡ true
live_before n row sig m next other live = ap (λ x. is_live_status (cond x (cond (list_any (same_token m) n.removed) Removed Live) Absent)) (sym (row_after n (Made row sig) m next ∙ ap (λ x. is_row n.rows m || x) other ∙ none (is_row n.rows m))) ∙ live
  where
    none : (x : Bool) → (x || false) ≡ x
    none true = refl
    none false = refl

few_rows : (g : Graph) (row : RowValue) (sig : OptSig) (table : ℕ) → GraphHolds g → IsNext g.nodes row sig → (with_row g.nodes row.token.table).rows table < 2 ^ 24
few_rows g row sig table sound next = by (table == row.token.table) refl
  where
    by : (b : Bool) → (table == row.token.table) ≡ b → cond b (suc (g.nodes.rows table)) (g.nodes.rows table) < 2 ^ 24
    by true is =
        let room = subst (λ t. g.nodes.rows t < 16777215) (sym (eqb-true table row.token.table is)) next.room in
        omega (arith, room)
    by false is = sound.few table

made_holds : (g : Graph) (row : RowValue) (sig : OptSig) (f : List Token → List Token) (lists : List (Key × List Token)) → GraphHolds g → MakesRow g row sig f lists
    → (q : Key) (w : Value) → IsKeyOf (made_graph g row sig f lists) q → (made_graph g row sig f lists).held q ≡ slots.Value w → HoldsValue (with_row g.nodes row.token.table) q w
made_holds g row sig f lists sound makes q w key e = by (made_at g row sig f lists q makes.held)
  where
    by : MadeAt g row sig f lists q → HoldsValue (with_row g.nodes row.token.table) q w
    by (Longer found is any) =
        subst (HoldsValue (with_row g.nodes row.token.table) q) (same_value (values.Tokens (f found.tokens)) w (sym is ∙ e))
        (longer_holds g.nodes row sig q found.tokens (f found.tokens) makes.next (makes.puts found.tokens) found.list
        (list_has (λ k. list_table k ≡ row.token.table) q lists makes.tables any) (sound.holds q (values.Tokens found.tokens) found.known found.held))
    by (New none is held) =
        let parts = and_parts (same_token row.token (token_of_key q)) (has_kind q) is in
        new_holds g row sig q w makes.next makes.own makes.typed parts.0 parts.1 (sym held ∙ e)
    by (Same none is held) = holds_more g.nodes (with_row g.nodes row.token.table) q w (more_rows g.nodes row sig) (sound.holds q w (was_there g row sig q makes.next is key.there key.kind) (sym held ∙ e))

made_named : (g : Graph) (row : RowValue) (sig : OptSig) (f : List Token → List Token) (lists : List (Key × List Token)) → GraphHolds g → MakesRow g row sig f lists
    → LinksNameOwners (made_graph g row sig f lists)
made_named g row sig f lists sound makes t m l ts r key e has held = by (made_at g row sig f lists (keys.Linked t l) makes.held)
  where
    -- a row that was listed before
    old : (us : List Token) → IsKeyOf g (keys.Linked t l) → g.held (keys.Linked t l) ≡ tokens_slot us → list_any (same_token m) us ≡ true → link_cell l r ≡ Some (cells.Ref t)
    old us known list among =
        let there = (member_row g t m l us sound known list among).there in
        sound.named t m l us r known list among (sym (old_row g row sig f lists m makes there) ∙ held)

    -- the new row, or one that was listed before
    by_row : (us : List Token) → IsKeyOf g (keys.Linked t l) → g.held (keys.Linked t l) ≡ tokens_slot us → list_any (is_list_of (keys.Linked t l)) lists ≡ true
        → (b : Bool) → same_token m row.token ≡ b → (b || list_any (same_token m) us) ≡ true → link_cell l r ≡ Some (cells.Ref t)
    by_row us known list any true same among =
        let table : link_table_of l ≡ row.token.table = list_has (λ k. list_table k ≡ row.token.table) (keys.Linked t l) lists makes.tables any in
        let kind : has_kind (keys.Row m) ≡ true = ap (λ (x : Token). is_some (columns_of x.table)) (token_is m row.token same) ∙ ap (λ k. is_some (columns_of k)) (sym table) ∙ link_row_kind l in
        let is = new_row_held g row sig f lists m r makes (token_turned row.token m ∙ same) kind held in
        subst (λ x. link_cell l x ≡ Some (cells.Ref t)) is (makes.named t l any)
    by_row us known list any false same among = old us known list among

    by : MadeAt g row sig f lists (keys.Linked t l) → link_cell l r ≡ Some (cells.Ref t)
    by (Longer found is any) =
        let lists_are = same_list (f found.tokens) ts (sym is ∙ e) in
        by_row found.tokens found.known found.held any (same_token m row.token) refl
        (sym (put_has row.token m found.tokens (f found.tokens) (makes.puts found.tokens)) ∙ ap (list_any (same_token m)) lists_are ∙ has)
    by (New none is list) =
        let empty : [] ≡ ts = same_list [] ts (sym list ∙ e) in
        let bad : false ≡ true = ap (list_any (same_token m)) empty ∙ has in
        absurd cc
    by (Same none is list) = old ts (was_there g row sig (keys.Linked t l) makes.next is key.there key.kind) (sym list ∙ e) has

made_listed : (g : Graph) (row : RowValue) (sig : OptSig) (f : List Token → List Token) (lists : List (Key × List Token)) → GraphHolds g → MakesRow g row sig f lists
    → OwnersListLinks (made_graph g row sig f lists)
made_listed g row sig f lists sound makes t m l ts r live table held names e = by (same_token row.token m) refl
  where
    clash : (x : Bool) → x ≡ true → x ≡ false → ⊥
    clash x a b = cc

    -- a list with the new row has a row that is this one or was listed
    longer : (us : List Token) → (made_graph g row sig f lists).held (keys.Linked t l) ≡ tokens_slot (f us) → (same_token m row.token || list_any (same_token m) us) ≡ true → list_any (same_token m) ts ≡ true
    longer us is among =
        ap (list_any (same_token m)) (same_list ts (f us) (sym e ∙ is)) ∙ put_has row.token m us (f us) (makes.puts us) ∙ among

    of_new : same_token row.token m ≡ true → list_any (is_list_of (keys.Linked t l)) lists ≡ true → MadeAt g row sig f lists (keys.Linked t l) → list_any (same_token m) ts ≡ true
    of_new same any (Longer found is also) = longer found.tokens is (or_left (same_token m row.token) (list_any (same_token m) found.tokens) (token_turned m row.token ∙ same))
    of_new same any (New none is list) = absurd (clash _ any none)
    of_new same any (Same none is list) = absurd (clash _ any none)

    of_old : is_live_row g.nodes m ≡ true → g.held (keys.Row m) ≡ slots.Value (values.Row r) → MadeAt g row sig f lists (keys.Linked t l) → list_any (same_token m) ts ≡ true
    of_old before was (Longer found is any) =
        longer found.tokens is (or_right (same_token m row.token) (list_any (same_token m) found.tokens) (sound.listed t m l found.tokens r before table was names found.held))
    of_old before was (New none is list) =
        let kind : has_kind (keys.Row m) ≡ true = ap (λ k. is_some (columns_of k)) table ∙ link_row_kind l in
        let key : IsKeyOf g (keys.Row m) = record { there = live_there g.nodes m before; kind = kind } in
        let there = reference_there g.nodes m t r l table (sound.holds (keys.Row m) (values.Row r) key was) names in
        let same = (and_parts (same_token row.token t) (has_kind (keys.Linked t l)) is).0 in
        absurd (clash (is_row g.nodes.rows t) there (ap (is_row g.nodes.rows) (sym (token_is row.token t same)) ∙ not_there g.nodes row sig makes.next))
    of_old before was (Same none is list) = sound.listed t m l ts r before table was names (sym list ∙ e)

    by : (b : Bool) → same_token row.token m ≡ b → list_any (same_token m) ts ≡ true
    by true same =
        let is = token_is row.token m same in
        let kind : has_kind (keys.Row m) ≡ true = ap (λ k. is_some (columns_of k)) table ∙ link_row_kind l in
        let row_is = new_row_held g row sig f lists m r makes same kind held in
        let named = subst (λ x. link_cell l x ≡ Some (cells.Ref t)) (sym row_is) names in
        of_new same (makes.listed t l (ap (λ (x : Token). x.table) is ∙ table) named) (made_at g row sig f lists (keys.Linked t l) makes.held)
    by false other =
        let before = live_before g.nodes row sig m makes.next other live in
        of_old before (sym (old_row g row sig f lists m makes (live_there g.nodes m before)) ∙ held) (made_at g row sig f lists (keys.Linked t l) makes.held)

pub made_sound : (g : Graph) (row : RowValue) (sig : OptSig) (f : List Token → List Token) (lists : List (Key × List Token)) → GraphHolds g → MakesRow g row sig f lists
    → GraphHolds (made_graph g row sig f lists)
made_sound g row sig f lists sound makes = record {
  few = λ table. few_rows g row sig table sound makes.next;
  holds = made_holds g row sig f lists sound makes;
  named = made_named g row sig f lists sound makes;
  listed = made_listed g row sig f lists sound makes;
}

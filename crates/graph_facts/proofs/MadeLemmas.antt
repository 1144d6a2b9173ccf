-- A row is made and put into lists: what held of the graph holds again.
use Rattle.std.proofs.Common.{◌≡◌, ◌∙◌, refl, sym, ap, subst, ℕ, suc, ◌<◌, Bool, true, false, cond, List, [], ◌∷◌, ◌++◌, Option, Some, None, find, arith}
use Rattle.std.specs.Prelude.{◌==◌, ◌&&◌, ◌||◌, codes, not}
use Rattle.std.specs.List.{AllByRecursion, IsDistinct, list_any}
use Rattle.std.specs.Option.{option_map, option_or, unwrap_or}
use Rattle.std.proofs.lemmas.Bool.{and_from, and_parts, or_left, or_right}
use Rattle.cil_base.specs.Token.{Token, root}
use Rattle.md_schema.specs.Link.{link_column_of, link_table_of}
use Rattle.md_schema.specs.declared.link.Link.{Link}
use Rattle.node_model.specs.Changes.{changed_slot}
use Rattle.node_model.specs.ColumnFit.{sig_fits_table}
use Rattle.node_model.specs.Fresh.{begins_with, fresh_resource, fresh_slot, is_key_of, resource_begins}
use Rattle.node_model.specs.Graph.{Graph, graph_changed}
use Rattle.node_model.specs.KeyKinds.{has_kind}
use Rattle.node_model.specs.Keys.{is_key_there, is_row, same_key, same_token, token_of_key}
use Rattle.node_model.specs.Lists.{tokens_slot}
use Rattle.node_model.specs.Nodes.{Nodes, is_live_row, is_live_status, next_row, row_status, with_row}
use Rattle.node_model.specs.RowCells.{cell_in}
use Rattle.node_model.specs.RowFaults.{cell_columns}
use Rattle.node_model.specs.Streams.{column_named}
use Rattle.node_model.specs.declared.cell.Cell.{Cell}
use Rattle.node_model.specs.declared.cell.Cell.TheVariants as cells
use Rattle.node_model.specs.declared.change.RowChange.TheVariants.{Made}
use Rattle.node_model.specs.declared.edit.OptSig.{OptSig}
use Rattle.node_model.specs.declared.edit.OptSig.TheVariants as sigs
use Rattle.node_model.specs.declared.key.Key.{Key}
use Rattle.node_model.specs.declared.key.Key.TheVariants as keys
use Rattle.node_model.specs.declared.nodes.RowStatus.TheVariants.{Absent, Removed, Live}
use Rattle.node_model.specs.declared.slot.Slot.{Slot}
use Rattle.node_model.specs.declared.slot.Slot.TheVariants as slots
use Rattle.node_model.specs.declared.value.BodyValue.TheVariants.{NoBody}
use Rattle.node_model.specs.declared.value.RowValue.{RowValue}
use Rattle.node_model.specs.declared.value.Value.{Value}
use Rattle.node_model.specs.declared.value.Value.TheVariants as values
use Rattle.node_model.specs.inner.KeyEquality.{token_is, token_self}
use Rattle.node_model.proofs.LeafLemmas.{is_list_key}
use Rattle.node_model.proofs.RowLemmas.{IsNext, key_after, next_is_none, row_after, rows_grow}
use Rattle.graph_facts.specs.GraphHolds.{GraphHolds, IsKeyOf, link_cell}
use Rattle.graph_facts.specs.HoldsValue.{HoldsValue, HoldsResource, HoldsSig, IsRowOfTable, ListsRows}
use Rattle.graph_facts.specs.OfTypes.{OptSigOfType}
use Rattle.graph_facts.specs.RowHolds.{HoldsCells, HoldsRow}
use Rattle.graph_facts.proofs.ColumnLemmas.{Placed, at_link, beside, beside_holds, beside_is}
use Rattle.graph_facts.proofs.GrowLemmas.{HasMore, all_grow, cells_grow, holds_more}
use Rattle.graph_facts.proofs.ItemLemmas.{all_at, all_put, any_put, distinct_put}
use Rattle.graph_facts.proofs.ListLemmas.{FoundList, IsHeldList, found_list, is_list_of, list_has, lists_with, no_list}
use Rattle.graph_facts.proofs.PutLemmas.{member_row}

-- a token put in somewhere
pub record PutIn (t : Token) (ts us : List Token) : Type 0 where
  pub front : List Token
  pub back : List Token
  pub whole : ts ≡ front ++ back
  pub put : us ≡ front ++ (t ∷ back)

-- the table whose rows a list lists
abbrev pub list_table : Key → ℕ
list_table (keys.Owned t n) = n
list_table (keys.Linked t l) = link_table_of l
list_table _ = 0

-- a row that is made is the next of its table, with cells and a signature within their bounds, and stands in lists of
-- its table: of links, in those that its link columns name
pub record MakesRow (g : Graph) (row : RowValue) (sig : OptSig) (f : List Token → List Token) (lists : List (Key × List Token)) : Type 0 where
  pub next : IsNext g.nodes row sig
  pub own : HoldsCells g.nodes (cell_columns row.token.table) row.cells
  pub typed : OptSigOfType sig
  pub held : AllByRecursion (IsHeldList g) lists
  pub tables : AllByRecursion (λ (l : Key × List Token). list_table l.0 ≡ row.token.table) lists
  pub puts : (ts : List Token) → PutIn row.token ts (f ts)
  pub named : (t : Token) (l : Link) → list_any (is_list_of (keys.Linked t l)) lists ≡ true → link_cell l row ≡ Some (cells.Ref t)
  pub listed : (t : Token) (l : Link) → row.token.table ≡ link_table_of l → link_cell l row ≡ Some (cells.Ref t) → list_any (is_list_of (keys.Linked t l)) lists ≡ true

abbrev pub made_graph : Graph → RowValue → OptSig → (List Token → List Token) → List (Key × List Token) → Graph
made_graph g row sig f lists = graph_changed g (record { contents = lists_with f lists; rows = Made row sig })

-- a key afterwards: its list is longer, it is one of the new row, or it is as it was
pub data MadeAt (g : Graph) (row : RowValue) (sig : OptSig) (f : List Token → List Token) (lists : List (Key × List Token)) (q : Key) : Type 0 where
  Longer : (found : FoundList g f lists q) → (made_graph g row sig f lists).held q ≡ tokens_slot (f found.tokens) → list_any (is_list_of q) lists ≡ true → MadeAt g row sig f lists q
  New : list_any (is_list_of q) lists ≡ false → is_key_of row.token q ≡ true → (made_graph g row sig f lists).held q ≡ unwrap_or (begins_with row sig q) (g.held q) → MadeAt g row sig f lists q
  Same : list_any (is_list_of q) lists ≡ false → is_key_of row.token q ≡ false → (made_graph g row sig f lists).held q ≡ g.held q → MadeAt g row sig f lists q

pub made_at : (g : Graph) (row : RowValue) (sig : OptSig) (f : List Token → List Token) (lists : List (Key × List Token)) (q : Key) → AllByRecursion (IsHeldList g) lists → MadeAt g row sig f lists q
unfolding changed_slot fresh_slot
made_at g row sig f lists q held = by_list (list_any (is_list_of q) lists) refl
  where
    by_new : list_any (is_list_of q) lists ≡ false → (b : Bool) → is_key_of row.token q ≡ b → MadeAt g row sig f lists q
    by_new none true is = New none is (rw (no_list f q lists none, is) refl)
    by_new none false is = Same none is (rw (no_list f q lists none, is) refl)

    by_list : (b : Bool) → list_any (is_list_of q) lists ≡ b → MadeAt g row sig f lists q
    by_list true is = let found = found_list g f q lists held is in Longer found (rw found.now refl) is
    by_list false is = by_new is (is_key_of row.token q) refl

same_value : (x y : Value) → slots.Value x ≡ slots.Value y → x ≡ y
same_value x y e = cc

-- there are the rows that there were, and the new one
pub more_rows : (n : Nodes) (row : RowValue) (sig : OptSig) → HasMore n (with_row n row.token.table)
more_rows n row sig table = rows_grow n (Made row sig) table

new_there : (n : Nodes) (row : RowValue) (sig : OptSig) → IsNext n row sig → is_row (with_row n row.token.table).rows row.token ≡ true
new_there n row sig next = row_after n (Made row sig) row.token next ∙ or_right (is_row n.rows row.token) (same_token row.token row.token) (token_self row.token)

pub not_there : (n : Nodes) (row : RowValue) (sig : OptSig) → IsNext n row sig → is_row n.rows row.token ≡ false
not_there n row sig next = ap (is_row n.rows) next.token ∙ next_is_none n row.token.table

-- the new row stands in no list yet
no_member : (n : Nodes) (row : RowValue) (sig : OptSig) (table : ℕ) (ts : List Token) → IsNext n row sig → AllByRecursion (IsRowOfTable n table) ts → list_any (same_token row.token) ts ≡ false
no_member n row sig table ts next all = by (list_any (same_token row.token) ts) refl
  where
    by : (b : Bool) → list_any (same_token row.token) ts ≡ b → b ≡ false
    by true is = let bad : true ≡ false = sym (all_at (IsRowOfTable n table) row.token ts all is).there ∙ not_there n row sig next in bad
    by false is = refl

-- a list with the new row
longer_list : (n : Nodes) (row : RowValue) (sig : OptSig) (ts us : List Token) → IsNext n row sig → PutIn row.token ts us → ListsRows n row.token.table ts
    → ListsRows (with_row n row.token.table) row.token.table us
longer_list n row sig ts us next put h =
    let more = with_row n row.token.table in
    let fits : IsRowOfTable more row.token.table row.token = record { table_is = refl; there = new_there n row sig next } in
    let rows = subst (AllByRecursion (IsRowOfTable more row.token.table)) put.whole (all_grow n more row.token.table ts (more_rows n row sig) h.rows) in
    let once = subst (IsDistinct same_token) put.whole h.once in
    let apart = ap (list_any (same_token row.token)) (sym put.whole) ∙ no_member n row sig row.token.table ts next h.rows in
    record {
      rows = subst (AllByRecursion (IsRowOfTable more row.token.table)) (sym put.put) (all_put (IsRowOfTable more row.token.table) row.token put.front put.back fits rows);
      once = subst (IsDistinct same_token) (sym put.put) (distinct_put row.token put.front put.back once apart);
    }

pub longer_holds : (n : Nodes) (row : RowValue) (sig : OptSig) (q : Key) (ts us : List Token) → IsNext n row sig → PutIn row.token ts us → is_list_key q ≡ true → list_table q ≡ row.token.table
    → HoldsValue n q (values.Tokens ts) → HoldsValue (with_row n row.token.table) q (values.Tokens us)
longer_holds n row sig (keys.Owned t table) ts us next put list is h =
    subst (λ k. ListsRows (with_row n row.token.table) k us) (sym is) (longer_list n row sig ts us next put (subst (λ k. ListsRows n k ts) is h))
longer_holds n row sig (keys.Linked t l) ts us next put list is h =
    subst (λ k. ListsRows (with_row n row.token.table) k us) (sym is) (longer_list n row sig ts us next put (subst (λ k. ListsRows n k ts) is h))
longer_holds n row sig _ ts us next put list is h = absurd cc

empty_list : (n : Nodes) (table : ℕ) → ListsRows n table []
unfolding IsDistinct
empty_list n table = record { rows = tt; once = tt }

fresh_offset : (o : Option Cell) → HoldsResource (resource_begins o)
fresh_offset (Some (cells.Ref t)) = omega arith
fresh_offset _ = tt

-- what a new row's keys begin with
pub new_holds : (g : Graph) (row : RowValue) (sig : OptSig) (q : Key) (w : Value) → IsNext g.nodes row sig → HoldsCells g.nodes (cell_columns row.token.table) row.cells → OptSigOfType sig
    → same_token row.token (token_of_key q) ≡ true → has_kind q ≡ true → unwrap_or (begins_with row sig q) (g.held q) ≡ slots.Value w → HoldsValue (with_row g.nodes row.token.table) q w
new_holds g row sig (keys.Row t) w next hold typed same kind e =
    let more = with_row g.nodes row.token.table in
    let grown = cells_grow g.nodes more (cell_columns row.token.table) row.cells (more_rows g.nodes row sig) hold in
    let is = token_is row.token t same in
    let held : HoldsRow more t row = record { token = is; cells = subst (λ (x : Token). HoldsCells more (cell_columns x.table) row.cells) is grown } in
    subst (HoldsValue more (keys.Row t)) (same_value (values.Row row) w e) held
new_holds g row (sigs.Is sig) (keys.Sig t) w next hold typed same kind e =
    let is = token_is row.token t same in
    let held : HoldsSig t sig = record { sort = subst (λ (x : Token). sig_fits_table x.table (sigs.Is sig) ≡ true) is next.fits; bounded = typed } in
    subst (HoldsValue (with_row g.nodes row.token.table) (keys.Sig t)) (same_value (values.Sig sig) w e) held
new_holds g row sigs.None (keys.Sig t) w next hold typed same kind e = absurd (no_sig (token_is row.token t same) next.fits kind)
  where
    clash : (x : Bool) → not x ≡ true → x ≡ true → ⊥
    clash true a b = cc
    clash false a b = cc

    no_sig : row.token ≡ t → sig_fits_table row.token.table sigs.None ≡ true → has_kind (keys.Sig t) ≡ true → ⊥
    no_sig is fits kind = clash (has_kind (keys.Sig t)) (subst (λ (x : Token). sig_fits_table x.table sigs.None ≡ true) is fits) kind
new_holds g row sig (keys.Owned t n) w next hold typed same kind e = subst (HoldsValue (with_row g.nodes row.token.table) (keys.Owned t n)) (same_value (values.Tokens []) w e) (empty_list _ n)
new_holds g row sig (keys.Linked t l) w next hold typed same kind e = subst (HoldsValue (with_row g.nodes row.token.table) (keys.Linked t l)) (same_value (values.Tokens []) w e) (empty_list _ _)
new_holds g row sig (keys.Body t) w next hold typed same kind e = subst (HoldsValue (with_row g.nodes row.token.table) (keys.Body t)) (same_value (values.Body NoBody) w e) tt
new_holds g row sig (keys.Data t) w next hold typed same kind e = subst (HoldsValue (with_row g.nodes row.token.table) (keys.Data t)) (same_value (values.Data []) w e) tt
new_holds g row sig (keys.Resource t) w next hold typed same kind e =
    subst (HoldsValue (with_row g.nodes row.token.table) (keys.Resource t)) (same_value (values.Resource (fresh_resource row)) w e)
    (fresh_offset (cell_in row.token.table (column_named row.token.table (codes "Implementation")) row.cells))
new_holds g row sig keys.Facts w next hold typed same kind e =
    let rid : suc (g.nodes.rows row.token.table) ≡ 0 = ap (λ (t : Token). t.rid) (sym next.token ∙ token_is row.token root same) in
    absurd (omega (arith, rid))

-- a key that is none of the new row was there before
pub was_there : (g : Graph) (row : RowValue) (sig : OptSig) (q : Key) → IsNext g.nodes row sig → is_key_of row.token q ≡ false → is_key_there (with_row g.nodes row.token.table).rows q ≡ true → has_kind q ≡ true
    → IsKeyOf g q
was_there g row sig q next other there kind = record { there = by (is_key_there g.nodes.rows q) (same_token row.token (token_of_key q)) (sym (key_after g.nodes (Made row sig) q next) ∙ there) other kind; kind = kind }
  where
    by : (x y : Bool) → (x || y) ≡ true → (y && has_kind q) ≡ false → has_kind q ≡ true → x ≡ true
    by true y e other kind = refl
    by false true e other kind = let bad : true ≡ false = sym kind ∙ other in absurd cc
    by false false e other kind = absurd cc

-- a row that was there holds what it held
pub old_row : (g : Graph) (row : RowValue) (sig : OptSig) (f : List Token → List Token) (lists : List (Key × List Token)) (m : Token) → MakesRow g row sig f lists → is_row g.nodes.rows m ≡ true
    → (made_graph g row sig f lists).held (keys.Row m) ≡ g.held (keys.Row m)
old_row g row sig f lists m makes there = by (made_at g row sig f lists (keys.Row m) makes.held)
  where
    by : MadeAt g row sig f lists (keys.Row m) → (made_graph g row sig f lists).held (keys.Row m) ≡ g.held (keys.Row m)
    by (Longer found is any) = let bad : false ≡ true = found.list in absurd cc
    by (New none is held) =
        let same = (and_parts (same_token row.token m) (has_kind (keys.Row m)) is).0 in
        let bad : true ≡ false = sym there ∙ ap (is_row g.nodes.rows) (sym (token_is row.token m same)) ∙ not_there g.nodes row sig makes.next in absurd cc
    by (Same none is held) = held

-- the new row holds its cells
pub new_row_held : (g : Graph) (row : RowValue) (sig : OptSig) (f : List Token → List Token) (lists : List (Key × List Token)) (m : Token) (r : RowValue) → MakesRow g row sig f lists
    → same_token row.token m ≡ true → has_kind (keys.Row m) ≡ true → (made_graph g row sig f lists).held (keys.Row m) ≡ slots.Value (values.Row r) → row ≡ r
new_row_held g row sig f lists m r makes same kind e = by (made_at g row sig f lists (keys.Row m) makes.held)
  where
    same_row : (x y : RowValue) → slots.Value (values.Row x) ≡ slots.Value (values.Row y) → x ≡ y
    same_row x y e = cc

    by : MadeAt g row sig f lists (keys.Row m) → row ≡ r
    by (Longer found is any) = let bad : false ≡ true = found.list in absurd cc
    by (New none is held) = same_row row r (sym held ∙ e)
    by (Same none is held) = let bad : true ≡ false = sym (and_from (same_token row.token m) (has_kind (keys.Row m)) same kind) ∙ is in absurd cc

pub put_has : (t m : Token) (ts us : List Token) → PutIn t ts us → list_any (same_token m) us ≡ (same_token m t || list_any (same_token m) ts)
put_has t m ts us put = ap (list_any (same_token m)) put.put ∙ any_put (same_token m) t put.front put.back ∙ ap (λ xs. same_token m t || list_any (same_token m) xs) (sym put.whole)

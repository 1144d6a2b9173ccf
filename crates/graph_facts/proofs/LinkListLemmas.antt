-- The lists in which a new row stands are those of the rows that its link columns name, and no other: ECMA-335 II.22.
use Rattle.std.proofs.Common.{◌≡◌, ◌∙◌, refl, sym, ap, subst, ℕ, Bool, true, false, cond, List, [], ◌∷◌, ◌++◌, Option, Some, None, is_some, not, arith}
use Rattle.std.specs.Prelude.{◌==◌, ◌&&◌, ◌||◌}
use Rattle.std.specs.List.{AllByRecursion, filter, flat_map, list_all, list_any, position}
use Rattle.std.specs.Option.{option_and_then, option_map}
use Rattle.std.proofs.lemmas.Bool.{and_from, and_parts, eqb-true, eq-eqb, or_left}
use Rattle.std.proofs.lemmas.List.Folds.{list_any-append}
use Rattle.cil_base.specs.Token.{Token, root}
use Rattle.md_schema.specs.Column.{ColumnOf}
use Rattle.md_schema.specs.Entry.{columns_of, holder_of, is_start, start_column_of, table_entry_of}
use Rattle.md_schema.specs.Link.{all_links, link_column_of, link_table_of}
use Rattle.md_schema.specs.Schema.{TableOf, tables}
use Rattle.md_schema.specs.declared.holder.Holder.{Holder}
use Rattle.md_schema.specs.declared.holder.Holder.TheVariants.{Root, Owner, Link as Listed}
use Rattle.md_schema.specs.declared.link.Link.{Link}
use Rattle.md_schema.specs.declared.link.Link.TheVariants.{InterfaceImpl, Constant, CustomAttribute, FieldMarshal, DeclSecurity, ClassLayout, FieldLayout, EventMap, PropertyMap, MethodSemantics, MethodImpl, ImplMap, FieldRVA, NestedClass, Nested, GenericParam, GenericParamConstraint}
use Rattle.node_model.specs.KeyKinds.{has_kind, is_root_holder, is_root_table, is_root_token, owns_table}
use Rattle.node_model.specs.Keys.{same_key}
use Rattle.node_model.specs.RowCells.{cell_in}
use Rattle.node_model.specs.RowLists.{added_by, added_lists, link_lists, ref_lists}
use Rattle.node_model.specs.declared.cell.Cell.{Cell}
use Rattle.node_model.specs.declared.cell.Cell.TheVariants as cells
use Rattle.node_model.specs.declared.key.Key.{Key}
use Rattle.node_model.specs.declared.key.Key.TheVariants.{Owned, Linked}
use Rattle.node_model.specs.inner.KeyEquality.{key_is, key_self}
use Rattle.node_model.proofs.SchemaLemmas.{found_passes}
use Rattle.node_model.proofs.TableLemmas.{position_any}
use Rattle.graph_facts.proofs.ColumnLemmas.{none_of_links}
use Rattle.graph_facts.proofs.MadeLemmas.{list_table}

-- the image itself lists no rows of a link's table
no_root : (l : Link) → is_root_holder (holder_of (link_table_of l)) ≡ false
unfolding tables
no_root InterfaceImpl = refl
no_root Constant = refl
no_root CustomAttribute = refl
no_root FieldMarshal = refl
no_root DeclSecurity = refl
no_root ClassLayout = refl
no_root FieldLayout = refl
no_root EventMap = refl
no_root PropertyMap = refl
no_root MethodSemantics = refl
no_root MethodImpl = refl
no_root ImplMap = refl
no_root FieldRVA = refl
no_root NestedClass = refl
no_root Nested = refl
no_root GenericParam = refl
no_root GenericParamConstraint = refl

-- and no row owns a run of them
abbrev starts_none : ℕ → TableOf → Bool
starts_none number t = not (list_any (λ (c : ColumnOf). is_start number c.kind) t.columns)

no_starts : (l : Link) → list_all (starts_none (link_table_of l)) tables ≡ true
unfolding tables
no_starts InterfaceImpl = refl
no_starts Constant = refl
no_starts CustomAttribute = refl
no_starts FieldMarshal = refl
no_starts DeclSecurity = refl
no_starts ClassLayout = refl
no_starts FieldLayout = refl
no_starts EventMap = refl
no_starts PropertyMap = refl
no_starts MethodSemantics = refl
no_starts MethodImpl = refl
no_starts ImplMap = refl
no_starts FieldRVA = refl
no_starts NestedClass = refl
no_starts Nested = refl
no_starts GenericParam = refl
no_starts GenericParamConstraint = refl

no_owner : (owner : ℕ) (l : Link) → owns_table owner (link_table_of l) ≡ false
unfolding owns_table
no_owner owner l = by (table_entry_of owner) refl
  where
    unless : (x : Bool) → not x ≡ true → x ≡ false
    unless true e = absurd cc
    unless false e = refl

    by : (o : Option TableOf) → table_entry_of owner ≡ o
        → is_some (option_and_then (λ columns. position (λ (column : ColumnOf). is_start (link_table_of l) column.kind) columns) (option_map (λ (table : TableOf). table.columns) o)) ≡ false
    by None is = refl
    by (Some t) is =
        let found = found_passes (λ (table : TableOf). table.number == owner) (starts_none (link_table_of l)) tables t (no_starts l) is in
        position_any (λ (c : ColumnOf). is_start (link_table_of l) c.kind) t.columns ∙ unless (list_any (λ (c : ColumnOf). is_start (link_table_of l) c.kind) t.columns) found.1

-- a table whose rows the image or an owner lists is no link's
pub owned_no_link : (owner : Token) (table : ℕ) (l : Link) → has_kind (Owned owner table) ≡ true → table ≡ link_table_of l → ⊥
unfolding is_root_table
owned_no_link owner table l kind is = by (is_root_token owner) (ap (λ t. has_kind (Owned owner t)) (sym is) ∙ kind)
  where
    clash : (x : Bool) → x ≡ true → x ≡ false → ⊥
    clash x a b = cc

    by : (b : Bool) → cond b (is_root_holder (holder_of (link_table_of l))) (owns_table owner.table (link_table_of l)) ≡ true → ⊥
    by true e = clash (is_root_holder (holder_of (link_table_of l))) e (no_root l)
    by false e = clash (owns_table owner.table (link_table_of l)) e (no_owner owner.table l)

abbrev of_table : ℕ → Link → Bool
of_table table l = link_table_of l == table

abbrev refs : ℕ → List Cell → Link → List Key
refs table cs l = ref_lists l (cell_in table (link_column_of l) cs)

-- a key is among the lists of a row's links
abbrev is_ref : Key → ℕ → List Cell → Link → Bool
is_ref q table cs l = (link_table_of l == table) && list_any (same_key q) (ref_lists l (cell_in table (link_column_of l) cs))

refs_any : (q : Key) (table : ℕ) (cs : List Cell) (links : List Link)
    → list_any (same_key q) (flat_map (λ l. ref_lists l (cell_in table (link_column_of l) cs)) (filter (λ l. link_table_of l == table) links)) ≡ list_any (is_ref q table cs) links
refs_any q table cs [] = refl
refs_any q table cs (l ∷ links) = by (link_table_of l == table) (refs_any q table cs links)
  where
    by : (b : Bool) → list_any (same_key q) (flat_map (λ l. ref_lists l (cell_in table (link_column_of l) cs)) (filter (λ l. link_table_of l == table) links)) ≡ list_any (is_ref q table cs) links
        → list_any (same_key q) (flat_map (λ l. ref_lists l (cell_in table (link_column_of l) cs)) (cond b (l ∷ filter (λ l. link_table_of l == table) links) (filter (λ l. link_table_of l == table) links)))
        ≡ ((b && list_any (same_key q) (ref_lists l (cell_in table (link_column_of l) cs))) || list_any (is_ref q table cs) links)
    by true is =
        list_any-append (same_key q) (ref_lists l (cell_in table (link_column_of l) cs)) (flat_map (λ l. ref_lists l (cell_in table (link_column_of l) cs)) (filter (λ l. link_table_of l == table) links))
        ∙ ap (λ x. list_any (same_key q) (ref_lists l (cell_in table (link_column_of l) cs)) || x) is
    by false is = is

-- the key of such a list names the link's table, and the row that its column names
record IsRef (table : ℕ) (cs : List Cell) (t : Token) (l : Link) : Type 0 where
  table_is : link_table_of l ≡ table
  names : cell_in table (link_column_of l) cs ≡ Some (cells.Ref t)

one_ref : (t : Token) (l x : Link) (o : Option Cell) → list_any (same_key (Linked t l)) (ref_lists x o) ≡ true → (l ≡ x) × (o ≡ Some (cells.Ref t))
one_ref t l x (Some (cells.Ref u)) e = by (same_key (Linked t l) (Linked u x)) refl e
  where
    link_is : Linked t l ≡ Linked u x → l ≡ x
    link_is e = cc

    row_is : Linked t l ≡ Linked u x → t ≡ u
    row_is e = cc

    by : (b : Bool) → same_key (Linked t l) (Linked u x) ≡ b → (b || false) ≡ true → (l ≡ x) × (Some (cells.Ref u) ≡ Some (cells.Ref t))
    by true is e =
        let same = key_is (Linked t l) (Linked u x) is in
        (link_is same, ap (λ k. Some (cells.Ref k)) (sym (row_is same)))
    by false is e = absurd cc
one_ref t l x _ e = absurd cc

ref_in : (t : Token) (l : Link) (table : ℕ) (cs : List Cell) (links : List Link) → list_any (is_ref (Linked t l) table cs) links ≡ true → IsRef table cs t l
ref_in t l table cs [] e = absurd cc
ref_in t l table cs (x ∷ links) e = by (is_ref (Linked t l) table cs x) refl e (ref_in t l table cs links)
  where
    by : (b : Bool) → is_ref (Linked t l) table cs x ≡ b → (b || list_any (is_ref (Linked t l) table cs) links) ≡ true
        → (list_any (is_ref (Linked t l) table cs) links ≡ true → IsRef table cs t l) → IsRef table cs t l
    by true is e more =
        let both = and_parts (link_table_of x == table) (list_any (same_key (Linked t l)) (refs table cs x)) is in
        let one = one_ref t l x (cell_in table (link_column_of x) cs) both.1 in
        record {
          table_is = ap link_table_of one.0 ∙ eqb-true (link_table_of x) table both.0;
          names = ap (λ k. cell_in table (link_column_of k) cs) one.0 ∙ one.1;
        }
    by false is e more = more e

-- each list of a new row is of its table
ref_tables : (table : ℕ) (x : Link) (o : Option Cell) → (link_table_of x == table) ≡ true → (rest : List Key) → AllByRecursion (λ k. list_table k ≡ table) rest
    → AllByRecursion (λ k. list_table k ≡ table) (ref_lists x o ++ rest)
ref_tables table x (Some (cells.Ref t)) is rest all = (eqb-true (link_table_of x) table is, all)
ref_tables table x _ is rest all = all

links_tables : (table : ℕ) (cs : List Cell) (links : List Link)
    → AllByRecursion (λ k. list_table k ≡ table) (flat_map (λ l. ref_lists l (cell_in table (link_column_of l) cs)) (filter (λ l. link_table_of l == table) links))
links_tables table cs [] = tt
links_tables table cs (l ∷ links) = by (link_table_of l == table) refl (links_tables table cs links)
  where
    by : (b : Bool) → (link_table_of l == table) ≡ b
        → AllByRecursion (λ k. list_table k ≡ table) (flat_map (λ l. ref_lists l (cell_in table (link_column_of l) cs)) (filter (λ l. link_table_of l == table) links))
        → AllByRecursion (λ k. list_table k ≡ table) (flat_map (λ l. ref_lists l (cell_in table (link_column_of l) cs)) (cond b (l ∷ filter (λ l. link_table_of l == table) links) (filter (λ l. link_table_of l == table) links)))
    by true is all = ref_tables table l (cell_in table (link_column_of l) cs) is (flat_map (λ l. ref_lists l (cell_in table (link_column_of l) cs)) (filter (λ l. link_table_of l == table) links)) all
    by false is all = all

pub added_tables : (table : ℕ) (cs : List Cell) → AllByRecursion (λ k. list_table k ≡ table) (added_lists table cs)
unfolding added_lists
added_tables table cs = by (holder_of table)
  where
    by : (o : Option Holder) → AllByRecursion (λ k. list_table k ≡ table) (added_by o table cs)
    by (Some Root) = (refl, tt)
    by (Some (Owner number)) = links_tables table cs all_links
    by (Some (Listed link)) = links_tables table cs all_links
    by None = links_tables table cs all_links

pub added_named : (table : ℕ) (cs : List Cell) (t : Token) (l : Link) → list_any (same_key (Linked t l)) (added_lists table cs) ≡ true → cell_in (link_table_of l) (link_column_of l) cs ≡ Some (cells.Ref t)
unfolding added_lists
added_named table cs t l e = by (holder_of table) e
  where
    linked : list_any (same_key (Linked t l)) (link_lists table cs) ≡ true → cell_in (link_table_of l) (link_column_of l) cs ≡ Some (cells.Ref t)
    linked e =
        let is = ref_in t l table cs all_links (sym (refs_any (Linked t l) table cs all_links) ∙ e) in
        ap (λ k. cell_in k (link_column_of l) cs) is.table_is ∙ is.names

    by : (o : Option Holder) → list_any (same_key (Linked t l)) (added_by o table cs) ≡ true → cell_in (link_table_of l) (link_column_of l) cs ≡ Some (cells.Ref t)
    by (Some Root) e = absurd cc
    by (Some (Owner number)) e = linked e
    by (Some (Listed link)) e = linked e
    by None e = linked e

pub added_listed : (table : ℕ) (cs : List Cell) (t : Token) (l : Link) → table ≡ link_table_of l → cell_in (link_table_of l) (link_column_of l) cs ≡ Some (cells.Ref t)
    → list_any (same_key (Linked t l)) (added_lists table cs) ≡ true
unfolding added_lists
added_listed table cs t l is names = by (holder_of table) refl
  where
    here : is_ref (Linked t l) table cs l ≡ true
    here =
        and_from (link_table_of l == table) (list_any (same_key (Linked t l)) (refs table cs l)) (eq-eqb (link_table_of l) table (sym is))
        (ap (λ o. list_any (same_key (Linked t l)) (ref_lists l o)) (ap (λ k. cell_in k (link_column_of l) cs) is ∙ names) ∙ or_left (same_key (Linked t l) (Linked t l)) false (key_self (Linked t l)))

    some_link : (b : Bool) → list_any (is_ref (Linked t l) table cs) all_links ≡ b → b ≡ true
    some_link true e = refl
    some_link false e = let bad : true ≡ false = sym here ∙ none_of_links (is_ref (Linked t l) table cs) l e in absurd cc

    linked : list_any (same_key (Linked t l)) (link_lists table cs) ≡ true
    linked = refs_any (Linked t l) table cs all_links ∙ some_link (list_any (is_ref (Linked t l) table cs) all_links) refl

    by : (o : Option Holder) → holder_of table ≡ o → list_any (same_key (Linked t l)) (added_by o table cs) ≡ true
    by (Some Root) held = let bad : true ≡ false = ap is_root_holder (sym held) ∙ ap (λ k. is_root_holder (holder_of k)) is ∙ no_root l in absurd cc
    by (Some (Owner number)) held = linked
    by (Some (Listed link)) held = linked
    by None held = linked

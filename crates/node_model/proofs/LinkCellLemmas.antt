-- The rows that the link columns of a new row name are there, and have the links' kinds: ECMA-335 II.22.
use Rattle.std.proofs.Common.{◌≡◌, refl, sym, ◌∙◌, ap, subst, ℕ, suc, ◌+◌, Bool, true, false, List, [], ◌∷◌, Option, Some, None, cond, find, not, map, length, arith, tests}
use Rattle.std.specs.Prelude.{◌==◌, ◌&&◌, nat_lt, slice_get}
use Rattle.std.specs.List.{filter, flat_map, list_all, position, position_or_len, zip}
use Rattle.std.specs.Option.{option_map, option_map_or}
use Rattle.std.proofs.lemmas.Bool.{and_parts}
use Rattle.std.proofs.lemmas.List.Folds.{list_all-append}
use Rattle.cil_base.specs.Steps.{◌>>=◌}
use Rattle.cil_base.specs.Token.{Token}
use Rattle.md_schema.specs.Column.{ColumnOf}
use Rattle.md_schema.specs.Link.{all_links, link_column_of, link_kind_of, link_table_of}
use Rattle.md_schema.specs.Reference.{may_name_of}
use Rattle.md_schema.specs.Schema.{tables}
use Rattle.md_schema.specs.declared.column.ColumnKind.{ColumnKind}
use Rattle.md_schema.specs.declared.link.Link.{Link}
use Rattle.md_schema.specs.declared.link.Link.TheVariants.{InterfaceImpl, Constant, CustomAttribute, FieldMarshal, DeclSecurity, ClassLayout, FieldLayout, EventMap, PropertyMap, MethodSemantics, MethodImpl, ImplMap, FieldRVA, NestedClass, Nested, GenericParam, GenericParamConstraint}
use Rattle.node_model.specs.EditRefusals.{is_bad_name}
use Rattle.node_model.specs.KeyKinds.{may_link}
use Rattle.node_model.specs.NamedTokens.{NamedToken, cell_names, cells_name, name_in}
use Rattle.node_model.specs.Nodes.{Nodes, is_live_row}
use Rattle.node_model.specs.PlacedCells.{placed_cell, row_placed}
use Rattle.node_model.specs.RowCells.{cell_in}
use Rattle.node_model.specs.RowFaults.{cell_columns}
use Rattle.node_model.specs.RowLists.{link_lists, ref_lists}
use Rattle.node_model.specs.declared.cell.Cell.{Cell}
use Rattle.node_model.specs.declared.cell.Cell.TheVariants as cells
use Rattle.node_model.specs.declared.key.Key.TheVariants.{Linked}
use Rattle.node_model.proofs.KnownLemmas.{knows, live_key}

-- the cell beside the first column that passes
abbrev cell_beside : (ℕ × ColumnOf → Bool) → List (ℕ × ColumnOf) → List Cell → Option Cell
cell_beside test [] cs = None
cell_beside test (c ∷ columns) [] = None
cell_beside test (c ∷ columns) (x ∷ cs) = cond (test c) (Some x) (cell_beside test columns cs)

get_suc : (o : Option ℕ) (x : Cell) (cs : List Cell) → (option_map suc o >>= λ place. slice_get (x ∷ cs) place) ≡ (o >>= λ place. slice_get cs place)
get_suc (Some i) x cs = refl
get_suc None x cs = refl

get_none : (o : Option ℕ) → (o >>= λ place. slice_get {X = Cell} [] place) ≡ None
get_none (Some i) = refl
get_none None = refl

suc_place : (n m : ℕ) → cond (nat_lt (1 + n) (suc m)) (Some (1 + n)) None ≡ option_map suc (cond (nat_lt n m) (Some n) None)
suc_place n m = ap (λ x. cond x (Some (1 + n)) None) less ∙ ap (λ k. cond (nat_lt n m) (Some k) None) one ∙ by_place (nat_lt n m)
  where
    less : nat_lt (1 + n) (suc m) ≡ nat_lt n m
    less = grind (arith, tests)

    one : 1 + n ≡ suc n
    one = omega arith

    by_place : (x : Bool) → cond x (Some (suc n)) None ≡ option_map suc (cond x (Some n) None)
    by_place true = refl
    by_place false = refl

abbrev at_first : Option ℕ
at_first = Some 0

zero_place : (m : ℕ) → cond (nat_lt 0 (suc m)) at_first None ≡ at_first
zero_place m = ap (λ x. cond x at_first None) above
  where
    above : nat_lt 0 (suc m) ≡ true
    above = grind (arith, tests)

position_suc : (test : ℕ × ColumnOf → Bool) (c : ℕ × ColumnOf) (columns : List (ℕ × ColumnOf)) → test c ≡ false → position test (c ∷ columns) ≡ option_map suc (position test columns)
position_suc test c columns e = rw e (suc_place (position_or_len test columns) (length columns))

position_zero : (test : ℕ × ColumnOf → Bool) (c : ℕ × ColumnOf) (columns : List (ℕ × ColumnOf)) → test c ≡ true → position test (c ∷ columns) ≡ Some 0
position_zero test c columns e = rw e (zero_place (length columns))

beside_is : (test : ℕ × ColumnOf → Bool) (columns : List (ℕ × ColumnOf)) (cs : List Cell) → (position test columns >>= λ place. slice_get cs place) ≡ cell_beside test columns cs
beside_is test [] cs = refl
beside_is test (c ∷ columns) [] = get_none (position test (c ∷ columns))
beside_is test (c ∷ columns) (x ∷ cs) = by_test (test c) refl (beside_is test columns cs)
  where
    by_test : (y : Bool) → test c ≡ y → (position test columns >>= λ place. slice_get cs place) ≡ cell_beside test columns cs
        → (position test (c ∷ columns) >>= λ place. slice_get (x ∷ cs) place) ≡ cond y (Some x) (cell_beside test columns cs)
    by_test true is more = ap (λ o. o >>= λ place. slice_get (x ∷ cs) place) (position_zero test c columns is)
    by_test false is more =
        ap (λ o. o >>= λ place. slice_get (x ∷ cs) place) (position_suc test c columns is) ∙ get_suc (position test columns) x cs ∙ more

-- the token is a live row of a table that the place allows
abbrev pub is_good_name : Nodes → NamedToken → Bool
is_good_name n x = not (is_bad_name n x)

abbrev Found : Nodes → (ℕ × ColumnOf → Bool) → List (ℕ × ColumnOf) → Token → Type 0
Found n test columns t = (c : ℕ × ColumnOf) × (find test columns ≡ Some c) × (is_good_name n (name_in (may_name_of c.1.kind) t) ≡ true)

-- a row that the cell beside a column names is a good one
beside_good : (n : Nodes) (table : ℕ) (test : ℕ × ColumnOf → Bool) (t : Token) (columns : List (ℕ × ColumnOf)) (cs : List Cell) → cell_beside test columns cs ≡ Some (cells.Ref t)
    → list_all (is_good_name n) (cells_name (map (placed_cell table) (zip columns cs))) ≡ true → Found n test columns t
beside_good n table test t [] cs e good = absurd cc
beside_good n table test t (c ∷ columns) [] e good = absurd cc
beside_good n table test t (c ∷ columns) (x ∷ cs) e good =
    let here = cell_names (placed_cell table (c, x)) x in
    let rest = cells_name (map (placed_cell table) (zip columns cs)) in
    let parts = and_parts (list_all (is_good_name n) here) (list_all (is_good_name n) rest) (sym (list_all-append (is_good_name n) here rest) ∙ good) in
    by_test (test c) refl e parts.0 (λ f. beside_good n table test t columns cs f parts.1)
  where
    one : (y : Bool) → (y && true) ≡ true → y ≡ true
    one true e = refl
    one false e = absurd cc

    by_test : (y : Bool) → test c ≡ y → cond y (Some x) (cell_beside test columns cs) ≡ Some (cells.Ref t)
        → list_all (is_good_name n) (cell_names (placed_cell table (c, x)) x) ≡ true
        → (cell_beside test columns cs ≡ Some (cells.Ref t) → Found n test columns t) → Found n test (c ∷ columns) t
    by_test true is e good more =
        let same : x ≡ cells.Ref t = cc in
        let names : list_all (is_good_name n) (cell_names (placed_cell table (c, cells.Ref t)) (cells.Ref t)) ≡ true =
        subst (λ y. list_all (is_good_name n) (cell_names (placed_cell table (c, y)) y) ≡ true) same good in
        (c, rw is refl, one (is_good_name n (name_in (may_name_of c.1.kind) t)) names)
    by_test false is e good more =
        let found = more e in
        (found.0, rw is found.1, found.2)

-- the first cell column with the number of a link's is that of the link
link_column_is : (l : Link) → option_map (λ (c : ℕ × ColumnOf). c.1.kind) (find (λ c. c.0 == link_column_of l) (cell_columns (link_table_of l))) ≡ link_kind_of l
unfolding tables
link_column_is InterfaceImpl = refl
link_column_is Constant = refl
link_column_is CustomAttribute = refl
link_column_is FieldMarshal = refl
link_column_is DeclSecurity = refl
link_column_is ClassLayout = refl
link_column_is FieldLayout = refl
link_column_is EventMap = refl
link_column_is PropertyMap = refl
link_column_is MethodSemantics = refl
link_column_is MethodImpl = refl
link_column_is ImplMap = refl
link_column_is FieldRVA = refl
link_column_is NestedClass = refl
link_column_is Nested = refl
link_column_is GenericParam = refl
link_column_is GenericParamConstraint = refl

may_link_is : (t : ℕ) (l : Link) (kind : ColumnKind) → link_kind_of l ≡ Some kind → may_link t l ≡ may_name_of kind t
unfolding may_link
may_link_is t l kind is = ap (λ o. option_map_or (λ kind. may_name_of kind t) o false) is

-- the row that a link's column names is there, and has the link's kind
linked_known : (n : Nodes) (l : Link) (cs : List Cell) (t : Token) → cell_in (link_table_of l) (link_column_of l) cs ≡ Some (cells.Ref t)
    → list_all (is_good_name n) (cells_name (row_placed (link_table_of l) cs)) ≡ true → knows n (Linked t l) ≡ true
linked_known n l cs t is good =
    let columns = cell_columns (link_table_of l) in
    let test : ℕ × ColumnOf → Bool = λ c. c.0 == link_column_of l in
    let found = beside_good n (link_table_of l) test t columns cs (sym (beside_is test columns cs) ∙ is) good in
    let parts = and_parts (is_live_row n t) (may_name_of found.0.1.kind t.table) (twice (is_live_row n t && may_name_of found.0.1.kind t.table) found.2) in
    let kind : link_kind_of l ≡ Some found.0.1.kind = sym (link_column_is l) ∙ ap (λ o. option_map (λ (c : ℕ × ColumnOf). c.1.kind) o) found.1 in
    live_key n (Linked t l) parts.0 (may_link_is t.table l found.0.1.kind kind ∙ parts.1)
  where
    twice : (x : Bool) → not (not x) ≡ true → x ≡ true
    twice true e = refl
    twice false e = absurd cc

-- so are the lists of all rows that the link columns name
pub links_known : (n : Nodes) (table : ℕ) (cs : List Cell) → list_all (is_good_name n) (cells_name (row_placed table cs)) ≡ true → list_all (knows n) (link_lists table cs) ≡ true
links_known n table cs good = by_links all_links
  where
    by_cell : (l : Link) → (link_table_of l == table) ≡ true → (o : Option Cell) → cell_in table (link_column_of l) cs ≡ o → list_all (knows n) (ref_lists l o) ≡ true
    by_cell l same (Some (cells.Ref t)) is =
        let table_is : table ≡ link_table_of l = grind (arith, tests) in
        rw (linked_known n l cs t (subst (λ u. cell_in u (link_column_of l) cs ≡ Some (cells.Ref t)) table_is is)
        (subst (λ u. list_all (is_good_name n) (cells_name (row_placed u cs)) ≡ true) table_is good)) refl
    by_cell l same _ is = refl

    by_test : (l : Link) (links : List Link) (x : Bool) → (link_table_of l == table) ≡ x
        → list_all (knows n) (flat_map (λ l. ref_lists l (cell_in table (link_column_of l) cs)) (filter (λ l. link_table_of l == table) links)) ≡ true
        → list_all (knows n) (flat_map (λ l. ref_lists l (cell_in table (link_column_of l) cs)) (cond x (l ∷ filter (λ l. link_table_of l == table) links) (filter (λ l. link_table_of l == table) links))) ≡ true
    by_test l links true is more =
        list_all-append (knows n) (ref_lists l (cell_in table (link_column_of l) cs))
        (flat_map (λ l. ref_lists l (cell_in table (link_column_of l) cs)) (filter (λ l. link_table_of l == table) links))
        ∙ rw (by_cell l is (cell_in table (link_column_of l) cs) refl, more) refl
    by_test l links false is more = more

    by_links : (links : List Link) → list_all (knows n) (flat_map (λ l. ref_lists l (cell_in table (link_column_of l) cs)) (filter (λ l. link_table_of l == table) links)) ≡ true
    by_links [] = refl
    by_links (l ∷ links) = by_test l links (link_table_of l == table) refl (by_links links)

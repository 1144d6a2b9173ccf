-- The cell of a row in a column, as the cell that stands beside the column; and the column of each link: ECMA-335 II.22.
use Rattle.std.proofs.Common.{◌≡◌, ◌∙◌, refl, sym, ap, subst, ℕ, zero, suc, ◌+◌, Bool, true, false, cond, List, [], ◌∷◌, Option, Some, None, find, length, nat_lt, arith, tests}
use Rattle.std.specs.Prelude.{◌==◌, ◌&&◌, ◌||◌, slice_get}
use Rattle.std.specs.List.{AllByRecursion, list_any, position, position_or_len, zip}
use Rattle.std.specs.Option.{option_map}
use Rattle.std.proofs.lemmas.Bool.{or_parts}
use Rattle.cil_base.specs.Steps.{◌>>=◌}
use Rattle.md_schema.specs.Column.{ColumnOf}
use Rattle.md_schema.specs.Link.{all_links, link_column_of, link_kind_of, link_table_of}
use Rattle.md_schema.specs.Schema.{tables}
use Rattle.md_schema.specs.declared.link.Link.{Link}
use Rattle.md_schema.specs.declared.link.Link.TheVariants.{InterfaceImpl, Constant, CustomAttribute, FieldMarshal, DeclSecurity, ClassLayout, FieldLayout, EventMap, PropertyMap, MethodSemantics, MethodImpl, ImplMap, FieldRVA, NestedClass, Nested, GenericParam, GenericParamConstraint}
use Rattle.node_model.specs.Nodes.{Nodes}
use Rattle.node_model.specs.RowCells.{cells_with}
use Rattle.node_model.specs.RowFaults.{cell_columns}
use Rattle.node_model.specs.declared.cell.Cell.{Cell}
use Rattle.graph_facts.specs.RowHolds.{HoldsCell, HoldsCells}

-- a column with its number
abbrev pub Placed : Type 0
Placed = ℕ × ColumnOf

-- the first column that passes, with the cell beside it
abbrev pub beside : (Placed → Bool) → List Placed → List Cell → Option (Placed × Cell)
beside test columns cs = find (λ (p : Placed × Cell). test p.0) (zip columns cs)

abbrev pub beside_cell : (Placed → Bool) → List Placed → List Cell → Option Cell
beside_cell test columns cs = option_map (λ (p : Placed × Cell). p.1) (beside test columns cs)

later : (n m : ℕ) → cond (nat_lt (1 + n) (suc m)) (Some (1 + n)) None ≡ option_map suc (cond (nat_lt n m) (Some n) None)
later n m = ap (λ x. cond x (Some (1 + n)) None) less ∙ ap (λ k. cond (nat_lt n m) (Some k) None) one ∙ by (nat_lt n m)
  where
    less : nat_lt (1 + n) (suc m) ≡ nat_lt n m
    less = grind (arith, tests)

    one : 1 + n ≡ suc n
    one = omega arith

    by : (x : Bool) → cond x (Some (suc n)) None ≡ option_map suc (cond x (Some n) None)
    by true = refl
    by false = refl

abbrev place_of_first : Option ℕ
place_of_first = Some 0

here : (m : ℕ) → cond (nat_lt 0 (suc m)) place_of_first None ≡ place_of_first
here m = ap (λ x. cond x place_of_first None) above
  where
    above : nat_lt 0 (suc m) ≡ true
    above = grind (arith, tests)

first_place : (test : Placed → Bool) (c : Placed) (columns : List Placed) → test c ≡ true → position test (c ∷ columns) ≡ Some 0
first_place test c columns e = rw e (here (length columns))

later_place : (test : Placed → Bool) (c : Placed) (columns : List Placed) → test c ≡ false → position test (c ∷ columns) ≡ option_map suc (position test columns)
later_place test c columns e = rw e (later (position_or_len test columns) (length columns))

next_cell : (o : Option ℕ) (x : Cell) (cs : List Cell) → (option_map suc o >>= λ place. slice_get (x ∷ cs) place) ≡ (o >>= λ place. slice_get cs place)
next_cell (Some i) x cs = refl
next_cell None x cs = refl

no_cell : (o : Option ℕ) → (o >>= λ place. slice_get {X = Cell} [] place) ≡ None
no_cell (Some i) = refl
no_cell None = refl

-- the cell at the place of a column is the one beside it
pub beside_is : (test : Placed → Bool) (columns : List Placed) (cs : List Cell) → (position test columns >>= λ place. slice_get cs place) ≡ beside_cell test columns cs
beside_is test [] cs = refl
beside_is test (c ∷ columns) [] = no_cell (position test (c ∷ columns))
beside_is test (c ∷ columns) (x ∷ cs) = by (test c) refl (beside_is test columns cs)
  where
    by : (y : Bool) → test c ≡ y → (position test columns >>= λ place. slice_get cs place) ≡ beside_cell test columns cs
        → (position test (c ∷ columns) >>= λ place. slice_get (x ∷ cs) place) ≡ option_map (λ (p : Placed × Cell). p.1) (cond y (Some (c, x)) (beside test columns cs))
    by true is more = ap (λ o. o >>= λ place. slice_get (x ∷ cs) place) (first_place test c columns is)
    by false is more = ap (λ o. o >>= λ place. slice_get (x ∷ cs) place) (later_place test c columns is) ∙ next_cell (position test columns) x cs ∙ more

-- a cell beside a column is within the column's bounds
pub beside_holds : (n : Nodes) (test : Placed → Bool) (columns : List Placed) (cs : List Cell) (p : Placed × Cell) → HoldsCells n columns cs → beside test columns cs ≡ Some p → HoldsCell n p.0.1.kind p.1
beside_holds n test [] cs p hold e = absurd cc
beside_holds n test (c ∷ columns) [] p hold e = absurd hold
beside_holds n test (c ∷ columns) (x ∷ cs) p hold e = by (test c) e (beside_holds n test columns cs p hold.1)
  where
    same : (a b : Placed × Cell) → Some a ≡ Some b → a ≡ b
    same a b e = cc

    by : (y : Bool) → cond y (Some (c, x)) (beside test columns cs) ≡ Some p → (beside test columns cs ≡ Some p → HoldsCell n p.0.1.kind p.1) → HoldsCell n p.0.1.kind p.1
    by true e more = subst (λ (q : Placed × Cell). HoldsCell n q.0.1.kind q.1) (same (c, x) p e) hold.0
    by false e more = more e

-- another cell stands in the place of a column
next_with : (o : Option ℕ) (cell x : Cell) (cs : List Cell) → cells_with (option_map suc o) cell (x ∷ cs) ≡ x ∷ cells_with o cell cs
next_with (Some i) cell x cs = refl
next_with None cell x cs = refl

abbrev pub with_beside : (Placed → Bool) → List Placed → Cell → List Cell → List Cell
with_beside test columns cell cs = cells_with (position test columns) cell cs

with_first : (test : Placed → Bool) (c : Placed) (columns : List Placed) (cell x : Cell) (cs : List Cell) → test c ≡ true → with_beside test (c ∷ columns) cell (x ∷ cs) ≡ cell ∷ cs
with_first test c columns cell x cs e = ap (λ o. cells_with o cell (x ∷ cs)) (first_place test c columns e)

with_later : (test : Placed → Bool) (c : Placed) (columns : List Placed) (cell x : Cell) (cs : List Cell) → test c ≡ false → with_beside test (c ∷ columns) cell (x ∷ cs) ≡ x ∷ with_beside test columns cell cs
with_later test c columns cell x cs e = ap (λ o. cells_with o cell (x ∷ cs)) (later_place test c columns e) ∙ next_with (position test columns) cell x cs

pub with_holds : (n : Nodes) (test : Placed → Bool) (columns : List Placed) (cell : Cell) (cs : List Cell) → HoldsCells n columns cs
    → ((c : Placed) → find test columns ≡ Some c → HoldsCell n c.1.kind cell) → HoldsCells n columns (with_beside test columns cell cs)
with_holds n test [] cell cs hold given = hold
with_holds n test (c ∷ columns) cell [] hold given = absurd hold
with_holds n test (c ∷ columns) cell (x ∷ cs) hold given = by (test c) refl given (with_holds n test columns cell cs hold.1)
  where
    by : (y : Bool) → test c ≡ y → ((d : Placed) → cond y (Some c) (find test columns) ≡ Some d → HoldsCell n d.1.kind cell)
        → (((d : Placed) → find test columns ≡ Some d → HoldsCell n d.1.kind cell) → HoldsCells n columns (with_beside test columns cell cs))
        → HoldsCells n (c ∷ columns) (with_beside test (c ∷ columns) cell (x ∷ cs))
    by true is given more = subst (HoldsCells n (c ∷ columns)) (sym (with_first test c columns cell x cs is)) (given c refl, hold.1)
    by false is given more = subst (HoldsCells n (c ∷ columns)) (sym (with_later test c columns cell x cs is)) (hold.0, more given)

-- the cells beside other columns stay
pub with_other : (test other : Placed → Bool) (columns : List Placed) (cell : Cell) (cs : List Cell) → ((c : Placed) → test c ≡ true → other c ≡ false)
    → beside_cell other columns (with_beside test columns cell cs) ≡ beside_cell other columns cs
with_other test other [] cell cs apart = refl
with_other test other (c ∷ columns) cell [] apart = ap (beside_cell other (c ∷ columns)) (none (position test (c ∷ columns)))
  where
    none : (o : Option ℕ) → cells_with o cell [] ≡ []
    none (Some i) = refl
    none None = refl
with_other test other (c ∷ columns) cell (x ∷ cs) apart = by (test c) refl (apart c) (with_other test other columns cell cs apart)
  where
    passed : (y : Bool) → other c ≡ y → y ≡ false → option_map (λ (p : Placed × Cell). p.1) (cond y (Some (c, cell)) (beside other columns cs)) ≡ option_map (λ (p : Placed × Cell). p.1) (cond y (Some (c, x)) (beside other columns cs))
    passed true is e = absurd cc
    passed false is e = refl

    rest : (y : Bool) → beside_cell other columns (with_beside test columns cell cs) ≡ beside_cell other columns cs
        → option_map (λ (p : Placed × Cell). p.1) (cond y (Some (c, x)) (beside other columns (with_beside test columns cell cs))) ≡ option_map (λ (p : Placed × Cell). p.1) (cond y (Some (c, x)) (beside other columns cs))
    rest true more = refl
    rest false more = more

    by : (y : Bool) → test c ≡ y → (y ≡ true → other c ≡ false) → beside_cell other columns (with_beside test columns cell cs) ≡ beside_cell other columns cs
        → beside_cell other (c ∷ columns) (with_beside test (c ∷ columns) cell (x ∷ cs)) ≡ beside_cell other (c ∷ columns) (x ∷ cs)
    by true is differs more = ap (beside_cell other (c ∷ columns)) (with_first test c columns cell x cs is) ∙ passed (other c) refl (differs refl)
    by false is differs more = ap (beside_cell other (c ∷ columns)) (with_later test c columns cell x cs is) ∙ rest (other c) more

-- a test that no link passes fails at each
none_at : (p : Link → Bool) (links : List Link) (i : ℕ) (l : Link) → list_any p links ≡ false → slice_get links i ≡ Some l → p l ≡ false
none_at p [] i l e at = absurd cc
none_at p (x ∷ links) zero l e at = let same : x ≡ l = cc in ap p (sym same) ∙ (or_parts (p x) (list_any p links) e).0
none_at p (x ∷ links) (suc i) l e at = none_at p links i l (or_parts (p x) (list_any p links) e).1 at

pub none_of_links : (p : Link → Bool) (l : Link) → list_any p all_links ≡ false → p l ≡ false
none_of_links p InterfaceImpl e = none_at p all_links 0 InterfaceImpl e refl
none_of_links p Constant e = none_at p all_links 1 Constant e refl
none_of_links p CustomAttribute e = none_at p all_links 2 CustomAttribute e refl
none_of_links p FieldMarshal e = none_at p all_links 3 FieldMarshal e refl
none_of_links p DeclSecurity e = none_at p all_links 4 DeclSecurity e refl
none_of_links p ClassLayout e = none_at p all_links 5 ClassLayout e refl
none_of_links p FieldLayout e = none_at p all_links 6 FieldLayout e refl
none_of_links p EventMap e = none_at p all_links 7 EventMap e refl
none_of_links p PropertyMap e = none_at p all_links 8 PropertyMap e refl
none_of_links p MethodSemantics e = none_at p all_links 9 MethodSemantics e refl
none_of_links p MethodImpl e = none_at p all_links 10 MethodImpl e refl
none_of_links p ImplMap e = none_at p all_links 11 ImplMap e refl
none_of_links p FieldRVA e = none_at p all_links 12 FieldRVA e refl
none_of_links p NestedClass e = none_at p all_links 13 NestedClass e refl
none_of_links p Nested e = none_at p all_links 14 Nested e refl
none_of_links p GenericParam e = none_at p all_links 15 GenericParam e refl
none_of_links p GenericParamConstraint e = none_at p all_links 16 GenericParamConstraint e refl

-- the test for a link's column, and the cell columns of its table
abbrev pub at_link : Link → Placed → Bool
at_link l c = c.0 == link_column_of l

-- the first cell column of the number is the link's
pub link_column_is : (l : Link) → option_map (λ (c : Placed). c.1.kind) (find (at_link l) (cell_columns (link_table_of l))) ≡ link_kind_of l
unfolding tables
link_column_is InterfaceImpl = refl
link_column_is Constant = refl
link_column_is CustomAttribute = refl
link_column_is FieldMarshal = refl
link_column_is DeclSecurity = refl
link_column_is ClassLayout = refl
link_column_is FieldLayout = refl
link_column_is EventMap = refl
link_column_is PropertyMap = refl
link_column_is MethodSemantics = refl
link_column_is MethodImpl = refl
link_column_is ImplMap = refl
link_column_is FieldRVA = refl
link_column_is NestedClass = refl
link_column_is Nested = refl
link_column_is GenericParam = refl
link_column_is GenericParamConstraint = refl

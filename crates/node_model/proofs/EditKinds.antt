-- The keys of an edit that fits its table are of kinds that the table has: ECMA-335 II.22.
use Rattle.std.proofs.Common.{◌≡◌, refl, ◌∙◌, ap, ℕ, Bool, true, false, List, [], ◌∷◌, Option, Some, None, map, is_some, arith, tests}
use Rattle.std.specs.Prelude.{◌==◌, ◌||◌}
use Rattle.std.specs.List.{enumerate_from, filter, list_all, list_any}
use Rattle.std.specs.Option.{unwrap_or}
use Rattle.std.proofs.lemmas.Bool.{and_parts}
use Rattle.md_schema.specs.Column.{ColumnOf, is_cell_kind}
use Rattle.md_schema.specs.Entry.{columns_of}
use Rattle.md_schema.specs.Schema.{tables}
use Rattle.md_schema.specs.Tables.{nested_class}
use Rattle.sig_tree.specs.declared.tree.SigTree.{SigTree}
use Rattle.sig_tree.specs.declared.tree.SigTree.TheVariants as sorts
use Rattle.node_model.specs.ColumnFit.{may_set}
use Rattle.node_model.specs.KeyKinds.{has_sig}
use Rattle.node_model.specs.PlacedCells.{placed_cell, set_placed}
use Rattle.node_model.specs.Signatures.{sort_fits, tables_of_sort}
use Rattle.node_model.specs.declared.cell.Cell.{Cell}

pub set_kind : (table column : ℕ) (cell : Cell) → list_any may_set (set_placed table column cell) ≡ true → is_some (columns_of table) ≡ true
set_kind table column cell e = by_columns (columns_of table) e
  where
    by_columns : (o : Option (List ColumnOf))
        → list_any may_set (map (λ c. placed_cell table (c, cell)) (filter (λ c. c.0 == column) (filter (λ c. is_cell_kind c.1.kind) (enumerate_from 0 (unwrap_or o []))))) ≡ true
        → is_some o ≡ true
    by_columns (Some columns) e = refl
    by_columns None e = absurd cc

sorts_have : (sig : SigTree) → list_all has_sig (tables_of_sort sig) ≡ true
unfolding has_sig tables
sorts_have (sorts.Method m) = refl
sorts_have (sorts.Field t) = refl
sorts_have (sorts.Locals ts) = refl
sorts_have (sorts.Property this t params) = refl
sorts_have (sorts.Inst args) = refl
sorts_have (sorts.Plain t) = refl

one_of : (P : ℕ → Bool) (t : ℕ) (ns : List ℕ) → list_any (λ n. n == t) ns ≡ true → list_all P ns ≡ true → P t ≡ true
one_of P t [] e all = absurd cc
one_of P t (n ∷ ns) e all =
    let parts = and_parts (P n) (list_all P ns) all in
    by_test (n == t) refl e parts.0 (λ f. one_of P t ns f parts.1)
  where
    by_test : (x : Bool) → (n == t) ≡ x → (x || list_any (λ n. n == t) ns) ≡ true → P n ≡ true → (list_any (λ n. n == t) ns ≡ true → P t ≡ true) → P t ≡ true
    by_test true is e here more =
        let same : t ≡ n = grind (arith, tests) in
        ap P same ∙ here
    by_test false is e here more = more e

-- a table whose signatures are of a sort has signatures
pub sort_has_sig : (table : ℕ) (sig : SigTree) → sort_fits table sig ≡ true → has_sig table ≡ true
sort_has_sig table sig fits = one_of has_sig table (tables_of_sort sig) fits (sorts_have sig)

nested_some : is_some (columns_of nested_class) ≡ true
unfolding tables
nested_some = refl

pub nested_kind : (table : ℕ) → (table == nested_class) ≡ true → is_some (columns_of table) ≡ true
nested_kind table e =
    let same : table ≡ nested_class = grind (arith, tests) in
    ap (λ t. is_some (columns_of t)) same ∙ nested_some

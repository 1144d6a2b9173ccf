-- The cells of an edit that is not refused are within the bounds of their columns: ECMA-335 II.22.
use Rattle.std.proofs.Common.{◌≡◌, ◌∙◌, refl, sym, ap, subst, ℕ, zero, suc, ◌≤◌, Bool, true, false, cond, List, [], ◌∷◌, map, length, Option, Some, None, find, not, is_some, nat_lt, arith}
use Rattle.std.specs.Prelude.{◌==◌, ◌&&◌, ◌||◌, min}
use Rattle.std.specs.List.{AllByRecursion, filter, list_all, list_any, position, zip}
use Rattle.std.specs.Option.{option_map, option_or}
use Rattle.std.proofs.lemmas.Bool.{and_parts, eqb-true, or_parts}
use Rattle.std.proofs.lemmas.Bool.Decides.{nat_tests}
use Rattle.std.proofs.lemmas.List.Folds.{list_all-append}
use Rattle.cil_base.specs.Steps.{◌>>=◌}
use Rattle.cil_base.specs.Token.{Token}
use Rattle.md_heaps.specs.LaidHeaps.{IsText}
use Rattle.md_schema.specs.Column.{ColumnOf}
use Rattle.md_schema.specs.Entry.{column_of}
use Rattle.md_schema.specs.Reference.{may_name_of}
use Rattle.md_schema.specs.declared.column.ColumnKind.{ColumnKind}
use Rattle.node_model.specs.ColumnFit.{bad_row, cell_fits, first_misfit, lesser, may_set, sig_fits_table, told_unless}
use Rattle.node_model.specs.EditRefusals.{early_conditions, early_refusal, first_made, first_some, greatest_number, is_bad_name, number_refusal, text_refusal, wide_number}
use Rattle.node_model.specs.NamedTokens.{cell_names, cells_name, name_in}
use Rattle.node_model.specs.Nodes.{Nodes, is_live_row}
use Rattle.node_model.specs.PlacedCells.{PlacedCell, edit_cells, placed_cell, row_placed, set_placed}
use Rattle.node_model.specs.RowCells.{is_link_column}
use Rattle.node_model.specs.RowFaults.{cell_columns}
use Rattle.node_model.specs.declared.cell.Cell.{Cell}
use Rattle.node_model.specs.declared.cell.Cell.TheVariants as cells
use Rattle.node_model.specs.declared.edit.Edit.{Edit}
use Rattle.node_model.specs.declared.edit.OptSig.{OptSig}
use Rattle.node_model.specs.declared.edit_refusal.EditRefusal.{EditRefusal}
use Rattle.node_model.specs.declared.edit_refusal.EditRefusal.TheVariants.{BadText, NumberTooWide}
use Rattle.node_model.proofs.EarlyLemmas.{AllNone, map_none, or_none, told_none}
use Rattle.node_model.proofs.KnownLemmas.{live_there}
use Rattle.node_model.proofs.LinkCellLemmas.{is_good_name}
use Rattle.node_model.proofs.TableLemmas.{position_any}
use Rattle.graph_facts.specs.OfTypes.{CellOfType}
use Rattle.graph_facts.specs.RowHolds.{CellWithin, HoldsCell, HoldsCells}
use Rattle.graph_facts.proofs.ColumnLemmas.{Placed}
use Rattle.graph_facts.proofs.RowReadLemmas.{IsColumn, cell_columns_are}

abbrev number_told : PlacedCell → Option EditRefusal
number_told c = number_refusal c.kind c.cell

abbrev text_told : PlacedCell → Option EditRefusal
text_told c = text_refusal c.cell

-- what is not refused of the cells of an edit
pub record CellsPass (n : Nodes) (placed : List PlacedCell) : Type 0 where
  pub numbers : first_made (λ (c : PlacedCell). number_refusal c.kind c.cell) placed ≡ None
  pub texts : first_made (λ (c : PlacedCell). text_refusal c.cell) placed ≡ None
  pub names : list_all (is_good_name n) (cells_name placed) ≡ true

none_all : {A : Type 0} (xs : List (Option A)) → first_some xs ≡ None → AllNone xs
none_all [] e = tt
none_all (x ∷ xs) e =
    let parts = or_none x (first_some xs) e in
    (parts.0, none_all xs parts.1)

-- an edit that is not refused has no number that is too wide, and no text with a zero byte
pub cells_pass : (n : Nodes) (e : Edit) → early_refusal n e ≡ None → list_all (is_good_name n) (cells_name (edit_cells e)) ≡ true → CellsPass n (edit_cells e)
unfolding early_refusal
cells_pass n e early names =
    let all = none_all (early_conditions n e) early in
    record { numbers = all.1.1.1.0; texts = all.1.1.1.1.0; names = names }

narrow : (value limit : ℕ) → wide_number value limit ≡ None → value ≤ limit
narrow value limit e = by (nat_lt limit value) refl e
  where
    by : (b : Bool) → nat_lt limit value ≡ b → cond b (Some (NumberTooWide value limit)) None ≡ None → value ≤ limit
    by true is e = absurd cc
    by false is e = grind (arith, nat_tests)

no_zero : (text : List ℕ) → text_refusal (cells.Text text) ≡ None → IsText text
no_zero text e = sym (position_any (λ byte. byte == 0) text) ∙ ap is_some (map_none BadText (position (λ byte. byte == 0) text) e)

twice : (x : Bool) → not (not x) ≡ true → x ≡ true
twice true e = refl
twice false e = absurd cc

cell_within : (n : Nodes) (table : ℕ) (c : Placed) (cell : Cell) → number_refusal c.1.kind cell ≡ None → text_refusal cell ≡ None
    → list_all (is_good_name n) (cell_names (placed_cell table (c, cell)) cell) ≡ true → CellOfType cell → CellWithin n c.1.kind cell
cell_within n table c (cells.Num value) number text names typed = λ limit is. narrow value limit (subst (λ o. (o >>= λ limit. wide_number value limit) ≡ None) is number)
cell_within n table c (cells.Text t) number text names typed = no_zero t text
cell_within n table c (cells.Guid bytes) number text names typed = typed
cell_within n table c cells.NoGuid number text names typed = tt
cell_within n table c (cells.Blob bytes) number text names typed = tt
cell_within n table c (cells.Ref t) number text names typed =
    let good = (and_parts (is_good_name n (name_in (may_name_of c.1.kind) t)) true names).0 in
    let parts = and_parts (is_live_row n t) (may_name_of c.1.kind t.table) (twice (is_live_row n t && may_name_of c.1.kind t.table) good) in
    record { allowed = parts.1; there = live_there n t parts.0 }
cell_within n table c cells.NoRef number text names typed = tt

-- the parts of what is not refused of a first cell and of the rest
pass_first : (n : Nodes) (p : PlacedCell) (rest : List PlacedCell) → CellsPass n (p ∷ rest)
    → (number_refusal p.kind p.cell ≡ None) × (text_refusal p.cell ≡ None) × (list_all (is_good_name n) (cell_names p p.cell) ≡ true) × CellsPass n rest
pass_first n p rest pass =
    let numbers = or_none (number_refusal p.kind p.cell) (first_made number_told rest) pass.numbers in
    let texts = or_none (text_refusal p.cell) (first_made text_told rest) pass.texts in
    let names = and_parts (list_all (is_good_name n) (cell_names p p.cell)) (list_all (is_good_name n) (cells_name rest))
    (sym (list_all-append (is_good_name n) (cell_names p p.cell) (cells_name rest)) ∙ pass.names) in
    (numbers.0, texts.0, names.0, record { numbers = numbers.1; texts = texts.1; names = names.1 })

abbrev misfits : PlacedCell → Bool
misfits c = not (cell_fits c.kind c.cell)

cells_made : (n : Nodes) (table : ℕ) (columns : List Placed) (cs : List Cell) → length cs ≡ length columns → list_any misfits (map (placed_cell table) (zip columns cs)) ≡ false
    → CellsPass n (map (placed_cell table) (zip columns cs)) → AllByRecursion CellOfType cs → HoldsCells n columns cs
cells_made n table [] [] len fits pass typed = refl
cells_made n table [] (x ∷ cs) len fits pass typed = absurd (omega (arith, len))
cells_made n table (c ∷ columns) [] len fits pass typed = absurd (omega (arith, len))
cells_made n table (c ∷ columns) (x ∷ cs) len fits pass typed =
    let rest = map (placed_cell table) (zip columns cs) in
    let parts = pass_first n (placed_cell table (c, x)) rest pass in
    let fit = or_parts (not (cell_fits c.1.kind x)) (list_any misfits rest) fits in (
      record { fits = unless (cell_fits c.1.kind x) fit.0; within = cell_within n table c x parts.0 parts.1 parts.2 typed.0 },
      cells_made n table columns cs (omega (arith, len)) fit.1 parts.3 typed.1,
    )
  where
    unless : (x : Bool) → not x ≡ false → x ≡ true
    unless true e = refl
    unless false e = absurd cc

-- a new row has as many cells as its table has cell columns, and each fits its column
pub row_made : (n : Nodes) (stands : Bool) (table : ℕ) (cs : List Cell) (sig : OptSig) → bad_row stands table cs sig ≡ None → CellsPass n (row_placed table cs) → AllByRecursion CellOfType cs
    → HoldsCells n (cell_columns table) cs
unfolding bad_row
row_made n stands table cs sig e pass typed =
    let columns = cell_columns table in
    let a = or_none (first_misfit table cs) (option_or (lesser (length cs) (length columns)) (option_or (told_unless stands 0) (told_unless (sig_fits_table table sig) (length cs)))) e in
    let b = or_none (lesser (length cs) (length columns)) (option_or (told_unless stands 0) (told_unless (sig_fits_table table sig) (length cs))) a.1 in
    let same = eqb-true (length cs) (length columns) (told_none (length cs == length columns) (min (length cs) (length columns)) b.0) in
    cells_made n table columns cs same (sym (position_any misfits (row_placed table cs)) ∙ ap is_some a.0) pass typed

-- the cell that is set fits the column of its number, which is no link
pub record SetsCell (n : Nodes) (table column : ℕ) (cell : Cell) : Type 0 where
  pub found : Placed
  pub number : (found.0 == column) ≡ true
  pub is_column : IsColumn table found
  pub holds : HoldsCell n found.1.kind cell
  pub free : is_link_column table found.0 ≡ false

abbrev with_cell : ℕ → Cell → Placed → PlacedCell
with_cell table cell c = placed_cell table (c, cell)

abbrev of_number : ℕ → List Placed → List Placed
of_number column columns = filter (λ c. c.0 == column) columns

set_in : (n : Nodes) (table column : ℕ) (cell : Cell) (columns : List Placed) → AllByRecursion (IsColumn table) columns
    → list_any may_set (map (λ c. placed_cell table (c, cell)) (filter (λ c. c.0 == column) columns)) ≡ true
    → CellsPass n (map (λ c. placed_cell table (c, cell)) (filter (λ c. c.0 == column) columns)) → CellOfType cell → SetsCell n table column cell
set_in n table column cell [] all may pass typed = absurd cc
set_in n table column cell (c ∷ columns) all may pass typed = by (c.0 == column) refl may pass (λ may pass. set_in n table column cell columns all.1 may pass typed)
  where
    unless : (x : Bool) → not x ≡ true → x ≡ false
    unless true e = absurd cc
    unless false e = refl

    by_may : (c.0 == column) ≡ true → CellsPass n (with_cell table cell c ∷ map (with_cell table cell) (of_number column columns)) → (b : Bool) → may_set (with_cell table cell c) ≡ b → (b || list_any may_set (map (with_cell table cell) (of_number column columns))) ≡ true
        → (list_any may_set (map (with_cell table cell) (of_number column columns)) ≡ true → CellsPass n (map (with_cell table cell) (of_number column columns)) → SetsCell n table column cell) → SetsCell n table column cell
    by_may number pass true is e again =
        let parts = pass_first n (with_cell table cell c) (map (with_cell table cell) (of_number column columns)) pass in
        let may = and_parts (cell_fits c.1.kind cell) (not (is_link_column table c.0)) is in
        record {
          found = c;
          number = number;
          is_column = all.0;
          holds = record { fits = may.0; within = cell_within n table c cell parts.0 parts.1 parts.2 typed };
          free = unless (is_link_column table c.0) may.1;
        }
    by_may number pass false is e again = again e (pass_first n (with_cell table cell c) (map (with_cell table cell) (of_number column columns)) pass).3

    by : (b : Bool) → (c.0 == column) ≡ b → list_any may_set (map (λ c. placed_cell table (c, cell)) (cond b (c ∷ filter (λ c. c.0 == column) columns) (filter (λ c. c.0 == column) columns))) ≡ true
        → CellsPass n (map (λ c. placed_cell table (c, cell)) (cond b (c ∷ filter (λ c. c.0 == column) columns) (filter (λ c. c.0 == column) columns)))
        → (list_any may_set (map (with_cell table cell) (of_number column columns)) ≡ true → CellsPass n (map (with_cell table cell) (of_number column columns)) → SetsCell n table column cell) → SetsCell n table column cell
    by true is may pass again = by_may is pass (may_set (with_cell table cell c)) refl may again
    by false is may pass again = again may pass

pub set_found : (n : Nodes) (table column : ℕ) (cell : Cell) → list_any may_set (set_placed table column cell) ≡ true → CellsPass n (set_placed table column cell) → CellOfType cell
    → SetsCell n table column cell
set_found n table column cell may pass typed = set_in n table column cell (cell_columns table) (cell_columns_are table) may pass typed

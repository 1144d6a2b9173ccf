-- What the tests of rows have seen so far.
use Rattle.std.proofs.Common.{◌≡◌, ℕ, ◌+◌, ◌<◌, ◌≤◌, ◌^◌, ⊎_elim, List, [], ◌∷◌, ◌++◌, length, get_or, slice_get, take, Some, refl, sym, ap, subst, ◌∙◌, arith}
use Rattle.std.proofs.lemmas.Bool.{cases_lt}
use Rattle.std.proofs.lemmas.List.{get_or_past, map_more, take_more}
use Rattle.std.proofs.lemmas.Option.{slice_get_within}
use Rattle.md_schema.specs.Cell.{read_width}
use Rattle.md_schema.specs.Column.{ColumnOf, seen_column, seen_columns}
use Rattle.md_schema.specs.declared.column.Column.{Column}
use Rattle.md_schema.specs.declared.column_width.Counts.{Counts}
use Rattle.md_tables.specs.Written.{Fits}
use Rattle.md_write.specs.TableRows.{IsRowFor, row_count, rows_at}

fits-push : (counts : Counts) (columns : List ColumnOf) (numbers : List ℕ) (column : ColumnOf) (number : ℕ) → Fits counts columns numbers → number < 256 ^ read_width column.kind counts → Fits counts (columns ++ column ∷ []) (numbers ++ number ∷ [])
fits-push counts [] numbers column number fits is = subst (λ ns. Fits counts (column ∷ []) (ns ++ number ∷ [])) (sym fits) (is, refl)
fits-push counts (c ∷ cs) [] column number fits is = absurd fits
fits-push counts (c ∷ cs) (n ∷ ns) column number fits is = (fits.0, fits-push counts cs ns column number fits.1 is)

-- one number of a row more
pub next-fits : (counts : Counts) (columns : List Column) (numbers : List ℕ) (place : ℕ) (d : Column) → length numbers ≡ length columns → place < length columns
    → get_or numbers place 0 < 256 ^ read_width (get_or columns place d).kind counts
    → Fits counts (seen_columns (take place columns)) (take place numbers) → Fits counts (seen_columns (take (place + 1) columns)) (take (place + 1) numbers)
next-fits counts columns numbers place d same within is so_far =
    let cs = map_more seen_column columns place d within in
    let ns = take_more numbers place 0 (omega (arith, same)) in
    let column = seen_column (get_or columns place d) in
    subst (λ xs. Fits counts xs (take (place + 1) numbers)) (sym cs)
    (subst (λ xs. Fits counts (seen_columns (take place columns) ++ column ∷ []) xs) (sym ns)
    (fits-push counts (seen_columns (take place columns)) (take place numbers) column (get_or numbers place 0) so_far is))

-- the rows before a place fit
abbrev pub RowsFit : Counts → ℕ → List (List ℕ) → ℕ → Type 0
RowsFit counts table rows before =
    (place : ℕ) (numbers : List ℕ) → place < before → slice_get rows place ≡ Some numbers → IsRowFor counts table numbers

-- the tables before a number fit
abbrev pub TablesFit : Counts → List (List (List ℕ)) → ℕ → Type 0
TablesFit counts tables before =
    (table place : ℕ) (numbers : List ℕ) → table < before → slice_get (rows_at tables table) place ≡ Some numbers → IsRowFor counts table numbers

pub tables-fit : (counts : Counts) (tables : List (List (List ℕ))) → length tables ≡ 64 → TablesFit counts tables 64 → (table place : ℕ) (numbers : List ℕ) → slice_get (rows_at tables table) place ≡ Some numbers → IsRowFor counts table numbers
tables-fit counts tables all fit table place numbers is =
    ⊎_elim
    (λ (below : table < 64). fit table place numbers below is)
    (λ (past : 64 ≤ table).
    let none : slice_get [] place ≡ Some numbers = ap (λ (rows : List (List ℕ)). slice_get rows place) (sym (get_or_past tables table [] (omega (arith, all)))) ∙ is in
    let within = slice_get_within {A = List ℕ} [] place numbers none in
    absurd (omega (arith, within)))
    (cases_lt table 64)

-- no table before a place has too many rows
abbrev pub AreFew : List (List (List ℕ)) → ℕ → Type 0
AreFew tables before = (table : ℕ) → table < before → row_count tables table < 2 ^ 24

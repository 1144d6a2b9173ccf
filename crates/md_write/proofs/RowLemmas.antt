-- Rows as bytes: how long they are, and which columns their numbers have.
use Rattle.std.proofs.Common.{◌≡◌, ℕ, suc, ◌<◌, ◌≤◌, ⊎_elim, List, [], ◌∷◌, length, Option, Some, refl, sym, ap, ◌∙◌, arith}
use Rattle.std.specs.Option.{unwrap_or}
use Rattle.std.proofs.lemmas.Bool.{cases_lt}
use Rattle.std.proofs.lemmas.List.{get_or_past, length-append}
use Rattle.std.proofs.lemmas.List.Sums.{sum_by-cons}
use Rattle.std.proofs.lemmas.List.FromFn.{get_or-map-range_with_len, length-map-range_with_len}
use Rattle.byteorder.specs.Endian.{little_bytes}
use Rattle.byteorder.specs.Numbers.{length-bytes_low_first}
use Rattle.md_schema.specs.Column.{ColumnOf}
use Rattle.md_schema.specs.Entry.{columns_of}
use Rattle.md_schema.specs.Layout.{columns_width, table_row_width}
use Rattle.md_schema.specs.Width.{column_width_of, rows_of}
use Rattle.md_schema.specs.declared.column_width.Counts.{Counts}
use Rattle.md_tables.specs.Written.{Fits, row_bytes}
use Rattle.md_tables.proofs.LayoutLemmas.{table_row_width-some}
use Rattle.md_write.specs.TableRows.{IsRowFor, counts_of_rows, row_count, row_counts}
use Rattle.md_write.specs.TablesStream.{columns_at}

fits-length : (counts : Counts) (columns : List ColumnOf) (numbers : List ℕ) → Fits counts columns numbers → length numbers ≡ length columns
fits-length counts [] numbers fits = ap length fits
fits-length counts (c ∷ cs) [] fits = absurd fits
fits-length counts (c ∷ cs) (n ∷ ns) fits = ap suc (fits-length counts cs ns fits.1)

length-of-row : (counts : Counts) (columns : List ColumnOf) (numbers : List ℕ) → Fits counts columns numbers → length (row_bytes counts columns numbers) ≡ columns_width counts columns
unfolding columns_width
length-of-row counts [] numbers fits = refl
length-of-row counts (c ∷ cs) [] fits = absurd fits
length-of-row counts (c ∷ cs) (n ∷ ns) fits =
    let first = length-bytes_low_first 0 (column_width_of c.kind counts) n in
    let later = length-of-row counts cs ns fits.1 in
    let both = length-append (little_bytes (column_width_of c.kind counts) n) (row_bytes counts cs ns) in
    let sum = sum_by-cons (λ (column : ColumnOf). column_width_of column.kind counts) c cs in
    omega (arith, first, later, both, sum)

-- what is known of a row that can be written
pub record RowOf (counts : Counts) (table : ℕ) (numbers : List ℕ) (columns : List ColumnOf) : Type 0 where
  pub is : columns_of table ≡ Some columns
  pub at : columns_at table ≡ columns
  pub fits : Fits counts columns numbers
  pub same : length numbers ≡ length columns
  pub wide : table_row_width counts table ≡ columns_width counts columns
  pub long : length (row_bytes counts (columns_at table) numbers) ≡ table_row_width counts table

pub row_of : (counts : Counts) (table : ℕ) (numbers : List ℕ) → IsRowFor counts table numbers → (columns : List ColumnOf) × RowOf counts table numbers columns
row_of counts table numbers (columns, is, fits) =
    let at : columns_at table ≡ columns = ap (λ (o : Option (List ColumnOf)). unwrap_or o []) is in
    let wide = table_row_width-some counts table columns (sym is) in (
      columns,
      record {
        is = is;
        at = at;
        fits = fits;
        same = fits-length counts columns numbers fits;
        wide = wide;
        long = ap (λ cs. length (row_bytes counts cs numbers)) at ∙ length-of-row counts columns numbers fits ∙ sym wide;
      },
    )

-- a table without a list has no rows
pub rows-past : (tables : List (List (List ℕ))) (table : ℕ) → length tables ≡ 64 → 64 ≤ table → row_count tables table ≡ 0
rows-past tables table all past = ap length (get_or_past tables table [] (omega (arith, all)))

-- the counts are those of the rows
pub rows_of-rows : (heap_sizes : ℕ) (tables : List (List (List ℕ))) (table : ℕ) → length tables ≡ 64 → rows_of (counts_of_rows heap_sizes tables) table ≡ row_count tables table
unfolding row_counts
rows_of-rows heap_sizes tables table all =
    ⊎_elim
    (λ (below : table < 64). get_or-map-range_with_len (row_count tables) 0 64 table table 0 below (omega arith))
    (λ (past : 64 ≤ table).
    let long = length-map-range_with_len (row_count tables) 0 64 in
    get_or_past (row_counts tables) table 0 (omega (arith, long)) ∙ sym (rows-past tables table all past))
    (cases_lt table 64)

-- a table with a row has a list
pub table-below : (tables : List (List (List ℕ))) (table rid : ℕ) → length tables ≡ 64 → 1 ≤ rid → rid ≤ row_count tables table → table < 64
table-below tables table rid all first last =
    ⊎_elim
    (λ (below : table < 64). below)
    (λ (past : 64 ≤ table). let none = rows-past tables table all past in absurd (omega (arith, none, first, last)))
    (cases_lt table 64)

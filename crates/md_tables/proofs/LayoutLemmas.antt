-- Widths of columns and rows.
use Rattle.std.proofs.Common.{◌≡◌, ℕ, ◌+◌, ◌*◌, ◌<◌, ◌≤◌, ◌^◌, List, Some, None, map, get_or, slice_index, sym, ap, ◌∙◌, arith}
use Rattle.std.specs.List.{range_with_len, sum_by}
use Rattle.std.proofs.lemmas.List.Folds.{fold-map}
use Rattle.std.proofs.lemmas.List.FromFn.{get_or-map-range_with_len}
use Rattle.std.specs.Option.{option_map_or}
use Rattle.std.proofs.Math.Nat.{mul-le-mul}
use Rattle.md_schema.specs.Entry.{columns_of}
use Rattle.md_tables.proofs.HeaderLemmas.{sum_below-mono, sum_below-more, sum_below-zero}
use Rattle.md_schema.specs.Column.{ColumnOf, seen_column, seen_columns}
use Rattle.md_schema.specs.Width.{rows_of, column_width_of}
use Rattle.md_schema.specs.declared.column.Column.{Column}
use Rattle.md_schema.specs.declared.column_width.Counts.{Counts}
use Rattle.md_schema.specs.Layout.{Head, columns_width, first_place, head_of, table_row_width}
use Rattle.md_schema.specs.Header.{count_of, present_below}
use Rattle.md_tables.specs.inner.Opening.{IsCounted}

pub columns_width-seen : (counts : Counts) (cs : List Column) → columns_width counts (seen_columns cs) ≡ sum_by (λ column. column_width_of column.kind counts) cs
unfolding columns_width
columns_width-seen counts cs = fold-map (λ b (column : ColumnOf). b + column_width_of column.kind counts) seen_column 0 cs

pub table_row_width-some : (counts : Counts) (table : ℕ) (cs : List ColumnOf) → Some cs ≡ columns_of table → table_row_width counts table ≡ columns_width counts cs
unfolding table_row_width
table_row_width-some counts table cs e = ap (λ o. option_map_or (columns_width counts) o 0) (sym e)

pub table_row_width-none : (counts : Counts) (table : ℕ) → None ≡ columns_of table → table_row_width counts table ≡ 0
unfolding table_row_width
table_row_width-none counts table e = ap (λ o. option_map_or (columns_width counts) o 0) (sym e)

pub first_place-zero : (head : Head) → first_place head 0 ≡ 24 + 4 * head.present
unfolding first_place
first_place-zero head = ap (λ n. 24 + 4 * head.present + n) (sum_below-zero (λ lesser. rows_of head.counts lesser * table_row_width head.counts lesser)) ∙ omega arith

pub first_place-more : (head : Head) (table : ℕ) → first_place head (table + 1) ≡ first_place head table + rows_of head.counts table * table_row_width head.counts table
unfolding first_place
first_place-more head table =
    let more = sum_below-more (λ lesser. rows_of head.counts lesser * table_row_width head.counts lesser) table in
    omega (arith, more)

pub first_place-mono : (head : Head) (n m : ℕ) → n ≤ m → first_place head n ≤ first_place head m
unfolding first_place
first_place-mono head n m h =
    let mono = sum_below-mono (λ lesser. rows_of head.counts lesser * table_row_width head.counts lesser) n m h in
    omega (arith, mono)

pub small_product : (a b : ℕ) → a < 2 ^ 24 → b ≤ 36 → a * b ≤ 16777216 * 36
small_product a b h k = mul-le-mul {n₁ = a} {m₁ = b} {n₂ = 16777216} {m₂ = 36} (omega arith) k

-- the counts that were read are those of the stream
pub opened_head : (stream rows : List ℕ) (sizes present : ℕ) → IsCounted stream rows present → sizes ≡ slice_index stream 6 → ◌≡◌ {A = Head} (record { present = present; counts = record { rows = rows; heap_sizes = sizes } }) (head_of stream)
unfolding head_of
opened_head stream rows sizes present k e =
    ap (λ p. record { present = p; counts = record { rows = rows; heap_sizes = sizes } }) k.present
    ∙ ap (λ r. record { present = present_below stream 64; counts = record { rows = r; heap_sizes = sizes } }) k.rows
    ∙ ap (λ h. record { present = present_below stream 64; counts = record { rows = map (count_of stream) (range_with_len 0 64); heap_sizes = h } }) e

pub counted_rows : (stream rows : List ℕ) (sizes present table : ℕ) → IsCounted stream rows present → table < 64 → rows_of (record { rows = rows; heap_sizes = sizes }) table ≡ count_of stream table
counted_rows stream rows sizes present table k h =
    ap (λ r. get_or r table 0) k.rows ∙ get_or-map-range_with_len (count_of stream) 0 64 table table 0 h (omega arith)

-- A row that is written column by column is read back.
use Rattle.std.proofs.Common.{◌≡◌, ℕ, zero, suc, ◌+◌, ◌<◌, ◌^◌, List, [], ◌∷◌, ◌++◌, length, take, refl, sym, ap, ◌∙◌, arith}
use Rattle.std.specs.Int.{byte_at}
use Rattle.std.proofs.lemmas.List.Sums.{sum_by-cons}
use Rattle.std.proofs.lemmas.List.{append_assoc, length-append}
use Rattle.std.proofs.lemmas.Option.{same_Some}
use Rattle.byteorder.specs.Endian.{little_bytes}
use Rattle.byteorder.specs.Numbers.{length-bytes_low_first}
use Rattle.md_schema.specs.Column.{ColumnOf}
use Rattle.md_schema.specs.Width.{column_width_of}
use Rattle.md_schema.specs.declared.column.ColumnKind.{ColumnKind}
use Rattle.md_schema.specs.declared.column.ColumnKind.TheVariants.{U8Pad}
use Rattle.md_schema.specs.declared.column_width.Counts.{Counts}
use Rattle.md_schema.specs.Cell.{read_width}
use Rattle.cil_base.specs.Place.{number_at}
use Rattle.md_schema.specs.Layout.{columns_width}
use Rattle.cil_base.proofs.PlaceLemmas.{number-behind, number-written}
use Rattle.md_tables.specs.Written.{RowsReadBack, row_bytes}

-- a column at the front is read back
front : (kind : ColumnKind) (counts : Counts) (number : ℕ) (rest : List ℕ) → number < 256 ^ read_width kind counts →
    number_at (little_bytes (column_width_of kind counts) number ++ rest) 0 (read_width kind counts) ≡ number
front U8Pad counts number rest h = number-written 1 number (byte_at 1 number ∷ rest) h
front kind counts number rest h = number-written (column_width_of kind counts) number rest h

columns_width-cons : (counts : Counts) (column : ColumnOf) (columns : List ColumnOf) → columns_width counts (column ∷ columns) ≡ column_width_of column.kind counts + columns_width counts columns
unfolding columns_width
columns_width-cons counts column columns = sum_by-cons (λ c. column_width_of c.kind counts) column columns

columns_width-none : (counts : Counts) → columns_width counts [] ≡ 0
unfolding columns_width
columns_width-none counts = refl

-- what stands before the row and its first column
regroup : (before first rest after : List ℕ) → before ++ (first ++ rest) ++ after ≡ before ++ first ++ rest ++ after
regroup before first rest after = ap (λ s. s ++ after) (sym (append_assoc before first rest))

regroup_first : (before first rest after : List ℕ) → before ++ (first ++ rest) ++ after ≡ before ++ (first ++ (rest ++ after))
regroup_first before first rest after = append_assoc before (first ++ rest) after ∙ ap (λ s. before ++ s) (append_assoc first rest after)

pub rows_read_back : RowsReadBack
rows_read_back counts [] numbers before after place number column fits at_column at_number = absurd (cc)
rows_read_back counts (c ∷ cs) [] before after place number column fits at_column at_number = absurd fits
rows_read_back counts (c ∷ cs) (n ∷ ns) before after zero number column fits at_column at_number =
    let w = column_width_of c.kind counts in
    let first = little_bytes w n in
    let rest = row_bytes counts cs ns in
    let is_column : c ≡ column = same_Some c column at_column in
    let is_number : n ≡ number = same_Some n number at_number in
    let start : length before + columns_width counts [] ≡ length before = ap (λ m. length before + m) (columns_width-none counts) ∙ omega arith in
    ap (λ d. number_at (before ++ (first ++ rest) ++ after) (length before + columns_width counts []) (read_width d.kind counts)) (sym is_column)
    ∙ ap (λ m. number_at (before ++ (first ++ rest) ++ after) m (read_width c.kind counts)) start
    ∙ ap (λ s. number_at s (length before) (read_width c.kind counts)) (regroup_first before first rest after)
    ∙ number-behind before (first ++ (rest ++ after)) (read_width c.kind counts)
    ∙ front c.kind counts n (rest ++ after) fits.0 ∙ is_number
rows_read_back counts (c ∷ cs) (n ∷ ns) before after (suc place) number column fits at_column at_number =
    let w = column_width_of c.kind counts in
    let first = little_bytes w n in
    let rest = row_bytes counts cs ns in
    let long : length (before ++ first) ≡ length before + w = length-append before first ∙ ap (λ m. length before + m) (length-bytes_low_first 0 w n) in
    let start : length before + columns_width counts (c ∷ take place cs) ≡ length (before ++ first) + columns_width counts (take place cs) =
    ap (λ m. length before + m) (columns_width-cons counts c (take place cs)) ∙ omega (arith, long) in
    ap (λ m. number_at (before ++ (first ++ rest) ++ after) m (read_width column.kind counts)) start
    ∙ ap (λ s. number_at s (length (before ++ first) + columns_width counts (take place cs)) (read_width column.kind counts)) (regroup before first rest after)
    ∙ rows_read_back counts cs ns (before ++ first) after place number column fits.1 at_column at_number

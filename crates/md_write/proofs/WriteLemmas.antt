-- What the steps of writing leave.
use Rattle.std.proofs.Common.{◌≡◌, ℕ, zero, suc, ◌+◌, ◌<◌, ◌≤◌, List, [], ◌∷◌, ◌++◌, Bool, true, false, cond, length, get_or, slice_index, take, refl, sym, ap, ◌∙◌, arith}
use Rattle.std.specs.List.{flat_map}
use Rattle.std.proofs.lemmas.List.{append_assoc, append-nil, flat_map_more, length-map, length-take-le, take_more}
use Rattle.byteorder.specs.Endian.{little_bytes}
use Rattle.md_schema.specs.Column.{seen_column, seen_columns}
use Rattle.md_schema.specs.Width.{column_width_of}
use Rattle.md_schema.specs.declared.column.Column.{Column}
use Rattle.md_schema.specs.declared.column.ColumnKind.{ColumnKind}
use Rattle.md_schema.specs.declared.column.ColumnKind.TheVariants.{U8Pad, U16, U32, Text, Guid, Blob, Sig, Index, Coded, Start, Rva, Offset}
use Rattle.md_schema.specs.declared.column_width.Counts.{Counts}
use Rattle.md_tables.specs.Written.{row_bytes}
use Rattle.md_write.specs.TableRows.{IsRowFor}
use Rattle.md_write.specs.TablesStream.{bytes_below, columns_at, table_bytes}
use Rattle.md_write.specs.inner.Widths.{bytes_in_widths, widths_of}
use Rattle.md_write.proofs.BelowLemmas.{bytes_below-more, bytes_below-zero}
use Rattle.md_write.proofs.RowLemmas.{row_of}

pub three_parts : (old a b c : List ℕ) → old ++ a ++ b ++ c ≡ old ++ (a ++ (b ++ c))
three_parts old a b c = append_assoc (old ++ a) b c ∙ append_assoc old a (b ++ c)

-- nothing is added yet
pub none-below : (f : ℕ → List ℕ) (out : List ℕ) → out ≡ out ++ bytes_below f 0
none-below f out = sym (append-nil out) ∙ ap (λ s. out ++ s) (sym (bytes_below-zero f))

-- one number more
pub next-below : (f : ℕ → List ℕ) (first out new part : List ℕ) (n : ℕ) → out ≡ first ++ bytes_below f n → new ≡ out ++ part → part ≡ f n → new ≡ first ++ bytes_below f (n + 1)
next-below f first out new part n so_far step is =
    step ∙ ap (λ s. s ++ part) so_far ∙ append_assoc first (bytes_below f n) part
    ∙ ap (λ s. first ++ (bytes_below f n ++ s)) is ∙ ap (λ s. first ++ s) (sym (bytes_below-more f n))

narrow : (b : Bool) → cond b 2 4 ≤ 4
narrow true = omega arith
narrow false = omega arith

kind-narrow : (kind : ColumnKind) (counts : Counts) → column_width_of kind counts ≤ 4
kind-narrow U8Pad counts = omega arith
kind-narrow U16 counts = omega arith
kind-narrow U32 counts = omega arith
kind-narrow Text counts = narrow _
kind-narrow Guid counts = narrow _
kind-narrow Blob counts = narrow _
kind-narrow Sig counts = narrow _
kind-narrow (Index table) counts = narrow _
kind-narrow (Coded kind) counts = narrow _
kind-narrow (Start table) counts = narrow _
kind-narrow Rva counts = omega arith
kind-narrow Offset counts = omega arith

pub widths-narrow : (counts : Counts) (columns : List Column) (place : ℕ) → slice_index (widths_of counts columns) place ≤ 4
widths-narrow counts [] place = omega arith
widths-narrow counts (c ∷ cs) zero = kind-narrow c.kind counts
widths-narrow counts (c ∷ cs) (suc place) = widths-narrow counts cs place

-- a row in the widths of its columns
pub row-in-widths : (counts : Counts) (columns : List Column) (numbers : List ℕ) → bytes_in_widths (widths_of counts columns) numbers ≡ row_bytes counts (seen_columns columns) numbers
row-in-widths counts [] numbers = refl
row-in-widths counts (c ∷ cs) [] = refl
row-in-widths counts (c ∷ cs) (n ∷ ns) = ap (λ s. little_bytes (column_width_of c.kind counts) n ++ s) (row-in-widths counts cs ns)

row-push : (widths numbers : List ℕ) (width number : ℕ) → length numbers ≡ length widths → bytes_in_widths (widths ++ width ∷ []) (numbers ++ number ∷ []) ≡ bytes_in_widths widths numbers ++ little_bytes width number
row-push [] [] width number same = append-nil (little_bytes width number)
row-push [] (n ∷ ns) width number same = absurd (omega (arith, same))
row-push (w ∷ ws) [] width number same = absurd (omega (arith, same))
row-push (w ∷ ws) (n ∷ ns) width number same =
    ap (λ s. little_bytes w n ++ s) (row-push ws ns width number (omega (arith, same)))
    ∙ sym (append_assoc (little_bytes w n) (bytes_in_widths ws ns) (little_bytes width number))

-- one number of a row more
pub next-number : (first out new widths numbers : List ℕ) (place : ℕ) → length numbers ≡ length widths → place < length widths
    → out ≡ first ++ bytes_in_widths (take place widths) (take place numbers) → new ≡ out ++ little_bytes (get_or widths place 0) (get_or numbers place 0)
    → new ≡ first ++ bytes_in_widths (take (place + 1) widths) (take (place + 1) numbers)
next-number first out new widths numbers place same within so_far step =
    let before = bytes_in_widths (take place widths) (take place numbers) in
    let width = get_or widths place 0 in
    let number = get_or numbers place 0 in
    let one = length-take-le place widths (omega arith) in
    let two = length-take-le place numbers (omega (arith, same)) in
    let grown : bytes_in_widths (take (place + 1) widths) (take (place + 1) numbers) ≡ before ++ little_bytes width number =
    ap (λ ws. bytes_in_widths ws (take (place + 1) numbers)) (take_more widths place 0 within)
    ∙ ap (λ ns. bytes_in_widths (take place widths ++ width ∷ []) ns) (take_more numbers place 0 (omega (arith, same)))
    ∙ row-push (take place widths) (take place numbers) width number (omega (arith, one, two)) in
    step ∙ ap (λ s. s ++ little_bytes width number) so_far ∙ append_assoc first before (little_bytes width number) ∙ ap (λ s. first ++ s) (sym grown)

-- a row has a number for each width
pub as-wide : (counts : Counts) (table : ℕ) (columns : List Column) (numbers : List ℕ) → seen_columns columns ≡ columns_at table → IsRowFor counts table numbers → length numbers ≡ length (widths_of counts columns)
as-wide counts table columns numbers seen is =
    let (cs, row) = row_of counts table numbers is in
    let one = length-map columns seen_column in
    let two = length-map columns (λ (column : Column). column_width_of column.kind counts) in
    row.same ∙ ap length (sym row.at) ∙ ap length (sym seen) ∙ one ∙ sym two

-- one row of a table more
pub next-row : (first out new : List ℕ) (counts : Counts) (table : ℕ) (columns : List Column) (rows : List (List ℕ)) (place : ℕ) (widths numbers : List ℕ) → place < length rows
    → numbers ≡ get_or rows place numbers → seen_columns columns ≡ columns_at table → widths ≡ widths_of counts columns
    → out ≡ first ++ table_bytes counts table (take place rows) → new ≡ out ++ bytes_in_widths widths numbers
    → new ≡ first ++ table_bytes counts table (take (place + 1) rows)
next-row first out new counts table columns rows place widths numbers within at seen wide so_far step =
    let f = row_bytes counts (columns_at table) in
    let bytes : bytes_in_widths widths numbers ≡ f numbers =
    ap (λ ws. bytes_in_widths ws numbers) wide ∙ row-in-widths counts columns numbers ∙ ap (λ cs. row_bytes counts cs numbers) seen in
    step ∙ ap (λ s. s ++ bytes_in_widths widths numbers) so_far ∙ ap (λ s. first ++ flat_map f (take place rows) ++ s) bytes
    ∙ flat_map_more f first (take place rows) numbers
    ∙ ap (λ rs. first ++ flat_map f rs) (sym (take_more rows place numbers within ∙ ap (λ r. take place rows ++ r ∷ []) (sym at)))

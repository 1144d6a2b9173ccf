-- Where the numbers of one column stand, row by row.
use Rattle.std.proofs.Common.{◌≡◌, refl, sym, ◌∙◌, ap, subst, ℕ, ◌-◌, ◌*◌, ◌≤◌, Bool, true, false, inl, inr, if◌then◌else◌, List, Some, Option, le_refl, arith}
use Rattle.std.specs.Option.{option_map_or}
use Rattle.cil_base.specs.Place.{number_at}
use Rattle.md_schema.specs.Cell.{cell_of, place_of, read_width}
use Rattle.md_schema.specs.Column.{ColumnOf}
use Rattle.md_schema.specs.Entry.{column_of}
use Rattle.md_schema.specs.Layout.{Head, OpensTables, head_of, table_row_width}
use Rattle.md_schema.specs.Width.{column_width_of}
use Rattle.md_schema.specs.declared.column.ColumnKind.{ColumnKind}
use Rattle.md_schema.specs.declared.column.ColumnKind.TheVariants.{U8Pad, U16, U32, Text, Guid, Blob, Sig, Index, Coded, Start, Rva, Offset}
use Rattle.md_schema.specs.declared.column_width.Counts.{Counts}
use Rattle.md_tables.proofs.CellLemmas.{cell_within}
use Rattle.md_tables.specs.declared.column_places.ColumnPlaces.{ColumnPlaces}
use Rattle.md_tables.specs.inner.Columns.{IsReadWidth, ReadsColumn, place_in}

two_or_four : (b : Bool) → IsReadWidth (if b then 2 else 4)
two_or_four true = inr (inl refl)
two_or_four false = inr (inr refl)

-- a number of 1, 2 or 4 bytes is read
read_width-is : (kind : ColumnKind) (counts : Counts) → IsReadWidth (read_width kind counts)
read_width-is U8Pad counts = inl refl
read_width-is U16 counts = inr (inl refl)
read_width-is U32 counts = inr (inr refl)
read_width-is Text counts = two_or_four _
read_width-is Guid counts = two_or_four _
read_width-is Blob counts = two_or_four _
read_width-is Sig counts = two_or_four _
read_width-is (Index table) counts = two_or_four _
read_width-is (Coded coded) counts = two_or_four _
read_width-is (Start table) counts = two_or_four _
read_width-is Rva counts = inr (inr refl)
read_width-is Offset counts = inr (inr refl)

-- no more bytes are read than the column has
read_width-le : (kind : ColumnKind) (counts : Counts) → read_width kind counts ≤ column_width_of kind counts
read_width-le U8Pad counts = omega arith
read_width-le U16 counts = le_refl _
read_width-le U32 counts = le_refl _
read_width-le Text counts = le_refl _
read_width-le Guid counts = le_refl _
read_width-le Blob counts = le_refl _
read_width-le Sig counts = le_refl _
read_width-le (Index table) counts = le_refl _
read_width-le (Coded coded) counts = le_refl _
read_width-le (Start table) counts = le_refl _
read_width-le Rva counts = le_refl _
read_width-le Offset counts = le_refl _

-- from the first row on each row is as far from the next
place_there : (head : Head) (places : ColumnPlaces) (table rid column : ℕ) → places.first ≡ place_of head table 1 column → places.step ≡ table_row_width head.counts table
    → place_in places rid ≡ place_of head table rid column
unfolding place_of
place_there head places table rid column first step =
    let steps = ap (λ w. (rid - 1) * w) step in
    omega (arith, first, steps)

pub reads_column : (stream : List ℕ) (head : Head) (table column : ℕ) (found : ColumnOf) (places : ColumnPlaces) → OpensTables stream head → Some found ≡ column_of table column
    → places.first ≡ place_of head table 1 column → places.step ≡ table_row_width head.counts table → places.width ≡ read_width found.kind head.counts
    → ReadsColumn stream head table column places
unfolding cell_of
reads_column stream head table column found places opened is first step width = record {
  width = subst IsReadWidth (sym width) (read_width-is found.kind head.counts);
  within = λ rid row.
      let there = place_there head places table rid column first step in
      let within = cell_within stream head table rid column found opened row (sym is) in
      let less = read_width-le found.kind head.counts in
      omega (arith, there, within, less, width);
  number = λ rid row.
      ap (λ (p : ℕ). number_at stream p places.width) (place_there head places table rid column first step)
      ∙ ap (λ (w : ℕ). number_at stream (place_of head table rid column) w) width
      ∙ ap (λ (h : Head). number_at stream (place_of h table rid column) (read_width found.kind h.counts)) opened.seen
      ∙ ap (λ (o : Option ColumnOf). option_map_or (λ found. number_at stream (place_of (head_of stream) table rid column) (read_width found.kind (head_of stream).counts)) o 0) is;
}

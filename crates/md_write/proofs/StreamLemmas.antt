-- What is read of the stream: its header, its counts, and each number of its rows.
use Rattle.std.proofs.Common.{◌≡◌, ℕ, ◌+◌, ◌-◌, ◌*◌, ◌<◌, ◌≤◌, ◌^◌, List, [], ◌∷◌, ◌++◌, Bool, true, cond, map, length, get_or, slice_get, slice_index, take, Option, Some, refl, sym, ap, subst, ◌∙◌, arith}
use Rattle.std.specs.List.{range_with_len}
use Rattle.std.specs.Option.{IsSome, option_and_then, option_map_or}
use Rattle.std.proofs.lemmas.List.{append_assoc}
use Rattle.std.proofs.lemmas.Option.{slice_get-get_or, slice_get_within}
use Rattle.byteorder.specs.Endian.{little_bytes}
use Rattle.cil_base.specs.Place.{number_at}
use Rattle.md_schema.specs.Column.{ColumnOf}
use Rattle.md_schema.specs.Cell.{cell_of, offset_of, place_of, read_width}
use Rattle.md_schema.specs.Entry.{column_of}
use Rattle.md_schema.specs.Header.{IsSupported, count_of, is_present, is_set, present_below, sum_below, valid_of}
use Rattle.md_schema.specs.Layout.{Head, IsWhole, columns_width, first_place, head_of, table_row_width}
use Rattle.md_schema.specs.Width.{rows_of}
use Rattle.md_schema.specs.declared.column_width.Counts.{Counts}
use Rattle.md_tables.specs.Written.{Fits, row_bytes}
use Rattle.md_tables.proofs.CellLemmas.{some_is}
use Rattle.md_tables.proofs.WrittenLemmas.{rows_read_back}
use Rattle.md_write.specs.TableRows.{AreTableRows, counts_of_rows, written_number, row_count, row_counts, rows_at}
use Rattle.md_write.specs.TablesRead.{HoldsRows, StreamHoldsRows, head_of_rows}
use Rattle.md_write.specs.TablesStream.{bytes_below, columns_at, count_bytes, counts_and_rows, has_rows, table_bytes, tables_header, tables_stream, valid_of_rows, zeros_to_four}
use Rattle.md_write.proofs.StandsLemmas.{StandsIn, stands-at, stands-byte, stands-first, stands-in, stands-last, stands-number, stands-within}
use Rattle.md_write.proofs.BelowLemmas.{bits-set, bits-small, bytes_below-stands, length-bytes_below, length-rows, range-same, row-stands, sum_below-same, sum_below-times}
use Rattle.md_write.proofs.RowLemmas.{row_of, rows_of-rows, table-below}

header-long : (heap_sizes valid : ℕ) → length (tables_header heap_sizes valid) ≡ 24
unfolding tables_header
header-long heap_sizes valid = refl

header-sizes : (heap_sizes valid : ℕ) → slice_index (tables_header heap_sizes valid) 6 ≡ heap_sizes
unfolding tables_header
header-sizes heap_sizes valid = refl

header-valid : (heap_sizes valid : ℕ) → StandsIn (tables_header heap_sizes valid) 8 (little_bytes 8 valid)
unfolding tables_header
header-valid heap_sizes valid =
    let sorted = little_bytes 8 0x16003301FA00 in
    stands-in (stands-last (0 ∷ 0 ∷ 0 ∷ 0 ∷ 2 ∷ 0 ∷ heap_sizes ∷ 1 ∷ []) (little_bytes 8 valid ++ sorted)) (stands-first (little_bytes 8 valid) sorted)

-- a count takes four bytes where the table has rows
count-long : (rows : List (List ℕ)) → length (count_bytes rows) ≡ 4 * cond (has_rows rows) 1 0
count-long [] = refl
count-long (row ∷ rows) = refl

count-there : (whole : List ℕ) (place : ℕ) (rows : List (List ℕ)) (present : Bool) → present ≡ has_rows rows → StandsIn whole place (count_bytes rows) → length rows < 2 ^ 24 → cond present (number_at whole place 4) 0 ≡ length rows
count-there whole place [] present is stands few = ap (λ b. cond b (number_at whole place 4) 0) is
count-there whole place (row ∷ rows) present is stands few =
    ap (λ b. cond b (number_at whole place 4) 0) is ∙ stands-number 4 (length (row ∷ rows)) stands (omega arith)

first-row : (rows : List (List ℕ)) → has_rows rows ≡ true → (numbers : List ℕ) × (slice_get rows 0 ≡ Some numbers)
first-row [] is = absurd (cc)
first-row (row ∷ rows) is = (row, refl)

-- a number of a row is read where the row stands
cell-stands : {whole : List ℕ} {p : ℕ} (counts : Counts) (columns : List ColumnOf) (numbers : List ℕ) (place number : ℕ) (column : ColumnOf) → StandsIn whole p (row_bytes counts columns numbers) → Fits counts columns numbers → slice_get columns place ≡ Some column → slice_get numbers place ≡ Some number
    → number_at whole (p + columns_width counts (take place columns)) (read_width column.kind counts) ≡ number
cell-stands {whole} {p} counts columns numbers place number column s fits at_column at_number =
    let row = row_bytes counts columns numbers in
    let before = columns_width counts (take place columns) in
    let width = read_width column.kind counts in
    ap (λ b. number_at b (p + before) width) (s.split ∙ sym (append_assoc s.front row s.rest))
    ∙ ap (λ (n : ℕ). number_at (s.front ++ row ++ s.rest) (n + before) width) (sym s.long)
    ∙ rows_read_back counts columns numbers s.front s.rest place number column fits at_column at_number

module _ (heap_sizes : ℕ) (tables : List (List (List ℕ))) (ok : AreTableRows heap_sizes tables) where
  abbrev stream : List ℕ
  stream = tables_stream heap_sizes tables

  abbrev counts : Counts
  counts = counts_of_rows heap_sizes tables

  abbrev head : Head
  head = head_of_rows heap_sizes tables

  abbrev header : List ℕ
  header = tables_header heap_sizes (valid_of_rows tables)

  abbrev body : List ℕ
  body = counts_and_rows heap_sizes tables

  abbrev count_at : ℕ → List ℕ
  count_at t = count_bytes (rows_at tables t)

  abbrev table_at : ℕ → List ℕ
  table_at t = table_bytes counts t (rows_at tables t)

  abbrev one_at : ℕ → ℕ
  one_at t = cond (has_rows (rows_at tables t)) 1 0

  stands-header : StandsIn stream 0 header
  unfolding tables_stream
  stands-header = stands-in (stands-first (header ++ body) (zeros_to_four (length (header ++ body)))) (stands-first header body)

  stands-body : StandsIn stream 24 body
  unfolding tables_stream
  stands-body =
      let long = header-long heap_sizes (valid_of_rows tables) in
      stands-at (omega (arith, long)) (stands-in (stands-first (header ++ body) (zeros_to_four (length (header ++ body)))) (stands-last header body))

  stands-counts : StandsIn stream 24 (bytes_below count_at 64)
  unfolding counts_and_rows
  stands-counts = stands-in stands-body (stands-first (bytes_below count_at 64) (bytes_below table_at 64))

  stands-rows : StandsIn stream (24 + length (bytes_below count_at 64)) (bytes_below table_at 64)
  unfolding counts_and_rows
  stands-rows = stands-in stands-body (stands-last (bytes_below count_at 64) (bytes_below table_at 64))

  valid-read : valid_of stream ≡ valid_of_rows tables
  valid-read =
      stands-number 8 (valid_of_rows tables) (stands-in stands-header (header-valid heap_sizes (valid_of_rows tables)))
      (bits-small (λ t. has_rows (rows_at tables t)) 64)

  sizes-read : slice_index stream 6 ≡ heap_sizes
  sizes-read =
      let long = header-long heap_sizes (valid_of_rows tables) in
      stands-byte stands-header 6 (omega (arith, long)) ∙ header-sizes heap_sizes (valid_of_rows tables)

  present : (t : ℕ) → t < 64 → is_present stream t ≡ has_rows (rows_at tables t)
  present t h = ap (λ (v : ℕ). is_set v t) valid-read ∙ bits-set (λ k. has_rows (rows_at tables k)) 64 t h

  below : (t : ℕ) → t ≤ 64 → present_below stream t ≡ sum_below one_at t
  below t h = sum_below-same (λ k. cond (is_present stream k) 1 0) one_at t (λ k less. ap (λ b. cond b 1 0) (present k (omega arith)))

  counts-long : (t : ℕ) → length (bytes_below count_at t) ≡ 4 * sum_below one_at t
  counts-long t = length-bytes_below count_at t ∙ sum_below-times 4 (λ k. length (count_at k)) one_at t (λ k. count-long (rows_at tables k))

  count-read : (t : ℕ) → t < 64 → count_of stream t ≡ row_count tables t
  count-read t h =
      let here = below t (omega arith) in
      let long = counts-long t in
      let place : 24 + length (bytes_below count_at t) ≡ 24 + 4 * present_below stream t = omega (arith, here, long) in
      count-there stream (24 + 4 * present_below stream t) (rows_at tables t) (is_present stream t) (present t h)
      (stands-at place (stands-in stands-counts (bytes_below-stands count_at 64 t h))) (ok.few t)

  head-read : ◌≡◌ {A = Head} (head_of stream) head
  unfolding head_of row_counts
  head-read =
      ap (λ (p : ℕ). record { present = p; counts = record { rows = map (count_of stream) (range_with_len 0 64); heap_sizes = slice_index stream 6 } }) (below 64 (omega arith))
      ∙ ap (λ (rows : List ℕ). record { present = sum_below one_at 64; counts = record { rows = rows; heap_sizes = slice_index stream 6 } }) (range-same (count_of stream) (row_count tables) 64 count-read)
      ∙ ap (λ (sizes : ℕ). record { present = sum_below one_at 64; counts = record { rows = map (row_count tables) (range_with_len 0 64); heap_sizes = sizes } }) sizes-read

  row-long : (t i : ℕ) (numbers : List ℕ) → slice_get (rows_at tables t) i ≡ Some numbers → length (row_bytes counts (columns_at t) numbers) ≡ table_row_width counts t
  row-long t i numbers at = (row_of counts t numbers (ok.fit t i numbers at)).1.long

  table-long : (t : ℕ) → rows_of counts t * table_row_width counts t ≡ length (table_at t)
  table-long t =
      ap (λ (n : ℕ). n * table_row_width counts t) (rows_of-rows heap_sizes tables t ok.all)
      ∙ sym (length-rows (row_bytes counts (columns_at t)) (table_row_width counts t) (rows_at tables t) (row-long t))

  -- where the rows of a table begin
  first-place : (t : ℕ) → first_place head t ≡ 24 + length (bytes_below count_at 64) + length (bytes_below table_at t)
  unfolding first_place
  first-place t =
      let front = counts-long 64 in
      let back : sum_below (λ lesser. rows_of counts lesser * table_row_width counts lesser) t ≡ length (bytes_below table_at t) =
      sum_below-same (λ lesser. rows_of counts lesser * table_row_width counts lesser) (λ k. length (table_at k)) t (λ k h. table-long k)
      ∙ sym (length-bytes_below table_at t) in
      omega (arith, front, back)

  stands-table : (t : ℕ) → t < 64 → StandsIn stream (first_place head t) (table_at t)
  stands-table t h = stands-at (sym (first-place t)) (stands-in stands-rows (bytes_below-stands table_at 64 t h))

  stands-row : (t i : ℕ) (numbers : List ℕ) → t < 64 → slice_get (rows_at tables t) i ≡ Some numbers
      → StandsIn stream (first_place head t + i * table_row_width counts t) (row_bytes counts (columns_at t) numbers)
  stands-row t i numbers h at =
      stands-in (stands-table t h) (row-stands (row_bytes counts (columns_at t)) (table_row_width counts t) (rows_at tables t) i numbers (row-long t) at)

  supported : (t : ℕ) → t < 64 → IsSupported stream t
  supported t h is =
      let (numbers, at) = first-row (rows_at tables t) (sym (present t h) ∙ is) in
      let (columns, row) = row_of counts t numbers (ok.fit t 0 numbers at) in
      subst (λ o. IsSome o) (sym row.is) refl

  whole : IsWhole stream
  whole =
      let body_within = stands-within stands-body in
      let counts_within = stands-within stands-counts in
      let rows_within = stands-within stands-rows in
      let all = below 64 (omega arith) in
      let long = counts-long 64 in
      let end = first-place 64 in
      let stands : first_place head 64 ≤ length stream = omega (arith, rows_within, end) in
      record {
        header = omega (arith, body_within);
        supported = supported;
        heaps = (let e = sizes-read in omega (arith, e, ok.heaps));
        counted = omega (arith, counts_within, all, long);
        few = λ t h. (let e = count-read t h in let few = ok.few t in omega (arith, e, few));
        stands = subst (λ h. first_place h 64 ≤ length stream) (sym head-read) stands;
      }

  cell-read : (t rid column : ℕ) → 1 ≤ rid → rid ≤ row_count tables t → IsSome (column_of t column) → cell_of stream t rid column ≡ written_number tables t rid column
  unfolding cell_of place_of offset_of
  cell-read t rid column first last some =
      let i = rid - 1 in
      let numbers = get_or (rows_at tables t) i [] in
      let at = slice_get-get_or (rows_at tables t) i [] (omega (arith, first, last)) in
      let (columns, row) = row_of counts t numbers (ok.fit t i numbers at) in
      let (found, is) = some_is (column_of t column) some in
      let at_column : slice_get columns column ≡ Some found = ap (option_and_then (λ (cs : List ColumnOf). slice_get cs column)) (sym row.is) ∙ is in
      let within = slice_get_within columns column found at_column in
      let at_number = slice_get-get_or numbers column 0 (omega (arith, within, row.same)) in
      let stands = stands-row t i numbers (table-below tables t rid ok.all first last) at in
      ap (λ (o : Option ColumnOf). option_map_or (λ c. number_at stream (first_place (head_of stream) t + i * table_row_width (head_of stream).counts t + offset_of (head_of stream).counts t column) (read_width c.kind (head_of stream).counts)) o 0) is
      ∙ ap (λ (h : Head). number_at stream (first_place h t + i * table_row_width h.counts t + offset_of h.counts t column) (read_width found.kind h.counts)) head-read
      ∙ ap (λ (o : Option (List ColumnOf)). number_at stream (first_place head t + i * table_row_width counts t + option_map_or (λ cs. columns_width counts (take column cs)) o 0) (read_width found.kind counts)) row.is
      ∙ cell-stands counts columns numbers column (get_or numbers column 0) found
      (subst (λ cs. StandsIn stream (first_place head t + i * table_row_width counts t) (row_bytes counts cs numbers)) row.at stands)
      row.fits at_column at_number

  pub holds_rows : HoldsRows heap_sizes tables stream
  holds_rows = record {
    opens = record { seen = sym head-read; whole = whole };
    counts = λ t. ap (λ (h : Head). rows_of h.counts t) head-read ∙ rows_of-rows heap_sizes tables t ok.all;
    cells = cell-read;
  }

pub stream_holds_rows : StreamHoldsRows
stream_holds_rows = holds_rows

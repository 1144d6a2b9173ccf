-- Links of a file agree with the lists of their owners, both ways: ECMA-335 II.22.
use Rattle.std.proofs.Common.{◌≡◌, ◌∙◌, refl, sym, ap, subst, ℕ, zero, suc, ◌+◌, ◌<◌, ◌≤◌, Bool, true, false, cond, List, [], ◌∷◌, ◌++◌, map, Option, Some, None, find, nat_le, nat_lt, arith}
use Rattle.std.specs.Prelude.{◌==◌, ◌&&◌, ◌||◌, is_none}
use Rattle.std.specs.List.{flat_map, list_any, range_with_len}
use Rattle.std.specs.Option.{option_map, option_map_or}
use Rattle.std.proofs.lemmas.Bool.{and_from, and_parts, leb-true, ltb-true, or_left, or_right}
use Rattle.std.proofs.lemmas.Bool.Decides.{nat_tests}
use Rattle.cil_base.specs.Token.{Token}
use Rattle.md_schema.specs.Cell.{cell_of}
use Rattle.md_schema.specs.Coded.{coded_of}
use Rattle.md_schema.specs.Link.{link_column_of, link_kind_of, link_table_of}
use Rattle.md_schema.specs.LinkedRows.{is_linked, linked_of, rows_to}
use Rattle.md_schema.specs.Reference.{Refers, index_of, is_named, is_same, reference_of}
use Rattle.md_schema.specs.Runs.{table_row_count}
use Rattle.md_schema.specs.declared.coded.Coded.{Coded as Reference}
use Rattle.md_schema.specs.declared.coded.Coded.TheVariants.{Null, Is, BadTag, Beyond}
use Rattle.md_schema.specs.declared.column.ColumnKind.{ColumnKind}
use Rattle.md_schema.specs.declared.column.ColumnKind.TheVariants.{Text, Guid, Blob, Index, Coded}
use Rattle.md_schema.specs.declared.link.Link.{Link}
use Rattle.md_schema.proofs.ReferenceLemmas.{is_same-named, reference-refers}
use Rattle.md_heaps.specs.Entries.{text, blob, guid}
use Rattle.md_heaps.specs.declared.guid.GuidAt.{GuidAt}
use Rattle.md_heaps.specs.declared.guid.GuidAt.TheVariants as guids
use Rattle.node_model.specs.Cells.{cell_said, guid_cell, reference_cell}
use Rattle.node_model.specs.Keys.{is_row, same_token}
use Rattle.node_model.specs.RowCells.{cell_in}
use Rattle.node_model.specs.RowFaults.{cell_at, cell_columns, row_fault}
use Rattle.node_model.specs.Rows.{listed_cell, row_cells}
use Rattle.node_model.specs.Streams.{ImageStreams}
use Rattle.node_model.specs.declared.cell.Cell.{Cell}
use Rattle.node_model.specs.declared.cell.Cell.TheVariants as cells
use Rattle.node_model.specs.inner.KeyEquality.{token_is, token_self}
use Rattle.node_model.proofs.EarlyLemmas.{map_none}
use Rattle.graph_facts.proofs.ColumnLemmas.{Placed, at_link, beside, beside_cell, beside_is, link_column_is}
use Rattle.graph_facts.proofs.ItemLemmas.{any_passing, passes_of}

some_is : {A : Type 0} (x y : A) → Some x ≡ Some y → x ≡ y
some_is x y e = cc

-- beside a column of a row without a fault stands what the column says of the row
record SaidBeside (s : ImageStreams) (t : Token) (test : Placed → Bool) (columns : List Placed) (c : Placed) : Type 0 where
  cell : Cell
  found : beside test columns (flat_map (λ c. listed_cell (cell_at s t c)) columns) ≡ Some (c, cell)
  says : cell_at s t c ≡ Some cell

said_beside : (s : ImageStreams) (t : Token) (test : Placed → Bool) (columns : List Placed) (c : Placed) → find (λ c. is_none (cell_at s t c)) columns ≡ None
    → find test columns ≡ Some c → SaidBeside s t test columns c
said_beside s t test [] c none e = absurd cc
said_beside s t test (d ∷ columns) c none e = by_cell (cell_at s t d) refl none (said_beside s t test columns c)
  where
    by_test : (x : Cell) → cell_at s t d ≡ Some x → find (λ c. is_none (cell_at s t c)) columns ≡ None → (y : Bool) → test d ≡ y → cond y (Some d) (find test columns) ≡ Some c
        → (find (λ c. is_none (cell_at s t c)) columns ≡ None → find test columns ≡ Some c → SaidBeside s t test columns c)
        → SaidBeside s t test (d ∷ columns) c
    by_test x is none true passes e again =
        let same : d ≡ c = some_is d c e in
        record { cell = x; found = rw (is, passes) (ap (λ k. Some (k, x)) same); says = ap (cell_at s t) (sym same) ∙ is }
    by_test x is none false fails e again =
        let more = again none e in
        record { cell = more.cell; found = rw (is, fails) more.found; says = more.says }

    by_cell : (o : Option Cell) → cell_at s t d ≡ o → cond (is_none o) (Some d) (find (λ c. is_none (cell_at s t c)) columns) ≡ None
        → (find (λ c. is_none (cell_at s t c)) columns ≡ None → find test columns ≡ Some c → SaidBeside s t test columns c)
        → SaidBeside s t test (d ∷ columns) c
    by_cell None is none again = absurd cc
    by_cell (Some x) is none again = by_test x is none (test d) refl e again

-- the link's column of a row of the file, and what it says
record LinkSaid (s : ImageStreams) (m : Token) (l : Link) (kind : ColumnKind) : Type 0 where
  pub cell : Cell
  pub held : cell_in (link_table_of l) (link_column_of l) (row_cells s m) ≡ Some cell
  pub says : cell_said s kind (cell_of s.tables m.table m.rid (link_column_of l)) ≡ Some cell

number_of : (test : Placed → Bool) (columns : List Placed) (c : Placed) → find test columns ≡ Some c → test c ≡ true
number_of test [] c e = absurd cc
number_of test (d ∷ columns) c e = by (test d) refl e (number_of test columns c)
  where
    by : (y : Bool) → test d ≡ y → cond y (Some d) (find test columns) ≡ Some c → (find test columns ≡ Some c → test c ≡ true) → test c ≡ true
    by true is e more = ap test (sym (some_is d c e)) ∙ is
    by false is e more = more e

column_said : (s : ImageStreams) (m : Token) (l : Link) (kind : ColumnKind) → m.table ≡ link_table_of l → link_kind_of l ≡ Some kind → row_fault s m ≡ None → LinkSaid s m l kind
column_said s m l kind table kind_is none = by (find (at_link l) (cell_columns (link_table_of l))) refl
  where
    by : (o : Option Placed) → find (at_link l) (cell_columns (link_table_of l)) ≡ o → LinkSaid s m l kind
    by None is = let bad : None ≡ Some kind = ap (option_map (λ (c : Placed). c.1.kind)) (sym is) ∙ link_column_is l ∙ kind_is in absurd cc
    by (Some c) is =
        let kinds : c.1.kind ≡ kind = some_is c.1.kind kind (ap (option_map (λ (c : Placed). c.1.kind)) (sym is) ∙ link_column_is l ∙ kind_is) in
        let none_found = map_none (λ (c : Placed). c.0) (find (λ c. is_none (cell_at s m c)) (cell_columns m.table)) none in
        let found = said_beside s m (at_link l) (cell_columns m.table) c none_found (ap (λ t. find (at_link l) (cell_columns t)) table ∙ is) in
        let at : c.0 ≡ link_column_of l = grind (arith, nat_tests, number_of (at_link l) (cell_columns (link_table_of l)) c is) in
        let stands : cell_in m.table (link_column_of l) (row_cells s m) ≡ Some found.cell = beside_is (at_link l) (cell_columns m.table) (row_cells s m) ∙ ap (option_map (λ (p : Placed × Cell). p.1)) found.found in
        record {
          cell = found.cell;
          held = ap (λ t. cell_in t (link_column_of l) (row_cells s m)) (sym table) ∙ stands;
          says = ap (λ k. cell_said s k (cell_of s.tables m.table m.rid (link_column_of l))) (sym kinds) ∙ ap (λ i. cell_said s c.1.kind (cell_of s.tables m.table m.rid i)) (sym at) ∙ found.says;
        }

-- a number that names a token says that token
reference_named : (tables : List ℕ) (coded : Reference) (t : Token) (cell : Cell) → is_same coded t ≡ true → reference_cell tables coded ≡ Some cell → cell ≡ cells.Ref t
reference_named tables (Is found) t cell same e = by (nat_le found.rid (table_row_count tables found.table)) e
  where
    by : (b : Bool) → cond b (Some (cells.Ref found)) None ≡ Some cell → cell ≡ cells.Ref t
    by true e = sym (some_is (cells.Ref found) cell e) ∙ ap cells.Ref (token_is found t same)
    by false e = absurd cc
reference_named tables _ t cell same e = absurd cc

said_named : (s : ImageStreams) (kind : ColumnKind) (value : ℕ) (t : Token) (cell : Cell) → is_named kind value t ≡ true → cell_said s kind value ≡ Some cell → cell ≡ cells.Ref t
said_named s (Index table) value t cell named e =
    reference_named s.tables (index_of table value) t cell (is_same-named (Index table) value t (index_of table value) ((reference-refers (Index table) value (index_of table value)).0 refl) ∙ named) e
said_named s (Coded kind) value t cell named e =
    reference_named s.tables (coded_of kind value) t cell (is_same-named (Coded kind) value t (coded_of kind value) ((reference-refers (Coded kind) value (coded_of kind value)).0 refl) ∙ named) e
said_named s _ value t cell named e = absurd cc

-- and a number that says a token names it
reference_back : (tables : List ℕ) (coded : Reference) (t : Token) → reference_cell tables coded ≡ Some (cells.Ref t) → is_same coded t ≡ true
reference_back tables (Is found) t e = by (nat_le found.rid (table_row_count tables found.table)) e
  where
    same_ref : (a b : Token) → Some (cells.Ref a) ≡ Some (cells.Ref b) → a ≡ b
    same_ref a b e = cc

    by : (b : Bool) → cond b (Some (cells.Ref found)) None ≡ Some (cells.Ref t) → is_same (Is found) t ≡ true
    by true e = ap (λ x. is_same (Is x) t) (same_ref found t e) ∙ token_self t
    by false e = absurd cc
reference_back tables _ t e = absurd cc

said_back : (s : ImageStreams) (kind : ColumnKind) (value : ℕ) (t : Token) → cell_said s kind value ≡ Some (cells.Ref t) → is_named kind value t ≡ true
said_back s (Index table) value t e =
    sym (is_same-named (Index table) value t (index_of table value) ((reference-refers (Index table) value (index_of table value)).0 refl)) ∙ reference_back s.tables (index_of table value) t e
said_back s (Coded kind) value t e =
    sym (is_same-named (Coded kind) value t (coded_of kind value) ((reference-refers (Coded kind) value (coded_of kind value)).0 refl)) ∙ reference_back s.tables (coded_of kind value) t e
said_back s Text value t e = absurd (by (text s.strings value) e)
  where
    by : (o : Option (List ℕ)) → option_map cells.Text o ≡ Some (cells.Ref t) → ⊥
    by None e = cc
    by (Some bytes) e = cc
said_back s Guid value t e = absurd (by (guid s.guids value) e)
  where
    by : (g : GuidAt) → guid_cell g ≡ Some (cells.Ref t) → ⊥
    by guids.Null e = cc
    by (guids.Is bytes) e = cc
    by guids.Missing e = cc
said_back s Blob value t e = absurd (by (blob s.blobs value) e)
  where
    by : (o : Option (List ℕ)) → option_map cells.Blob o ≡ Some (cells.Ref t) → ⊥
    by None e = cc
    by (Some bytes) e = cc
said_back s _ value t e = absurd cc

linked_test : (stream : List ℕ) (t m : Token) (l : Link) (kind : ColumnKind) → link_kind_of l ≡ Some kind → is_linked stream t l m ≡ is_named kind (cell_of stream m.table m.rid (link_column_of l)) t
unfolding is_linked
linked_test stream t m l kind is = ap (λ o. option_map_or (λ kind. is_named kind (cell_of stream m.table m.rid (link_column_of l)) t) o false) is

-- a row that is there is among all rows of its table
among_rows : (table start count rid : ℕ) → start ≤ rid → rid < start + count → (m : Token) → m.table ≡ table → m.rid ≡ rid
    → list_any (same_token m) (map (λ rid. let t : Token = record { table = table; rid = rid } in t) (range_with_len start count)) ≡ true
among_rows table start zero rid low high m table_is rid_is = absurd (omega (arith, low, high))
among_rows table start (suc count) rid low high m table_is rid_is = by (list_any (same_token m) (map (λ rid. let t : Token = record { table = table; rid = rid } in t) (range_with_len (start + 1) count))) (m.rid == start) refl (λ other. among_rows table (start + 1) count rid other (omega (arith, high)) m table_is rid_is)
  where
    by : (more b : Bool) → (m.rid == start) ≡ b → (start + 1 ≤ rid → more ≡ true) → ((m.table == table) && (m.rid == start) || more) ≡ true
    by more true is again = or_left ((m.table == table) && (m.rid == start)) more (and_from (m.table == table) (m.rid == start) (grind (arith, nat_tests)) is)
    by more false is again =
        let other : start + 1 ≤ rid = grind (arith, nat_tests) in
        or_right ((m.table == table) && (m.rid == start)) more (again other)

row_among : (tables : List ℕ) (m : Token) (table : ℕ) → m.table ≡ table → 1 ≤ m.rid → m.rid ≤ table_row_count tables table → list_any (same_token m) (rows_to table (table_row_count tables table)) ≡ true
unfolding rows_to
row_among tables m table is low high = among_rows table 1 (table_row_count tables table) m.rid low (omega (arith, high)) m is refl

-- a listed row names the owner
pub linked_names : (s : ImageStreams) (t m : Token) (l : Link) (kind : ColumnKind) → m.table ≡ link_table_of l → link_kind_of l ≡ Some kind → row_fault s m ≡ None
    → list_any (same_token m) (linked_of s.tables t l) ≡ true → cell_in (link_table_of l) (link_column_of l) (row_cells s m) ≡ Some (cells.Ref t)
unfolding linked_of
linked_names s t m l kind table kind_is none has =
    let said = column_said s m l kind table kind_is none in
    let passes = passes_of m (is_linked s.tables t l) (rows_to (link_table_of l) (table_row_count s.tables (link_table_of l))) has in
    let cell = said_named s kind (cell_of s.tables m.table m.rid (link_column_of l)) t said.cell (sym (linked_test s.tables t m l kind kind_is) ∙ passes.0) said.says in
    said.held ∙ ap Some cell

-- a row that names an owner is listed
pub names_linked : (s : ImageStreams) (t m : Token) (l : Link) (kind : ColumnKind) → m.table ≡ link_table_of l → link_kind_of l ≡ Some kind → row_fault s m ≡ None
    → 1 ≤ m.rid → m.rid ≤ table_row_count s.tables (link_table_of l)
    → cell_in (link_table_of l) (link_column_of l) (row_cells s m) ≡ Some (cells.Ref t) → list_any (same_token m) (linked_of s.tables t l) ≡ true
unfolding linked_of
names_linked s t m l kind table kind_is none low high names =
    let said = column_said s m l kind table kind_is none in
    let cell : said.cell ≡ cells.Ref t = some_is said.cell (cells.Ref t) (sym said.held ∙ names) in
    let named = said_back s kind (cell_of s.tables m.table m.rid (link_column_of l)) t (said.says ∙ ap Some cell) in
    any_passing m (is_linked s.tables t l) (rows_to (link_table_of l) (table_row_count s.tables (link_table_of l)))
    ∙ and_from (is_linked s.tables t l m) (list_any (same_token m) (rows_to (link_table_of l) (table_row_count s.tables (link_table_of l))))
    (linked_test s.tables t m l kind kind_is ∙ named) (row_among s.tables m (link_table_of l) table low high)

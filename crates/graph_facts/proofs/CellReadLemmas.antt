-- What a number of a file says in a cell is within the bounds of the cell's column: ECMA-335 II.22, II.24.2.3 to II.24.2.6.
use Rattle.std.proofs.Common.{◌≡◌, ◌∙◌, refl, sym, ap, subst, ℕ, zero, suc, ◌*◌, ◌-◌, ◌<◌, ◌≤◌, Bool, true, false, cond, List, [], ◌∷◌, Option, Some, None, take, drop, length, nat_le, nat_lt, arith, length-drop}
use Rattle.std.specs.Prelude.{◌==◌, ◌||◌, slice_get}
use Rattle.std.specs.List.{list_any}
use Rattle.std.specs.Option.{option_map, unwrap_or}
use Rattle.std.proofs.lemmas.Bool.{and_from, eq-eqb, lt-ltb, or_left, or_right}
use Rattle.std.proofs.lemmas.Bool.Decides.{nat_tests}
use Rattle.std.proofs.lemmas.List.{length-take-le}
use Rattle.cil_base.specs.Token.{Token}
use Rattle.md_heaps.specs.Entries.{before_zero, text, blob, guid}
use Rattle.md_heaps.specs.LaidHeaps.{IsText}
use Rattle.md_heaps.specs.declared.guid.GuidAt.{GuidAt}
use Rattle.md_heaps.specs.declared.guid.GuidAt.TheVariants as guids
use Rattle.md_schema.specs.Coded.{coded_of}
use Rattle.md_schema.specs.CodedKind.{tables_of}
use Rattle.md_schema.specs.Reference.{Refers, index_of, is_tag_table, may_name_of}
use Rattle.md_schema.specs.Runs.{table_row_count}
use Rattle.md_schema.specs.declared.coded.Coded.{Coded as Reference}
use Rattle.md_schema.specs.declared.coded.Coded.TheVariants.{Null, Is, BadTag, Beyond}
use Rattle.md_schema.specs.declared.column.ColumnKind.{ColumnKind}
use Rattle.md_schema.specs.declared.column.ColumnKind.TheVariants.{U8Pad, U16, U32, Text, Guid, Blob, Index, Coded}
use Rattle.md_schema.proofs.ReferenceLemmas.{reference-refers}
use Rattle.node_model.specs.Cells.{cell_said, guid_cell, reference_cell}
use Rattle.node_model.specs.ColumnFit.{cell_fits}
use Rattle.node_model.specs.EditRefusals.{greatest_number}
use Rattle.node_model.specs.Keys.{is_row}
use Rattle.node_model.specs.Nodes.{Nodes}
use Rattle.node_model.specs.Streams.{ImageStreams}
use Rattle.node_model.specs.declared.cell.Cell.{Cell}
use Rattle.node_model.specs.declared.cell.Cell.TheVariants as cells
use Rattle.graph_facts.specs.RowHolds.{HoldsCell}

some_is : {A : Type 0} (x y : A) → Some x ≡ Some y → x ≡ y
some_is x y e = cc

before_zero_text : (s t : List ℕ) → before_zero s ≡ Some t → IsText t
before_zero_text [] t e = absurd cc
before_zero_text (x ∷ s) t e = by (x == 0) refl e (before_zero_text s)
  where
    more : (o : Option (List ℕ)) → before_zero s ≡ o → option_map (λ rest. x ∷ rest) o ≡ Some t → (x == 0) ≡ false → ((rest : List ℕ) → before_zero s ≡ Some rest → IsText rest) → IsText t
    more None is e other again = absurd cc
    more (Some rest) is e other again = subst IsText (some_is (x ∷ rest) t e) (rw other (again rest is))

    by : (b : Bool) → (x == 0) ≡ b → cond b (Some []) (option_map (λ rest. x ∷ rest) (before_zero s)) ≡ Some t → ((rest : List ℕ) → before_zero s ≡ Some rest → IsText rest) → IsText t
    by true is e again = subst IsText (some_is [] t e) refl
    by false is e again = more (before_zero s) refl e is again

heap_text : (heap : List ℕ) (i : ℕ) (t : List ℕ) → text heap i ≡ Some t → IsText t
unfolding text
heap_text heap i t e = by (i == 0) e
  where
    by : (b : Bool) → cond b (Some []) (before_zero (drop i heap)) ≡ Some t → IsText t
    by true e = subst IsText (some_is [] t e) refl
    by false e = before_zero_text (drop i heap) t e

sixteen : (heap : List ℕ) (n : ℕ) → (n == 0) ≡ false → nat_le (16 * n) (length heap) ≡ true → length (take 16 (drop (16 * n - 16) heap)) ≡ 16
sixteen heap n some within =
    let room : 16 * n ≤ length heap = grind (arith, nat_tests) in
    let first : 0 < n = grind (arith, nat_tests) in
    length-take-le 16 (drop (16 * n - 16) heap) (omega (arith, room, first, length-drop (16 * n - 16) heap))

heap_guid : (heap : List ℕ) (n : ℕ) (bytes : List ℕ) → guid heap n ≡ guids.Is bytes → length bytes ≡ 16
unfolding guid
heap_guid heap n bytes e = by (n == 0) (nat_le (16 * n) (length heap)) refl refl e
  where
    same_bytes : (x y : List ℕ) → guids.Is x ≡ guids.Is y → x ≡ y
    same_bytes x y e = cc

    by : (a b : Bool) → (n == 0) ≡ a → nat_le (16 * n) (length heap) ≡ b → cond a guids.Null (cond b (guids.Is (take 16 (drop (16 * n - 16) heap))) guids.Missing) ≡ guids.Is bytes
        → length bytes ≡ 16
    by true b i j e = absurd cc
    by false false i j e = absurd cc
    by false true i j e = ap length (sym (same_bytes _ bytes e)) ∙ sixteen heap n i j

-- the table of a tag is one that the kind may name
tag_named : (xs : List (Option ℕ)) (tag table : ℕ) → unwrap_or (slice_get xs tag) None ≡ Some table → list_any (is_tag_table table) xs ≡ true
tag_named [] tag table e = absurd cc
tag_named (x ∷ xs) zero table e = or_left (is_tag_table table x) (list_any (is_tag_table table) xs) (subst (λ o. is_tag_table table o ≡ true) (sym e) (eq-eqb table table refl))
tag_named (x ∷ xs) (suc tag) table e = or_right (is_tag_table table x) (list_any (is_tag_table table) xs) (tag_named xs tag table e)

names_of : (kind : ColumnKind) (value : ℕ) (t : Token) → Refers kind value (Is t) → (0 < t.rid) × (may_name_of kind t.table ≡ true)
names_of (Index number) value t (row, small, rid, table) = (omega (arith, row, rid), eq-eqb number t.table (sym table))
names_of (Coded kind) value t (tag, p, row, small, is) = (row, tag_named (tables_of kind) tag t.table is)
names_of _ value t said = absurd said

-- the rows of the tables stream are those of the graph
abbrev pub SameRows : List ℕ → Nodes → Type 0
SameRows tables n = (table : ℕ) → table_row_count tables table ≡ n.rows table

reference_holds : (tables : List ℕ) (n : Nodes) (kind : ColumnKind) (value : ℕ) (coded : Reference) (cell : Cell) → SameRows tables n → Refers kind value coded
    → ((t : Token) → cell_fits kind (cells.Ref t) ≡ true) → cell_fits kind cells.NoRef ≡ true → reference_cell tables coded ≡ Some cell → HoldsCell n kind cell
reference_holds tables n kind value Null cell rows said refs null e = subst (HoldsCell n kind) (some_is cells.NoRef cell e) (record { fits = null; within = tt })
reference_holds tables n kind value (Is t) cell rows said refs null e = by (nat_le t.rid (table_row_count tables t.table)) refl e
  where
    by : (b : Bool) → nat_le t.rid (table_row_count tables t.table) ≡ b → cond b (Some (cells.Ref t)) None ≡ Some cell → HoldsCell n kind cell
    by true is e =
        let names = names_of kind value t said in
        let there : is_row n.rows t ≡ true = and_from (nat_lt 0 t.rid) (nat_le t.rid (n.rows t.table)) (lt-ltb 0 t.rid names.0) (ap (λ r. nat_le t.rid r) (sym (rows t.table)) ∙ is) in
        subst (HoldsCell n kind) (some_is (cells.Ref t) cell e) (record { fits = refs t; within = record { allowed = names.1; there = there } })
    by false is e = absurd cc
reference_holds tables n kind value (BadTag tag) cell rows said refs null e = absurd cc
reference_holds tables n kind value (Beyond rid) cell rows said refs null e = absurd cc

-- a number at most the greatest of its column says a cell within the bounds
pub said_holds : (s : ImageStreams) (n : Nodes) (kind : ColumnKind) (value : ℕ) (cell : Cell) → SameRows s.tables n → ((limit : ℕ) → greatest_number kind ≡ Some limit → value ≤ limit)
    → cell_said s kind value ≡ Some cell → HoldsCell n kind cell
said_holds s n U8Pad value cell rows bound e = subst (HoldsCell n U8Pad) (some_is (cells.Num value) cell e) (record { fits = refl; within = bound })
said_holds s n U16 value cell rows bound e = subst (HoldsCell n U16) (some_is (cells.Num value) cell e) (record { fits = refl; within = bound })
said_holds s n U32 value cell rows bound e = subst (HoldsCell n U32) (some_is (cells.Num value) cell e) (record { fits = refl; within = bound })
said_holds s n Text value cell rows bound e = by (text s.strings value) refl e
  where
    by : (o : Option (List ℕ)) → text s.strings value ≡ o → option_map cells.Text o ≡ Some cell → HoldsCell n Text cell
    by None is e = absurd cc
    by (Some t) is e = subst (HoldsCell n Text) (some_is (cells.Text t) cell e) (record { fits = refl; within = heap_text s.strings value t is })
said_holds s n Guid value cell rows bound e = by (guid s.guids value) refl e
  where
    by : (g : GuidAt) → guid s.guids value ≡ g → guid_cell g ≡ Some cell → HoldsCell n Guid cell
    by guids.Null is e = subst (HoldsCell n Guid) (some_is cells.NoGuid cell e) (record { fits = refl; within = tt })
    by (guids.Is bytes) is e = subst (HoldsCell n Guid) (some_is (cells.Guid bytes) cell e) (record { fits = refl; within = heap_guid s.guids value bytes is })
    by guids.Missing is e = absurd cc
said_holds s n Blob value cell rows bound e = by (blob s.blobs value) e
  where
    by : (o : Option (List ℕ)) → option_map cells.Blob o ≡ Some cell → HoldsCell n Blob cell
    by None e = absurd cc
    by (Some bytes) e = subst (HoldsCell n Blob) (some_is (cells.Blob bytes) cell e) (record { fits = refl; within = tt })
said_holds s n (Index table) value cell rows bound e =
    reference_holds s.tables n (Index table) value (index_of table value) cell rows ((reference-refers (Index table) value (index_of table value)).0 refl) (λ t. refl) refl e
said_holds s n (Coded kind) value cell rows bound e =
    reference_holds s.tables n (Coded kind) value (coded_of kind value) cell rows ((reference-refers (Coded kind) value (coded_of kind value)).0 refl) (λ t. refl) refl e
said_holds s n _ value cell rows bound e = absurd cc

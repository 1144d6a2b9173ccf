-- What the keys of a file hold, to which nothing was done: ECMA-335 II.22 to II.25.
use Rattle.std.proofs.Common.{◌≡◌, ◌∙◌, refl, sym, ap, subst, ℕ, ◌+◌, ◌<◌, ◌≤◌, ◌^◌, nat_lt, Bool, true, false, cond, List, Option, Some, None, map, arith}
use Rattle.std.specs.Prelude.{◌==◌, bit_and, codes}
use Rattle.std.specs.List.{range_with_len}
use Rattle.std.specs.Option.{option_map_or}
use Rattle.std.proofs.Math.Nat.{pow-le-pow_right}
use Rattle.cil_base.specs.Place.{number_at}
use Rattle.cil_base.specs.Steps.{◌>>=◌}
use Rattle.cil_base.specs.Token.{Token}
use Rattle.il_code.specs.Body.{Body as BodyOf}
use Rattle.il_code.specs.Decoded.{body_at}
use Rattle.il_code.proofs.DecodedLemmas.{found-spells}
use Rattle.il_read.proofs.ReadWritableLemmas.{spelled-writable}
use Rattle.md_heaps.specs.Entries.{blob}
use Rattle.md_schema.specs.Cell.{cell_of, place_of, read_width}
use Rattle.md_schema.specs.Coded.{coded_of}
use Rattle.md_schema.specs.Column.{ColumnOf}
use Rattle.md_schema.specs.Entry.{column_of}
use Rattle.md_schema.specs.Layout.{head_of}
use Rattle.md_schema.specs.Tables.{type_spec}
use Rattle.md_schema.specs.declared.column.ColumnKind.{ColumnKind}
use Rattle.md_schema.specs.declared.column.ColumnKind.TheVariants.{U8Pad, U16, U32, Text, Guid, Blob, Sig, Index, Coded, Start, Rva, Offset}
use Rattle.md_schema.specs.declared.column_width.Counts.{Counts}
use Rattle.md_schema.specs.declared.coded_kind.CodedKind.TheVariants.{Implementation}
use Rattle.pe_image.specs.CliHeader.{resources_rva}
use Rattle.pe_image.specs.Facts.{image_facts}
use Rattle.pe_image.specs.Sections.{bytes_from}
use Rattle.sig_tree.specs.TreeAt.{tree_at}
use Rattle.sig_tree.specs.declared.tree.SigTree.{SigTree}
use Rattle.sig_tree.proofs.Trees.{tree_bounded}
use Rattle.node_model.specs.Bodies.{body_slot, read_body}
use Rattle.node_model.specs.Cells.{reference_cell}
use Rattle.node_model.specs.Data.{bytes_there, data_size, data_slot, read_data}
use Rattle.node_model.specs.Graph.{untouched}
use Rattle.node_model.specs.Immediate.{read}
use Rattle.node_model.specs.KeyKinds.{sig_column_of}
use Rattle.node_model.specs.Keys.{image_rows}
use Rattle.node_model.specs.Nodes.{Nodes}
use Rattle.node_model.specs.Resources.{bytes_here, counted_bytes, read_resource, resource_by, resource_slot}
use Rattle.node_model.specs.Signatures.{if_sort_fits, read_sig, sig_of, sig_slot, sort_fits}
use Rattle.node_model.specs.Streams.{ImageStreams, column_named, image_streams, number_of_column}
use Rattle.node_model.specs.declared.cell.Cell.{Cell}
use Rattle.node_model.specs.declared.cell.Cell.TheVariants as cells
use Rattle.node_model.specs.declared.key.Key.{Key}
use Rattle.node_model.specs.declared.key.Key.TheVariants as keys
use Rattle.node_model.specs.declared.slot.Slot.{Slot}
use Rattle.node_model.specs.declared.slot.Slot.TheVariants as slots
use Rattle.node_model.specs.declared.value.BodyValue.TheVariants.{NoBody, Native, Il}
use Rattle.node_model.specs.declared.value.ResourceValue.{ResourceValue}
use Rattle.node_model.specs.declared.value.ResourceValue.TheVariants.{Here, Elsewhere}
use Rattle.node_model.specs.declared.value.Value.{Value}
use Rattle.node_model.specs.declared.value.Value.TheVariants as values
use Rattle.graph_facts.specs.HoldsValue.{HoldsValue, HoldsResource, HoldsSig}
use Rattle.graph_facts.specs.OfTypes.{AreBytes}
use Rattle.graph_facts.proofs.ByteLemmas.{facts_hold, number_below, stream_bytes}
use Rattle.graph_facts.proofs.CellReadLemmas.{SameRows}
use Rattle.graph_facts.proofs.ListReadLemmas.{linked_holds, owned_holds}
use Rattle.graph_facts.proofs.RowReadLemmas.{row_holds}

same_value : (x y : Value) → slots.Value x ≡ slots.Value y → x ≡ y
same_value x y e = cc

some_is : {A : Type 0} (x y : A) → Some x ≡ Some y → x ≡ y
some_is x y e = cc

sort_held : (t : Token) (sig found : SigTree) → if_sort_fits t.table found ≡ Some sig → (found ≡ sig) × (sort_fits t.table found ≡ true)
sort_held t sig found e = by (sort_fits t.table found) refl e
  where
    by : (b : Bool) → sort_fits t.table found ≡ b → cond b (Some found) None ≡ Some sig → (found ≡ sig) × (sort_fits t.table found ≡ true)
    by true is e = (some_is found sig e, is)
    by false is e = absurd cc

sig_read : (s : ImageStreams) (t : Token) (sig : SigTree) → sig_of s t ≡ Some sig → HoldsSig t sig
unfolding sig_of
sig_read s t sig e = by_column (sig_column_of t.table) e
  where
    by_tree : (bytes : List ℕ) (o : Option SigTree) → tree_at (t.table == type_spec) bytes ≡ o → (o >>= λ sig. if_sort_fits t.table sig) ≡ Some sig → HoldsSig t sig
    by_tree bytes None is e = absurd cc
    by_tree bytes (Some found) is e =
        let held = sort_held t sig found e in
        subst (HoldsSig t) held.0 (record { sort = held.1; bounded = tree_bounded (t.table == type_spec) bytes found is })

    by_blob : (o : Option (List ℕ)) → (o >>= λ bytes. tree_at (t.table == type_spec) bytes >>= λ sig. if_sort_fits t.table sig) ≡ Some sig → HoldsSig t sig
    by_blob None e = absurd cc
    by_blob (Some bytes) e = by_tree bytes (tree_at (t.table == type_spec) bytes) refl e

    by_column : (o : Option ℕ)
        → (o >>= λ column. blob s.blobs (cell_of s.tables t.table t.rid column) >>= λ bytes. tree_at (t.table == type_spec) bytes >>= λ sig. if_sort_fits t.table sig) ≡ Some sig
        → HoldsSig t sig
    by_column None e = absurd cc
    by_column (Some column) e = by_blob (blob s.blobs (cell_of s.tables t.table t.rid column)) e

sig_holds : (s : ImageStreams) (n : Nodes) (t : Token) (v : Value) → read_sig s t ≡ slots.Value v → HoldsValue n (keys.Sig t) v
unfolding read_sig
sig_holds s n t v e = by (sig_of s t) refl e
  where
    by : (o : Option SigTree) → sig_of s t ≡ o → sig_slot t o ≡ slots.Value v → HoldsValue n (keys.Sig t) v
    by None is e = absurd cc
    by (Some sig) is e = subst (HoldsValue n (keys.Sig t)) (same_value (values.Sig sig) v e) (sig_read s t sig is)

body_holds : (s : ImageStreams) (b : List ℕ) (n : Nodes) (t : Token) (v : Value) → read_body s b t ≡ slots.Value v → HoldsValue n (keys.Body t) v
unfolding read_body
body_holds s b n t v e =
    let rva = number_of_column s t (codes "RVA") in
    by rva (rva == 0) (bit_and (number_of_column s t (codes "ImplFlags")) 3 == 0) e
  where
    by_body : (rva : ℕ) (o : Option BodyOf) → body_at (bytes_from b rva) s.users ≡ o → body_slot t o ≡ slots.Value v → HoldsValue n (keys.Body t) v
    by_body rva None is e = absurd cc
    by_body rva (Some body) is e =
        subst (HoldsValue n (keys.Body t)) (same_value (values.Body (Il body)) v e) (spelled-writable body (bytes_from b rva) s.users (found-spells (bytes_from b rva) s.users body is))

    by : (rva : ℕ) (x y : Bool)
        → cond x (slots.Value (values.Body NoBody)) (cond y (body_slot t (body_at (bytes_from b rva) s.users)) (slots.Value (values.Body (Native rva)))) ≡ slots.Value v → HoldsValue n (keys.Body t) v
    by rva true y e = subst (HoldsValue n (keys.Body t)) (same_value (values.Body NoBody) v e) tt
    by rva false true e = by_body rva (body_at (bytes_from b rva) s.users) refl e
    by rva false false e = subst (HoldsValue n (keys.Body t)) (same_value (values.Body (Native rva)) v e) tt

data_holds : (s : ImageStreams) (b : List ℕ) (n : Nodes) (t : Token) (v : Value) → read_data s b t ≡ slots.Value v → HoldsValue n (keys.Data t) v
unfolding read_data
data_holds s b n t v e = by (data_size s t >>= λ size. bytes_there b (number_of_column s t (codes "RVA")) size) e
  where
    by : (o : Option (List ℕ)) → data_slot t o ≡ slots.Value v → HoldsValue n (keys.Data t) v
    by None e = absurd cc
    by (Some bytes) e = subst (HoldsValue n (keys.Data t)) (same_value (values.Data bytes) v e) tt

resource_held : (b : List ℕ) (offset : ℕ) (o : Option Cell) (value : ResourceValue) → offset < 2 ^ 32 → resource_by b offset o ≡ Some value → HoldsResource value
resource_held b offset (Some (cells.Ref t)) value small e = subst HoldsResource (some_is (Elsewhere offset) value e) small
resource_held b offset (Some cells.NoRef) value small e = by_test (resources_rva b + offset) (nat_lt (resources_rva b + offset) (2 ^ 32)) e
  where
    by_bytes : (o : Option (List ℕ)) → (o >>= λ bytes. Some (Here bytes)) ≡ Some value → HoldsResource value
    by_bytes None e = absurd cc
    by_bytes (Some bytes) e = subst HoldsResource (some_is (Here bytes) value e) tt

    by_test : (rva : ℕ) (x : Bool) → cond x (counted_bytes (bytes_from b rva) >>= λ bytes. Some (Here bytes)) None ≡ Some value → HoldsResource value
    by_test rva true e = by_bytes (counted_bytes (bytes_from b rva)) e
    by_test rva false e = absurd cc
resource_held b offset _ value small e = absurd cc

-- no column has more than four bytes
two_or_four : (b : Bool) → cond b 2 4 ≤ 4
two_or_four true = omega arith
two_or_four false = omega arith

four_bytes : (kind : ColumnKind) (counts : Counts) → read_width kind counts ≤ 4
four_bytes U8Pad counts = omega arith
four_bytes U16 counts = omega arith
four_bytes U32 counts = omega arith
four_bytes Text counts = two_or_four _
four_bytes Guid counts = two_or_four _
four_bytes Blob counts = two_or_four _
four_bytes Sig counts = two_or_four _
four_bytes (Index table) counts = two_or_four _
four_bytes (Coded kind) counts = two_or_four _
four_bytes (Start table) counts = two_or_four _
four_bytes Rva counts = omega arith
four_bytes Offset counts = omega arith

cell_of_four : (stream : List ℕ) (table rid column : ℕ) → AreBytes stream → cell_of stream table rid column < 2 ^ 32
unfolding cell_of
cell_of_four stream table rid column bytes = by (place_of (head_of stream) table rid column) (column_of table column)
  where
    by : (place : ℕ) (o : Option ColumnOf) → option_map_or (λ found. number_at stream place (read_width found.kind (head_of stream).counts)) o 0 < 2 ^ 32
    by place None = omega arith
    by place (Some found) =
        let below = number_below stream place (read_width found.kind (head_of stream).counts) bytes in
        let most = pow-le-pow_right {n = 256} (omega arith) {i = read_width found.kind (head_of stream).counts} {j = 4} (four_bytes found.kind (head_of stream).counts) in
        omega (arith, below, most)

resource_holds : (s : ImageStreams) (b : List ℕ) (n : Nodes) (t : Token) (v : Value) → AreBytes s.tables → read_resource s b t ≡ slots.Value v → HoldsValue n (keys.Resource t) v
unfolding read_resource
resource_holds s b n t v bytes e =
    by (number_of_column s t (codes "Offset")) (reference_cell s.tables (coded_of Implementation (number_of_column s t (codes "Implementation"))))
    (resource_by b (number_of_column s t (codes "Offset")) (reference_cell s.tables (coded_of Implementation (number_of_column s t (codes "Implementation"))))) refl
    (cell_of_four s.tables t.table t.rid (column_named t.table (codes "Offset")) bytes) e
  where
    by : (offset : ℕ) (named : Option Cell) (o : Option ResourceValue) → resource_by b offset named ≡ o → offset < 2 ^ 32 → resource_slot t o ≡ slots.Value v → HoldsValue n (keys.Resource t) v
    by offset named None same small e = absurd cc
    by offset named (Some value) same small e = subst (HoldsValue n (keys.Resource t)) (same_value (values.Resource value) v e) (resource_held b offset named value small same)

-- the rows that the streams count are those of the file
same_rows : (b : List ℕ) → SameRows (image_streams b).tables (untouched b).nodes
unfolding image_streams image_rows
same_rows b table = refl

table_bytes : (b : List ℕ) → AreBytes b → AreBytes (image_streams b).tables
unfolding image_streams
table_bytes b bytes = stream_bytes b _ bytes

pub read_holds : (b : List ℕ) (k : Key) (v : Value) → AreBytes b → read b k ≡ slots.Value v → HoldsValue (untouched b).nodes k v
read_holds b (keys.Row t) v bytes e = row_holds (image_streams b) (untouched b).nodes t v (same_rows b) (table_bytes b bytes) e
read_holds b (keys.Sig t) v bytes e = sig_holds (image_streams b) (untouched b).nodes t v e
read_holds b (keys.Owned t n) v bytes e = owned_holds (image_streams b) (untouched b).nodes t n v (same_rows b) e
read_holds b (keys.Linked t l) v bytes e = linked_holds (image_streams b) (untouched b).nodes t l v (same_rows b) e
read_holds b (keys.Body t) v bytes e = body_holds (image_streams b) b (untouched b).nodes t v e
read_holds b (keys.Data t) v bytes e = data_holds (image_streams b) b (untouched b).nodes t v e
read_holds b (keys.Resource t) v bytes e = resource_holds (image_streams b) b (untouched b).nodes t v (table_bytes b bytes) e
read_holds b keys.Facts v bytes e = subst (HoldsValue (untouched b).nodes keys.Facts) (same_value (values.Facts (image_facts b)) v e) (facts_hold b bytes)

-- The row of a key of an image is there, and its table is one of the key's kind.
use Rattle.std.proofs.Common.{◌≡◌, ℕ, ◌+◌, ◌<◌, ◌≤◌, List, [], ◌∷◌, map, Option, Some, None, Bool, true, false, nat_lt, nat_le, ◌==◌, ◌||◌, cond, zero, suc, ◌^◌, codes, slice_get, refl, sym, ap, subst, ◌∙◌, arith}
use Rattle.std.specs.List.{filter, range_with_len}
use Rattle.std.proofs.lemmas.Bool.{and_parts, eqb-false, eqb-true, leb-true, ltb-true}
use Rattle.cil_base.specs.Token.{Token}
use Rattle.std.specs.Option.{IfSome, IsSome, is_some}
use Rattle.md_schema.specs.Entry.{columns_of, start_column_of}
use Rattle.md_schema.specs.Link.{link_table_of}
use Rattle.md_schema.specs.LinkedRows.{is_linked, linked_of, rows_to}
use Rattle.md_schema.specs.Reference.{index_of}
use Rattle.md_schema.specs.Runs.{table_row_count}
use Rattle.md_schema.specs.Tables.{field_rva, manifest_resource, method_def}
use Rattle.md_schema.specs.declared.coded.Coded.{Coded}
use Rattle.md_schema.specs.declared.coded.Coded.TheVariants.{Null, Is, BadTag, Beyond}
use Rattle.md_schema.specs.declared.link.Link.{Link}
use Rattle.pe_image.specs.Streams.{stream}
use Rattle.pe_image.specs.declared.stream.StreamName.TheVariants.{Tables}
use Rattle.node_model.specs.Cells.{reference_cell}
use Rattle.node_model.specs.KeyKinds.{has_kind, is_root_table, is_root_token, owns_table}
use Rattle.node_model.specs.Keys.{image_rows, is_key, is_key_there, is_row}
use Rattle.node_model.specs.Streams.{ImageStreams, image_streams, number_of_column}
use Rattle.node_model.specs.declared.cell.Cell.TheVariants as cells
use Rattle.node_model.specs.declared.key.Key.{Key}
use Rattle.node_model.specs.declared.key.Key.TheVariants.{Row, Sig, Owned, Body, Data, Resource}
use Rattle.node_model.specs.Data.{first_class_size, named_field}
use Rattle.node_model.specs.declared.cell.Cell.{Cell}
use Rattle.node_read.specs.inner.Opened.{IsFirstThere, IsRowThere}

-- what a key of the image is: there, and of a kind of its table
pub key_there : (b : List ℕ) (k : Key) → is_key b k ≡ true → is_key_there (image_rows b) k ≡ true
unfolding is_key
key_there b k h = (and_parts (is_key_there (image_rows b) k) (has_kind k) h).0

pub key_kind : (b : List ℕ) (k : Key) → is_key b k ≡ true → has_kind k ≡ true
unfolding is_key
key_kind b k h = (and_parts (is_key_there (image_rows b) k) (has_kind k) h).1

pub row_there : (b : List ℕ) (t : Token) → is_row (image_rows b) t ≡ true → IsRowThere (image_streams b) t
unfolding image_rows image_streams
row_there b t h =
    let parts = and_parts (nat_lt 0 t.rid) (nat_le t.rid (image_rows b t.table)) h in
    record { first = ltb-true 0 t.rid parts.0; last = leb-true t.rid (table_row_count (stream b Tables) t.table) parts.1 }

-- the first of the rows of a table that pass
first-row : (p : Token → Bool) (n a count : ℕ) (row : Token) (rest : List Token) → filter p (map (λ rid. record { table = n; rid = rid }) (range_with_len a count)) ≡ row ∷ rest → (a ≤ row.rid) × (row.rid < a + count) × (row.table ≡ n)
first-row p n a zero row rest e = absurd (cc)
first-row p n a (suc count) row rest e =
    let here : Token = record { table = n; rid = a } in
    let more : List Token = filter p (map (λ rid. record { table = n; rid = rid }) (range_with_len (a + 1) count)) in
    elim (p here) as (λ b. cond b (here ∷ more) more ≡ row ∷ rest → (a ≤ row.rid) × (row.rid < a + suc count) × (row.table ≡ n)) [
      | true ↦ λ is. let same : here ≡ row = cc in (omega (arith, ap (λ (x : Token). x.rid) same), omega (arith, ap (λ (x : Token). x.rid) same), sym (ap (λ (x : Token). x.table) same))
      | false ↦ λ is. let later = first-row p n (a + 1) count row rest is in (omega (arith, later.0), omega (arith, later.1), later.2)
    ] e

linked-first : (stream : List ℕ) (token : Token) (link : Link) (row : Token) (rest : List Token) → linked_of stream token link ≡ row ∷ rest → (1 ≤ row.rid) × (row.rid < 1 + table_row_count stream (link_table_of link)) × (row.table ≡ link_table_of link)
unfolding linked_of rows_to
linked-first stream token link row rest e = first-row (is_linked stream token link) (link_table_of link) 1 (table_row_count stream (link_table_of link)) row rest e

-- the first row that a link gives is one of the link's table, which has it
pub linked_there : (s : ImageStreams) (token : Token) (link : Link) (row : Token) (rest : List Token) → linked_of s.tables token link ≡ row ∷ rest → IsRowThere s row
linked_there s token link row rest e =
    let parts = linked-first s.tables token link row rest e in
    record { first = omega (arith, parts.0); last = omega (arith, parts.1, ap (table_row_count s.tables) parts.2) }

pub linked_table : (s : ImageStreams) (token : Token) (link : Link) (row : Token) (rest : List Token) → linked_of s.tables token link ≡ row ∷ rest → row.table ≡ link_table_of link
linked_table s token link row rest e = (linked-first s.tables token link row rest e).2

index-named : (n value : ℕ) (t : Token) → index_of n value ≡ Is t → 0 < t.rid
index-named n value t =
    let row : Token = record { table = n; rid = value } in
    elim (value == 0) as (λ b. (value == 0) ≡ b → cond b Null (cond (nat_lt value (2 ^ 24)) (Is row) (Beyond value)) ≡ Is t → 0 < t.rid) [
      | true ↦ λ null e. absurd (cc)
      | false ↦ λ more. elim (nat_lt value (2 ^ 24)) as (λ b. cond b (Is row) (Beyond value) ≡ Is t → 0 < t.rid) [
        | true ↦ λ e. let same : row ≡ t = cc in omega (arith, eqb-false value 0 more, ap (λ (r : Token). r.rid) same)
        | false ↦ λ e. absurd (cc)
      ]
    ] refl

reference-named : (s : ImageStreams) (coded : Coded) (t : Token) → reference_cell s.tables coded ≡ Some (cells.Ref t) → (coded ≡ Is t) × (t.rid ≤ table_row_count s.tables t.table)
reference-named s Null t e = absurd (cc)
reference-named s (BadTag tag) t e = absurd (cc)
reference-named s (Beyond rid) t e = absurd (cc)
reference-named s (Is u) t e =
    elim (nat_le u.rid (table_row_count s.tables u.table)) as (λ b. nat_le u.rid (table_row_count s.tables u.table) ≡ b → cond b (Some (cells.Ref u)) None ≡ Some (cells.Ref t) → (Is u ≡ Is t) × (t.rid ≤ table_row_count s.tables t.table)) [
      | true ↦ λ within is. let same : u ≡ t = cc in (ap Is same, subst (λ (r : Token). r.rid ≤ table_row_count s.tables r.table) same (leb-true u.rid (table_row_count s.tables u.table) within))
      | false ↦ λ past is. absurd (cc)
    ] refl e

-- the row that an index names is there, where the index is at no fault
pub named_there : (s : ImageStreams) (n value : ℕ) (t : Token) → reference_cell s.tables (index_of n value) ≡ Some (cells.Ref t) → IsRowThere s t
named_there s n value t e =
    let parts = reference-named s (index_of n value) t e in
    record { first = index-named n value t parts.0; last = parts.1 }

pub same_key_is : (b : List ℕ) (k q : Key) → k ≡ q → is_key b k ≡ true → is_key b q ≡ true
same_key_is b k q same h = subst (λ (x : Key). is_key b x ≡ true) same h

-- the row of each kind of key, and what its table is
pub row_key : (b : List ℕ) (t : Token) → is_key b (Row t) ≡ true → IsRowThere (image_streams b) t
row_key b t h = row_there b t (key_there b (Row t) h)

pub sig_key : (b : List ℕ) (t : Token) → is_key b (Sig t) ≡ true → IsRowThere (image_streams b) t
sig_key b t h = row_there b t (key_there b (Sig t) h)

pub body_key : (b : List ℕ) (t : Token) → is_key b (Body t) ≡ true → IsRowThere (image_streams b) t
body_key b t h = row_there b t (key_there b (Body t) h)

pub data_key : (b : List ℕ) (t : Token) → is_key b (Data t) ≡ true → IsRowThere (image_streams b) t
data_key b t h = row_there b t (key_there b (Data t) h)

pub resource_key : (b : List ℕ) (t : Token) → is_key b (Resource t) ≡ true → IsRowThere (image_streams b) t
resource_key b t h = row_there b t (key_there b (Resource t) h)

pub row_columns : (b : List ℕ) (t : Token) → is_key b (Row t) ≡ true → IsSome (columns_of t.table)
row_columns b t h = key_kind b (Row t) h

pub body_table : (b : List ℕ) (t : Token) → is_key b (Body t) ≡ true → t.table ≡ method_def
body_table b t h = eqb-true t.table method_def (key_kind b (Body t) h)

pub data_table : (b : List ℕ) (t : Token) → is_key b (Data t) ≡ true → t.table ≡ field_rva
data_table b t h = eqb-true t.table field_rva (key_kind b (Data t) h)

pub resource_table : (b : List ℕ) (t : Token) → is_key b (Resource t) ≡ true → t.table ≡ manifest_resource
resource_table b t h = eqb-true t.table manifest_resource (key_kind b (Resource t) h)

pub owner_there : (b : List ℕ) (t : Token) (n : ℕ) → is_key b (Owned t n) ≡ true → is_root_token t ≡ false → IsRowThere (image_streams b) t
owner_there b t n h is = row_there b t (ap (λ r. r || is_row (image_rows b) t) (sym is) ∙ key_there b (Owned t n) h)

pub owner_list : (b : List ℕ) (t : Token) (n : ℕ) → is_key b (Owned t n) ≡ true → is_root_token t ≡ false → IsSome (start_column_of t.table n)
unfolding owns_table
owner_list b t n h is = ap (λ r. cond r (is_root_table n) (is_some (start_column_of t.table n))) (sym is) ∙ key_kind b (Owned t n) h

-- the first row that a link gives, and the first of some rows
pub linked_first_there : (s : ImageStreams) (token : Token) (link : Link) (rows : List Token) → rows ≡ linked_of s.tables token link → IsFirstThere s (link_table_of link) rows
linked_first_there s token link [] e = tt
linked_first_there s token link (row ∷ rest) e = (linked_there s token link row rest (sym e), linked_table s token link row rest (sym e))

pub first_row_there : (s : ImageStreams) (n : ℕ) (rows : List Token) (row : Token) → IsFirstThere s n rows → Some row ≡ slice_get rows 0 → IsRowThere s row × (row.table ≡ n)
first_row_there s n [] row there e = absurd (cc)
first_row_there s n (r ∷ rs) row there e =
    let same : r ≡ row = cc in
    subst (λ (x : Token). IsRowThere s x × (x.table ≡ n)) same there

pub first_size : (s : ImageStreams) (rows : List Token) (row : Token) → Some row ≡ slice_get rows 0 → Some (number_of_column s row (codes "ClassSize")) ≡ first_class_size s rows
first_size s [] row e = absurd (cc)
first_size s (r ∷ rs) row e = let same : row ≡ r = cc in ap (λ (x : Token). Some (number_of_column s x (codes "ClassSize"))) same

pub first_none : (s : ImageStreams) (rows : List Token) → None ≡ slice_get rows 0 → None ≡ first_class_size s rows
first_none s [] e = refl
first_none s (r ∷ rs) e = absurd (cc)

named-some : (o : Option Cell) (t : Token) → named_field o ≡ Some t → o ≡ Some (cells.Ref t)
named-some None t e = absurd (cc)
named-some (Some (cells.Ref u)) t e = let same : u ≡ t = cc in ap (λ (r : Token). Some (cells.Ref r)) same
named-some (Some (cells.Num n)) t e = absurd (cc)
named-some (Some (cells.Text text)) t e = absurd (cc)
named-some (Some (cells.Guid bytes)) t e = absurd (cc)
named-some (Some cells.NoGuid) t e = absurd (cc)
named-some (Some (cells.Blob bytes)) t e = absurd (cc)
named-some (Some cells.NoRef) t e = absurd (cc)

-- the field that is named is there
pub field_there : (s : ImageStreams) (n value : ℕ) (o : Option Token) → o ≡ named_field (reference_cell s.tables (index_of n value)) → IfSome o (IsRowThere s)
field_there s n value None e = tt
field_there s n value (Some t) e = named_there s n value t (named-some (reference_cell s.tables (index_of n value)) t (sym e))

-- The metadata of five streams, as it is read.
use Rattle.std.proofs.Common.{◌≡◌, ℕ, suc, ◌+◌, ◌≤◌, ◌^◌, List, [], ◌∷◌, ◌++◌, true, false, map, length, take, replicate, slice_get, Some, refl, sym, ap, ◌∙◌, arith, eq-eqb}
use Rattle.std.specs.Prelude.{◌||◌, Ok, codes, is_none}
use Rattle.std.specs.List.{list_any}
use Rattle.std.proofs.lemmas.List.{append_assoc, length-append, length-replicate}
use Rattle.byteorder.specs.Endian.{little_bytes}
use Rattle.pe_image.specs.Places.{first_refusal, u16_at, u32_at}
use Rattle.pe_image.specs.Metadata.{has_root, version_length}
use Rattle.pe_image.specs.Streams.{all_headers, bad_header, header_places, header_width, stream_at, stream_conditions, stream_in, stream_list, stream_named}
use Rattle.pe_image.specs.declared.stream.Stream.{Stream}
use Rattle.pe_image.specs.declared.stream.StreamName.{StreamName}
use Rattle.pe_image.specs.declared.stream.StreamName.TheVariants.{Tables, Strings, UserStrings, Guids, Blobs}
use Rattle.pe_image.proofs.StreamLemmas.{places-suc, places-zero}
use Rattle.laid_parts.specs.LaidParts.{padding}
use Rattle.laid_parts.proofs.HasPart.{HasPart, has-list, has-room, has-slice, length-joined, sizes}
use Rattle.laid_parts.proofs.PartNumbers.{number-there}
use Rattle.pe_write.specs.declared.metadata.StreamBytes.{StreamBytes}
use Rattle.pe_write.specs.Metadata.{blobs_offset, zero_ended, guids_offset, metadata_bytes, metadata_fields, metadata_length, stream_header, strings_offset, tables_offset, users_offset, version_size}
use Rattle.pe_write.specs.inner.Sizes.{sized_metadata, sizes_of}
use Rattle.pe_write.proofs.StreamHeaders.{IsHeader, header-read}
use Rattle.pe_write.proofs.StreamNames.{blobs-named, guids-named, strings-named, tables-named, users-named}
use Rattle.pe_write.proofs.TestLemmas.{at-most, both-true, not-refused}

next-header : (m : List ℕ) (p w q n : ℕ) → header_width m p ≡ w → p + w ≡ q → header_places m p (suc n) ≡ p ∷ header_places m q n
next-header m p w q n e f = places-suc m p n ∙ ap (λ (k : ℕ). p ∷ header_places m (p + k) n) e ∙ ap (λ (k : ℕ). p ∷ header_places m k n) f

pub length-zero_ended : (v : List ℕ) → length (zero_ended v) ≡ version_size v
length-zero_ended v =
    let zeros = 1 + padding 4 (length v + 1) in
    let both = length-append v (replicate zeros 0) in
    let pad = length-replicate {A = ℕ} zeros 0 in
    omega (arith, both, pad)

module _ (v : List ℕ) (s : StreamBytes) where
  abbrev pub m : List ℕ
  m = metadata_bytes v s

  abbrev pub vs : ℕ
  vs = version_size v

  abbrev fields : List (List ℕ)
  fields = metadata_fields v s

  field : (i place : ℕ) (part : List ℕ) → slice_get fields i ≡ Some part → sizes (take i fields) ≡ place → HasPart m place part
  unfolding metadata_bytes
  field i place part h e = has-list fields i part place h e

  -- the root
  root-size : sizes (take 8 fields) ≡ 20 + vs
  root-size = let e = length-zero_ended v in omega (arith, e)

  mark : HasPart m 0 (little_bytes 4 0x424a5342)
  mark = field 0 0 (little_bytes 4 0x424a5342) refl refl

  text-size : HasPart m 12 (little_bytes 4 vs)
  text-size = field 4 12 (little_bytes 4 vs) refl refl

  pub text : HasPart m 16 (zero_ended v)
  text = field 5 16 (zero_ended v) refl refl

  count : HasPart m (18 + vs) (little_bytes 2 5)
  count = field 7 (18 + vs) (little_bytes 2 5) refl (let e = length-zero_ended v in omega (arith, e))

  -- the five headers
  header-1 : HasPart m (20 + vs) (stream_header (tables_offset v) (length s.tables) (codes "#~"))
  header-1 = field 8 (20 + vs) (stream_header (tables_offset v) (length s.tables) (codes "#~")) refl root-size

  header-2 : HasPart m (32 + vs) (stream_header (strings_offset v s) (length s.strings) (codes "#Strings"))
  header-2 = field 9 (32 + vs) (stream_header (strings_offset v s) (length s.strings) (codes "#Strings")) refl (let e = root-size in omega (arith, e))

  header-3 : HasPart m (52 + vs) (stream_header (users_offset v s) (length s.users) (codes "#US"))
  header-3 = field 10 (52 + vs) (stream_header (users_offset v s) (length s.users) (codes "#US")) refl (let e = root-size in omega (arith, e))

  header-4 : HasPart m (64 + vs) (stream_header (guids_offset v s) (length s.guids) (codes "#GUID"))
  header-4 = field 11 (64 + vs) (stream_header (guids_offset v s) (length s.guids) (codes "#GUID")) refl (let e = root-size in omega (arith, e))

  header-5 : HasPart m (80 + vs) (stream_header (blobs_offset v s) (length s.blobs) (codes "#Blob"))
  header-5 = field 12 (80 + vs) (stream_header (blobs_offset v s) (length s.blobs) (codes "#Blob")) refl (let e = root-size in omega (arith, e))

  -- the five streams
  headers-size : sizes (take 13 fields) ≡ tables_offset v
  headers-size = let e = root-size in omega (arith, e)

  pub has-tables : HasPart m (tables_offset v) s.tables
  has-tables = field 13 (tables_offset v) s.tables refl headers-size

  pub has-strings : HasPart m (strings_offset v s) s.strings
  has-strings = field 14 (strings_offset v s) s.strings refl (let e = headers-size in omega (arith, e))

  pub has-users : HasPart m (users_offset v s) s.users
  has-users = field 15 (users_offset v s) s.users refl (let e = headers-size in omega (arith, e))

  pub has-guids : HasPart m (guids_offset v s) s.guids
  has-guids = field 16 (guids_offset v s) s.guids refl (let e = headers-size in omega (arith, e))

  pub has-blobs : HasPart m (blobs_offset v s) s.blobs
  has-blobs = field 17 (blobs_offset v s) s.blobs refl (let e = headers-size in omega (arith, e))

  mark-read : u32_at m 0 ≡ 0x424a5342
  unfolding u32_at
  mark-read = number-there 4 0x424a5342 mark (omega arith)

  count-read : u16_at m (18 + vs) ≡ 5
  unfolding u16_at
  count-read = number-there 2 5 count (omega arith)

  module _ (small : length m ≤ 2 ^ 26) where
    pub length-read : version_length m ≡ vs
    unfolding u32_at
    length-read =
        let room = has-room text in
        let long = length-zero_ended v in
        number-there 4 vs text-size (omega (arith, small, room, long))

    read-1 : IsHeader m (20 + vs) (tables_offset v) (length s.tables) 12 Tables
    read-1 =
        let room = has-room has-tables in
        header-read m (20 + vs) (tables_offset v) (length s.tables) 2 (zero_ended (codes "#~")) Tables header-1 tables-named (omega (arith, small, room)) (omega (arith, small, room)) room

    read-2 : IsHeader m (32 + vs) (strings_offset v s) (length s.strings) 20 Strings
    read-2 =
        let room = has-room has-strings in
        header-read m (32 + vs) (strings_offset v s) (length s.strings) 8 (zero_ended (codes "#Strings")) Strings header-2 strings-named (omega (arith, small, room)) (omega (arith, small, room)) room

    read-3 : IsHeader m (52 + vs) (users_offset v s) (length s.users) 12 UserStrings
    read-3 =
        let room = has-room has-users in
        header-read m (52 + vs) (users_offset v s) (length s.users) 3 (zero_ended (codes "#US")) UserStrings header-3 users-named (omega (arith, small, room)) (omega (arith, small, room)) room

    read-4 : IsHeader m (64 + vs) (guids_offset v s) (length s.guids) 16 Guids
    read-4 =
        let room = has-room has-guids in
        header-read m (64 + vs) (guids_offset v s) (length s.guids) 5 (zero_ended (codes "#GUID")) Guids header-4 guids-named (omega (arith, small, room)) (omega (arith, small, room)) room

    read-5 : IsHeader m (80 + vs) (blobs_offset v s) (length s.blobs) 16 Blobs
    read-5 =
        let room = has-room has-blobs in
        header-read m (80 + vs) (blobs_offset v s) (length s.blobs) 5 (zero_ended (codes "#Blob")) Blobs header-5 blobs-named (omega (arith, small, room)) (omega (arith, small, room)) room

    abbrev header-places : List ℕ
    header-places = (20 + vs) ∷ (32 + vs) ∷ (52 + vs) ∷ (64 + vs) ∷ (80 + vs) ∷ []

    abbrev one : StreamName → ℕ → ℕ → Stream
    one name offset size = record { name = Some name; offset = offset; size = size }

    abbrev five : List Stream
    five =
        one Tables (tables_offset v) (length s.tables) ∷ one Strings (strings_offset v s) (length s.strings) ∷ one UserStrings (users_offset v s) (length s.users)
        ∷ one Guids (guids_offset v s) (length s.guids) ∷ one Blobs (blobs_offset v s) (length s.blobs) ∷ []

    headers-read : all_headers m ≡ header-places
    unfolding all_headers
    headers-read =
        ap (λ (n : ℕ). header_places m (20 + n) (u16_at m (18 + n))) length-read
        ∙ ap (λ (n : ℕ). header_places m (20 + vs) n) count-read
        ∙ next-header m (20 + vs) 12 (32 + vs) 4 read-1.width (omega arith)
        ∙ ap (λ ps. (20 + vs) ∷ ps) (next-header m (32 + vs) 20 (52 + vs) 3 read-2.width (omega arith)
        ∙ ap (λ ps. (32 + vs) ∷ ps) (next-header m (52 + vs) 12 (64 + vs) 2 read-3.width (omega arith)
        ∙ ap (λ ps. (52 + vs) ∷ ps) (next-header m (64 + vs) 16 (80 + vs) 1 read-4.width (omega arith)
        ∙ ap (λ ps. (64 + vs) ∷ ps) (next-header m (80 + vs) 16 (96 + vs) 0 read-5.width (omega arith)
        ∙ ap (λ ps. (80 + vs) ∷ ps) (places-zero m (96 + vs))))))

    sound : list_any (bad_header m) (all_headers m) ≡ false
    sound =
        ap (list_any (bad_header m)) headers-read
        ∙ ap (λ t. t || (bad_header m (32 + vs) || (bad_header m (52 + vs) || (bad_header m (64 + vs) || (bad_header m (80 + vs) || false))))) read-1.good
        ∙ ap (λ t. t || (bad_header m (52 + vs) || (bad_header m (64 + vs) || (bad_header m (80 + vs) || false)))) read-2.good
        ∙ ap (λ t. t || (bad_header m (64 + vs) || (bad_header m (80 + vs) || false))) read-3.good
        ∙ ap (λ t. t || (bad_header m (80 + vs) || false)) read-4.good
        ∙ ap (λ t. t || false) read-5.good

    streams-read : stream_list m ≡ five
    unfolding stream_list
    streams-read =
        ap (map (stream_at m)) headers-read
        ∙ ap (λ x. x ∷ map (stream_at m) ((32 + vs) ∷ (52 + vs) ∷ (64 + vs) ∷ (80 + vs) ∷ [])) read-1.stream
        ∙ ap (λ xs. one Tables (tables_offset v) (length s.tables) ∷ xs) (ap (λ x. x ∷ map (stream_at m) ((52 + vs) ∷ (64 + vs) ∷ (80 + vs) ∷ [])) read-2.stream
        ∙ ap (λ xs. one Strings (strings_offset v s) (length s.strings) ∷ xs) (ap (λ x. x ∷ map (stream_at m) ((64 + vs) ∷ (80 + vs) ∷ [])) read-3.stream
        ∙ ap (λ xs. one UserStrings (users_offset v s) (length s.users) ∷ xs) (ap (λ x. x ∷ map (stream_at m) ((80 + vs) ∷ [])) read-4.stream
        ∙ ap (λ xs. one Guids (guids_offset v s) (length s.guids) ∷ xs) (ap (λ x. x ∷ []) read-5.stream))))

    pub streams-pass : first_refusal (stream_conditions m) (stream_list m) ≡ Ok (stream_list m)
    unfolding stream_conditions
    streams-pass = not-refused (stream_conditions m) (stream_list m) (sound, (ap (λ xs. is_none (stream_named xs Tables)) streams-read, tt))

    pub tables-read : stream_in m (stream_named (stream_list m) Tables) ≡ s.tables
    tables-read = ap (λ xs. stream_in m (stream_named xs Tables)) streams-read ∙ has-slice has-tables

    pub strings-read : stream_in m (stream_named (stream_list m) Strings) ≡ s.strings
    strings-read = ap (λ xs. stream_in m (stream_named xs Strings)) streams-read ∙ has-slice has-strings

    pub users-read : stream_in m (stream_named (stream_list m) UserStrings) ≡ s.users
    users-read = ap (λ xs. stream_in m (stream_named xs UserStrings)) streams-read ∙ has-slice has-users

    pub guids-read : stream_in m (stream_named (stream_list m) Guids) ≡ s.guids
    guids-read = ap (λ xs. stream_in m (stream_named xs Guids)) streams-read ∙ has-slice has-guids

    pub blobs-read : stream_in m (stream_named (stream_list m) Blobs) ≡ s.blobs
    blobs-read = ap (λ xs. stream_in m (stream_named xs Blobs)) streams-read ∙ has-slice has-blobs

    pub root-there : has_root m ≡ true
    root-there =
        let room = has-room has-tables in
        let long = length-read in
        both-true _ _ (at-most (0 + 4) (length m) (omega (arith, room)))
        (both-true _ _ (eq-eqb (u32_at m 0) 0x424a5342 mark-read) (at-most (0 + (20 + version_length m)) (length m) (omega (arith, room, long))))

pub length_is : (v : List ℕ) (s : StreamBytes) → length (metadata_bytes v s) ≡ metadata_length v s
unfolding metadata_bytes
length_is v s = let e = headers-size v s in length-joined (metadata_fields v s) ∙ omega (arith, e)

pub sized_is : (v : List ℕ) (s : StreamBytes) → sized_metadata (sizes_of v s) v s.tables s.strings s.users s.guids s.blobs ≡ metadata_bytes v s
unfolding sized_metadata metadata_bytes
sized_is v s =
    ap (λ rest. little_bytes 4 0x424a5342 ++ (little_bytes 2 1 ++ (little_bytes 2 1 ++ (replicate 4 0 ++ (little_bytes 4 (version_size v) ++ rest)))))
    (sym (append_assoc v (replicate (1 + padding 4 (length v + 1)) 0) _))

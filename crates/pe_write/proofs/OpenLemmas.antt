-- An image that was written is opened: its headers, its section, the CLI header and the metadata, as they are read.
use Rattle.std.proofs.Common.{◌≡◌, ℕ, ◌+◌, ◌-◌, ◌*◌, ◌<◌, ◌≤◌, ◌^◌, List, [], ◌∷◌, ◌++◌, Bool, true, false, cond, map, not, length, take, drop, Some, None, refl, sym, ap, subst, ◌∙◌, arith, eqb, eq-eqb}
use Rattle.std.specs.Prelude.{◌||◌, min, Ok, option_map}
use Rattle.std.specs.List.{range_with_len, slice_range}
use Rattle.std.proofs.lemmas.List.{length-append, length-drop, take_rest}
use Rattle.byteorder.specs.Endian.{little_bytes, little_from}
use Rattle.pe_image.specs.Places.{first_refusal, u16_at, u32_at}
use Rattle.pe_image.specs.Headers.{cli_rva, directory_count, has_cli, has_dos, has_pe, has_sections, header_conditions, headers_of, is_plus, magic, magic_conditions, optional_header, optional_size, pe_signature, room_conditions, section_count, section_headers, signature_conditions, wider_by}
use Rattle.pe_image.specs.Sections.{bytes_from, bytes_in, has_rva, place, raw_place_of, section_header_at, section_headers_at, section_list, section_of}
use Rattle.pe_image.specs.CliHeader.{cli_header, metadata_rva, metadata_size, resources_rva}
use Rattle.pe_image.specs.Metadata.{has_root, metadata, metadata_extent, root_conditions}
use Rattle.pe_image.specs.Streams.{stream, stream_conditions, stream_in, stream_list, stream_named}
use Rattle.pe_image.specs.Layout.{laid_pe, pe_layout}
use Rattle.pe_image.specs.declared.facts.Facts.{Facts}
use Rattle.pe_image.specs.declared.section.Section.{Section}
use Rattle.pe_image.specs.declared.stream.StreamName.TheVariants.{Tables, Strings, UserStrings, Guids, Blobs}
use Rattle.pe_image.proofs.LayoutLemmas.{laid-out}
use Rattle.laid_parts.proofs.HasPart.{HasPart, has-at, has-drop, has-front, has-room, has-take, has-within}
use Rattle.laid_parts.proofs.PartLemmas.{has-part, places_are_lengths}
use Rattle.laid_parts.proofs.PartNumbers.{number-in, number-there}
use Rattle.laid_parts.specs.LaidParts.{place_of_part}
use Rattle.pe_write.specs.Image.{cli_numbers, image_bytes, image_size, metadata_offset, raw_size, used_size}
use Rattle.pe_write.specs.Metadata.{metadata_bytes}
use Rattle.pe_write.specs.Reread.{ImagesAreReread, IsReread, PartsAreReread, ResourcesAreReread}
use Rattle.pe_write.specs.declared.contents.Contents.{Contents}
use Rattle.pe_write.specs.declared.metadata.StreamBytes.{StreamBytes}
use Rattle.pe_write.proofs.HeaderNumbers as numbers
use Rattle.pe_write.proofs.ImagePlaces as at
use Rattle.pe_write.proofs.MetadataLemmas as meta
use Rattle.pe_write.proofs.TestLemmas.{at-most, both-true, is-not-less, is-not-zero, less, not-less, not-refused}

-- the magic says which kind it is
plus-by : (plus : Bool) → eqb (cond plus 523 267) 523 ≡ plus
plus-by true = refl
plus-by false = refl

magic-by : (plus : Bool) → not ((eqb (cond plus 523 267) 267) || (eqb (cond plus 523 267) 523)) ≡ false
magic-by true = refl
magic-by false = refl

module _ (f : Facts) (c : Contents) (small : length (image_bytes f c) ≤ 2 ^ 26) where
  abbrev b : List ℕ
  b = image_bytes f c

  abbrev w : ℕ
  w = wider_by f.plus

  abbrev raw : ℕ
  raw = raw_size c

  long : length b ≡ 512 + raw
  long = at.length-bytes f c

  used : metadata_offset c + length c.metadata ≤ raw
  used = let e = at.used-is c in let r = at.raw-is c in omega (arith, e, r)

  offset : 72 + length c.body ≤ metadata_offset c
  offset = let e = at.offset-is c in omega (arith, e)

  file-numbers : numbers.FileNumbers f.plus (at.file f c)
  file-numbers = numbers.file-numbers f.plus f

  optional-numbers : numbers.OptionalNumbers f.plus (at.optional f c)
  optional-numbers = numbers.optional-numbers f.plus f raw (image_size c)

  section-numbers : numbers.SectionNumbers raw (at.section f c)
  section-numbers = numbers.section-numbers (used_size c) raw

  cli-numbers : numbers.CliHeaderNumbers (cli_numbers f c) (at.cli f c)
  cli-numbers = numbers.cli-numbers (cli_numbers f c)

  pub signature : pe_signature b ≡ 64
  unfolding pe_signature u32_at
  signature =
      let n = numbers.dos-numbers in
      let size = n.size in
      number-in (at.has-dos f c) 60 4 (omega (arith, size)) ∙ n.signature

  dos : u16_at b 0 ≡ 0x5a4d
  unfolding u16_at
  dos =
      let n = numbers.dos-numbers in
      let size = n.size in
      number-in (at.has-dos f c) 0 2 (omega (arith, size)) ∙ n.magic

  pe : u32_at b 64 ≡ 0x4550
  unfolding u32_at
  pe = let size = file-numbers.size in number-in (at.has-file f c) 0 4 (omega (arith, size)) ∙ file-numbers.signature

  count : section_count b ≡ 1
  unfolding u16_at
  count =
      let size = file-numbers.size in
      ap (λ (s : ℕ). little_from (s + 6) 2 b) signature ∙ number-in (at.has-file f c) 6 2 (omega (arith, size)) ∙ file-numbers.sections

  size : optional_size b ≡ 224 + w
  unfolding u16_at
  size =
      let size = file-numbers.size in
      ap (λ (s : ℕ). little_from (s + 20) 2 b) signature ∙ number-in (at.has-file f c) 20 2 (omega (arith, size)) ∙ file-numbers.optional

  pub header : optional_header b ≡ 88
  header = ap (λ (s : ℕ). s + 24) signature

  is-magic : magic b ≡ cond f.plus 523 267
  unfolding magic u16_at
  is-magic =
      let size = optional-numbers.size in
      ap (λ t. cond t (little_from (optional_header b) 2 b) 0) (at-most (optional_header b + 2) (length b) (omega (arith, long, header)))
      ∙ ap (λ (s : ℕ). little_from s 2 b) header
      ∙ number-in (at.has-optional f c) 0 2 (omega (arith, size))
      ∙ optional-numbers.magic

  pub is-plus : is_plus b ≡ f.plus
  unfolding is_plus
  is-plus = ap (λ (n : ℕ). eqb n 523) is-magic ∙ plus-by f.plus

  wider : wider_by (is_plus b) ≡ w
  wider = ap wider_by is-plus

  directories : directory_count b ≡ 16
  unfolding u32_at
  directories =
      let size = optional-numbers.size in
      let place : 88 + 92 + w ≡ 88 + (92 + w) = omega arith in
      ap (λ (s : ℕ). little_from (s + 92 + wider_by (is_plus b)) 4 b) header
      ∙ ap (λ (n : ℕ). little_from (88 + 92 + n) 4 b) wider
      ∙ ap (λ (n : ℕ). little_from n 4 b) place
      ∙ number-in (at.has-optional f c) (92 + w) 4 (omega (arith, size))
      ∙ optional-numbers.directories

  cli-at : cli_rva b ≡ 0x2000
  unfolding u32_at
  cli-at =
      let size = optional-numbers.size in
      let place : 88 + 208 + w ≡ 88 + (208 + w) = omega arith in
      ap (λ (s : ℕ). little_from (s + 208 + wider_by (is_plus b)) 4 b) header
      ∙ ap (λ (n : ℕ). little_from (88 + 208 + n) 4 b) wider
      ∙ ap (λ (n : ℕ). little_from n 4 b) place
      ∙ number-in (at.has-optional f c) (208 + w) 4 (omega (arith, size))
      ∙ optional-numbers.cli

  dos-there : has_dos b ≡ true
  dos-there = both-true _ _ (at-most (0 + 2) (length b) (omega (arith, long))) (eq-eqb (u16_at b 0) 0x5a4d dos)

  pe-there : has_pe b ≡ true
  pe-there =
      both-true _ _ (at-most (0x3c + 4) (length b) (omega (arith, long)))
      (both-true _ _ (at-most (pe_signature b + 24) (length b) (omega (arith, long, signature)))
      (eq-eqb (u32_at b (pe_signature b)) 0x4550 (ap (u32_at b) signature ∙ pe)))

  sections-there : has_sections b ≡ true
  sections-there =
      let few = at.wider-few f.plus in
      both-true _ _ (at-most (optional_header b + (96 + wider_by (is_plus b))) (length b) (omega (arith, long, header, wider, few)))
      (at-most (section_headers b + 40 * section_count b) (length b) (omega (arith, long, header, size, count, few)))

  cli-there : has_cli b ≡ true
  cli-there =
      let few = at.wider-few f.plus in
      both-true _ _ (is-not-less (directory_count b) 15 (omega (arith, directories)))
      (both-true _ _ (is-not-less (optional_size b) (216 + wider_by (is_plus b)) (omega (arith, size, wider)))
      (both-true _ _ (at-most (optional_header b + (216 + wider_by (is_plus b))) (length b) (omega (arith, long, header, wider, few)))
      (is-not-zero (cli_rva b) (omega (arith, cli-at)))))

  headers-pass : first_refusal (header_conditions b) (headers_of b) ≡ Ok (headers_of b)
  unfolding header_conditions signature_conditions magic_conditions room_conditions
  headers-pass =
      not-refused (header_conditions b) (headers_of b) (
        not-less (2 ^ 26) (length b) small,
        (
          ap not dos-there,
          (
            ap not pe-there,
            (
              ap (λ (n : ℕ). not ((eqb n 267) || (eqb n 523))) is-magic ∙ magic-by f.plus,
              (ap not sections-there, (ap not cli-there, tt)),
            ),
          ),
        ),
      )

  abbrev only : Section
  only = record { virtual_address = 0x2000; raw_size = raw; raw_place = 0x200 }

  section-read : section_header_at b (312 + w) ≡ only
  unfolding section_header_at u32_at
  section-read =
      let size = section-numbers.size in
      let h = at.has-section f c in
      let raw_there : little_from (312 + w + 16) 4 b ≡ raw = number-there 4 raw (has-within h section-numbers.raw_size) (omega (arith, long, small)) in
      ap (λ (n : ℕ). record { virtual_address = n; raw_size = little_from (312 + w + 16) 4 b; raw_place = little_from (312 + w + 20) 4 b }) (number-in h 12 4 (omega (arith, size)) ∙ section-numbers.rva)
      ∙ ap (λ (n : ℕ). record { virtual_address = 0x2000; raw_size = n; raw_place = little_from (312 + w + 20) 4 b }) raw_there
      ∙ ap (λ (n : ℕ). record { virtual_address = 0x2000; raw_size = raw; raw_place = n }) (number-in h 20 4 (omega (arith, size)) ∙ section-numbers.place)

  sections-read : section_list b ≡ only ∷ []
  unfolding section_headers_at
  sections-read =
      let start : section_headers b ≡ 312 + w = omega (arith, header, size) in
      let first : 312 + w + 40 * 0 ≡ 312 + w = omega arith in
      ap (λ (n : ℕ). map (λ k. section_header_at b (n + 40 * k)) (range_with_len 0 (section_count b))) start
      ∙ ap (λ (n : ℕ). map (λ k. section_header_at b (312 + w + 40 * k)) (range_with_len 0 n)) count
      ∙ ap (λ (n : ℕ). section_header_at b n ∷ []) first
      ∙ ap (λ s. s ∷ []) section-read

  -- the section has the RVAs of its raw data
  rva-there : (i : ℕ) → i < raw → has_rva (0x2000 + i) only ≡ true
  rva-there i h = both-true _ _ (at-most 0x2000 (0x2000 + i) (omega arith)) (less (0x2000 + i) (0x2000 + raw) (omega arith))

  pub places-read : (i : ℕ) → i < raw → place b (0x2000 + i) ≡ Some (0x200 + i)
  unfolding place
  places-read i h =
      let rva = 0x2000 + i in
      let start : rva - 0x2000 + 0x200 ≡ 0x200 + i = omega arith in
      ap (λ xs. option_map (raw_place_of rva) (section_of xs rva)) sections-read
      ∙ ap (λ t. option_map (raw_place_of rva) (cond t (Some only) None)) (rva-there i h)
      ∙ ap (λ (n : ℕ). Some n) start

  pub bytes-read : (i : ℕ) → i < raw → bytes_from b (0x2000 + i) ≡ drop (0x200 + i) b
  unfolding bytes_from
  bytes-read i h =
      let rva = 0x2000 + i in
      let start : rva - 0x2000 + 0x200 ≡ 0x200 + i = omega arith in
      let end : min (0x200 + raw) (length b) ≡ length b = omega (arith, long) in
      ap (λ xs. bytes_in b rva (section_of xs rva)) sections-read
      ∙ ap (λ t. bytes_in b rva (cond t (Some only) None)) (rva-there i h)
      ∙ ap (λ (n : ℕ). slice_range b n (min (0x200 + raw) (length b))) start
      ∙ ap (λ (n : ℕ). slice_range b (0x200 + i) n) end
      ∙ take_rest b (0x200 + i)

  pub cli-read : cli_header b ≡ at.cli f c ++ (at.has-cli f c).after
  unfolding cli_header
  cli-read = ap (bytes_from b) cli-at ∙ bytes-read 0 (omega (arith, used, offset)) ∙ has-drop (at.has-cli f c)

  -- numbers of the CLI header
  pub cli-has : HasPart (cli_header b) 0 (at.cli f c)
  cli-has = subst (λ s. HasPart s 0 (at.cli f c)) (sym cli-read) (has-front (at.cli f c) (at.has-cli f c).after)

  pub cli-four : (i n : ℕ) → HasPart (at.cli f c) i (little_bytes 4 n) → n < 2 ^ 32 → u32_at (cli_header b) i ≡ n
  unfolding u32_at
  cli-four i n h fits = number-there 4 n (has-at (let z : 0 + i ≡ i = omega arith in z) (has-within cli-has h)) fits

  rva-read : metadata_rva b ≡ 0x2000 + metadata_offset c
  rva-read = cli-four 8 (0x2000 + metadata_offset c) cli-numbers.metadata_rva (omega (arith, small, long, used))

  size-read : metadata_size b ≡ length c.metadata
  size-read = cli-four 12 (length c.metadata) cli-numbers.metadata_size (omega (arith, small, long, used))

  pub resources-read : c.resources_rva < 2 ^ 32 → resources_rva b ≡ c.resources_rva
  unfolding resources_rva
  resources-read h = cli-four 24 c.resources_rva cli-numbers.resources_rva h

  module _ (some : 0 < length c.metadata) where
    from-metadata : bytes_from b (metadata_rva b) ≡ drop (0x200 + metadata_offset c) b
    from-metadata = ap (bytes_from b) rva-read ∙ bytes-read (metadata_offset c) (omega (arith, used, some))

    pub metadata-read : metadata b ≡ c.metadata
    unfolding metadata
    metadata-read =
        ap (λ s. take (metadata_size b) s) from-metadata
        ∙ ap (λ (n : ℕ). take n (drop (0x200 + metadata_offset c) b)) size-read
        ∙ has-take (at.has-metadata f c)

    root-pass : has_root c.metadata ≡ true → first_refusal (root_conditions b) (metadata_extent b) ≡ Ok (metadata_extent b)
    unfolding root_conditions
    root-pass root =
        let e = ap length cli-read in
        let g = length-append (at.cli f c) (at.has-cli f c).after in
        let size = cli-numbers.size in
        let k = ap length from-metadata in
        let d = length-drop (0x200 + metadata_offset c) b in
        let room = has-room (at.has-metadata f c) in
        let rest = is-not-less (length (bytes_from b (metadata_rva b))) (metadata_size b) (omega (arith, k, d, size-read, room)) in
        not-refused (root_conditions b) (metadata_extent b)
        (not-less (length (cli_header b)) 72 (omega (arith, e, g, size)), (ap not (both-true _ _ rest (ap has_root metadata-read ∙ root)), tt))

module _ (f : Facts) (c : Contents) (s : StreamBytes) (is : c.metadata ≡ metadata_bytes f.version s) (small : length (image_bytes f c) ≤ 2 ^ 26) where
  abbrev whole : List ℕ
  whole = image_bytes f c

  abbrev m : List ℕ
  m = metadata_bytes f.version s

  metadata-long : length c.metadata ≡ length m
  metadata-long = ap length is

  metadata-some : 0 < length c.metadata
  metadata-some = let room = has-room (meta.has-tables f.version s) in omega (arith, room, metadata-long)

  pub metadata-small : length m ≤ 2 ^ 26
  metadata-small = let long = at.length-bytes f c in let u = used f c small in omega (arith, small, long, u, metadata-long)

  pub metadata-is : metadata whole ≡ m
  metadata-is = metadata-read f c small metadata-some ∙ is

  root : has_root c.metadata ≡ true
  root = ap has_root is ∙ meta.root-there f.version s metadata-small

  pub opens : pe_layout whole ≡ Ok (laid_pe whole)
  opens =
      laid-out whole (headers_of whole) (metadata_extent whole) (stream_list (metadata whole)) (headers-pass f c small) (root-pass f c small metadata-some root)
      (subst (λ x. first_refusal (stream_conditions x) (stream_list x) ≡ Ok (stream_list x)) (sym metadata-is) (meta.streams-pass f.version s metadata-small))

  pub is-reread : IsReread c s whole
  unfolding stream
  is-reread = record {
    opens = opens;
    tables = ap (λ x. stream_in x (stream_named (stream_list x) Tables)) metadata-is ∙ meta.tables-read f.version s metadata-small;
    strings = ap (λ x. stream_in x (stream_named (stream_list x) Strings)) metadata-is ∙ meta.strings-read f.version s metadata-small;
    users = ap (λ x. stream_in x (stream_named (stream_list x) UserStrings)) metadata-is ∙ meta.users-read f.version s metadata-small;
    guids = ap (λ x. stream_in x (stream_named (stream_list x) Guids)) metadata-is ∙ meta.guids-read f.version s metadata-small;
    blobs = ap (λ x. stream_in x (stream_named (stream_list x) Blobs)) metadata-is ∙ meta.blobs-read f.version s metadata-small;
    places = places-read f c small;
    bytes = bytes-read f c small;
    body = has-take (at.has-body f c);
  }

pub parts_are_reread : PartsAreReread
parts_are_reread f c s before p after is small laid =
    let b = image_bytes f c in
    let place = place_of_part 0x248 before p in
    let here : HasPart c.body (place - 0x248) p.bytes = subst (λ xs. HasPart xs (place - 0x248) p.bytes) (sym laid) (has-part 0x248 before p after) in
    let least = places_are_lengths 0x248 before in
    let late : 0x248 ≤ place = omega (arith, least) in
    let there : HasPart b place p.bytes = has-at (omega (arith, late)) (has-within (at.has-body f c) here) in
    let room = has-room here in
    let held = used f c small in
    let from = offset f c small in
    let some = metadata-some f c s is small in
    let inside : place - 0x200 < raw_size c = omega (arith, room, held, from, some, late) in
    let rva : place + 0x1e00 ≡ 0x2000 + (place - 0x200) = omega (arith, late) in
    let at_place : 0x200 + (place - 0x200) ≡ place = omega (arith, late) in
    (there.after, ap (bytes_from b) rva ∙ bytes-read f c small (place - 0x200) inside ∙ ap (λ (n : ℕ). drop n b) at_place ∙ has-drop there)

pub images_are_reread : ImagesAreReread
images_are_reread f c s is small = is-reread f c s is small

pub resources_are_reread : ResourcesAreReread
resources_are_reread f c small low = resources-read f c small low

-- Where the parts of an image stand.
use Rattle.std.proofs.Common.{◌≡◌, ℕ, ◌+◌, ◌-◌, ◌%◌, ◌≤◌, Bool, true, false, List, [], ◌∷◌, length, refl, ◌∙◌, arith}
use Rattle.std.specs.Int.{next_multiple_of}
use Rattle.laid_parts.specs.LaidParts.{Part, bytes_of_parts, laid_part}
use Rattle.laid_parts.proofs.HasPart.{HasPart, has-all}
use Rattle.laid_parts.proofs.PartLemmas.{has-head, has-tail, length-tail}
use Rattle.pe_image.specs.Headers.{wider_by}
use Rattle.pe_image.specs.declared.facts.Facts.{Facts}
use Rattle.pe_write.specs.Headers.{cli_header_bytes, dos_header_bytes, file_header_bytes, image_kind, optional_header_bytes, section_header_bytes}
use Rattle.pe_write.specs.Image.{cli_numbers, image_bytes, image_length, image_size, metadata_offset, raw_size, used_size}
use Rattle.pe_write.specs.declared.contents.Contents.{Contents}
use Rattle.pe_write.proofs.HeaderNumbers.{cli-numbers, dos-numbers, file-numbers, optional-numbers, section-numbers}

pub wider-few : (plus : Bool) → wider_by plus ≤ 16
wider-few true = omega arith
wider-few false = omega arith

pub offset-is : (c : Contents) → metadata_offset c ≡ next_multiple_of (72 + length c.body) 4
unfolding metadata_offset
offset-is c = refl

pub used-is : (c : Contents) → used_size c ≡ metadata_offset c + length c.metadata
unfolding used_size
used-is c = refl

pub raw-is : (c : Contents) → raw_size c ≡ next_multiple_of (used_size c) 0x200
unfolding raw_size
raw-is c = refl

module _ (f : Facts) (c : Contents) where
  abbrev pub bytes : List ℕ
  bytes = image_bytes f c

  abbrev pub wider : ℕ
  wider = wider_by f.plus

  abbrev pub file : List ℕ
  file = file_header_bytes (image_kind f.plus) f

  abbrev pub optional : List ℕ
  optional = optional_header_bytes (image_kind f.plus) f (raw_size c) (image_size c)

  abbrev pub section : List ℕ
  section = section_header_bytes (used_size c) (raw_size c)

  abbrev pub cli : List ℕ
  cli = cli_header_bytes (cli_numbers f c)

  -- what is left of the parts from each on
  abbrev end : List Part
  end = laid_part 0x200 [] ∷ []

  abbrev from-metadata : List Part
  from-metadata = laid_part 4 c.metadata ∷ end

  abbrev from-body : List Part
  from-body = laid_part 1 c.body ∷ from-metadata

  abbrev from-cli : List Part
  from-cli = laid_part 0x200 cli ∷ from-body

  abbrev from-section : List Part
  from-section = laid_part 1 section ∷ from-cli

  abbrev from-optional : List Part
  from-optional = laid_part 1 optional ∷ from-section

  abbrev from-file : List Part
  from-file = laid_part 1 file ∷ from-optional

  dos-end : 0 + length dos_header_bytes ≡ 64
  dos-end = let e = dos-numbers.size in omega (arith, e)

  file-end : 64 + (1 - 64 % 1) % 1 + length file ≡ 88
  file-end = let e = (file-numbers f.plus f).size in omega (arith, e)

  optional-end : 88 + (1 - 88 % 1) % 1 + length optional ≡ 312 + wider
  optional-end = let e = (optional-numbers f.plus f (raw_size c) (image_size c)).size in omega (arith, e)

  section-end : 312 + wider + (1 - (312 + wider) % 1) % 1 + length section ≡ 352 + wider
  section-end = let e = (section-numbers (used_size c) (raw_size c)).size in omega (arith, e)

  section-start : 352 + wider + (0x200 - (352 + wider) % 0x200) % 0x200 ≡ 512
  section-start = let few = wider-few f.plus in omega (arith, few)

  cli-end : 352 + wider + (0x200 - (352 + wider) % 0x200) % 0x200 + length cli ≡ 584
  cli-end = let e = (cli-numbers (cli_numbers f c)).size in let s = section-start in omega (arith, e, s)

  body-end : 584 + (1 - 584 % 1) % 1 + length c.body ≡ 584 + length c.body
  body-end = omega arith

  metadata-start : 584 + length c.body + (4 - (584 + length c.body) % 4) % 4 ≡ 512 + metadata_offset c
  metadata-start = let e = offset-is c in omega (arith, e)

  metadata-end : 584 + length c.body + (4 - (584 + length c.body) % 4) % 4 + length c.metadata ≡ 512 + used_size c
  metadata-end = let e = metadata-start in let u = used-is c in omega (arith, e, u)

  raw-end : 512 + used_size c + (0x200 - (512 + used_size c) % 0x200) % 0x200 + 0 ≡ 512 + raw_size c
  raw-end = let e = raw-is c in omega (arith, e)

  all-from-dos : HasPart bytes 0 (bytes_of_parts 0 (laid_part 1 dos_header_bytes ∷ from-file))
  unfolding image_bytes
  all-from-dos = has-all (image_bytes f c)

  all-from-file : HasPart bytes 64 (bytes_of_parts 64 from-file)
  all-from-file = has-tail 0 64 (laid_part 1 dos_header_bytes) from-file all-from-dos dos-end

  all-from-optional : HasPart bytes 88 (bytes_of_parts 88 from-optional)
  all-from-optional = has-tail 64 88 (laid_part 1 file) from-optional all-from-file file-end

  all-from-section : HasPart bytes (312 + wider) (bytes_of_parts (312 + wider) from-section)
  all-from-section = has-tail 88 (312 + wider) (laid_part 1 optional) from-section all-from-optional optional-end

  all-from-cli : HasPart bytes (352 + wider) (bytes_of_parts (352 + wider) from-cli)
  all-from-cli = has-tail (312 + wider) (352 + wider) (laid_part 1 section) from-cli all-from-section section-end

  all-from-body : HasPart bytes 584 (bytes_of_parts 584 from-body)
  all-from-body = has-tail (352 + wider) 584 (laid_part 0x200 cli) from-body all-from-cli cli-end

  all-from-metadata : HasPart bytes (584 + length c.body) (bytes_of_parts (584 + length c.body) from-metadata)
  all-from-metadata = has-tail 584 (584 + length c.body) (laid_part 1 c.body) from-metadata all-from-body body-end

  pub has-dos : HasPart bytes 0 dos_header_bytes
  has-dos = has-head 0 0 (laid_part 1 dos_header_bytes) from-file all-from-dos refl

  pub has-file : HasPart bytes 64 file
  has-file = has-head 64 64 (laid_part 1 file) from-optional all-from-file refl

  pub has-optional : HasPart bytes 88 optional
  has-optional = has-head 88 88 (laid_part 1 optional) from-section all-from-optional refl

  pub has-section : HasPart bytes (312 + wider) section
  has-section = has-head (312 + wider) (312 + wider) (laid_part 1 section) from-cli all-from-section (omega arith)

  pub has-cli : HasPart bytes 512 cli
  has-cli = has-head (352 + wider) 512 (laid_part 0x200 cli) from-body all-from-cli section-start

  pub has-body : HasPart bytes 584 c.body
  has-body = has-head 584 584 (laid_part 1 c.body) from-metadata all-from-body refl

  pub has-metadata : HasPart bytes (512 + metadata_offset c) c.metadata
  has-metadata = has-head (584 + length c.body) (512 + metadata_offset c) (laid_part 4 c.metadata) end all-from-metadata metadata-start

  from-start : 0 + length bytes ≡ 352 + wider + length (bytes_of_parts (352 + wider) from-cli)
  unfolding image_bytes
  from-start =
      length-tail 0 64 (laid_part 1 dos_header_bytes) from-file dos-end
      ∙ length-tail 64 88 (laid_part 1 file) from-optional file-end
      ∙ length-tail 88 (312 + wider) (laid_part 1 optional) from-section optional-end
      ∙ length-tail (312 + wider) (352 + wider) (laid_part 1 section) from-cli section-end

  to-end : 352 + wider + length (bytes_of_parts (352 + wider) from-cli) ≡ 512 + raw_size c + 0
  to-end =
      length-tail (352 + wider) 584 (laid_part 0x200 cli) from-body cli-end
      ∙ length-tail 584 (584 + length c.body) (laid_part 1 c.body) from-metadata body-end
      ∙ length-tail (584 + length c.body) (512 + used_size c) (laid_part 4 c.metadata) end metadata-end
      ∙ length-tail (512 + used_size c) (512 + raw_size c) (laid_part 0x200 []) [] raw-end

  pub length-bytes : length bytes ≡ 512 + raw_size c
  length-bytes = let s = from-start in let e = to-end in omega (arith, s, e)

pub length-is : (f : Facts) (c : Contents) → length (image_bytes f c) ≡ image_length (length c.body) (length c.metadata)
length-is f c =
    let long = length-bytes f c in
    let raw = raw-is c in
    let used = used-is c in
    let offset = offset-is c in
    long ∙ omega (arith, raw, used, offset)

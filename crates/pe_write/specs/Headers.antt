-- The headers of an image of one section, as they are written: ECMA-335 II.25.2, II.25.3. Numbers without a name are those that
-- the standard gives to every image (PE32 alone is there; PE32+ is the same but for what `ImageKind` says).
use Rattle.std.specs.Prelude.{ℕ, Bool, true, false, List, [], ◌∷◌, ◌++◌, replicate, bit_and, codes, if◌then◌else◌}
use Rattle.std.specs.List.{flat_map}
use Rattle.byteorder.specs.Endian.{little_bytes}
use Rattle.pe_image.specs.declared.facts.Facts.{Facts}
use Rattle.pe_write.specs.declared.kind.ImageKind.{ImageKind}
use Rattle.pe_write.specs.declared.headers.CliNumbers.{CliNumbers}

-- what differs between the two kinds of image: the magic, the size of the optional header, the bytes of BaseOfData, which PE32
-- alone has, and the width of the sizes of stack and heap and of the image base
abbrev pub image_kind : Bool → ImageKind
image_kind true = record { plus = true; magic = 0x20b; optional_size = 240; data_base = 0 }
image_kind false = record { plus = false; magic = 0x10b; optional_size = 224; data_base = 4 }

abbrev pub address : Bool → ℕ → List ℕ
address plus n = little_bytes (if plus then 8 else 4) n

-- `MZ`, and the place of the PE signature, 0x40 (II.25.2.1)
unfoldable pub dos_header_bytes : List ℕ
dos_header_bytes = flat_map (λ field. field) (little_bytes 2 0x5a4d ∷ replicate 58 0 ∷ little_bytes 4 0x40 ∷ [])

-- the PE signature and the PE file header of an image of one section (II.25.2.2)
abbrev pub file_fields : ImageKind → Facts → List (List ℕ)
file_fields kind f =
    little_bytes 4 0x4550 ∷ little_bytes 2 f.machine ∷ little_bytes 2 1 ∷ little_bytes 4 f.time ∷ replicate 8 0
    ∷ little_bytes 2 kind.optional_size ∷ little_bytes 2 f.characteristics ∷ []

unfoldable pub file_header_bytes : ImageKind → Facts → List ℕ
file_header_bytes kind f = flat_map (λ field. field) (file_fields kind f)

-- the optional header with sixteen directories, of which number 14 is the CLI header's (II.25.2.3)
abbrev pub optional_fields : ImageKind → Facts → ℕ → ℕ → List (List ℕ)
optional_fields kind f code image =
    little_bytes 2 kind.magic ∷ little_bytes 2 8 ∷ little_bytes 4 code ∷ replicate 12 0 ∷ little_bytes 4 0x2000
    ∷ replicate kind.data_base 0 ∷ address kind.plus f.base ∷ little_bytes 4 0x2000 ∷ little_bytes 4 0x200
    ∷ little_bytes 4 4 ∷ replicate 4 0 ∷ little_bytes 4 4 ∷ replicate 4 0
    ∷ little_bytes 4 image ∷ little_bytes 4 0x200 ∷ replicate 4 0 ∷ little_bytes 2 f.subsystem ∷ little_bytes 2 f.dll
    ∷ address kind.plus 0x100000 ∷ address kind.plus 0x1000 ∷ address kind.plus 0x100000 ∷ address kind.plus 0x1000
    ∷ replicate 4 0 ∷ little_bytes 4 16 ∷ replicate 112 0 ∷ little_bytes 4 0x2000 ∷ little_bytes 4 72 ∷ replicate 8 0 ∷ []

unfoldable pub optional_header_bytes : ImageKind → Facts → ℕ → ℕ → List ℕ
optional_header_bytes kind f code image = flat_map (λ field. field) (optional_fields kind f code image)

-- the header of the section `.text`, of so many bytes in memory and in the file, with code that may be executed and read (II.25.3)
abbrev pub section_fields : ℕ → ℕ → List (List ℕ)
section_fields used raw =
    (codes ".text" ++ replicate 3 0) ∷ little_bytes 4 used ∷ little_bytes 4 0x2000 ∷ little_bytes 4 raw ∷ little_bytes 4 0x200
    ∷ replicate 12 0 ∷ little_bytes 4 0x60000020 ∷ []

unfoldable pub section_header_bytes : ℕ → ℕ → List ℕ
section_header_bytes used raw = flat_map (λ field. field) (section_fields used raw)

-- flags of the CLI header without STRONGNAMESIGNED, 8: what is written has no signature (II.25.3.3.1)
abbrev pub unsigned : ℕ → ℕ
unsigned flags = bit_and flags 0xfffffff7

-- the CLI header, without native code or data (II.25.3.3)
abbrev pub cli_fields : CliNumbers → List (List ℕ)
cli_fields n =
    little_bytes 4 72 ∷ little_bytes 2 n.runtime_major ∷ little_bytes 2 n.runtime_minor
    ∷ little_bytes 4 n.metadata_rva ∷ little_bytes 4 n.metadata_size ∷ little_bytes 4 n.flags ∷ little_bytes 4 n.entry
    ∷ little_bytes 4 n.resources_rva ∷ little_bytes 4 n.resources_size ∷ replicate 40 0 ∷ []

unfoldable pub cli_header_bytes : CliNumbers → List ℕ
cli_header_bytes n = flat_map (λ field. field) (cli_fields n)

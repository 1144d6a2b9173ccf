-- The headers of a PE file: ECMA-335 II.25.2, II.25.3. The standard has PE32 alone; PE32+ is the same with 64-bit addresses.
use Rattle.std.specs.Prelude.{ℕ, ◌+◌, ◌*◌, ◌^◌, Bool, List, [], ◌∷◌, ◌++◌, length, nat_lt, ◌==◌, ◌&&◌, ◌||◌, not, if◌then◌else◌}
use Rattle.pe_image.specs.Places.{u16_at, u32_at, stands}
use Rattle.pe_image.specs.declared.refusal.PeRefusal.{PeRefusal}
use Rattle.pe_image.specs.declared.refusal.PeRefusal.TheVariants.{TooLarge, NoDos, NoPe, BadMagic, BadSections, NoCli}
use Rattle.pe_image.specs.declared.headers.Headers.{Headers}

-- the place of the PE signature, which the MS-DOS header names (II.25.2.1)
unfoldable pub pe_signature : List ℕ → ℕ
pe_signature b = u32_at b 0x3c

-- the PE file header after the four bytes of the signature (II.25.2.2), and the optional header after its twenty (II.25.2.3)
abbrev pub coff_header : List ℕ → ℕ
coff_header b = pe_signature b + 4

abbrev pub optional_header : List ℕ → ℕ
optional_header b = pe_signature b + 24

abbrev pub optional_size : List ℕ → ℕ
optional_size b = u16_at b (pe_signature b + 20)

-- the kind of the image, 0 where no two bytes stand there: 0x10b is PE32, 0x20b is PE32+
unfoldable pub magic : List ℕ → ℕ
magic b = if stands b (optional_header b) 2 then u16_at b (optional_header b) else 0

unfoldable pub is_plus : List ℕ → Bool
is_plus b = magic b == 523

-- in PE32+ four numbers before the directories have 8 bytes each for 4, so these stand 16 bytes later
abbrev pub wider_by : Bool → ℕ
wider_by plus = if plus then 16 else 0

-- the section headers, of 40 bytes each, after the optional header (II.25.3)
abbrev pub section_headers : List ℕ → ℕ
section_headers b = optional_header b + optional_size b

abbrev pub section_count : List ℕ → ℕ
section_count b = u16_at b (pe_signature b + 6)

-- the number of data directories, and the directories of 8 bytes each from place 96 of the optional header; the CLI header's is
-- number 14, which begins with an RVA (II.25.2.3.3)
abbrev pub directory_count : List ℕ → ℕ
directory_count b = u32_at b (optional_header b + 92 + wider_by (is_plus b))

abbrev pub cli_rva : List ℕ → ℕ
cli_rva b = u32_at b (optional_header b + 208 + wider_by (is_plus b))

-- `MZ`, and `PE` with two zero bytes and the file header after it
abbrev pub has_dos : List ℕ → Bool
has_dos b = stands b 0 2 && (u16_at b 0 == 0x5a4d)

abbrev pub has_pe : List ℕ → Bool
has_pe b = stands b 0x3c 4 && (stands b (pe_signature b) 24 && (u32_at b (pe_signature b) == 0x4550))

-- the optional header as far as the directories, and all section headers
abbrev pub has_sections : List ℕ → Bool
has_sections b =
    stands b (optional_header b) (96 + wider_by (is_plus b)) && stands b (section_headers b) (40 * section_count b)

-- a whole directory 14, within the optional header and the file, that names an RVA
abbrev pub has_cli : List ℕ → Bool
has_cli b =
    not (nat_lt (directory_count b) 15)
    && (not (nat_lt (optional_size b) (216 + wider_by (is_plus b)))
    && (stands b (optional_header b) (216 + wider_by (is_plus b)) && not (cli_rva b == 0)))

-- the refusals of the headers, the first six of an image, in three parts
unfoldable pub signature_conditions : List ℕ → List (Bool × PeRefusal)
signature_conditions b = (nat_lt (2 ^ 26) (length b), TooLarge) ∷ (not (has_dos b), NoDos) ∷ (not (has_pe b), NoPe) ∷ []

unfoldable pub magic_conditions : List ℕ → List (Bool × PeRefusal)
magic_conditions b = (not ((magic b == 267) || (magic b == 523)), BadMagic (magic b)) ∷ []

unfoldable pub room_conditions : List ℕ → List (Bool × PeRefusal)
room_conditions b = (not (has_sections b), BadSections) ∷ (not (has_cli b), NoCli) ∷ []

unfoldable pub header_conditions : List ℕ → List (Bool × PeRefusal)
header_conditions b = signature_conditions b ++ (magic_conditions b ++ room_conditions b)

-- what later parts need of them
abbrev pub headers_of : List ℕ → Headers
headers_of b = record {
  plus = is_plus b;
  coff = coff_header b;
  optional = optional_header b;
  sections = section_headers b;
  count = section_count b;
  cli = cli_rva b;
}

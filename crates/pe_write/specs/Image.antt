-- An image of one section, as it is written: ECMA-335 II.25.
use Rattle.std.specs.Prelude.{◌≡◌, ◌<◌, ◌≤◌, ◌^◌, ℕ, ◌+◌, List, [], ◌∷◌, ◌++◌, length, Result, Ok, Err}
use Rattle.std.specs.Int.{next_multiple_of}
use Rattle.cil_base.specs.Token.{token_number}
use Rattle.laid_parts.specs.LaidParts.{Part, bytes_of_parts, laid_part}
use Rattle.pe_image.specs.declared.facts.Facts.{Facts}
use Rattle.pe_write.specs.Headers.{cli_header_bytes, dos_header_bytes, file_header_bytes, image_kind, optional_header_bytes, section_header_bytes, unsigned}
use Rattle.pe_write.specs.declared.contents.Contents.{Contents}
use Rattle.pe_write.specs.declared.headers.CliNumbers.{CliNumbers}
use Rattle.pe_write.specs.declared.fail.PeWriteFail.{PeWriteFail}
use Rattle.pe_write.specs.declared.fail.PeWriteFail.TheVariants.{NoMemory, TooLarge}

-- where the metadata begins, from the section's start: behind the CLI header and the contents, at a multiple of 4
unfoldable pub metadata_offset : Contents → ℕ
metadata_offset c = next_multiple_of (72 + length c.body) 4

-- the bytes of the section that are used, those that it has in the file, and the image's size in memory, with the headers
unfoldable pub used_size : Contents → ℕ
used_size c = metadata_offset c + length c.metadata

unfoldable pub raw_size : Contents → ℕ
raw_size c = next_multiple_of (used_size c) 0x200

unfoldable pub image_size : Contents → ℕ
image_size c = next_multiple_of (0x2000 + used_size c) 0x2000

-- the numbers of the CLI header
abbrev pub cli_numbers : Facts → Contents → CliNumbers
cli_numbers f c = record {
  runtime_major = f.runtime_major;
  runtime_minor = f.runtime_minor;
  metadata_rva = 0x2000 + metadata_offset c;
  metadata_size = length c.metadata;
  flags = unsigned f.flags;
  entry = token_number f.entry;
  resources_rva = c.resources_rva;
  resources_size = c.resources_size;
}

-- the headers, which say how many bytes of the section are used and stand in the file, and the image's size in memory
abbrev pub header_parts : Facts → ℕ → ℕ → ℕ → List Part
header_parts f used raw image =
    laid_part 1 dos_header_bytes ∷ laid_part 1 (file_header_bytes (image_kind f.plus) f) ∷ laid_part 1 (optional_header_bytes (image_kind f.plus) f raw image)
    ∷ laid_part 1 (section_header_bytes used raw) ∷ []

-- the section, at a multiple of the file alignment and up to one
abbrev pub section_parts : CliNumbers → Contents → List Part
section_parts n c = laid_part 0x200 (cli_header_bytes n) ∷ laid_part 1 c.body ∷ laid_part 4 c.metadata ∷ laid_part 0x200 [] ∷ []

abbrev pub image_parts : Facts → Contents → List Part
image_parts f c = header_parts f (used_size c) (raw_size c) (image_size c) ++ section_parts (cli_numbers f c) c

unfoldable pub image_bytes : Facts → Contents → List ℕ
image_bytes f c = bytes_of_parts 0 (image_parts f c)

-- how many bytes an image has whose contents and metadata are so long
abbrev pub image_length : ℕ → ℕ → ℕ
image_length body metadata = 0x200 + next_multiple_of (next_multiple_of (72 + body) 4 + metadata) 0x200

-- what writing an image answers, but for want of memory: its bytes, or how many they are where these pass 2^26
abbrev pub WritesImage : Facts → Contents → Result (List ℕ) PeWriteFail → Type 0
WritesImage f c (Ok bytes) = (bytes ≡ image_bytes f c) × (length bytes ≤ 2 ^ 26)
WritesImage f c (Err (TooLarge n)) = (n ≡ length (image_bytes f c)) × (2 ^ 26 < n)
WritesImage f c (Err NoMemory) = Unit {0}

-- The metadata with its root and five streams, as it is written: ECMA-335 II.24.2.1, II.24.2.2.
use Rattle.std.specs.Prelude.{◌≡◌, ◌<◌, ◌^◌, ℕ, ◌+◌, List, [], ◌∷◌, ◌++◌, length, replicate, codes, Result, Ok, Err}
use Rattle.std.specs.List.{flat_map}
use Rattle.byteorder.specs.Endian.{little_bytes}
use Rattle.laid_parts.specs.LaidParts.{padding}
use Rattle.pe_write.specs.declared.metadata.StreamBytes.{StreamBytes}
use Rattle.pe_write.specs.declared.fail.PeWriteFail.{PeWriteFail}
use Rattle.pe_write.specs.declared.fail.PeWriteFail.TheVariants.{NoMemory, TooLarge}

-- bytes and a zero byte, with zeros up to a multiple of 4
abbrev pub zero_ended : List ℕ → List ℕ
zero_ended bytes = bytes ++ replicate (1 + padding 4 (length bytes + 1)) 0

-- the bytes of the version text; its length in the root counts the zeros behind it
abbrev pub version_size : List ℕ → ℕ
version_size version = length version + (1 + padding 4 (length version + 1))

-- a stream header: where the stream begins, from the root on, how many bytes it has, and its name
abbrev pub stream_header : ℕ → ℕ → List ℕ → List ℕ
stream_header offset size name = little_bytes 4 offset ++ (little_bytes 4 size ++ zero_ended name)

-- the first stream follows the 20 bytes of the root beside the version text, and five headers of 76 bytes; each other follows
-- the one before it
abbrev pub tables_offset : List ℕ → ℕ
tables_offset version = 96 + version_size version

abbrev pub strings_offset : List ℕ → StreamBytes → ℕ
strings_offset version s = tables_offset version + length s.tables

abbrev pub users_offset : List ℕ → StreamBytes → ℕ
users_offset version s = strings_offset version s + length s.strings

abbrev pub guids_offset : List ℕ → StreamBytes → ℕ
guids_offset version s = users_offset version s + length s.users

abbrev pub blobs_offset : List ℕ → StreamBytes → ℕ
blobs_offset version s = guids_offset version s + length s.guids

-- `BSJB`, version 1.1, a reserved number, the version text with its length, no flags, the number of streams
abbrev pub metadata_fields : List ℕ → StreamBytes → List (List ℕ)
metadata_fields version s =
    little_bytes 4 0x424a5342 ∷ little_bytes 2 1 ∷ little_bytes 2 1 ∷ replicate 4 0
    ∷ little_bytes 4 (version_size version) ∷ zero_ended version ∷ little_bytes 2 0 ∷ little_bytes 2 5
    ∷ stream_header (tables_offset version) (length s.tables) (codes "#~")
    ∷ stream_header (strings_offset version s) (length s.strings) (codes "#Strings")
    ∷ stream_header (users_offset version s) (length s.users) (codes "#US")
    ∷ stream_header (guids_offset version s) (length s.guids) (codes "#GUID")
    ∷ stream_header (blobs_offset version s) (length s.blobs) (codes "#Blob")
    ∷ s.tables ∷ s.strings ∷ s.users ∷ s.guids ∷ s.blobs ∷ []

unfoldable pub metadata_bytes : List ℕ → StreamBytes → List ℕ
metadata_bytes version s = flat_map (λ field. field) (metadata_fields version s)

-- how many bytes these are
abbrev pub metadata_length : List ℕ → StreamBytes → ℕ
metadata_length version s = blobs_offset version s + length s.blobs

-- what writing the metadata answers, but for want of memory: its bytes, or how many they are where these pass 2^26
abbrev pub WritesMetadata : List ℕ → StreamBytes → Result (List ℕ) PeWriteFail → Type 0
WritesMetadata version s (Ok bytes) = (bytes ≡ metadata_bytes version s) × (length bytes < 2 ^ 26 + 1)
WritesMetadata version s (Err (TooLarge n)) = (n ≡ length (metadata_bytes version s)) × (2 ^ 26 < n)
WritesMetadata version s (Err NoMemory) = Unit {0}

-- The metadata by the lengths that its headers say.
use Rattle.std.specs.Prelude.{◌≤◌, ◌^◌, ℕ, ◌+◌, List, [], ◌∷◌, length, replicate, codes}
use Rattle.std.specs.List.{flat_map}
use Rattle.byteorder.specs.Endian.{little_bytes}
use Rattle.laid_parts.specs.LaidParts.{padding}
use Rattle.pe_write.specs.declared.metadata.Sizes.{Sizes}
use Rattle.pe_write.specs.declared.metadata.StreamBytes.{StreamBytes}
use Rattle.pe_write.specs.Metadata.{stream_header, version_size}

abbrev pub sizes_of : List ℕ → StreamBytes → Sizes
sizes_of version s = record {
  version = version_size version;
  zeros = 1 + padding 4 (length version + 1);
  tables = length s.tables;
  strings = length s.strings;
  users = length s.users;
  guids = length s.guids;
  blobs = length s.blobs;
}

abbrev pub AreSmall : Sizes → Type 0
AreSmall z = 96 + z.version + z.tables + z.strings + z.users + z.guids + z.blobs ≤ 2 ^ 26

unfoldable pub sized_metadata : Sizes → List ℕ → List ℕ → List ℕ → List ℕ → List ℕ → List ℕ → List ℕ
sized_metadata z version tables strings users guids blobs = flat_map (λ field. field) (
    little_bytes 4 0x424a5342 ∷ little_bytes 2 1 ∷ little_bytes 2 1 ∷ replicate 4 0
    ∷ little_bytes 4 z.version ∷ version ∷ replicate z.zeros 0 ∷ little_bytes 2 0 ∷ little_bytes 2 5
    ∷ stream_header (96 + z.version) z.tables (codes "#~")
    ∷ stream_header (96 + z.version + z.tables) z.strings (codes "#Strings")
    ∷ stream_header (96 + z.version + z.tables + z.strings) z.users (codes "#US")
    ∷ stream_header (96 + z.version + z.tables + z.strings + z.users) z.guids (codes "#GUID")
    ∷ stream_header (96 + z.version + z.tables + z.strings + z.users + z.guids) z.blobs (codes "#Blob")
    ∷ tables ∷ strings ∷ users ∷ guids ∷ blobs ∷ [])

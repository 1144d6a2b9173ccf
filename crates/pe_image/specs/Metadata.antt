-- The metadata and its root: ECMA-335 II.24.2.1.
use Rattle.std.specs.Prelude.{ℕ, ◌+◌, Bool, List, [], ◌∷◌, take, length, nat_lt, ◌==◌, ◌&&◌, not, slice_range, unwrap_or}
use Rattle.std.specs.List.{before_first}
use Rattle.pe_image.specs.Places.{u32_at, stands}
use Rattle.pe_image.specs.Sections.{place, bytes_from}
use Rattle.pe_image.specs.CliHeader.{cli_header, metadata_rva, metadata_size}
use Rattle.pe_image.specs.declared.refusal.PeRefusal.{PeRefusal}
use Rattle.pe_image.specs.declared.refusal.PeRefusal.TheVariants.{BadCli, BadRoot}
use Rattle.pe_image.specs.declared.metadata.Extent.{Extent}

-- the bytes of the metadata: as many as its size says, from its RVA
unfoldable pub metadata : List ℕ → List ℕ
metadata b = take (metadata_size b) (bytes_from b (metadata_rva b))

-- where they lie in the file
unfoldable pub metadata_extent : List ℕ → Extent
metadata_extent b = record { start = unwrap_or (place b (metadata_rva b)) 0; len = metadata_size b }

-- the length of the version text, as it is written there
abbrev pub version_length : List ℕ → ℕ
version_length m = u32_at m 12

-- `BSJB`; the first 16 bytes, the version text and the 4 bytes after it
abbrev pub has_root : List ℕ → Bool
has_root m = stands m 0 4 && ((u32_at m 0 == 0x424a5342) && stands m 0 (20 + version_length m))

-- the version text, up to its first zero byte
abbrev pub version_text : List ℕ → List ℕ
version_text m = before_first (λ c. c == 0) (slice_range m 16 (16 + version_length m))

-- the refusals of the CLI header and of the root: the next two of an image
unfoldable pub root_conditions : List ℕ → List (Bool × PeRefusal)
root_conditions b =
    (nat_lt (length (cli_header b)) 72, BadCli)
    ∷ (not (not (nat_lt (length (bytes_from b (metadata_rva b))) (metadata_size b)) && has_root (metadata b)), BadRoot)
    ∷ []

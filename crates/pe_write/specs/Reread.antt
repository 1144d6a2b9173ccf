-- What is read of an image that was written.
use Rattle.std.specs.Prelude.{◌≡◌, ◌<◌, ◌≤◌, ◌^◌, ◌==◌, ℕ, ◌+◌, false, List, ◌∷◌, ◌++◌, length, take, drop, Ok, Some, if◌then◌else◌}
use Rattle.std.specs.List.{list_any}
use Rattle.laid_parts.specs.LaidParts.{Part, bytes_of_parts, place_of_part}
use Rattle.pe_image.specs.CliHeader.{resources_rva}
use Rattle.pe_image.specs.Facts.{image_facts}
use Rattle.pe_image.specs.Layout.{laid_pe, pe_layout}
use Rattle.pe_image.specs.Sections.{bytes_from, place}
use Rattle.pe_image.specs.Streams.{stream}
use Rattle.pe_image.specs.declared.facts.Facts.{Facts}
use Rattle.pe_image.specs.declared.stream.StreamName.TheVariants.{Tables, Strings, UserStrings, Guids, Blobs}
use Rattle.pe_write.specs.Headers.{unsigned}
use Rattle.pe_write.specs.Image.{image_bytes, raw_size}
use Rattle.pe_write.specs.Metadata.{metadata_bytes}
use Rattle.pe_write.specs.declared.contents.Contents.{Contents}
use Rattle.pe_write.specs.declared.metadata.StreamBytes.{StreamBytes}

-- the image is not refused; its streams are those given; each RVA of the section has its place and its bytes in the file, and
-- the contents stand behind the CLI header
pub record IsReread (c : Contents) (s : StreamBytes) (b : List ℕ) : Type 0 where
  pub opens : pe_layout b ≡ Ok (laid_pe b)
  pub tables : stream b Tables ≡ s.tables
  pub strings : stream b Strings ≡ s.strings
  pub users : stream b UserStrings ≡ s.users
  pub guids : stream b Guids ≡ s.guids
  pub blobs : stream b Blobs ≡ s.blobs
  pub places : (i : ℕ) → i < raw_size c → place b (0x2000 + i) ≡ Some (0x200 + i)
  pub bytes : (i : ℕ) → i < raw_size c → bytes_from b (0x2000 + i) ≡ drop (0x200 + i) b
  pub body : take (length c.body) (drop 0x248 b) ≡ c.body

abbrev pub ImagesAreReread : Type 0
ImagesAreReread =
    (f : Facts) (c : Contents) (s : StreamBytes) → c.metadata ≡ metadata_bytes f.version s → length (image_bytes f c) ≤ 2 ^ 26
    → IsReread c s (image_bytes f c)

-- where the contents were laid as parts, each part is read from the RVA of its place: that many bytes behind the section's RVA
-- 0x2000 as its place is behind the section's, 0x200
abbrev pub PartsAreReread : Type 0
PartsAreReread =
    (f : Facts) (c : Contents) (s : StreamBytes) (before : List Part) (p : Part) (after : List Part)
    → c.metadata ≡ metadata_bytes f.version s → length (image_bytes f c) ≤ 2 ^ 26
    → c.body ≡ bytes_of_parts 0x248 (before ++ p ∷ after)
    → (rest : List ℕ) × (bytes_from (image_bytes f c) (place_of_part 0x248 before p + 0x1e00) ≡ p.bytes ++ rest)

-- facts that an image can have: each number below the end of its field, and no zero byte in the version text
pub record AreWritable (f : Facts) : Type 0 where
  pub machine : f.machine < 2 ^ 16
  pub time : f.time < 2 ^ 32
  pub characteristics : f.characteristics < 2 ^ 16
  pub base : f.base < 2 ^ (if f.plus then 64 else 32)
  pub subsystem : f.subsystem < 2 ^ 16
  pub dll : f.dll < 2 ^ 16
  pub runtime_major : f.runtime_major < 2 ^ 16
  pub runtime_minor : f.runtime_minor < 2 ^ 16
  pub flags : f.flags < 2 ^ 32
  pub table : f.entry.table < 2 ^ 8
  pub rid : f.entry.rid < 2 ^ 24
  pub version : list_any (λ c. c == 0) f.version ≡ false

-- the facts of what is written: it has no signature, and no native code or data
abbrev pub written_facts : Facts → Facts
written_facts f = record f { flags = unsigned f.flags; native = false }

abbrev pub FactsAreReread : Type 0
FactsAreReread =
    (f : Facts) (c : Contents) (s : StreamBytes) → c.metadata ≡ metadata_bytes f.version s → length (image_bytes f c) ≤ 2 ^ 26
    → AreWritable f → image_facts (image_bytes f c) ≡ written_facts f

abbrev pub ResourcesAreReread : Type 0
ResourcesAreReread =
    (f : Facts) (c : Contents) → length (image_bytes f c) ≤ 2 ^ 26 → c.resources_rva < 2 ^ 32
    → resources_rva (image_bytes f c) ≡ c.resources_rva

-- The lengths of the headers, and the numbers that stand in them in every image.
use Rattle.std.proofs.Common.{◌≡◌, ℕ, ◌+◌, Bool, true, false, length, List, refl}
use Rattle.std.specs.Prelude.{if◌then◌else◌}
use Rattle.byteorder.specs.Endian.{little_bytes, little_from}
use Rattle.pe_image.specs.Headers.{wider_by}
use Rattle.pe_image.specs.declared.facts.Facts.{Facts}
use Rattle.laid_parts.proofs.HasPart.{HasPart, has-list}
use Rattle.pe_write.specs.Headers.{address, cli_fields, cli_header_bytes, dos_header_bytes, file_fields, file_header_bytes, image_kind, optional_fields, optional_header_bytes, section_fields, section_header_bytes}
use Rattle.pe_write.specs.declared.headers.CliNumbers.{CliNumbers}

pub record DosNumbers (h : List ℕ) : Type 0 where
  pub size : length h ≡ 64
  pub magic : little_from 0 2 h ≡ 0x5a4d
  pub signature : little_from 60 4 h ≡ 64

pub dos-numbers : DosNumbers dos_header_bytes
unfolding dos_header_bytes
dos-numbers = record { size = refl; magic = refl; signature = refl }

pub record FileNumbers (plus : Bool) (h : List ℕ) : Type 0 where
  pub size : length h ≡ 24
  pub signature : little_from 0 4 h ≡ 0x4550
  pub sections : little_from 6 2 h ≡ 1
  pub optional : little_from 20 2 h ≡ 224 + wider_by plus

pub file-numbers : (plus : Bool) (f : Facts) → FileNumbers plus (file_header_bytes (image_kind plus) f)
unfolding file_header_bytes
file-numbers true f = record { size = refl; signature = refl; sections = refl; optional = refl }
file-numbers false f = record { size = refl; signature = refl; sections = refl; optional = refl }

pub record OptionalNumbers (plus : Bool) (h : List ℕ) : Type 0 where
  pub size : length h ≡ 224 + wider_by plus
  pub magic : little_from 0 2 h ≡ (if plus then 523 else 267)
  pub directories : little_from (92 + wider_by plus) 4 h ≡ 16
  pub cli : little_from (208 + wider_by plus) 4 h ≡ 0x2000

pub optional-numbers : (plus : Bool) (f : Facts) (code image : ℕ) → OptionalNumbers plus (optional_header_bytes (image_kind plus) f code image)
unfolding optional_header_bytes
optional-numbers true f code image = record { size = refl; magic = refl; directories = refl; cli = refl }
optional-numbers false f code image = record { size = refl; magic = refl; directories = refl; cli = refl }

pub record SectionNumbers (raw : ℕ) (h : List ℕ) : Type 0 where
  pub size : length h ≡ 40
  pub rva : little_from 12 4 h ≡ 0x2000
  pub raw_size : HasPart h 16 (little_bytes 4 raw)
  pub place : little_from 20 4 h ≡ 0x200

pub section-numbers : (used raw : ℕ) → SectionNumbers raw (section_header_bytes used raw)
unfolding section_header_bytes
section-numbers used raw = record { size = refl; rva = refl; raw_size = has-list (section_fields used raw) 3 (little_bytes 4 raw) 16 refl refl; place = refl }

pub record CliHeaderNumbers (n : CliNumbers) (h : List ℕ) : Type 0 where
  pub size : length h ≡ 72
  pub runtime_major : HasPart h 4 (little_bytes 2 n.runtime_major)
  pub runtime_minor : HasPart h 6 (little_bytes 2 n.runtime_minor)
  pub metadata_rva : HasPart h 8 (little_bytes 4 n.metadata_rva)
  pub metadata_size : HasPart h 12 (little_bytes 4 n.metadata_size)
  pub flags : HasPart h 16 (little_bytes 4 n.flags)
  pub entry : HasPart h 20 (little_bytes 4 n.entry)
  pub resources_rva : HasPart h 24 (little_bytes 4 n.resources_rva)
  pub code_manager : little_from 40 4 h ≡ 0
  pub vtable_fixups : little_from 48 4 h ≡ 0
  pub export_jumps : little_from 56 4 h ≡ 0
  pub native_header : little_from 64 4 h ≡ 0

pub cli-numbers : (n : CliNumbers) → CliHeaderNumbers n (cli_header_bytes n)
unfolding cli_header_bytes
cli-numbers n =
    let fields = cli_fields n in
    record {
      size = refl;
      runtime_major = has-list fields 1 (little_bytes 2 n.runtime_major) 4 refl refl;
      runtime_minor = has-list fields 2 (little_bytes 2 n.runtime_minor) 6 refl refl;
      metadata_rva = has-list fields 3 (little_bytes 4 n.metadata_rva) 8 refl refl;
      metadata_size = has-list fields 4 (little_bytes 4 n.metadata_size) 12 refl refl;
      flags = has-list fields 5 (little_bytes 4 n.flags) 16 refl refl;
      entry = has-list fields 6 (little_bytes 4 n.entry) 20 refl refl;
      resources_rva = has-list fields 7 (little_bytes 4 n.resources_rva) 24 refl refl;
      code_manager = refl;
      vtable_fixups = refl;
      export_jumps = refl;
      native_header = refl;
    }

-- the numbers of the facts in the file header and the optional header
pub record FileFacts (f : Facts) (h : List ℕ) : Type 0 where
  pub machine : HasPart h 4 (little_bytes 2 f.machine)
  pub time : HasPart h 8 (little_bytes 4 f.time)
  pub characteristics : HasPart h 22 (little_bytes 2 f.characteristics)

pub file-facts : (plus : Bool) (f : Facts) → FileFacts f (file_header_bytes (image_kind plus) f)
unfolding file_header_bytes
file-facts plus f =
    let fields = file_fields (image_kind plus) f in
    record {
      machine = has-list fields 1 (little_bytes 2 f.machine) 4 refl refl;
      time = has-list fields 3 (little_bytes 4 f.time) 8 refl refl;
      characteristics = has-list fields 6 (little_bytes 2 f.characteristics) 22 refl refl;
    }

pub record OptionalFacts (plus : Bool) (f : Facts) (h : List ℕ) : Type 0 where
  pub base : HasPart h (if plus then 24 else 28) (address plus f.base)
  pub subsystem : HasPart h 68 (little_bytes 2 f.subsystem)
  pub dll : HasPart h 70 (little_bytes 2 f.dll)

pub optional-facts : (plus : Bool) (f : Facts) (code image : ℕ) → OptionalFacts plus f (optional_header_bytes (image_kind plus) f code image)
unfolding optional_header_bytes
optional-facts true f code image =
    let fields = optional_fields (image_kind true) f code image in
    record {
      base = has-list fields 6 (little_bytes 8 f.base) 24 refl refl;
      subsystem = has-list fields 16 (little_bytes 2 f.subsystem) 68 refl refl;
      dll = has-list fields 17 (little_bytes 2 f.dll) 70 refl refl;
    }
optional-facts false f code image =
    let fields = optional_fields (image_kind false) f code image in
    record {
      base = has-list fields 6 (little_bytes 4 f.base) 28 refl refl;
      subsystem = has-list fields 16 (little_bytes 2 f.subsystem) 68 refl refl;
      dll = has-list fields 17 (little_bytes 2 f.dll) 70 refl refl;
    }

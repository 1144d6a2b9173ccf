-- What the headers say of an image as a whole: ECMA-335 II.25.2.2, II.25.2.3, II.25.3.3, II.24.2.1.
use Rattle.std.specs.Prelude.{ℕ, ◌+◌, Bool, List, if◌then◌else◌}
use Rattle.cil_base.specs.Token.{token_from}
use Rattle.pe_image.specs.Places.{u16_at, u32_at, u64_at}
use Rattle.pe_image.specs.Headers.{coff_header, optional_header, is_plus}
use Rattle.pe_image.specs.CliHeader.{cli_header, has_native}
use Rattle.pe_image.specs.Metadata.{metadata, version_text}
use Rattle.pe_image.specs.declared.facts.Facts.{Facts}

-- the image base is the number of eight bytes at 24 in PE32+, and of four at 28 in PE32
abbrev pub image_base : Bool → List ℕ → ℕ → ℕ
image_base plus b optional = if plus then u64_at b (optional + 24) else u32_at b (optional + 28)

-- the numbers of the file header, the optional header and the CLI header, and the version text of the metadata
unfoldable pub image_facts : List ℕ → Facts
image_facts b = record {
  plus = is_plus b;
  machine = u16_at b (coff_header b);
  time = u32_at b (coff_header b + 4);
  characteristics = u16_at b (coff_header b + 18);
  base = image_base (is_plus b) b (optional_header b);
  subsystem = u16_at b (optional_header b + 68);
  dll = u16_at b (optional_header b + 70);
  runtime_major = u16_at (cli_header b) 4;
  runtime_minor = u16_at (cli_header b) 6;
  flags = u32_at (cli_header b) 16;
  native = has_native (cli_header b);
  entry = token_from (u32_at (cli_header b) 20);
  version = version_text (metadata b);
}

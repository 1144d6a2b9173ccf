-- Two images of 1,024 bytes, worked out by hand from the standard, so that a wrong number or place in a definition does not
-- check: an assembly with one type, as PE32 and as PE32+.
use Rattle.std.specs.Prelude.{◌≡◌, ℕ, ◌+◌, ◌-◌, ◌*◌, List, [], ◌∷◌, ◌++◌, length, replicate, true, false, codes, nat_lt, if◌then◌else◌, refl}
use Rattle.pe_image.specs.declared.facts.Facts.{Facts}
use Rattle.pe_write.specs.Headers.{cli_header_bytes, dos_header_bytes, file_header_bytes, optional_header_bytes, section_header_bytes, unsigned}
use Rattle.pe_write.specs.Image.{image_bytes, image_size, metadata_offset, raw_size, used_size}
use Rattle.pe_write.specs.Metadata.{metadata_bytes}
use Rattle.pe_write.specs.declared.contents.Contents.{Contents}
use Rattle.pe_write.specs.declared.metadata.StreamBytes.{StreamBytes}

-- bytes of two lower-case hex digits each
abbrev digit : ℕ → ℕ
digit c = if nat_lt c 58 then c - 48 else c - 87

abbrev hex : List ℕ → List ℕ
hex (a ∷ b ∷ digits) = (16 * digit a + digit b) ∷ hex digits
hex _ = []

-- 1,024 bytes: those of the rows at their places, and zeros elsewhere
abbrev filled : ℕ → List (ℕ × List ℕ) → List ℕ
filled place [] = replicate (1024 - place) 0
filled place (row ∷ rows) = replicate (row.0 - place) 0 ++ (row.1 ++ filled (row.0 + length row.1) rows)

abbrev facts : Facts
facts = record {
  plus = false;
  machine = 0x14c;
  time = 0;
  characteristics = 0x2102;
  base = 0x400000;
  subsystem = 3;
  dll = 0x8540;
  runtime_major = 2;
  runtime_minor = 5;
  flags = 1;
  native = false;
  entry = record { table = 0; rid = 0 };
  version = codes "v4.0.30319";
}

abbrev wide_facts : Facts
wide_facts = record facts { plus = true; machine = 0x8664; characteristics = 0x2022; base = 0x180000000 }

abbrev streams : StreamBytes
streams = record {
  tables = hex (codes "0000000002000001050000000000000000fa013300160000") ++ (hex (codes "010000000100000000000100010000000000") ++ hex (codes "000000000b000000000001000100"));
  strings = 0 ∷ codes "small.dll" ++ (0 ∷ codes "<Module>" ++ 0 ∷ []);
  users = replicate 4 0;
  guids = hex (codes "33221100554477668899aabbccddeeff");
  blobs = replicate 4 0;
}

abbrev contents : Contents
contents = record { body = []; resources_rva = 0; resources_size = 0; metadata = metadata_bytes (codes "v4.0.30319") streams }

-- the CLI header and the metadata
abbrev section_rows : List (ℕ × List ℕ)
section_rows =
    (0x200, hex (codes "480000000200050048200000d000000001000000"))
    ∷ (0x248, hex (codes "42534a4201000100000000000c000000"))
    ∷ (0x258, hex (codes "76342e302e3330333139000000000500"))
    ∷ (0x268, hex (codes "6c00000038000000237e0000"))
    ∷ (0x274, hex (codes "a40000001400000023537472696e677300000000"))
    ∷ (0x288, hex (codes "b80000000400000023555300"))
    ∷ (0x294, hex (codes "bc000000100000002347554944000000"))
    ∷ (0x2a4, hex (codes "cc0000000400000023426c6f62000000"))
    ∷ (0x2b4, hex (codes "0000000002000001050000000000000000fa013300160000"))
    ∷ (0x2cc, hex (codes "0100000001000000"))
    ∷ (0x2d4, hex (codes "00000100010000000000"))
    ∷ (0x2de, hex (codes "000000000b000000000001000100"))
    ∷ (0x2ec, hex (codes "00736d616c6c2e646c6c003c4d6f64756c653e00"))
    ∷ (0x304, hex (codes "33221100554477668899aabbccddeeff")) ∷ []

abbrev image_rows : List (ℕ × List ℕ)
image_rows =
    (0x000, hex (codes "4d5a"))
    ∷ (0x03c, hex (codes "40000000"))
    ∷ (0x040, hex (codes "50450000"))
    ∷ (0x044, hex (codes "4c010100000000000000000000000000e0000221"))
    ∷ (0x058, hex (codes "0b01080000020000"))
    ∷ (0x06c, hex (codes "00200000"))
    ∷ (0x074, hex (codes "000040000020000000020000"))
    ∷ (0x080, hex (codes "04000000"))
    ∷ (0x088, hex (codes "04000000"))
    ∷ (0x090, hex (codes "0040000000020000"))
    ∷ (0x09c, hex (codes "03004085"))
    ∷ (0x0a0, hex (codes "00001000001000000000100000100000"))
    ∷ (0x0b4, hex (codes "10000000"))
    ∷ (0x128, hex (codes "0020000048000000"))
    ∷ (0x138, hex (codes "2e7465787400000018010000002000000002000000020000"))
    ∷ (0x15c, hex (codes "20000060")) ∷ section_rows

abbrev wide_rows : List (ℕ × List ℕ)
wide_rows =
    (0x000, hex (codes "4d5a"))
    ∷ (0x03c, hex (codes "40000000"))
    ∷ (0x040, hex (codes "50450000"))
    ∷ (0x044, hex (codes "64860100000000000000000000000000f00022200b02080000020000"))
    ∷ (0x06c, hex (codes "00200000"))
    ∷ (0x070, hex (codes "00000080010000000020000000020000"))
    ∷ (0x080, hex (codes "04000000"))
    ∷ (0x088, hex (codes "04000000"))
    ∷ (0x090, hex (codes "0040000000020000"))
    ∷ (0x09c, hex (codes "03004085"))
    ∷ (0x0a0, hex (codes "00001000000000000010000000000000"))
    ∷ (0x0b0, hex (codes "00001000000000000010000000000000"))
    ∷ (0x0c4, hex (codes "10000000"))
    ∷ (0x138, hex (codes "0020000048000000"))
    ∷ (0x148, hex (codes "2e7465787400000018010000002000000002000000020000"))
    ∷ (0x16c, hex (codes "20000060")) ∷ section_rows

pub image-written : image_bytes facts contents ≡ filled 0 image_rows
unfolding image_bytes dos_header_bytes file_header_bytes optional_header_bytes section_header_bytes cli_header_bytes metadata_offset used_size raw_size image_size metadata_bytes
image-written = refl

pub wide_image-written : image_bytes wide_facts contents ≡ filled 0 wide_rows
unfolding image_bytes dos_header_bytes file_header_bytes optional_header_bytes section_header_bytes cli_header_bytes metadata_offset used_size raw_size image_size metadata_bytes
wide_image-written = refl

-- STRONGNAMESIGNED is cleared, and no other flag
pub flags-unsigned : unsigned 0x1001f ≡ 0x10017
flags-unsigned = refl

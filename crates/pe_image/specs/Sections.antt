-- Sections, and where an RVA lies in the file: ECMA-335 II.25.3.
use Rattle.std.specs.Prelude.{ℕ, ◌+◌, ◌-◌, ◌*◌, min, Bool, List, [], map, length, nat_lt, nat_le, ◌&&◌, slice_range, Option, Some, None, option_map, find}
use Rattle.std.specs.List.{range_with_len}
use Rattle.pe_image.specs.Places.{u32_at}
use Rattle.pe_image.specs.Headers.{section_headers, section_count}
use Rattle.pe_image.specs.declared.section.Section.{Section}

-- the section whose header stands at a place
unfoldable pub section_header_at : List ℕ → ℕ → Section
section_header_at b place = record {
  virtual_address = u32_at b (place + 12);
  raw_size = u32_at b (place + 16);
  raw_place = u32_at b (place + 20);
}

-- the sections of as many headers, of 40 bytes each, from a place
unfoldable pub section_headers_at : List ℕ → ℕ → ℕ → List Section
section_headers_at b place count = map (λ n. section_header_at b (place + 40 * n)) (range_with_len 0 count)

-- all sections of an image, in the order of their headers
abbrev pub section_list : List ℕ → List Section
section_list b = section_headers_at b (section_headers b) (section_count b)

-- a section has the RVAs from its own, as many as its raw data has bytes
abbrev pub has_rva : ℕ → Section → Bool
has_rva rva s = nat_le s.virtual_address rva && nat_lt rva (s.virtual_address + s.raw_size)

-- the first section that has an RVA
abbrev pub section_of : List Section → ℕ → Option Section
section_of sections rva = find (has_rva rva) sections

-- the place of an RVA in a section's raw data, and the end of that data
abbrev pub raw_place_of : ℕ → Section → ℕ
raw_place_of rva s = (rva - s.virtual_address) + s.raw_place

abbrev pub raw_end : Section → ℕ
raw_end s = s.raw_place + s.raw_size

-- the bytes from that place to the end of the raw data or of the file, whichever comes first
abbrev pub bytes_in : List ℕ → ℕ → Option Section → List ℕ
bytes_in b rva None = []
bytes_in b rva (Some s) = slice_range b (raw_place_of rva s) (min (raw_end s) (length b))

-- the same for an image: none and no bytes where no section has the RVA
unfoldable pub place : List ℕ → ℕ → Option ℕ
place b rva = option_map (raw_place_of rva) (section_of (section_list b) rva)

unfoldable pub bytes_from : List ℕ → ℕ → List ℕ
bytes_from b rva = bytes_in b rva (section_of (section_list b) rva)

-- Values worked out by hand from the standard, so that a wrong number or place in a definition does not check.
use Rattle.std.specs.Prelude.{◌≡◌, ℕ, List, [], ◌∷◌, ◌++◌, Some, codes, refl}
use Rattle.pe_image.specs.Places.{u32_at}
use Rattle.pe_image.specs.Sections.{section_header_at, raw_place_of}
use Rattle.pe_image.specs.Streams.{name_length, header_width, stream_at}
use Rattle.pe_image.specs.declared.stream.StreamName.TheVariants.{Tables}

pub u32-little : u32_at (0xff ∷ 0x42 ∷ 0x53 ∷ 0x4a ∷ 0x42 ∷ []) 1 ≡ 0x424a5342
unfolding u32_at
u32-little = refl

-- the section header of `.text`, from its virtual size on, after the eight bytes of the name
abbrev header : List ℕ
header = codes ".text..." ++ (0x18 ∷ 0x01 ∷ 0 ∷ 0 ∷ 0 ∷ 0x20 ∷ 0 ∷ 0 ∷ 0 ∷ 0x02 ∷ 0 ∷ 0 ∷ 0 ∷ 0x02 ∷ 0 ∷ 0 ∷ [])

pub section-of_text : section_header_at header 0 ≡ record { virtual_address = 0x2000; raw_size = 0x200; raw_place = 0x200 }
unfolding section_header_at u32_at
section-of_text = refl

pub place-of_metadata : raw_place_of 0x2048 (record { virtual_address = 0x2000; raw_size = 0x200; raw_place = 0x200 }) ≡ 0x248
place-of_metadata = refl

-- the stream header of `#~`
abbrev stream_header : List ℕ
stream_header = 0x6c ∷ 0 ∷ 0 ∷ 0 ∷ 0x38 ∷ 0 ∷ 0 ∷ 0 ∷ 0x23 ∷ 0x7e ∷ 0 ∷ 0 ∷ []

pub stream-of_tables : stream_at stream_header 0 ≡ record { name = Some Tables; offset = 0x6c; size = 0x38 }
unfolding stream_at name_length u32_at
stream-of_tables = refl

pub width-of_tables : header_width stream_header 0 ≡ 12
unfolding header_width name_length
width-of_tables = refl

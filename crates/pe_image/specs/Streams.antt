-- The streams of the metadata: ECMA-335 II.24.2.2.
use Rattle.std.specs.Prelude.{ℕ, zero, suc, ◌+◌, ◌*◌, ◌/◌, Bool, true, false, List, [], ◌∷◌, map, take, length, min, nat_lt, ◌==◌, ◌||◌, not, codes, slice_range, Option, Some, None, find, if◌then◌else◌, is_none}
use Rattle.std.specs.List.{list_any, position_or_len}
use Rattle.std.specs.Str.{bytes_eq}
use Rattle.pe_image.specs.Places.{u16_at, u32_at, stands}
use Rattle.pe_image.specs.Metadata.{metadata, version_length}
use Rattle.pe_image.specs.declared.refusal.PeRefusal.{PeRefusal}
use Rattle.pe_image.specs.declared.refusal.PeRefusal.TheVariants.{BadStreams, NoTables}
use Rattle.pe_image.specs.declared.stream.Stream.{Stream}
use Rattle.pe_image.specs.declared.stream.StreamName.{StreamName}
use Rattle.pe_image.specs.declared.stream.StreamName.TheVariants.{Tables, Strings, UserStrings, Guids, Blobs}

-- A header is its stream's offset and size, of four bytes each, and the name. The name and its zero byte are padded to a
-- multiple of 4, and have at most 32 bytes.

-- the 32 bytes from the name's start, fewer where the metadata ends
abbrev pub name_window : List ℕ → ℕ → List ℕ
name_window m place = slice_range m (place + 8) (min (place + 40) (length m))

-- how many of them stand before the first zero byte
unfoldable pub name_length : List ℕ → ℕ → ℕ
name_length m place = position_or_len (λ c. c == 0) (name_window m place)

abbrev pub name_bytes : List ℕ → ℕ → List ℕ
name_bytes m place = take (name_length m place) (name_window m place)

-- the bytes of a whole header
unfoldable pub header_width : List ℕ → ℕ → ℕ
header_width m place = 8 + 4 * ((name_length m place + 1 + 3) / 4)

-- the name has no zero byte, the header passes the metadata, or the stream does
unfoldable pub bad_header : List ℕ → ℕ → Bool
bad_header m place =
    not (nat_lt (name_length m place) (length (name_window m place)))
    || (not (stands m place (header_width m place)) || nat_lt (length m) (u32_at m place + u32_at m (place + 4)))

-- the places of as many headers, one after the other
unfoldable pub header_places : List ℕ → ℕ → ℕ → List ℕ
header_places m place zero = []
header_places m place (suc count) = place ∷ header_places m (place + header_width m place) count

-- all headers: their number is the last number of the root, and they follow it
unfoldable pub all_headers : List ℕ → List ℕ
all_headers m = header_places m (20 + version_length m) (u16_at m (18 + version_length m))

-- the stream that a name means
abbrev pub stream_meaning : List ℕ → Option StreamName
stream_meaning name =
    if bytes_eq name (codes "#~") then Some Tables
    else (if bytes_eq name (codes "#Strings") then Some Strings
    else (if bytes_eq name (codes "#US") then Some UserStrings
    else (if bytes_eq name (codes "#GUID") then Some Guids
    else (if bytes_eq name (codes "#Blob") then Some Blobs else None))))

unfoldable pub stream_at : List ℕ → ℕ → Stream
stream_at m place = record { name = stream_meaning (name_bytes m place); offset = u32_at m place; size = u32_at m (place + 4) }

unfoldable pub stream_list : List ℕ → List Stream
stream_list m = map (stream_at m) (all_headers m)

abbrev pub same_name : StreamName → StreamName → Bool
same_name Tables Tables = true
same_name Strings Strings = true
same_name UserStrings UserStrings = true
same_name Guids Guids = true
same_name Blobs Blobs = true
same_name _ _ = false

abbrev pub has_stream_name : StreamName → Option StreamName → Bool
has_stream_name name None = false
has_stream_name name (Some other) = same_name name other

-- the first stream of a name
abbrev pub stream_named : List Stream → StreamName → Option Stream
stream_named streams name = find (λ s. has_stream_name name s.name) streams

abbrev pub stream_in : List ℕ → Option Stream → List ℕ
stream_in m None = []
stream_in m (Some s) = slice_range m s.offset (s.offset + s.size)

-- the bytes of a stream of an image, none where it is not there
unfoldable pub stream : List ℕ → StreamName → List ℕ
stream b name = stream_in (metadata b) (stream_named (stream_list (metadata b)) name)

-- the refusals of the streams: the last two of an image
unfoldable pub stream_conditions : List ℕ → List (Bool × PeRefusal)
stream_conditions m =
    (list_any (bad_header m) (all_headers m), BadStreams)
    ∷ (is_none (stream_named (stream_list m) Tables), NoTables)
    ∷ []

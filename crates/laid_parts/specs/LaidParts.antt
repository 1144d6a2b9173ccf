-- Bytes that are laid one part after the other, each at the next multiple of its boundary.
use Rattle.std.specs.Prelude.{◌≡◌, ℕ, ◌+◌, ◌-◌, ◌%◌, List, [], ◌∷◌, ◌++◌, length, replicate, nat_le, Result, Ok, Err, Option, Some, None, option_map, if◌then◌else◌}
use Rattle.std.specs.Int.{next_multiple_of}
use Rattle.laid_parts.specs.declared.parts.TooLong.{TooLong}

-- a part: its bytes, and the number of which its place is a multiple
pub record Part : Type 0 where
  pub boundary : ℕ
  pub bytes : List ℕ

abbrev pub laid_part : ℕ → List ℕ → Part
laid_part boundary bytes = record { boundary = boundary; bytes = bytes }

-- how many zeros lead from a place to the next multiple of a boundary
abbrev pub padding : ℕ → ℕ → ℕ
padding boundary place = (boundary - place % boundary) % boundary

-- the place behind a part that stands at the first multiple of its boundary from a place on
abbrev pub behind_part : ℕ → Part → ℕ
behind_part place p = place + padding p.boundary place + length p.bytes

-- the bytes of parts from a place on: zeros up to the boundary of each, and then the part
abbrev pub bytes_of_parts : ℕ → List Part → List ℕ
bytes_of_parts place [] = []
bytes_of_parts place (p ∷ ps) = replicate (padding p.boundary place) 0 ++ (p.bytes ++ bytes_of_parts (behind_part place p) ps)

-- the place behind all parts: the sum of their lengths and of the zeros before them
abbrev pub behind_parts : ℕ → List Part → ℕ
behind_parts place [] = place
behind_parts place (p ∷ ps) = behind_parts (behind_part place p) ps

-- where a part stands that follows others, which begin at a place
abbrev pub place_of_part : ℕ → List Part → Part → ℕ
place_of_part place before p = next_multiple_of (behind_parts place before) p.boundary

-- what a contract sees of parts that are being laid: the place of the first byte, how many bytes are kept at most, how many
-- there are, and these, where they are kept
pub record LaidBytes : Type 0 where
  pub start : ℕ
  pub most : ℕ
  pub size : ℕ
  pub bytes : Option (List ℕ)

-- so many bytes, which are kept where they are not too many
abbrev pub kept : ℕ → ℕ → ℕ → List ℕ → LaidBytes
kept start most size bytes = record { start = start; most = most; size = size; bytes = if nat_le size most then Some bytes else None }

-- what a list of parts comes to
abbrev pub laid : ℕ → ℕ → List Part → LaidBytes
laid start most ps = kept start most (length (bytes_of_parts start ps)) (bytes_of_parts start ps)

-- one part more
abbrev pub with_part : LaidBytes → Part → LaidBytes
with_part l p =
    let zeros = padding p.boundary (l.start + l.size) in
    let size = l.size + (zeros + length p.bytes) in
    record {
      start = l.start;
      most = l.most;
      size = size;
      bytes = if nat_le size l.most then option_map (λ bytes. bytes ++ (replicate zeros 0 ++ p.bytes)) l.bytes else None;
    }

-- the bytes that are handed out, or how many there are where they are too many
abbrev pub HandsOut : LaidBytes → Result (List ℕ) TooLong → Type 0
HandsOut l (Ok bytes) = l.bytes ≡ Some bytes
HandsOut l (Err e) = (l.bytes ≡ None) × (e.size ≡ l.size)

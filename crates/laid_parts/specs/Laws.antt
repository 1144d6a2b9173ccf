-- What holds of parts that are laid.
use Rattle.std.specs.Prelude.{◌≡◌, ◌<◌, ℕ, ◌+◌, ◌-◌, ◌%◌, List, [], ◌∷◌, ◌++◌, length, take, drop}
use Rattle.laid_parts.specs.LaidParts.{Part, behind_parts, bytes_of_parts, laid, padding, place_of_part, with_part}

-- what stands at a part's place is that part, whatever stands before and behind
abbrev pub PartsStand : Type 0
PartsStand =
    (start : ℕ) (before : List Part) (p : Part) (after : List Part)
    → take (length p.bytes) (drop (place_of_part start before p - start) (bytes_of_parts start (before ++ p ∷ after))) ≡ p.bytes

-- that place is a multiple of its boundary, and less than a boundary behind the parts before
abbrev pub PlacesAreMultiples : Type 0
PlacesAreMultiples =
    (start : ℕ) (before : List Part) (p : Part) → 0 < p.boundary
    → (place_of_part start before p % p.boundary ≡ 0) × (padding p.boundary (behind_parts start before) < p.boundary)

-- the place behind all is that of the first byte and as many more as there are bytes
abbrev pub PlacesAreLengths : Type 0
PlacesAreLengths = (start : ℕ) (ps : List Part) → behind_parts start ps ≡ start + length (bytes_of_parts start ps)

-- a part more at the end
abbrev pub PartsGrow : Type 0
PartsGrow = (start most : ℕ) (ps : List Part) (p : Part) → with_part (laid start most ps) p ≡ laid start most (ps ++ p ∷ [])

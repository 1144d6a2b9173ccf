-- Parts of a list that is laid.
use Rattle.std.proofs.Common.{◌≡◌, ℕ, ◌+◌, ◌-◌, ◌*◌, ◌/◌, ◌%◌, ◌<◌, ◌≤◌, List, [], ◌∷◌, ◌++◌, true, false, cond, length, replicate, Option, Some, None, refl, sym, ap, subst, ◌∙◌, arith}
use Rattle.std.specs.Prelude.{nat_le, option_map}
use Rattle.std.specs.Int.{next_multiple_of}
use Rattle.std.proofs.Math.Nat.{add-mod-mod, div-add-mod, mod-lt, mod_self, mul-add-mod_self_left}
use Rattle.std.proofs.lemmas.Bool.Decides.{nat_tests}
use Rattle.std.proofs.lemmas.List.{append_assoc, append-nil, length-append, length-replicate}
use Rattle.laid_parts.specs.LaidParts.{Part, behind_part, behind_parts, bytes_of_parts, kept, laid, padding, place_of_part, with_part}
use Rattle.laid_parts.specs.Laws.{PartsGrow, PartsStand, PlacesAreLengths, PlacesAreMultiples}
use Rattle.laid_parts.proofs.HasPart.{HasPart, has-all, has-at, has-behind, has-front, has-take, has-within}

pub places_are_lengths : PlacesAreLengths
places_are_lengths start [] = omega arith
places_are_lengths start (p ∷ ps) =
    let zeros = replicate (padding p.boundary start) 0 in
    let rest = bytes_of_parts (behind_part start p) ps in
    let more = places_are_lengths (behind_part start p) ps in
    let one = length-append zeros (p.bytes ++ rest) in
    let two = length-append p.bytes rest in
    let long = length-replicate {A = ℕ} (padding p.boundary start) 0 in
    omega (arith, more, one, two, long)

-- the part stands at its place, counted from the first byte
pub has-part : (start : ℕ) (before : List Part) (p : Part) (after : List Part) → HasPart (bytes_of_parts start (before ++ p ∷ after)) (place_of_part start before p - start) p.bytes
has-part start [] p after =
    let zeros = replicate (padding p.boundary start) 0 in
    let long = length-replicate {A = ℕ} (padding p.boundary start) 0 in
    has-at (omega (arith, long)) (has-behind zeros (has-front p.bytes (bytes_of_parts (behind_part start p) after)))
has-part start (q ∷ before) p after =
    let zeros = replicate (padding q.boundary start) 0 in
    let long = length-replicate {A = ℕ} (padding q.boundary start) 0 in
    let from = behind_part start q in
    let least = places_are_lengths from before in
    has-at (omega (arith, long, least)) (has-behind zeros (has-behind q.bytes (has-part from before p after)))

-- of parts that begin at their place in other bytes: the first of them, and those behind it
pub has-head : {whole : List ℕ} (place at : ℕ) (p : Part) (ps : List Part) → HasPart whole place (bytes_of_parts place (p ∷ ps)) → next_multiple_of place p.boundary ≡ at → HasPart whole at p.bytes
has-head place at p ps h e =
    let zeros = replicate (padding p.boundary place) 0 in
    let long = length-replicate {A = ℕ} (padding p.boundary place) 0 in
    has-at (omega (arith, long, e)) (has-within h (has-behind zeros (has-front p.bytes (bytes_of_parts (behind_part place p) ps))))

pub has-tail : {whole : List ℕ} (place next : ℕ) (p : Part) (ps : List Part) → HasPart whole place (bytes_of_parts place (p ∷ ps)) → behind_part place p ≡ next → HasPart whole next (bytes_of_parts next ps)
has-tail {whole} place next p ps h e =
    let zeros = replicate (padding p.boundary place) 0 in
    let long = length-replicate {A = ℕ} (padding p.boundary place) 0 in
    let rest = bytes_of_parts (behind_part place p) ps in
    let tail : HasPart whole (behind_part place p) rest = has-at (omega (arith, long)) (has-within h (has-behind zeros (has-behind p.bytes (has-all rest)))) in
    subst (λ (n : ℕ). HasPart whole n (bytes_of_parts n ps)) e tail

pub length-tail : (place next : ℕ) (p : Part) (ps : List Part) → behind_part place p ≡ next → place + length (bytes_of_parts place (p ∷ ps)) ≡ next + length (bytes_of_parts next ps)
length-tail place next p ps e =
    sym (places_are_lengths place (p ∷ ps)) ∙ ap (λ (n : ℕ). behind_parts n ps) e ∙ places_are_lengths next ps

pub parts_stand : PartsStand
parts_stand start before p after = has-take (has-part start before p after)

-- what is added to come to a multiple
whole-more : (boundary place : ℕ) → 0 < boundary → (place + (boundary - place % boundary)) % boundary ≡ 0
whole-more boundary place h =
    let rest = mod-lt place h in
    let parts = div-add-mod place boundary in
    let sum : place + (boundary - place % boundary) ≡ boundary * (place / boundary) + boundary = omega (arith, rest, parts) in
    ap (λ (n : ℕ). n % boundary) sum ∙ mul-add-mod_self_left boundary (place / boundary) boundary ∙ mod_self boundary

pub places_are_multiples : PlacesAreMultiples
places_are_multiples start before p h =
    let place = behind_parts start before in
    (add-mod-mod place (p.boundary - place % p.boundary) p.boundary ∙ whole-more p.boundary place h, mod-lt (p.boundary - place % p.boundary) h)

-- a part at the end
pub bytes-more : (start : ℕ) (ps : List Part) (p : Part) → bytes_of_parts start (ps ++ p ∷ []) ≡ bytes_of_parts start ps ++ (replicate (padding p.boundary (behind_parts start ps)) 0 ++ p.bytes)
bytes-more start [] p = ap (λ s. replicate (padding p.boundary start) 0 ++ s) (append-nil p.bytes)
bytes-more start (q ∷ ps) p =
    let zeros = replicate (padding q.boundary start) 0 in
    let from = behind_part start q in
    let more = replicate (padding p.boundary (behind_parts from ps)) 0 ++ p.bytes in
    ap (λ s. zeros ++ (q.bytes ++ s)) (bytes-more from ps p)
    ∙ ap (λ s. zeros ++ s) (sym (append_assoc q.bytes (bytes_of_parts from ps) more))
    ∙ sym (append_assoc zeros (q.bytes ++ bytes_of_parts from ps) more)

grow : (most a b : ℕ) (bytes more : List ℕ) → b ≡ a + length more → cond (nat_le b most) (option_map (λ bytes. bytes ++ more) (cond (nat_le a most) (Some bytes) None)) None ≡ cond (nat_le b most) (Some (bytes ++ more)) None
grow most a b bytes more e = grind (arith, nat_tests)

pub parts_grow : PartsGrow
parts_grow start most ps p =
    let bytes = bytes_of_parts start ps in
    let behind = places_are_lengths start ps in
    let zeros = padding p.boundary (start + length bytes) in
    let more = replicate zeros 0 ++ p.bytes in
    let size = length bytes + (zeros + length p.bytes) in
    let is : bytes_of_parts start (ps ++ p ∷ []) ≡ bytes ++ more = bytes-more start ps p ∙ ap (λ (n : ℕ). bytes ++ (replicate (padding p.boundary n) 0 ++ p.bytes)) behind in
    let one = length-append bytes more in
    let two = length-append (replicate zeros 0) p.bytes in
    let long = length-replicate {A = ℕ} zeros 0 in
    let sized : size ≡ length (bytes ++ more) = omega (arith, one, two, long) in
    let same : with_part (laid start most ps) p ≡ kept start most size (bytes ++ more) =
    ap (λ (x : Option (List ℕ)). record { start = start; most = most; size = size; bytes = x }) (grow most (length bytes) size bytes more (omega (arith, two, long))) in
    same ∙ ap (λ (n : ℕ). kept start most n (bytes ++ more)) sized ∙ ap (λ s. kept start most (length s) s) (sym is)

-- what is handed out of parts
kept-if : (most size : ℕ) (bytes out : List ℕ) → cond (nat_le size most) (Some bytes) None ≡ Some out → (out ≡ bytes) × (size ≤ most)
kept-if most size bytes out h = elim (nat_le size most) as (λ t. nat_le size most ≡ t → cond t (Some bytes) None ≡ Some out → (out ≡ bytes) × (size ≤ most)) [
  | true ↦ λ t k. (cc, grind (arith, nat_tests))
  | false ↦ λ t k. absurd (cc)
] refl h

lost-if : (most size : ℕ) (bytes : List ℕ) → cond (nat_le size most) (Some bytes) None ≡ None → most < size
lost-if most size bytes h = elim (nat_le size most) as (λ t. nat_le size most ≡ t → cond t (Some bytes) None ≡ None → most < size) [
  | true ↦ λ t k. absurd (cc)
  | false ↦ λ t k. grind (arith, nat_tests)
] refl h

pub laid-kept : (start most : ℕ) (ps : List Part) (out : List ℕ) → (laid start most ps).bytes ≡ Some out → (out ≡ bytes_of_parts start ps) × (length (bytes_of_parts start ps) ≤ most)
laid-kept start most ps out h = kept-if most (length (bytes_of_parts start ps)) (bytes_of_parts start ps) out h

pub laid-long : (start most : ℕ) (ps : List Part) → (laid start most ps).bytes ≡ None → most < length (bytes_of_parts start ps)
laid-long start most ps h = lost-if most (length (bytes_of_parts start ps)) (bytes_of_parts start ps) h

-- Numbers at places of bytes: how large they are, and that a number which stands there is read.
use Rattle.std.proofs.Common.{◌≡◌, ℕ, zero, suc, ◌+◌, ◌-◌, ◌%◌, ◌^◌, ◌<◌, ◌≤◌, List, [], ◌∷◌, ◌++◌, length, take, drop, get_or, get_or-drop, refl, ap, ◌∙◌, arith, Some}
use Rattle.std.proofs.Math.Nat.{div-one, mod-eq_of_lt}
use Rattle.std.proofs.lemmas.Bool.{le-leb}
use Rattle.byteorder.specs.Endian.{little_from, little_bytes}
use Rattle.byteorder.specs.Numbers.{little_from-cons, little_from-bytes, little_from-lt, little_from-take}
use Rattle.cil_base.specs.Place.{number_at, number_within}

-- each item is a byte
abbrev pub IsBytes : List ℕ → Type 0
IsBytes bytes = (k : ℕ) → get_or bytes k 0 < 256

pub number_small : (bytes : List ℕ) (place width : ℕ) → IsBytes bytes → number_at bytes place width < 256 ^ width
unfolding number_at
number_small bytes place width all = little_from-lt place width bytes all

little_from-drop : (bytes : List ℕ) (place i width : ℕ) → little_from i width (drop place bytes) ≡ little_from (place + i) width bytes
little_from-drop bytes place i zero = refl
little_from-drop bytes place i (suc width) =
    let first = get_or-drop place bytes i 0 in
    let next : place + suc i ≡ suc (place + i) = omega arith in
    let rest = little_from-drop bytes place (suc i) width ∙ ap (λ at. little_from at width bytes) next in
    rw (first, rest) refl

-- the bytes from a place on begin with the number that stands there
pub number-from : (bytes : List ℕ) (place width : ℕ) → place + width ≤ length bytes → little_from 0 width (take (length bytes - place) (drop place bytes)) ≡ number_at bytes place width
unfolding number_at
number-from bytes place width room =
    let here : place + 0 ≡ place = omega arith in
    little_from-take 0 width (length bytes - place) (drop place bytes) (omega arith) ∙ little_from-drop bytes place 0 width ∙ ap (λ at. little_from at width bytes) here

-- what is written from a place on is read there
pub number-behind : (before bytes : List ℕ) (width : ℕ) → number_at (before ++ bytes) (length before) width ≡ number_at bytes 0 width
unfolding number_at
number-behind [] bytes width = refl
number-behind (b ∷ before) bytes width = little_from-cons (length before) width b (before ++ bytes) ∙ number-behind before bytes width

pub number-written : (width number : ℕ) (after : List ℕ) → number < 256 ^ width → number_at (little_bytes width number ++ after) 0 width ≡ number
unfolding number_at
number-written width number after small =
    little_from-bytes width 0 number after ∙ ap (λ m. m % 256 ^ width) (div-one number) ∙ mod-eq_of_lt small

pub number-within : (bytes : List ℕ) (place width : ℕ) → place + width ≤ length bytes → number_within bytes place width ≡ Some (number_at bytes place width)
unfolding number_within
number-within bytes place width room = let t = le-leb (place + width) (length bytes) room in rw t refl

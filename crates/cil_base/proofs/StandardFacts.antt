-- Worked values of the standard, so that a wrong mark, width or place in a definition does not check: ECMA-335 II.23.2.
use Rattle.std.proofs.Common.{◌≡◌, pos, negsuc, [], ◌∷◌, Some, None, refl}
use Rattle.cil_base.specs.Number.{spelled_number, strip_number}
use Rattle.cil_base.specs.Signed.{spelled_signed, strip_signed}
use Rattle.cil_base.specs.Heaps.{entry, units}

pub number-7F : spelled_number 0x7F ≡ 0x7F ∷ []
unfolding spelled_number
number-7F = refl

pub number-80 : spelled_number 0x80 ≡ 0x80 ∷ 0x80 ∷ []
unfolding spelled_number
number-80 = refl

pub number-2E57 : spelled_number 0x2E57 ≡ 0xAE ∷ 0x57 ∷ []
unfolding spelled_number
number-2E57 = refl

pub number-4000 : spelled_number 0x4000 ≡ 0xC0 ∷ 0x00 ∷ 0x40 ∷ 0x00 ∷ []
unfolding spelled_number
number-4000 = refl

pub number-longest : spelled_number 0x1FFFFFFF ≡ 0xDF ∷ 0xFF ∷ 0xFF ∷ 0xFF ∷ []
unfolding spelled_number
number-longest = refl

pub number-longer_form : strip_number 3 (0x80 ∷ 0x03 ∷ 9 ∷ []) ≡ Some (9 ∷ [])
unfolding strip_number
number-longer_form = refl

pub signed-3 : spelled_signed (pos 3) ≡ 0x06 ∷ []
unfolding spelled_signed
signed-3 = refl

pub signed-minus_3 : spelled_signed (negsuc 2) ≡ 0x7B ∷ []
unfolding spelled_signed
signed-minus_3 = refl

pub signed-minus_8192 : spelled_signed (negsuc 8191) ≡ 0x80 ∷ 0x01 ∷ []
unfolding spelled_signed
signed-minus_8192 = refl

pub signed-greatest : spelled_signed (pos 268435455) ≡ 0xDF ∷ 0xFF ∷ 0xFF ∷ 0xFE ∷ []
unfolding spelled_signed
signed-greatest = refl

pub signed-in_two_bytes : strip_signed (negsuc 0) (0xBF ∷ 0xFF ∷ []) ≡ Some []
unfolding strip_signed
signed-in_two_bytes = refl

pub units-quote : units (0 ∷ 3 ∷ 0x27 ∷ 0 ∷ 1 ∷ []) 1 ≡ Some (0x27 ∷ 0 ∷ [])
unfolding units entry strip_number
units-quote = refl

pub entry-cut_off : entry (3 ∷ 0x27 ∷ 0 ∷ []) ≡ None
unfolding entry strip_number
entry-cut_off = refl

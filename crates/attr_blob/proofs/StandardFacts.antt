-- Worked values, so that a wrong width, mark or length in a definition does not check: ECMA-335 II.23.3, II.23.1.16.
use Rattle.std.proofs.Common.{◌≡◌, [], ◌∷◌, ◌++◌, codes, map, Some, true, false, refl}
use Rattle.cil_base.specs.Number.{strip_number}
use Rattle.attr_blob.specs.Fronts.{strip_text, strip_null, strip_row}
use Rattle.attr_blob.specs.Types.{is_numeric, number_width}
use Rattle.attr_blob.specs.Attrs.{named_mark}

-- BOOLEAN, CHAR, I1, U1, I2, U2, I4, U4, I8, U8, R4, R8
pub widths_of_numbers : map number_width (0x02 ∷ 0x03 ∷ 0x04 ∷ 0x05 ∷ 0x06 ∷ 0x07 ∷ 0x08 ∷ 0x09 ∷ 0x0a ∷ 0x0b ∷ 0x0c ∷ 0x0d ∷ []) ≡ 1 ∷ 2 ∷ 1 ∷ 1 ∷ 2 ∷ 2 ∷ 4 ∷ 4 ∷ 8 ∷ 8 ∷ 4 ∷ 8 ∷ []
widths_of_numbers = refl

pub ends_of_numbers : map is_numeric (0x01 ∷ 0x02 ∷ 0x0d ∷ 0x0e ∷ []) ≡ false ∷ true ∷ true ∷ false ∷ []
ends_of_numbers = refl

pub text_stands : strip_text (codes "hello") (5 ∷ codes "hello" ++ 7 ∷ []) ≡ Some (7 ∷ [])
unfolding strip_number
text_stands = refl

pub text_in_a_longer_form : strip_text (codes "a") (0x80 ∷ 1 ∷ codes "a") ≡ Some []
unfolding strip_number
text_in_a_longer_form = refl

pub no_text : strip_row (strip_null ∷ strip_null ∷ []) (0xff ∷ 0xff ∷ []) ≡ Some []
no_text = refl

pub field_and_property : (named_mark false ∷ named_mark true ∷ []) ≡ 0x53 ∷ 0x54 ∷ []
field_and_property = refl

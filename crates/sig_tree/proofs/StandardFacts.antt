-- The definitions at worked values: signatures spelled out by hand from ECMA-335 II.23.2.
use Rattle.std.proofs.Common.{◌≡◌, refl, ap, [], ◌∷◌, List, Some, None, true, false, codes, pos, negsuc}
use Rattle.std.specs.List.{flat_map}
use Rattle.cil_base.specs.Token.{Token}
use Rattle.cil_base.specs.Number.{strip_number, spelled_number}
use Rattle.cil_base.specs.Signed.{spelled_signed}
use Rattle.sig_tree.specs.declared.symbol.Symbol.{Symbol}
use Rattle.sig_tree.specs.declared.symbol.Symbol.TheVariants.{Byte, Number}
use Rattle.sig_tree.specs.Symbols.{coded_token, spelling_of, spelled, strip_symbols}
use Rattle.sig_tree.specs.Spelling.{convention_byte, method_level, type_level, spell, strip}
use Rattle.sig_tree.specs.Bounds.{is_prim, is_kind, has_place}
use Rattle.sig_tree.specs.Printed.{type_pieces_level, piece_text, chars}
use Rattle.sig_tree.specs.declared.tree.Arity.TheVariants.{Plain as not_generic, Generic}
use Rattle.sig_tree.specs.declared.tree.Sentinel.TheVariants.{Before}
use Rattle.sig_tree.specs.declared.tree.TypeSig.TheVariants.{Prim, Class}
use Rattle.sig_tree.specs.declared.tree.TypeSig.TheOpen.{TypeSig-F, MethodSig-F}
use Rattle.sig_tree.specs.declared.tree.TypeSig.TheViews.{rolls-Prim, rolls-Class}
use Rattle.sig_tree.specs.declared.tree.SigTree.TheVariants.{Field}
use Rattle.sig_tree.proofs.Rolls.{row-of}

abbrev type_ref_2 : Token
type_ref_2 = record { table = 0x01; rid = 2 }

-- II.23.2.8: a TypeRef's row above two bits of tag
pub type_ref-coded : coded_token type_ref_2 ≡ Some 9
type_ref-coded = refl

pub method-has-no-code : coded_token (record { table = 0x06; rid = 1 }) ≡ None
method-has-no-code = refl

pub row_2_24-has-no-code : coded_token (record { table = 0x02; rid = 0x1000000 }) ≡ None
row_2_24-has-no-code = refl

pub generic_instance : convention_byte 0 (Generic 1) true false ≡ 0x30
generic_instance = refl

pub vararg_explicit : convention_byte 5 not_generic true true ≡ 0x65
vararg_explicit = refl

pub no-element-type-17 : is_prim 0x17 ≡ false
no-element-type-17 = refl

pub element-type-1c : is_prim 0x1c ≡ true
element-type-1c = refl

pub no-kind-6 : is_kind 6 ≡ false
no-kind-6 = refl

pub kind-9 : is_kind 9 ≡ true
kind-9 = refl

pub sentinel-after-the-last : has_place false 1 (Before 1) ≡ true
sentinel-after-the-last = refl

pub no-sentinel-ends-a-pointer : has_place true 1 (Before 1) ≡ false
no-sentinel-ends-a-pointer = refl

pub number-2_29-has-no-spelling : spelling_of (Number 0x20000000) ≡ None
number-2_29-has-no-spelling = refl

pub field-is-spelled : spell (Field (Class type_ref_2)) ≡ 0x06 ∷ 0x12 ∷ 0x09 ∷ []
unfolding spelled_number
field-is-spelled = ap (λ (ys : List Symbol). spelled (Byte 0x06 ∷ ys)) (row-of (TypeSig-F.Class type_ref_2) (Class type_ref_2) (rolls-Class type_ref_2))

pub long-form-is-stripped : strip (Field (Class type_ref_2)) (0x06 ∷ 0x12 ∷ 0xc0 ∷ 0x00 ∷ 0x00 ∷ 0x09 ∷ []) ≡ Some []
unfolding strip_number
long-form-is-stripped = ap (λ (ys : List Symbol). strip_symbols (Byte 0x06 ∷ ys) (0x06 ∷ 0x12 ∷ 0xc0 ∷ 0x00 ∷ 0x00 ∷ 0x09 ∷ [])) (row-of (TypeSig-F.Class type_ref_2) (Class type_ref_2) (rolls-Class type_ref_2))

pub byte-behind-stays : strip (Field (Prim 0x08)) (0x06 ∷ 0x08 ∷ 0x00 ∷ []) ≡ Some (0x00 ∷ [])
byte-behind-stays = ap (λ (ys : List Symbol). strip_symbols (Byte 0x06 ∷ ys) (0x06 ∷ 0x08 ∷ 0x00 ∷ [])) (row-of (TypeSig-F.Prim 0x08) (Prim 0x08) (rolls-Prim 0x08))

abbrev vararg : MethodSig-F (List Symbol) (List Symbol)
vararg = record { kind = 5; this = false; explicit = false; arity = not_generic; ret = Byte 0x01 ∷ []; params = (Byte 0x08 ∷ []) ∷ (Byte 0x0e ∷ []) ∷ []; sentinel = Before 1 }

pub vararg-is-spelled : spelled (method_level vararg) ≡ 0x05 ∷ 0x02 ∷ 0x01 ∷ 0x08 ∷ 0x41 ∷ 0x0e ∷ []
unfolding spelled_number
vararg-is-spelled = refl

pub array-is-spelled : spelled (type_level (TypeSig-F.Array (Byte 0x1c ∷ []) 2 (5 ∷ []) (pos 0 ∷ negsuc 0 ∷ []))) ≡ 0x14 ∷ 0x1c ∷ 0x02 ∷ 0x01 ∷ 0x05 ∷ 0x02 ∷ 0x00 ∷ 0x7f ∷ []
unfolding spelled_number spelled_signed
array-is-spelled = refl

pub class-is-printed : flat_map piece_text (type_pieces_level (TypeSig-F.Class type_ref_2)) ≡ codes "class 01000002"
unfolding chars
class-is-printed = refl

-- Worked values, so that a wrong order, sign or word in a definition does not check: ECMA-335 II.6.2.1.3, II.24.2.5.
use Rattle.std.proofs.Common.{◌≡◌, [], ◌∷◌, codes, refl}
use Rattle.std.specs.Fmt.{digits}
use Rattle.asm_names.specs.Assembly.{assembly_text}
use Rattle.asm_names.specs.Guid.{guid_text}

pub guid-first_fields_reversed : guid_text (0x33 ∷ 0x22 ∷ 0x11 ∷ 0x00 ∷ 0x55 ∷ 0x44 ∷ 0x77 ∷ 0x66 ∷ 0x88 ∷ 0x99 ∷ 0xaa ∷ 0xbb ∷ 0xcc ∷ 0xdd ∷ 0xee ∷ 0xff ∷ []) ≡ codes "00112233-4455-6677-8899-aabbccddeeff"
unfolding guid_text
guid-first_fields_reversed = refl

pub assembly-neutral : assembly_text (codes "corlib") (4 ∷ 0 ∷ 0 ∷ 0 ∷ []) [] (0xb7 ∷ 0x7a ∷ 0x5c ∷ 0x56 ∷ 0x19 ∷ 0x34 ∷ 0xe0 ∷ 0x89 ∷ []) ≡ codes "corlib, Version=4.0.0.0, Culture=neutral, PublicKeyToken=b77a5c561934e089"
unfolding digits
assembly-neutral = refl

pub assembly-no_key : assembly_text (codes "a b") (1 ∷ 20 ∷ 65535 ∷ 3 ∷ []) (codes "de") [] ≡ codes "a b, Version=1.20.65535.3, Culture=de, PublicKeyToken=null"
unfolding digits
assembly-no_key = refl

-- Compressed signed numbers: their three forms, spelled and read.
use Rattle.std.proofs.Common.{◌≡◌, ℕ, ◌+◌, ◌-◌, ◌/◌, ◌%◌, ◌^◌, ◌<◌, ◌≤◌, inl, inr, ℤ, pos, negsuc, neg_ℤ, ◌≤ℤ◌, ◌<ℤ◌, List, [], ◌∷◌, ◌++◌, Bool, true, false, cond, length, drop, Option, Some, None, refl, sym, ap, ◌∙◌, arith, ◌&&◌, is_le, is_lt, int_cmp, w32, to_z, of_z}
use Rattle.std.specs.Option.{option_or, option_map_or}
use Rattle.std.proofs.lemmas.Bool.Decides.{nat_tests}
use Rattle.std.proofs.lemmas.Int.{ints, to_z-of_z}
use mir.Val.{SFits}
use Rattle.std.proofs.lemmas.List.{append-nil, length-drop}
use Rattle.cil_base.specs.Number.{Form, one_byte_form, two_bytes_form, four_bytes_form, written, strip_bytes, strip_number}
use Rattle.cil_base.specs.Signed.{is_within, in_bits, rotated, written_signed, strip_signed_form, strip_signed, spelled_signed}
use Rattle.cil_base.specs.inner.Reading.{compressed_at, rotated_at, unrotated, bits_of, signed_of, signed_at}
use Rattle.cil_base.proofs.NumberLemmas.{strip-bytes, stripped, two-digits, four-digits, either, or-first, or-second, chosen, forms, Stands, hit-one, hit-two, hit-four, strip-compressed_at, compressed_at-strip, none-compressed_at}
use Rattle.cil_base.proofs.SignBits.{rotates-7, rotates-14, rotates-29, unrotates-7, unrotates-14, unrotates-29, back-7, back-14, back-29, turns-7, turns-14, turns-29, within_test}

form-hit : (form : Form) (z : ℤ) (r : List ℕ) → is_within form.bits z ≡ true → strip_signed_form form z (written_signed form z ++ r) ≡ Some r
form-hit form z r h = ap (λ b. cond b (strip_bytes (written_signed form z) (written_signed form z ++ r)) None) h ∙ strip-bytes (written_signed form z) r

form-some : (form : Form) (z : ℤ) (s r : List ℕ) → strip_signed_form form z s ≡ Some r → (is_within form.bits z ≡ true) × (s ≡ written_signed form z ++ r)
form-some form z s r h =
    elim (is_within form.bits z) as (λ b. is_within form.bits z ≡ b → cond b (strip_bytes (written_signed form z) s) None ≡ Some r → (is_within form.bits z ≡ true) × (s ≡ written_signed form z ++ r)) [
      | true ↦ λ e found. (e, stripped (written_signed form z) s r found)
      | false ↦ λ e found. cc
    ] refl h

-- no other form begins with such a byte
miss-one : (z : ℤ) (x : ℕ) (s : List ℕ) → 0x80 ≤ x → strip_signed_form one_byte_form z (x ∷ s) ≡ None
miss-one z x s h =
    elim (strip_signed_form one_byte_form z (x ∷ s)) as (λ found. strip_signed_form one_byte_form z (x ∷ s) ≡ found → found ≡ None) [
      | None ↦ λ _. refl
      | Some r ↦ λ e.
          let p = form-some one_byte_form z (x ∷ s) r e in
          let l = rotates-7 z p.0 in
          let first : x ≡ (0 + rotated 7 (in_bits 7 z)) % 256 = cc in
          absurd (omega arith)
    ] refl

miss-two : (z : ℤ) (x : ℕ) (s : List ℕ) → 0xC0 ≤ x → strip_signed_form two_bytes_form z (x ∷ s) ≡ None
miss-two z x s h =
    elim (strip_signed_form two_bytes_form z (x ∷ s)) as (λ found. strip_signed_form two_bytes_form z (x ∷ s) ≡ found → found ≡ None) [
      | None ↦ λ _. refl
      | Some r ↦ λ e.
          let p = form-some two_bytes_form z (x ∷ s) r e in
          let l = rotates-14 z p.0 in
          let first : x ≡ (0x8000 + rotated 14 (in_bits 14 z)) / 256 % 256 = cc in
          absurd (omega arith)
    ] refl

pub signed-hit_one : (z : ℤ) (r : List ℕ) → is_within 7 z ≡ true → strip_signed z (written_signed one_byte_form z ++ r) ≡ Some r
unfolding strip_signed
signed-hit_one z r h = or-first _ _ r (form-hit one_byte_form z r h)

pub signed-hit_two : (z : ℤ) (r : List ℕ) → is_within 14 z ≡ true → strip_signed z (written_signed two_bytes_form z ++ r) ≡ Some r
unfolding strip_signed
signed-hit_two z r h =
    let n = rotated 14 (in_bits 14 z) in
    let l = rotates-14 z h in
    let begins = ap (λ (front : List ℕ). front ++ r) (two-digits n l) in
    let not_one = ap (strip_signed_form one_byte_form z) begins ∙ miss-one z (0x80 + n / 256) (n % 256 ∷ r) (omega arith) in
    or-second _ _ (Some r) not_one (or-first _ _ r (form-hit two_bytes_form z r h))

pub signed-hit_four : (z : ℤ) (r : List ℕ) → is_within 29 z ≡ true → strip_signed z (written_signed four_bytes_form z ++ r) ≡ Some r
unfolding strip_signed
signed-hit_four z r h =
    let n = rotated 29 (in_bits 29 z) in
    let l = rotates-29 z h in
    let more : List ℕ = n / 0x10000 % 256 ∷ n / 0x100 % 256 ∷ n % 256 ∷ r in
    let begins = ap (λ (front : List ℕ). front ++ r) (four-digits n l) in
    let not_one = ap (strip_signed_form one_byte_form z) begins ∙ miss-one z (0xC0 + n / 0x1000000) more (omega arith) in
    let not_two = ap (strip_signed_form two_bytes_form z) begins ∙ miss-two z (0xC0 + n / 0x1000000) more (omega arith) in
    or-second _ _ (Some r) not_one (or-second _ _ (Some r) not_two (form-hit four_bytes_form z r h))

-- the shortest form is stripped off whatever follows it
pub strip-spelled_signed : (z : ℤ) (r : List ℕ) → is_within 29 z ≡ true → strip_signed z (spelled_signed z ++ r) ≡ Some r
unfolding spelled_signed
strip-spelled_signed z r h =
    let strips = λ (front : List ℕ). strip_signed z (front ++ r) ≡ Some r in
    chosen strips _ _ _ (λ t. signed-hit_one z r t) (λ _. chosen strips _ _ _ (λ t. signed-hit_two z r t) (λ _. signed-hit_four z r h))

pub strip-whole_signed : (z : ℤ) (s : List ℕ) → is_within 29 z ≡ true → s ≡ spelled_signed z → strip_signed z s ≡ Some []
strip-whole_signed z s h e = ap (strip_signed z) (e ∙ sym (append-nil (spelled_signed z))) ∙ strip-spelled_signed z [] h

-- the number that another spells in its form is stripped where that one is
pub stands-one : (n : ℕ) (s r : List ℕ) → Stands one_byte_form n s r → (length s - length r ≡ 1) × (strip_signed (unrotated 7 n) s ≡ Some r)
stands-one n s r h =
    let b = back-7 n h.fits in
    let l = ap length h.bytes in
    let same = ap (λ (m : ℕ). written one_byte_form m ++ r) (sym b.bits_are) in
    (omega arith, ap (strip_signed (unrotated 7 n)) (h.bytes ∙ same) ∙ signed-hit_one (unrotated 7 n) r b.within)

pub stands-two : (n : ℕ) (s r : List ℕ) → Stands two_bytes_form n s r → (length s - length r ≡ 2) × (strip_signed (unrotated 14 n) s ≡ Some r)
stands-two n s r h =
    let b = back-14 n h.fits in
    let l = ap length h.bytes in
    let same = ap (λ (m : ℕ). written two_bytes_form m ++ r) (sym b.bits_are) in
    (omega arith, ap (strip_signed (unrotated 14 n)) (h.bytes ∙ same) ∙ signed-hit_two (unrotated 14 n) r b.within)

pub stands-four : (n : ℕ) (s r : List ℕ) → Stands four_bytes_form n s r → (length s - length r ≡ 4) × (strip_signed (unrotated 29 n) s ≡ Some r)
stands-four n s r h =
    let b = back-29 n h.fits in
    let l = ap length h.bytes in
    let same = ap (λ (m : ℕ). written four_bytes_form m ++ r) (sym b.bits_are) in
    (omega arith, ap (strip_signed (unrotated 29 n)) (h.bytes ∙ same) ∙ signed-hit_four (unrotated 29 n) r b.within)

-- the bits of the form that stands there hold the number, and it is stripped as the signed number of these bits
pub record Signs (n width : ℕ) (s r : List ℕ) : Type 0 where
  pub fits : n < 2 ^ bits_of width
  pub strips : strip_signed (unrotated (bits_of width) n) s ≡ Some r

pub number-signed : (n : ℕ) (s r : List ℕ) → strip_number n s ≡ Some r → Signs n (length s - length r) s r
number-signed n s r h =
    elim (forms n s r h) [
      | inl one ↦ let p = stands-one n s r one in rw p.0 (record { fits = one.fits; strips = p.1 })
      | inr more ↦ elim more [
        | inl two ↦ let p = stands-two n s r two in rw p.0 (record { fits = two.fits; strips = p.1 })
        | inr four ↦ let p = stands-four n s r four in rw p.0 (record { fits = four.fits; strips = p.1 })
      ]
    ]

pub same_signed_pair : (y z : ℤ) (q r : List ℕ) → ◌≡◌ {A = Option (ℤ × List ℕ)} (Some (y, q)) (Some (z, r)) → (y ≡ z) × (q ≡ r)
same_signed_pair y z q r h = (ap (λ (o : Option (ℤ × List ℕ)). option_map_or (λ p. p.0) o (pos 0)) h, ap (λ (o : Option (ℤ × List ℕ)). option_map_or (λ p. p.1) o []) h)

-- a signed number that is read is stripped
pub signed_at-strip : (s : List ℕ) (z : ℤ) (r : List ℕ) → signed_at s ≡ Some (z, r) → strip_signed z s ≡ Some r
unfolding signed_at
signed_at-strip s z r h =
    elim (compressed_at s) as (λ found. compressed_at s ≡ found → signed_of s found ≡ Some (z, r) → strip_signed z s ≡ Some r) [
      | None ↦ λ e k. cc
      | Some p ↦ λ e k.
          let q = number-signed p.0 s p.1 (compressed_at-strip s p.0 p.1 e) in
          let same = same_signed_pair (unrotated (bits_of (length s - length p.1)) p.0) z p.1 r k in
          ap (λ (y : ℤ). strip_signed y s) (sym same.0) ∙ q.strips ∙ ap (λ (rest : List ℕ). Some rest) same.1
    ] refl h

-- a signed number that is stripped is the one that is read
signed-forms : (P : Type 0) (z : ℤ) (s r : List ℕ) → strip_signed z s ≡ Some r
    → (is_within 7 z ≡ true → s ≡ written_signed one_byte_form z ++ r → P) → (is_within 14 z ≡ true → s ≡ written_signed two_bytes_form z ++ r → P) → (is_within 29 z ≡ true → s ≡ written_signed four_bytes_form z ++ r → P) → P
unfolding strip_signed
signed-forms P z s r h one two four =
    elim (either (strip_signed_form one_byte_form z s) (option_or (strip_signed_form two_bytes_form z s) (strip_signed_form four_bytes_form z s)) r h) [
      | inl a ↦ let p = form-some one_byte_form z s r a in one p.0 p.1
      | inr more ↦ elim (either (strip_signed_form two_bytes_form z s) (strip_signed_form four_bytes_form z s) r more) [
        | inl b ↦ let p = form-some two_bytes_form z s r b in two p.0 p.1
        | inr c ↦ let p = form-some four_bytes_form z s r c in four p.0 p.1
      ]
    ]

signed-from : (n width bits : ℕ) (z : ℤ) (s r : List ℕ) → strip_number n s ≡ Some r → length s - length r ≡ width → bits_of width ≡ bits → unrotated bits n ≡ z → signed_at s ≡ Some (z, r)
unfolding signed_at
signed-from n width bits z s r h w b e =
    ap (signed_of s) (strip-compressed_at n s r h) ∙ ap (λ (k : ℕ). Some (unrotated (bits_of k) n, r)) w ∙ ap (λ (k : ℕ). Some (unrotated k n, r)) b ∙ ap (λ (y : ℤ). Some (y, r)) e

pub strip-signed_at : (z : ℤ) (s r : List ℕ) → strip_signed z s ≡ Some r → signed_at s ≡ Some (z, r)
strip-signed_at z s r h =
    signed-forms (signed_at s ≡ Some (z, r)) z s r h
    (λ w e. let l = ap length e in
    signed-from (rotated 7 (in_bits 7 z)) 1 7 z s r (ap (strip_number (rotated 7 (in_bits 7 z))) e ∙ hit-one _ r (rotates-7 z w)) (omega arith) refl (unrotates-7 z w))
    (λ w e. let l = ap length e in
    signed-from (rotated 14 (in_bits 14 z)) 2 14 z s r (ap (strip_number (rotated 14 (in_bits 14 z))) e ∙ hit-two _ r (rotates-14 z w)) (omega arith) refl (unrotates-14 z w))
    (λ w e. let l = ap length e in
    signed-from (rotated 29 (in_bits 29 z)) 4 29 z s r (ap (strip_number (rotated 29 (in_bits 29 z))) e ∙ hit-four _ r (rotates-29 z w)) (omega arith) refl (unrotates-29 z w))

-- at most one signed number is stripped from given bytes, in one way
pub same_signed : (y z : ℤ) (s q r : List ℕ) → strip_signed y s ≡ Some q → strip_signed z s ≡ Some r → (y ≡ z) × (q ≡ r)
same_signed y z s q r h k = same_signed_pair y z q r (sym (strip-signed_at y s q h) ∙ strip-signed_at z s r k)

-- where no number is read no signed number is stripped
pub none-signed : (s : List ℕ) (z : ℤ) → signed_at s ≡ None → strip_signed z s ≡ None
none-signed s z h =
    elim (strip_signed z s) as (λ found. strip_signed z s ≡ found → found ≡ None) [
      | None ↦ λ _. refl
      | Some r ↦ λ e. let found = strip-signed_at z s r e in cc
    ] refl

pub number-none_signed : (s : List ℕ) (z : ℤ) → ((n : ℕ) → strip_number n s ≡ None) → strip_signed z s ≡ None
unfolding signed_at
number-none_signed s z h = none-signed s z (ap (signed_of s) (none-compressed_at s h))

-- the same at a place: what stays is what lies after so many bytes
pub signed-there : (n width : ℕ) (s : List ℕ) → strip_number n s ≡ Some (drop width s) → width ≤ length s → Signs n width s (drop width s)
signed-there n width s h l =
    let same : length s - length (drop width s) ≡ width = omega (arith, length-drop width s) in
    rw same at (number-signed n s (drop width s) h)

-- what the writer asks for is within the widest form
pub within-29 : (z : ℤ) → neg_ℤ (pos (2 ^ 28)) ≤ℤ z → z <ℤ pos (2 ^ 28) → is_within 29 z ≡ true
within-29 (pos n) l h = within_test n 268435456 (omega (arith, ints))
within-29 (negsuc n) l h = within_test n 268435456 (omega (arith, ints))

cond-is : (b v : Bool) (x y : List ℕ) → b ≡ v → cond b x y ≡ cond v x y
cond-is b v x y h = ap (λ (t : Bool). cond t x y) h

-- the shortest form, from the number's bits
pub signed-spells_one : (n : ℕ) (z : ℤ) → is_within 7 z ≡ true → n ≡ rotated_at 64 z → written one_byte_form n ≡ spelled_signed z
unfolding spelled_signed
signed-spells_one n z h e =
    ap (written one_byte_form) (e ∙ turns-7 z h) ∙ sym (cond-is (is_within 7 z) true _ _ h)

pub signed-spells_two : (n : ℕ) (z : ℤ) → is_within 7 z ≡ false → is_within 14 z ≡ true → n ≡ rotated_at 8192 z → written two_bytes_form n ≡ spelled_signed z
unfolding spelled_signed
signed-spells_two n z f h e =
    ap (written two_bytes_form) (e ∙ turns-14 z h) ∙ sym (cond-is (is_within 7 z) false _ _ f ∙ cond-is (is_within 14 z) true _ _ h)

pub signed-spells_four : (n : ℕ) (z : ℤ) → is_within 7 z ≡ false → is_within 14 z ≡ false → is_within 29 z ≡ true → n ≡ rotated_at 268435456 z → written four_bytes_form n ≡ spelled_signed z
unfolding spelled_signed
signed-spells_four n z f g h e =
    ap (written four_bytes_form) (e ∙ turns-29 z h) ∙ sym (cond-is (is_within 7 z) false _ _ f ∙ cond-is (is_within 14 z) false _ _ g)

-- what the writer's tests say
abbrev Between : ℤ → ℤ → ℤ → Bool
Between low high z = is_le (int_cmp low z) && is_lt (int_cmp z high)

between-7 : (z : ℤ) → is_within 7 z ≡ Between (negsuc 63) (pos 64) z
between-7 (pos n) = grind (arith, nat_tests)
between-7 (negsuc n) = grind (arith, nat_tests)

between-14 : (z : ℤ) → is_within 14 z ≡ Between (negsuc 8191) (pos 8192) z
between-14 (pos n) = grind (arith, nat_tests)
between-14 (negsuc n) = grind (arith, nat_tests)

pub tested-7 : (z : ℤ) (b : Bool) → SFits w32 z → b ≡ is_le (int_cmp (negsuc 63) (to_z w32 (of_z w32 z))) && is_lt (int_cmp (to_z w32 (of_z w32 z)) (pos 64)) → is_within 7 z ≡ b
tested-7 z b fits h = between-7 z ∙ ap (Between (negsuc 63) (pos 64)) (sym (to_z-of_z w32 z fits)) ∙ sym h

pub tested-14 : (z : ℤ) (b : Bool) → SFits w32 z → b ≡ is_le (int_cmp (negsuc 8191) (to_z w32 (of_z w32 z))) && is_lt (int_cmp (to_z w32 (of_z w32 z)) (pos 8192)) → is_within 14 z ≡ b
tested-14 z b fits h = between-14 z ∙ ap (Between (negsuc 8191) (pos 8192)) (sym (to_z-of_z w32 z fits)) ∙ sym h

pub turned : (above n : ℕ) (z : ℤ) → SFits w32 z → n ≡ rotated_at above (to_z w32 (of_z w32 z)) → n ≡ rotated_at above z
turned above n z fits h = h ∙ ap (rotated_at above) (to_z-of_z w32 z fits)

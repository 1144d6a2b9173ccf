-- Compressed numbers: their three forms, spelled and read.
use Rattle.std.proofs.Common.{◌≡◌, ℕ, ◌+◌, ◌-◌, ◌*◌, ◌/◌, ◌%◌, ◌^◌, ◌<◌, ◌≤◌, ◌⊎◌, inl, inr, List, [], ◌∷◌, ◌++◌, Bool, true, false, cond, ltb, ◌&&◌, Option, Some, None, refl, sym, ap, ◌∙◌, arith, eqb, eq-eqb}
use Rattle.std.specs.Option.{option_or, option_map_or}
use Rattle.std.proofs.lemmas.List.{append-nil}
use Rattle.std.proofs.lemmas.Bool.Decides.{nat_tests}
use Rattle.cil_base.specs.Number.{Form, one_byte_form, two_bytes_form, four_bytes_form, written, strip_bytes, strip_form, strip_number, spelled_number}
use Rattle.cil_base.specs.inner.Reading.{two_at, four_at, compressed_at}
use Rattle.cil_base.proofs.StepLemmas.{split}

same_byte : (b x : ℕ) (t : Option (List ℕ)) → x ≡ b → cond (eqb x b) t None ≡ t
same_byte b x t e = ap (λ v. cond v t None) (eq-eqb x b e)

pub strip-bytes : (front r : List ℕ) → strip_bytes front (front ++ r) ≡ Some r
strip-bytes [] r = refl
strip-bytes (b ∷ front) r = same_byte b b (strip_bytes front (front ++ r)) refl ∙ strip-bytes front r

pub stripped : (front s r : List ℕ) → strip_bytes front s ≡ Some r → s ≡ front ++ r
stripped [] s r h = cc
stripped (b ∷ front) [] r h = cc
stripped (b ∷ front) (x ∷ s) r h =
    let later = stripped front s r in
    grind (arith, nat_tests, later)

pub one-digits : (n : ℕ) → n < 2 ^ 7 → written one_byte_form n ≡ n ∷ []
one-digits n h = let e : (0 + n) % 256 ≡ n = omega arith in rw e

pub two-digits : (n : ℕ) → n < 2 ^ 14 → written two_bytes_form n ≡ (0x80 + n / 256) ∷ n % 256 ∷ []
two-digits n h =
    let e : (0x8000 + n) / 256 % 256 ≡ 0x80 + n / 256 = omega arith in
    let f : (0x8000 + n) % 256 ≡ n % 256 = omega arith in
    rw (e, f)

pub four-digits : (n : ℕ) → n < 2 ^ 29 → written four_bytes_form n ≡ (0xC0 + n / 0x1000000) ∷ n / 0x10000 % 256 ∷ n / 0x100 % 256 ∷ n % 256 ∷ []
four-digits n h =
    let e : (0xC0000000 + n) / 0x1000000 % 256 ≡ 0xC0 + n / 0x1000000 = omega arith in
    let f : (0xC0000000 + n) / 0x10000 % 256 ≡ n / 0x10000 % 256 = omega arith in
    let g : (0xC0000000 + n) / 0x100 % 256 ≡ n / 0x100 % 256 = omega arith in
    let k : (0xC0000000 + n) % 256 ≡ n % 256 = omega arith in
    rw (e, f, g, k)

pub spells-one : (n : ℕ) → n < 2 ^ 7 → spelled_number n ≡ written one_byte_form n
unfolding spelled_number
spells-one n h = grind (arith, nat_tests)

pub spells-two : (n : ℕ) → 2 ^ 7 ≤ n → n < 2 ^ 14 → spelled_number n ≡ written two_bytes_form n
unfolding spelled_number
spells-two n l h = grind (arith, nat_tests)

pub spells-four : (n : ℕ) → 2 ^ 14 ≤ n → n < 2 ^ 29 → spelled_number n ≡ written four_bytes_form n
unfolding spelled_number
spells-four n l h = grind (arith, nat_tests)

-- a form that holds the number strips it off its own bytes
strip_form-hit : (form : Form) (n : ℕ) (r : List ℕ) → n < 2 ^ form.bits → strip_form form n (written form n ++ r) ≡ Some r
strip_form-hit form n r h =
    let e = strip-bytes (written form n) r in
    grind (arith, nat_tests, e)

pub strip_form-some : (form : Form) (n : ℕ) (s r : List ℕ) → strip_form form n s ≡ Some r → (n < 2 ^ form.bits) × (s ≡ written form n ++ r)
strip_form-some form n s r h =
    let later = stripped (written form n) s r in
    (grind (arith, nat_tests), grind (arith, nat_tests, later))

-- the number is written in that form at the front of the bytes
pub record Stands (form : Form) (n : ℕ) (s r : List ℕ) : Type 0 where
  pub fits : n < 2 ^ form.bits
  pub bytes : s ≡ written form n ++ r

stands : (form : Form) (n : ℕ) (s r : List ℕ) → strip_form form n s ≡ Some r → Stands form n s r
stands form n s r h = let p = strip_form-some form n s r h in record { fits = p.0; bytes = p.1 }

-- no other form begins with such a byte
miss-one : (n x : ℕ) (s : List ℕ) → 0x80 ≤ x → strip_form one_byte_form n (x ∷ s) ≡ None
miss-one n x s h = grind (arith, nat_tests)

miss-two : (n x : ℕ) (s : List ℕ) → 0xC0 ≤ x → strip_form two_bytes_form n (x ∷ s) ≡ None
miss-two n x s h = grind (arith, nat_tests)

pub or-first : (o p : Option (List ℕ)) (r : List ℕ) → o ≡ Some r → option_or o p ≡ Some r
or-first o p r h = ap (λ v. option_or v p) h

pub or-second : (o p q : Option (List ℕ)) → o ≡ None → p ≡ q → option_or o p ≡ q
or-second o p q h k = ap (λ v. option_or v p) h ∙ k

pub hit-one : (n : ℕ) (r : List ℕ) → n < 2 ^ 7 → strip_number n (written one_byte_form n ++ r) ≡ Some r
unfolding strip_number
hit-one n r h = or-first _ _ r (strip_form-hit one_byte_form n r h)

pub hit-two : (n : ℕ) (r : List ℕ) → n < 2 ^ 14 → strip_number n (written two_bytes_form n ++ r) ≡ Some r
unfolding strip_number
hit-two n r h =
    let begins = ap (λ (front : List ℕ). front ++ r) (two-digits n h) in
    let not_one = ap (strip_form one_byte_form n) begins ∙ miss-one n (0x80 + n / 256) (n % 256 ∷ r) (omega arith) in
    or-second _ _ (Some r) not_one (or-first _ _ r (strip_form-hit two_bytes_form n r h))

pub hit-four : (n : ℕ) (r : List ℕ) → n < 2 ^ 29 → strip_number n (written four_bytes_form n ++ r) ≡ Some r
unfolding strip_number
hit-four n r h =
    let more : List ℕ = n / 0x10000 % 256 ∷ n / 0x100 % 256 ∷ n % 256 ∷ r in
    let begins = ap (λ (front : List ℕ). front ++ r) (four-digits n h) in
    let not_one = ap (strip_form one_byte_form n) begins ∙ miss-one n (0xC0 + n / 0x1000000) more (omega arith) in
    let not_two = ap (strip_form two_bytes_form n) begins ∙ miss-two n (0xC0 + n / 0x1000000) more (omega arith) in
    or-second _ _ (Some r) not_one (or-second _ _ (Some r) not_two (strip_form-hit four_bytes_form n r h))

-- what holds of each branch holds of the choice
pub chosen : (P : List ℕ → Type 0) (b : Bool) (x y : List ℕ) → (b ≡ true → P x) → (b ≡ false → P y) → P (cond b x y)
chosen P true x y one two = one refl
chosen P false x y one two = two refl

pub below : (n m : ℕ) → ltb n m ≡ true → n < m
below n m h = grind (arith, nat_tests)

-- the shortest form is stripped off whatever follows it
pub strip-spelled_number : (n : ℕ) (r : List ℕ) → n < 2 ^ 29 → strip_number n (spelled_number n ++ r) ≡ Some r
unfolding spelled_number
strip-spelled_number n r h =
    let strips = λ (front : List ℕ). strip_number n (front ++ r) ≡ Some r in
    chosen strips _ _ _ (λ t. hit-one n r (below n (2 ^ 7) t)) (λ _. chosen strips _ _ _ (λ t. hit-two n r (below n (2 ^ 14) t)) (λ _. hit-four n r h))

pub strip-whole_number : (n : ℕ) (s : List ℕ) → n < 2 ^ 29 → s ≡ spelled_number n → strip_number n s ≡ Some []
strip-whole_number n s h e = ap (strip_number n) (e ∙ sym (append-nil (spelled_number n))) ∙ strip-spelled_number n [] h

pub either : (o p : Option (List ℕ)) (r : List ℕ) → option_or o p ≡ Some r → (o ≡ Some r) ⊎ (p ≡ Some r)
either None p r h = inr h
either (Some x) p r h = inl h

read-one : (n : ℕ) (r : List ℕ) → n < 2 ^ 7 → compressed_at (written one_byte_form n ++ r) ≡ Some (n, r)
unfolding compressed_at
read-one n r h =
    let begins = ap (λ (front : List ℕ). front ++ r) (one-digits n h) in
    ap compressed_at begins ∙ grind (arith, nat_tests)

two-read : (a b : ℕ) (s : List ℕ) → 0x80 ≤ a → a < 0xC0 → b < 256 → compressed_at (a ∷ b ∷ s) ≡ Some ((a - 0x80) * 0x100 + b, s)
unfolding compressed_at
two-read a b s l h k = grind (arith, nat_tests)

four-read : (a b c d : ℕ) (s : List ℕ) → 0xC0 ≤ a → a < 0xE0 → b < 256 → c < 256 → d < 256 → compressed_at (a ∷ b ∷ c ∷ d ∷ s) ≡ Some ((a - 0xC0) * 0x1000000 + b * 0x10000 + c * 0x100 + d, s)
unfolding compressed_at
four-read a b c d s l h i j k = grind (arith, nat_tests)

read-two : (n : ℕ) (r : List ℕ) → n < 2 ^ 14 → compressed_at (written two_bytes_form n ++ r) ≡ Some (n, r)
read-two n r h =
    let begins = ap (λ (front : List ℕ). front ++ r) (two-digits n h) in
    let sums : ((0x80 + n / 256) - 0x80) * 0x100 + n % 256 ≡ n = omega arith in
    ap compressed_at begins ∙ two-read (0x80 + n / 256) (n % 256) r (omega arith) (omega arith) (omega arith) ∙ ap (λ (m : ℕ). Some (m, r)) sums

read-four : (n : ℕ) (r : List ℕ) → n < 2 ^ 29 → compressed_at (written four_bytes_form n ++ r) ≡ Some (n, r)
read-four n r h =
    let begins = ap (λ (front : List ℕ). front ++ r) (four-digits n h) in
    let sums : ((0xC0 + n / 0x1000000) - 0xC0) * 0x1000000 + n / 0x10000 % 256 * 0x10000 + n / 0x100 % 256 * 0x100 + n % 256 ≡ n = omega arith in
    ap compressed_at begins ∙ four-read (0xC0 + n / 0x1000000) (n / 0x10000 % 256) (n / 0x100 % 256) (n % 256) r (omega arith) (omega arith) (omega arith) (omega arith) (omega arith) ∙ ap (λ (m : ℕ). Some (m, r)) sums

-- a number that is stripped is the one that is read
pub strip-compressed_at : (n : ℕ) (s r : List ℕ) → strip_number n s ≡ Some r → compressed_at s ≡ Some (n, r)
unfolding strip_number
strip-compressed_at n s r h =
    elim (either (strip_form one_byte_form n s) (option_or (strip_form two_bytes_form n s) (strip_form four_bytes_form n s)) r h) [
      | inl one ↦ let p = strip_form-some one_byte_form n s r one in ap compressed_at p.1 ∙ read-one n r p.0
      | inr more ↦ elim (either (strip_form two_bytes_form n s) (strip_form four_bytes_form n s) r more) [
        | inl two ↦ let p = strip_form-some two_bytes_form n s r two in ap compressed_at p.1 ∙ read-two n r p.0
        | inr four ↦ let p = strip_form-some four_bytes_form n s r four in ap compressed_at p.1 ∙ read-four n r p.0
      ]
    ]

-- the bytes of the two longer forms, put together again
two-written : (a b : ℕ) → 0x80 ≤ a → a < 0xC0 → b < 256 → written two_bytes_form ((a - 0x80) * 0x100 + b) ≡ a ∷ b ∷ []
two-written a b l h k =
    let n = (a - 0x80) * 0x100 + b in
    let high : 0x80 + ((a - 0x80) * 0x100 + b) / 256 ≡ a = omega arith in
    let low : ((a - 0x80) * 0x100 + b) % 256 ≡ b = omega arith in
    two-digits n (omega arith) ∙ rw (high, low)

four-written : (a b c d : ℕ) → 0xC0 ≤ a → a < 0xE0 → b < 256 → c < 256 → d < 256 → written four_bytes_form ((a - 0xC0) * 0x1000000 + b * 0x10000 + c * 0x100 + d) ≡ a ∷ b ∷ c ∷ d ∷ []
four-written a b c d l h i j k =
    let n = (a - 0xC0) * 0x1000000 + b * 0x10000 + c * 0x100 + d in
    let first : 0xC0 + ((a - 0xC0) * 0x1000000 + b * 0x10000 + c * 0x100 + d) / 0x1000000 ≡ a = omega arith in
    let second : ((a - 0xC0) * 0x1000000 + b * 0x10000 + c * 0x100 + d) / 0x10000 % 256 ≡ b = omega arith in
    let third : ((a - 0xC0) * 0x1000000 + b * 0x10000 + c * 0x100 + d) / 0x100 % 256 ≡ c = omega arith in
    let fourth : ((a - 0xC0) * 0x1000000 + b * 0x10000 + c * 0x100 + d) % 256 ≡ d = omega arith in
    four-digits n (omega arith) ∙ rw (first, second, third, fourth)

pub one-strips : (a : ℕ) (s : List ℕ) → a < 0x80 → strip_number a (a ∷ s) ≡ Some s
one-strips a s h = ap (λ (front : List ℕ). strip_number a (front ++ s)) (sym (one-digits a h)) ∙ hit-one a s h

pub two-strips : (a b : ℕ) (s : List ℕ) → 0x80 ≤ a → a < 0xC0 → b < 256 → strip_number ((a - 0x80) * 0x100 + b) (a ∷ b ∷ s) ≡ Some s
two-strips a b s l h k =
    let n = (a - 0x80) * 0x100 + b in
    ap (λ (front : List ℕ). strip_number n (front ++ s)) (sym (two-written a b l h k)) ∙ hit-two n s (omega arith)

pub four-strips : (a b c d : ℕ) (s : List ℕ) → 0xC0 ≤ a → a < 0xE0 → b < 256 → c < 256 → d < 256 → strip_number ((a - 0xC0) * 0x1000000 + b * 0x10000 + c * 0x100 + d) (a ∷ b ∷ c ∷ d ∷ s) ≡ Some s
four-strips a b c d s l h i j k =
    let n = (a - 0xC0) * 0x1000000 + b * 0x10000 + c * 0x100 + d in
    ap (λ (front : List ℕ). strip_number n (front ++ s)) (sym (four-written a b c d l h i j k)) ∙ hit-four n s (omega arith)

pub above : (n m : ℕ) → ltb n m ≡ false → m ≤ n
above n m h = grind (arith, nat_tests)

abbrev Found : Type 0
Found = Option (ℕ × List ℕ)

pub same_pair : (m n : ℕ) (q r : List ℕ) → ◌≡◌ {A = Found} (Some (m, q)) (Some (n, r)) → (m ≡ n) × (q ≡ r)
same_pair m n q r h = (ap (λ (o : Found). option_map_or (λ p. p.0) o 0) h, ap (λ (o : Found). option_map_or (λ p. p.1) o []) h)

-- what strips one value strips the same value under its other name
moved : (m n : ℕ) (s r q : List ℕ) → strip_number m q ≡ Some s → ◌≡◌ {A = Found} (Some (m, s)) (Some (n, r)) → strip_number n q ≡ Some r
moved m n s r q h e =
    let same = same_pair m n s r e in
    ap (λ (k : ℕ). strip_number k q) (sym same.0) ∙ h ∙ ap (λ (rest : List ℕ). Some rest) same.1

two_at-strips : (a : ℕ) (s : List ℕ) (n : ℕ) (r : List ℕ) → 0x80 ≤ a → a < 0xC0 → two_at (a - 0x80) s ≡ Some (n, r) → strip_number n (a ∷ s) ≡ Some r
two_at-strips a [] n r l h e = cc
two_at-strips a (b ∷ s) n r l h e =
    split {P = strip_number n (a ∷ b ∷ s) ≡ Some r} (ltb b 256) _ _ _ e
    (λ t found. moved _ n s r (a ∷ b ∷ s) (two-strips a b s l h (below b 256 t)) found)
    (λ _ found. cc)

all_bytes : (b c d : ℕ) → ltb b 256 && ltb c 256 && ltb d 256 ≡ true → (b < 256) × (c < 256) × (d < 256)
all_bytes b c d h = (grind (arith, nat_tests), grind (arith, nat_tests), grind (arith, nat_tests))

four_at-strips : (a : ℕ) (s : List ℕ) (n : ℕ) (r : List ℕ) → 0xC0 ≤ a → a < 0xE0 → four_at (a - 0xC0) s ≡ Some (n, r) → strip_number n (a ∷ s) ≡ Some r
four_at-strips a [] n r l h e = cc
four_at-strips a (b ∷ []) n r l h e = cc
four_at-strips a (b ∷ c ∷ []) n r l h e = cc
four_at-strips a (b ∷ c ∷ d ∷ s) n r l h e =
    split {P = strip_number n (a ∷ b ∷ c ∷ d ∷ s) ≡ Some r} (ltb b 256 && ltb c 256 && ltb d 256) _ _ _ e
    (λ t found. let p = all_bytes b c d t in moved _ n s r (a ∷ b ∷ c ∷ d ∷ s) (four-strips a b c d s l h p.0 p.1 p.2) found)
    (λ _ found. cc)

-- a number that is read is stripped
pub compressed_at-strip : (s : List ℕ) (n : ℕ) (r : List ℕ) → compressed_at s ≡ Some (n, r) → strip_number n s ≡ Some r
unfolding compressed_at
compressed_at-strip [] n r h = cc
compressed_at-strip (a ∷ s) n r h =
    split {P = strip_number n (a ∷ s) ≡ Some r} (ltb a 0x80) _ _ _ h
    (λ t found. moved a n s r (a ∷ s) (one-strips a s (below a 0x80 t)) found)
    (λ f more. split {P = strip_number n (a ∷ s) ≡ Some r} (ltb a 0xC0) _ _ _ more
    (λ t found. two_at-strips a s n r (above a 0x80 f) (below a 0xC0 t) found)
    (λ g last. split {P = strip_number n (a ∷ s) ≡ Some r} (ltb a 0xE0) _ _ _ last
    (λ t found. four_at-strips a s n r (above a 0xC0 g) (below a 0xE0 t) found)
    (λ _ none. cc)))

-- at most one number is stripped from given bytes, in one way
pub same_number : (m n : ℕ) (s q r : List ℕ) → strip_number m s ≡ Some q → strip_number n s ≡ Some r → (m ≡ n) × (q ≡ r)
same_number m n s q r h k = same_pair m n q r (sym (strip-compressed_at m s q h) ∙ strip-compressed_at n s r k)

-- where no number is stripped none is read, and the other way round
pub none-compressed_at : (s : List ℕ) → ((n : ℕ) → strip_number n s ≡ None) → compressed_at s ≡ None
none-compressed_at s h =
    elim (compressed_at s) as (λ found. compressed_at s ≡ found → found ≡ None) [
      | None ↦ λ _. refl
      | Some p ↦ λ e. let found = compressed_at-strip s p.0 p.1 e in let none = h p.0 in cc
    ] refl

pub compressed_at-none : (s : List ℕ) (n : ℕ) → compressed_at s ≡ None → strip_number n s ≡ None
compressed_at-none s n h =
    elim (strip_number n s) as (λ found. strip_number n s ≡ found → found ≡ None) [
      | None ↦ λ _. refl
      | Some r ↦ λ e. let found = strip-compressed_at n s r e in cc
    ] refl

-- the form that stands at the front of the bytes
pub forms : (n : ℕ) (s r : List ℕ) → strip_number n s ≡ Some r → (Stands one_byte_form n s r) ⊎ ((Stands two_bytes_form n s r) ⊎ (Stands four_bytes_form n s r))
unfolding strip_number
forms n s r h =
    elim (either (strip_form one_byte_form n s) (option_or (strip_form two_bytes_form n s) (strip_form four_bytes_form n s)) r h) [
      | inl one ↦ inl (stands one_byte_form n s r one)
      | inr more ↦ elim (either (strip_form two_bytes_form n s) (strip_form four_bytes_form n s) r more) [
        | inl two ↦ inr (inl (stands two_bytes_form n s r two))
        | inr four ↦ inr (inr (stands four_bytes_form n s r four))
      ]
    ]

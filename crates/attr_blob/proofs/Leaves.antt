-- Numbers and texts: what is read is what is stripped.
use Rattle.std.proofs.Common.{◌≡◌, ℕ, ◌-◌, ◌^◌, ◌<◌, ◌≤◌, inl, inr, List, [], ◌∷◌, ◌++◌, Bool, true, false, cond, ◌&&◌, eqb, leb, ltb, Option, Some, None, refl, sym, ap, subst, ◌∙◌, take, drop, length, arith}
use Rattle.std.proofs.Math.Seq.{take-length, take-append_seam, drop-append_seam}
use Rattle.std.proofs.lemmas.Bool.{eqb-true, eq-eqb, lt-ltb}
use Rattle.std.proofs.lemmas.Bool.Decides.{nat_tests}
use Rattle.std.proofs.lemmas.Option.{none-some, same_Some}
use Rattle.std.proofs.lemmas.List.{length-drop, length-append, length-take-le, take-append-drop}
use Rattle.cil_base.specs.Number.{strip_bytes, strip_number}
use Rattle.cil_base.specs.Place.{number_at}
use Rattle.cil_base.specs.Steps.{◌>>=◌}
use Rattle.cil_base.specs.inner.Reading.{compressed_at}
use Rattle.cil_base.proofs.NumberLemmas.{strip-compressed_at, compressed_at-strip, none-compressed_at, forms, stripped, strip-bytes}
use Rattle.cil_base.proofs.StepLemmas.{split, came, mapped}
use Rattle.attr_blob.specs.Fronts.{strip_little, strip_text, strip_null, fits_in, is_short_text}
use Rattle.attr_blob.specs.inner.Steps.{changed}
use Rattle.attr_blob.specs.inner.Reading.{little_at, taken_at, text_at, nullable_at}

-- the bytes after a front
tail : (len : ℕ) (s : List ℕ) → take (length s - len) (drop len s) ≡ drop len s
tail len s = ap (λ n. take n (drop len s)) (sym (length-drop len s)) ∙ take-length (drop len s)

pub number_found : (n len : ℕ) (s : List ℕ) → strip_number n s ≡ Some (drop len s) → compressed_at s ≡ Some (n, take (length s - len) (drop len s))
number_found n len s h = strip-compressed_at n s (drop len s) h ∙ ap (λ r. Some (n, r)) (sym (tail len s))

pub number_missing : (s : List ℕ) → ((n : ℕ) → strip_number n s ≡ None) → compressed_at s ≡ None
number_missing s h = none-compressed_at s h

pub both : (a b : Bool) → (a && b) ≡ true → (a ≡ true) × (b ≡ true)
both true b h = (refl, h)
both false b h = absurd cc

pub and : (a b : Bool) → a ≡ true → b ≡ true → (a && b) ≡ true
and a b h k = ap (λ v. v && b) h ∙ k

-- a value with what stays, under other names
pub along : {A : Type 0} (P : A → List ℕ → Type 0) (x a : A) (q r : List ℕ) → ◌≡◌ {A = Option (A × List ℕ)} (Some (x, q)) (Some (a, r)) → P x q → P a r
along {A} P x a q r h p =
    let same = same_Some (x, q) (a, r) h in
    subst (λ (y : A × List ℕ). P y.0 y.1) same p

pub little_sound : (width n : ℕ) (s r : List ℕ) → little_at width s ≡ Some (n, r) → (strip_little width n s ≡ Some r) × (fits_in width n ≡ true)
little_sound width n s r h =
    let found = number_at s 0 width in
    let there = leb width (length s) in
    split {P = (strip_little width n s ≡ Some r) × (fits_in width n ≡ true)} (there && fits_in width found) (Some (found, drop width s)) None (Some (n, r)) h
    (λ e f.
    let p = both there (fits_in width found) e in
    along (λ m q. (strip_little width m s ≡ Some q) × (fits_in width m ≡ true)) found n (drop width s) r f
    (ap (λ (b : Bool). cond {A = Option (List ℕ)} b (Some (drop width s)) None) (and there (eqb found found) p.0 (eq-eqb found found refl)), p.1))
    (λ e f. absurd (none-some (n, r) f))

pub little_full : (width n : ℕ) (s r : List ℕ) → strip_little width n s ≡ Some r → fits_in width n ≡ true → little_at width s ≡ Some (n, r)
little_full width n s r h k =
    let found = number_at s 0 width in
    let there = leb width (length s) in
    split {P = little_at width s ≡ Some (n, r)} (there && eqb found n) (Some (drop width s)) None (Some r) h
    (λ e f.
    let p = both there (eqb found n) e in
    let same = eqb-true found n p.1 in
    ap (λ (b : Bool). cond {A = Option (ℕ × List ℕ)} b (Some (found, drop width s)) None) (and there (fits_in width found) p.0 (ap (fits_in width) same ∙ k))
    ∙ ap (λ m. Some (m, drop width s)) same ∙ ap (λ q. Some (n, q)) (same_Some (drop width s) r f))
    (λ e f. absurd (none-some r f))

number_small : (n : ℕ) (s r : List ℕ) → strip_number n s ≡ Some r → ltb n (2 ^ 29) ≡ true
number_small n s r h =
    elim (forms n s r h) [
      | inl one ↦ let small : n < 2 ^ 7 = one.fits in lt-ltb n (2 ^ 29) (omega arith)
      | inr more ↦ elim more [
        | inl two ↦ let small : n < 2 ^ 14 = two.fits in lt-ltb n (2 ^ 29) (omega arith)
        | inr four ↦ let small : n < 2 ^ 29 = four.fits in lt-ltb n (2 ^ 29) small
      ]
    ]

within : (n m : ℕ) → leb n m ≡ true → n ≤ m
within n m h = grind (arith, nat_tests)

taken_sound : (n : ℕ) (s q : List ℕ) → strip_number n s ≡ Some q → n ≤ length q → (strip_text (take n q) s ≡ Some (drop n q)) × (is_short_text (take n q) ≡ true)
taken_sound n s q h room =
    let long : length (take n q) ≡ n = length-take-le n q room in
    let parts : take n q ++ drop n q ≡ q = take-append-drop n q in (
      ap (λ m. strip_number m s >>= strip_bytes (take n q)) long
          ∙ ap (λ (o : Option (List ℕ)). o >>= strip_bytes (take n q)) h
          ∙ ap (strip_bytes (take n q)) (sym parts)
          ∙ strip-bytes (take n q) (drop n q),
      ap (λ m. ltb m (2 ^ 29)) long ∙ number_small n s q h,
    )

pub text_sound : (s t r : List ℕ) → text_at s ≡ Some (t, r) → (strip_text t s ≡ Some r) × (is_short_text t ≡ true)
text_sound s t r h =
    let c = came (compressed_at s) (λ x. taken_at x.0 x.1) (t, r) h in
    let n = c.by.0 in
    let q = c.by.1 in
    split {P = (strip_text t s ≡ Some r) × (is_short_text t ≡ true)} (leb n (length q)) (Some (take n q, drop n q)) None (Some (t, r)) c.after
    (λ e f. along (λ t r. (strip_text t s ≡ Some r) × (is_short_text t ≡ true)) (take n q) t (drop n q) r f (taken_sound n s q (compressed_at-strip s n q c.first) (within n (length q) e)))
    (λ e f. absurd (none-some (t, r) f))

room : (t r : List ℕ) → leb (length t) (length (t ++ r)) ≡ true
room t r = let long = length-append t r in grind (arith, nat_tests)

pub text_full : (s t r : List ℕ) → strip_text t s ≡ Some r → text_at s ≡ Some (t, r)
text_full s t r h =
    let c = came (strip_number (length t) s) (strip_bytes t) r h in
    let front : c.by ≡ t ++ r = stripped t c.by r c.after in
    ap (λ (o : Option (ℕ × List ℕ)). o >>= λ x. taken_at x.0 x.1) (strip-compressed_at (length t) s c.by c.first)
    ∙ ap (taken_at (length t)) front
    ∙ ap (λ (b : Bool). cond {A = Option (List ℕ × List ℕ)} b (Some (take (length t) (t ++ r), drop (length t) (t ++ r))) None) (room t r)
    ∙ ap (λ x. Some (x, drop (length t) (t ++ r))) (take-append_seam t r) ∙ ap (λ x. Some (t, x)) (drop-append_seam t r)

-- a byte at the front
pub byte_strips : (b : ℕ) (s : List ℕ) → strip_bytes (b ∷ []) (b ∷ s) ≡ Some s
byte_strips b s = strip-bytes (b ∷ []) s

pub byte_stood : (b : ℕ) (s r : List ℕ) → strip_bytes (b ∷ []) s ≡ Some r → s ≡ b ∷ r
byte_stood b s r h = stripped (b ∷ []) s r h

-- a text, or none
abbrev pub NullableStands : Option (List ℕ) → List ℕ → List ℕ → Type 0
NullableStands None s r = strip_null s ≡ Some r
NullableStands (Some t) s r = (strip_text t s ≡ Some r) × (is_short_text t ≡ true)

pub nullable_sound : (s : List ℕ) (x : Option (List ℕ)) (r : List ℕ) → nullable_at s ≡ Some (x, r) → NullableStands x s r
nullable_sound [] x r h = absurd (none-some (x, r) h)
nullable_sound (b ∷ s) x r h =
    split {P = NullableStands x (b ∷ s) r} (eqb b 0xff) (Some (None, s)) (changed (λ text. Some text) (text_at (b ∷ s))) (Some (x, r)) h
    (λ e f. along (λ x r. NullableStands x (b ∷ s) r) None x s r f (ap (λ (v : Bool). cond {A = Option (List ℕ)} v (Some s) None) e))
    (λ e f.
    let m = mapped {A = List ℕ × List ℕ} {B = Option (List ℕ) × List ℕ} (λ p. (Some p.0, p.1)) (text_at (b ∷ s)) (x, r) f in
    subst (λ (y : Option (List ℕ) × List ℕ). NullableStands y.0 (b ∷ s) y.1) m.is (text_sound (b ∷ s) m.by.0 m.by.1 m.first))

pub nullable_null : (s r : List ℕ) → strip_null s ≡ Some r → nullable_at s ≡ Some (None, r)
nullable_null s r h = ap nullable_at (byte_stood 0xff s r h)

marked_none : (s : List ℕ) → compressed_at (0xff ∷ s) ≡ None
unfolding compressed_at
marked_none s = refl

empty_none : compressed_at [] ≡ None
unfolding compressed_at
empty_none = refl

pub nullable_text : (s t r : List ℕ) → strip_text t s ≡ Some r → nullable_at s ≡ Some (Some t, r)
nullable_text [] t r h =
    let none : text_at [] ≡ None = ap (λ (o : Option (ℕ × List ℕ)). o >>= λ x. taken_at x.0 x.1) empty_none in
    absurd (none-some (t, r) (sym none ∙ text_full [] t r h))
nullable_text (b ∷ s) t r h =
    let found = text_full (b ∷ s) t r h in
    elim (eqb b 0xff) as (λ v. eqb b 0xff ≡ v → cond {A = Option (Option (List ℕ) × List ℕ)} v (Some (None, s)) (changed (λ text. Some text) (text_at (b ∷ s))) ≡ Some (Some t, r)) [
      | true ↦ λ e.
          let none : text_at (b ∷ s) ≡ None = ap (λ (o : Option (ℕ × List ℕ)). o >>= λ x. taken_at x.0 x.1) (ap (λ k. compressed_at (k ∷ s)) (eqb-true b 0xff e) ∙ marked_none s) in
          absurd (none-some (t, r) (sym none ∙ found))
      | false ↦ λ e. ap (changed (λ text. Some text)) found
    ] refl

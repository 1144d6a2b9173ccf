-- The entry at the front of bytes: the one length that is spelled there finds it.
use Rattle.std.proofs.Common.{◌≡◌, ◌≢◌, ℕ, zero, suc, ◌+◌, ◌-◌, ◌<◌, ◌≤◌, ◌⊎◌, inl, inr, List, true, false, cond, length, take, drop, Option, Some, None, refl, sym, ap, ◌∙◌, arith, eqb, leb}
use Rattle.std.specs.Option.{option_or, option_copied, option_map, MatchOption}
use Rattle.std.specs.List.{slice_range}
use denote.Bor.{Bor}
use Rattle.std.proofs.lemmas.List.{length-drop}
use Rattle.std.proofs.Math.Seq.{take-length}
use Rattle.std.proofs.lemmas.Bool.Decides.{nat_tests}
use Rattle.cil_base.specs.Number.{one_byte_form, two_bytes_form, four_bytes_form, strip_form, strip_number}
use Rattle.cil_base.specs.Steps.{◌>>=◌}
use Rattle.cil_base.specs.Heaps.{entry, heap_entry_of, entry_below, first_bytes, even, units}
use Rattle.cil_base.proofs.NumberLemmas.{either, strip_form-some, same_number}

-- a number has at least one byte
pub strip-shorter : (n : ℕ) (s r : List ℕ) → strip_number n s ≡ Some r → length r < length s
unfolding strip_number
strip-shorter n s r h =
    elim (either (strip_form one_byte_form n s) (option_or (strip_form two_bytes_form n s) (strip_form four_bytes_form n s)) r h) [
      | inl one ↦ let e = ap length (strip_form-some one_byte_form n s r one).1 in omega arith
      | inr more ↦ elim (either (strip_form two_bytes_form n s) (strip_form four_bytes_form n s) r more) [
        | inl two ↦ let e = ap length (strip_form-some two_bytes_form n s r two).1 in omega arith
        | inr four ↦ let e = ap length (strip_form-some four_bytes_form n s r four).1 in omega arith
      ]
    ]

none_of : (k : ℕ) (s : List ℕ) → strip_number k s ≡ None → heap_entry_of k s ≡ None
none_of k s h = ap (λ (o : Option (List ℕ)). o >>= first_bytes k) h

other_of : (k n : ℕ) (s r : List ℕ) → strip_number n s ≡ Some r → k ≢ n → heap_entry_of k s ≡ None
other_of k n s r h other =
    none_of k s (elim (strip_number k s) as (λ found. strip_number k s ≡ found → found ≡ None) [
      | None ↦ λ _. refl
      | Some q ↦ λ e. absurd (other (same_number k n s q r e h).0)
    ] refl)

below-none : (bound : ℕ) (s : List ℕ) → ((k : ℕ) → heap_entry_of k s ≡ None) → entry_below bound s ≡ None
below-none zero s h = refl
below-none (suc bound) s h = ap (λ (o : Option (List ℕ)). option_or o (entry_below bound s)) (h bound) ∙ below-none bound s h

below-one : (bound n : ℕ) (s content : List ℕ) → n < bound → ((k : ℕ) → k ≢ n → heap_entry_of k s ≡ None) → heap_entry_of n s ≡ Some content → entry_below bound s ≡ Some content
below-one zero n s content l other h = absurd (omega arith)
below-one (suc bound) n s content l other h =
    elim (eqb bound n) as (λ b. eqb bound n ≡ b → entry_below (suc bound) s ≡ Some content) [
      | true ↦ λ e. let same : bound ≡ n = grind (arith, nat_tests) in ap (λ (k : ℕ). option_or (heap_entry_of k s) (entry_below bound s)) same ∙ ap (λ (o : Option (List ℕ)). option_or o (entry_below bound s)) h
      | false ↦ λ e. let differs : bound ≢ n = grind (arith, nat_tests) in ap (λ (o : Option (List ℕ)). option_or o (entry_below bound s)) (other bound differs) ∙ below-one bound n s content (omega arith) other h
    ] refl

-- the length that is spelled at the front decides the entry
pub entry-stripped : (n : ℕ) (s r : List ℕ) → strip_number n s ≡ Some r → entry s ≡ first_bytes n r
unfolding entry
entry-stripped n s r h =
    let here = ap (λ (o : Option (List ℕ)). o >>= first_bytes n) h in
    elim (leb n (length r)) as (λ b. leb n (length r) ≡ b → entry_below (length s) s ≡ cond b (Some (take n r)) None) [
      | true ↦ λ e.
          let fits : n ≤ length r = grind (arith, nat_tests) in
          let shorter = strip-shorter n s r h in
          below-one (length s) n s (take n r) (omega arith) (λ k other. other_of k n s r h other) (here ∙ ap (λ b. cond b (Some (take n r)) None) e)
      | false ↦ λ e. below-none (length s) s (λ k. elim (eqb k n) as (λ b. eqb k n ≡ b → heap_entry_of k s ≡ None) [
        | true ↦ λ same. ap (λ (m : ℕ). heap_entry_of m s) (equal k n same) ∙ here ∙ ap (λ b. cond b (Some (take n r)) None) e
        | false ↦ λ differs. other_of k n s r h (unequal k n differs)
      ] refl)
    ] refl
  where
    equal : (k n : ℕ) → eqb k n ≡ true → k ≡ n
    equal k n h = grind (arith, nat_tests)

    unequal : (k n : ℕ) → eqb k n ≡ false → k ≢ n
    unequal k n h = grind (arith, nat_tests)

-- where no number is spelled there is no entry
pub entry-none : (s : List ℕ) → ((n : ℕ) → strip_number n s ≡ None) → entry s ≡ None
unfolding entry
entry-none s h = below-none (length s) s (λ k. none_of k s (h k))

-- what `get(..len)` answers is the first bytes
pub got-first : (found : Option (Bor (List ℕ))) (s : List ℕ) (len : ℕ)
    → MatchOption found ((len < 0) ⊎ (length s < len)) (λ x. (0 ≤ len) × (len ≤ length s) × (x.now ≡ slice_range s 0 len) × (length x.now + 0 ≡ len))
    → option_copied found ≡ first_bytes len s
got-first None s len h =
    elim h [ inl low ↦ absurd (omega arith) | inr high ↦ grind (arith, nat_tests) ]
got-first (Some x) s len h =
    let whole : slice_range s 0 len ≡ take len s = grind arith in
    let is : x.now ≡ take len s = h.2 ∙ whole in
    let fits : len ≤ length s = h.1 in
    grind (arith, nat_tests)

pub all-taken : (width : ℕ) (s : List ℕ) → take (length s - width) (drop width s) ≡ drop width s
all-taken width s = rw (sym (length-drop width s)) (take-length (drop width s))

pub units-of : (s : List ℕ) (i : ℕ) (content : List ℕ) → entry (drop i s) ≡ Some content → units s i ≡ Some (take (even (length content)) content)
unfolding units
units-of s i content h = ap (λ (o : Option (List ℕ)). option_map (λ content. take (even (length content)) content) o) h

pub units-none : (s : List ℕ) (i : ℕ) → entry (drop i s) ≡ None → units s i ≡ None
unfolding units
units-none s i h = ap (λ (o : Option (List ℕ)). option_map (λ content. take (even (length content)) content) o) h

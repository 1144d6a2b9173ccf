-- Bytes that stand at a place in others, and the numbers that are read there.
use Rattle.std.proofs.Common.{◌≡◌, ℕ, ◌+◌, ◌<◌, ◌≤◌, ◌^◌, List, [], ◌++◌, length, slice_index, refl, sym, ap, subst, ◌∙◌, arith}
use Rattle.std.proofs.lemmas.List.{append_assoc, append-nil, length-append, get_or-append-add, get_or_append_left}
use Rattle.byteorder.specs.Endian.{little_bytes}
use Rattle.cil_base.specs.Place.{number_at}
use Rattle.cil_base.proofs.PlaceLemmas.{number-behind, number-written}

-- the part stands in the whole, behind so many bytes
pub record StandsIn (whole : List ℕ) (place : ℕ) (part : List ℕ) : Type 0 where
  pub front : List ℕ
  pub rest : List ℕ
  pub split : whole ≡ front ++ (part ++ rest)
  pub long : length front ≡ place

pub stands-first : (part rest : List ℕ) → StandsIn (part ++ rest) 0 part
stands-first part rest = record { front = []; rest = rest; split = refl; long = refl }

pub stands-last : (front part : List ℕ) → StandsIn (front ++ part) (length front) part
stands-last front part = record { front = front; rest = []; split = ap (λ s. front ++ s) (sym (append-nil part)); long = refl }

pub stands-at : {whole part : List ℕ} {p q : ℕ} → p ≡ q → StandsIn whole p part → StandsIn whole q part
stands-at {whole} {part} e s = subst (λ n. StandsIn whole n part) e s

-- a part of a part
pub stands-in : {whole part inner : List ℕ} {p q : ℕ} → StandsIn whole p part → StandsIn part q inner → StandsIn whole (p + q) inner
stands-in {inner = inner} {p = p} s t = record {
  front = s.front ++ t.front;
  rest = t.rest ++ s.rest;
  split =
      s.split ∙ ap (λ b. s.front ++ (b ++ s.rest)) t.split
      ∙ ap (λ b. s.front ++ b) (append_assoc t.front (inner ++ t.rest) s.rest ∙ ap (λ b. t.front ++ b) (append_assoc inner t.rest s.rest))
      ∙ sym (append_assoc s.front t.front (inner ++ (t.rest ++ s.rest)));
  long = length-append s.front t.front ∙ ap (λ (n : ℕ). n + length t.front) s.long ∙ ap (λ (n : ℕ). p + n) t.long;
}

pub stands-within : {whole part : List ℕ} {p : ℕ} → StandsIn whole p part → p + length part ≤ length whole
stands-within {part = part} s =
    let whole = ap length s.split in
    let one = length-append s.front (part ++ s.rest) in
    let two = length-append part s.rest in
    omega (arith, whole, one, two, s.long)

-- a number that was written is read where it stands
pub stands-number : {whole : List ℕ} {p : ℕ} (width number : ℕ) → StandsIn whole p (little_bytes width number) → number < 256 ^ width → number_at whole p width ≡ number
stands-number {whole} {p} width number s small =
    ap (λ b. number_at b p width) s.split
    ∙ ap (λ (n : ℕ). number_at (s.front ++ (little_bytes width number ++ s.rest)) n width) (sym s.long)
    ∙ number-behind s.front (little_bytes width number ++ s.rest) width
    ∙ number-written width number s.rest small

pub stands-byte : {whole part : List ℕ} {p : ℕ} → StandsIn whole p part → (i : ℕ) → i < length part → slice_index whole (p + i) ≡ slice_index part i
stands-byte {whole} {part} {p} s i within =
    ap (λ (n : ℕ). slice_index whole (n + i)) (sym s.long)
    ∙ ap (λ b. slice_index b (length s.front + i)) s.split
    ∙ get_or-append-add s.front (part ++ s.rest) i 0
    ∙ get_or_append_left part s.rest 0 i within

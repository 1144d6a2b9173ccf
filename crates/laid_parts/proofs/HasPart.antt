-- Bytes that stand at a place of others, with what stands before and behind them as witnesses.
use Rattle.std.proofs.Common.{◌≡◌, ℕ, zero, suc, ◌+◌, ◌-◌, ◌≤◌, List, [], ◌∷◌, ◌++◌, length, take, drop, slice_get, Some, refl, sym, ap, subst, ◌∙◌, arith}
use Rattle.std.specs.List.{flat_map, slice_range}
use Rattle.std.proofs.Math.Seq.{take-append_seam}
use Rattle.std.proofs.lemmas.List.{append_assoc, append-nil, drop_at, length-append}
use Rattle.std.proofs.lemmas.Option.{same_Some}

pub record HasPart (whole : List ℕ) (place : ℕ) (part : List ℕ) : Type 0 where
  pub before : List ℕ
  pub after : List ℕ
  pub is : whole ≡ before ++ (part ++ after)
  pub at : length before ≡ place

-- at the front, and all of it
pub has-front : (part rest : List ℕ) → HasPart (part ++ rest) 0 part
has-front part rest = record { before = []; after = rest; is = refl; at = refl }

pub has-all : (whole : List ℕ) → HasPart whole 0 whole
has-all whole = record { before = []; after = []; is = sym (append-nil whole); at = refl }

-- with more bytes in front
pub has-behind : (front : List ℕ) {rest : List ℕ} {place : ℕ} {part : List ℕ} → HasPart rest place part → HasPart (front ++ rest) (length front + place) part
has-behind front {part = part} h = record {
  before = front ++ h.before;
  after = h.after;
  is = ap (λ s. front ++ s) h.is ∙ sym (append_assoc front h.before (part ++ h.after));
  at = length-append front h.before ∙ ap (λ (n : ℕ). length front + n) h.at;
}

-- a part of a part
pub has-within : {whole : List ℕ} {p q : ℕ} {part inner : List ℕ} → HasPart whole p part → HasPart part q inner → HasPart whole (p + q) inner
has-within {p = p} {inner = inner} h k = record {
  before = h.before ++ k.before;
  after = k.after ++ h.after;
  is = h.is
      ∙ ap (λ s. h.before ++ (s ++ h.after)) k.is
      ∙ ap (λ s. h.before ++ s) (append_assoc k.before (inner ++ k.after) h.after ∙ ap (λ s. k.before ++ s) (append_assoc inner k.after h.after))
      ∙ sym (append_assoc h.before k.before (inner ++ (k.after ++ h.after)));
  at = length-append h.before k.before ∙ ap (λ (n : ℕ). n + length k.before) h.at ∙ ap (λ (n : ℕ). p + n) k.at;
}

pub has-at : {whole : List ℕ} {p q : ℕ} {part : List ℕ} → p ≡ q → HasPart whole p part → HasPart whole q part
has-at {whole} {part = part} e h = subst (λ n. HasPart whole n part) e h

-- it ends within the whole
pub has-room : {whole : List ℕ} {p : ℕ} {part : List ℕ} → HasPart whole p part → p + length part ≤ length whole
has-room {part = part} h =
    let whole = ap length h.is in
    let front = length-append h.before (part ++ h.after) in
    let rest = length-append part h.after in
    omega (arith, whole, front, rest, h.at)

-- what is read from its place on
pub has-drop : {whole : List ℕ} {p : ℕ} {part : List ℕ} (h : HasPart whole p part) → drop p whole ≡ part ++ h.after
has-drop {whole} {p} {part} h = ap (drop p) h.is ∙ drop_at h.before (part ++ h.after) p h.at

pub has-take : {whole : List ℕ} {p : ℕ} {part : List ℕ} → HasPart whole p part → take (length part) (drop p whole) ≡ part
has-take {part = part} h = ap (take (length part)) (has-drop h) ∙ take-append_seam part h.after

pub has-slice : {whole : List ℕ} {p : ℕ} {part : List ℕ} → HasPart whole p part → slice_range whole p (p + length part) ≡ part
has-slice {whole} {p} {part} h =
    let n : p + length part - p ≡ length part = omega arith in
    ap (λ (k : ℕ). take k (drop p whole)) n ∙ has-take h

-- lists one after the other: their bytes together, and each at the sum of the lengths before it
abbrev pub sizes : List (List ℕ) → ℕ
sizes [] = 0
sizes (list ∷ lists) = length list + sizes lists

pub length-joined : (lists : List (List ℕ)) → length (flat_map (λ (list : List ℕ). list) lists) ≡ sizes lists
length-joined [] = refl
length-joined (list ∷ lists) = length-append list (flat_map (λ l. l) lists) ∙ ap (λ (n : ℕ). length list + n) (length-joined lists)

pub has-list : (lists : List (List ℕ)) (i : ℕ) (list : List ℕ) (place : ℕ) → slice_get lists i ≡ Some list → sizes (take i lists) ≡ place → HasPart (flat_map (λ (l : List ℕ). l) lists) place list
has-list [] i list place h e = absurd (cc)
has-list (l ∷ lists) zero list place h e = has-at e (subst (HasPart (l ++ flat_map (λ l. l) lists) 0) (same_Some l list h) (has-front l (flat_map (λ l. l) lists)))
has-list (l ∷ lists) (suc i) list place h e = has-at e (has-behind l (has-list lists i list (sizes (take i lists)) h refl))

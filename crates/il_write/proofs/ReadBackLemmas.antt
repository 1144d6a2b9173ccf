-- Bytes that stand at a place, and the numbers that are read there.
use Rattle.std.proofs.Common.{◌≡◌, ◌+◌, ◌<◌, ◌≤◌, ◌^◌, ◌++◌, ℕ, List, [], ◌∷◌, length, get_or, Some, sym, ap, ◌∙◌, arith, append_assoc, length-append}
use Rattle.std.proofs.lemmas.List.{get_or_at}
use Rattle.byteorder.specs.Endian.{little_bytes}
use Rattle.byteorder.specs.Numbers.{length-bytes_low_first}
use Rattle.cil_base.proofs.PlaceLemmas.{number-behind, number-within, number-written}
use Rattle.cil_base.specs.Place.{number_at, number_within}

-- the bytes stand in others at a place
pub record Lies (s : List ℕ) (p : ℕ) (b : List ℕ) : Type 0 where
  pub pre : List ℕ
  pub post : List ℕ
  pub is : s ≡ pre ++ (b ++ post)
  pub place : length pre ≡ p

pub lies-left : (s : List ℕ) (p : ℕ) (a b : List ℕ) → Lies s p (a ++ b) → Lies s p a
lies-left s p a b l = record { pre = l.pre; post = b ++ l.post; is = l.is ∙ ap (λ z. l.pre ++ z) (append_assoc a b l.post); place = l.place }

pub lies-right : (s : List ℕ) (p q : ℕ) (a b : List ℕ) → Lies s p (a ++ b) → q ≡ p + length a → Lies s q b
lies-right s p q a b l e = record {
  pre = l.pre ++ a;
  post = l.post;
  is = l.is ∙ ap (λ z. l.pre ++ z) (append_assoc a b l.post) ∙ sym (append_assoc l.pre a (b ++ l.post));
  place = length-append l.pre a ∙ ap (λ n. n + length a) l.place ∙ sym e;
}

pub lies-length : (s : List ℕ) (p : ℕ) (b : List ℕ) → Lies s p b → p + length b ≤ length s
lies-length s p b l = omega (arith, ap length l.is, length-append l.pre (b ++ l.post), length-append b l.post, l.place)

-- a number that stands there is read
pub lies-number : (s : List ℕ) (p w n : ℕ) → Lies s p (little_bytes w n) → n < 256 ^ w → number_within s p w ≡ Some n
lies-number s p w n l h =
    let len = length-bytes_low_first 0 w n in
    let inside = lies-length s p (little_bytes w n) l in
    number-within s p w (omega (arith, len, inside))
    ∙ ap Some (
    ap (λ z. number_at z p w) l.is
    ∙ ap (λ q. number_at (l.pre ++ (little_bytes w n ++ l.post)) q w) (sym l.place)
    ∙ number-behind l.pre (little_bytes w n ++ l.post) w
    ∙ number-written w n l.post h)

one-byte : (s : List ℕ) (p : ℕ) → number_at s p 1 ≡ get_or s p 0
unfolding number_at
one-byte s p = omega arith

-- so is a byte
pub lies-byte : (s : List ℕ) (p n : ℕ) → Lies s p (n ∷ []) → number_within s p 1 ≡ Some n
lies-byte s p n l =
    let inside = lies-length s p (n ∷ []) l in
    let byte : get_or s p 0 ≡ n = ap (λ z. get_or z p 0) l.is ∙ get_or_at l.pre n l.post 0 p l.place in
    number-within s p 1 (omega (arith, inside)) ∙ ap Some (one-byte s p ∙ byte)

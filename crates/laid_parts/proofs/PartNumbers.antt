-- Numbers and bytes within a part are read in the whole.
use Rattle.std.proofs.Common.{◌≡◌, ℕ, suc, ◌+◌, ◌<◌, ◌≤◌, ◌^◌, List, [], ◌∷◌, ◌++◌, length, sym, ap, ◌∙◌, arith}
use Rattle.std.proofs.Math.Seq.{take-append_seam}
use Rattle.std.proofs.lemmas.List.{append-nil}
use Rattle.byteorder.specs.Endian.{little_bytes, little_from}
use Rattle.byteorder.specs.Numbers.{length-bytes_low_first, little_from-cons, little_from-take, little_number-reads_back}
use Rattle.laid_parts.proofs.HasPart.{HasPart}

number-past : (before bytes : List ℕ) (i n : ℕ) → little_from (length before + i) n (before ++ bytes) ≡ little_from i n bytes
number-past [] bytes i n = ap (λ (k : ℕ). little_from k n bytes) (let z : 0 + i ≡ i = omega arith in z)
number-past (b ∷ before) bytes i n =
    let z : suc (length before) + i ≡ suc (length before + i) = omega arith in
    ap (λ (k : ℕ). little_from k n (b ∷ before ++ bytes)) z ∙ little_from-cons (length before + i) n b (before ++ bytes) ∙ number-past before bytes i n

number-front : (bytes more : List ℕ) (i n : ℕ) → i + n ≤ length bytes → little_from i n (bytes ++ more) ≡ little_from i n bytes
number-front bytes more i n h =
    sym (little_from-take i n (length bytes) (bytes ++ more) h) ∙ ap (little_from i n) (take-append_seam bytes more)

pub number-in : {whole : List ℕ} {p : ℕ} {part : List ℕ} → HasPart whole p part → (i n : ℕ) → i + n ≤ length part → little_from (p + i) n whole ≡ little_from i n part
number-in {whole} {p} {part} h i n room =
    ap (λ (k : ℕ). little_from (k + i) n whole) (sym h.at)
    ∙ ap (little_from (length h.before + i) n) h.is
    ∙ number-past h.before (part ++ h.after) i n
    ∙ number-front part h.after i n room

-- a number that was written
pub number-there : {whole : List ℕ} {p : ℕ} (n x : ℕ) → HasPart whole p (little_bytes n x) → x < 256 ^ n → little_from p n whole ≡ x
number-there {whole} {p} n x h small =
    let z : p ≡ p + 0 = omega arith in
    let long = length-bytes_low_first 0 n x in
    ap (λ (k : ℕ). little_from k n whole) z
    ∙ number-in h 0 n (omega (arith, long))
    ∙ ap (little_from 0 n) (sym (append-nil (little_bytes n x)))
    ∙ little_number-reads_back n x [] small

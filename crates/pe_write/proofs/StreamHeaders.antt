-- The header of a stream, as it is read.
use Rattle.std.proofs.Common.{◌≡◌, ℕ, ◌+◌, ◌-◌, ◌*◌, ◌/◌, ◌<◌, ◌≤◌, ◌^◌, List, ◌++◌, false, not, length, take, Some, sym, ap, ◌∙◌, arith, eqb, ltb, leb}
use Rattle.std.specs.Prelude.{◌||◌, min}
use Rattle.std.specs.List.{position_or_len}
use Rattle.std.proofs.Math.Seq.{take-append-add}
use Rattle.std.proofs.lemmas.List.{length-append}
use Rattle.byteorder.specs.Endian.{little_bytes, little_from}
use Rattle.pe_image.specs.Places.{u32_at}
use Rattle.pe_image.specs.Streams.{bad_header, header_width, name_length, name_window, stream_at, stream_meaning}
use Rattle.pe_image.specs.declared.stream.StreamName.{StreamName}
use Rattle.laid_parts.proofs.HasPart.{HasPart, has-all, has-at, has-behind, has-drop, has-front, has-room, has-within}
use Rattle.laid_parts.proofs.PartNumbers.{number-there}
use Rattle.pe_write.proofs.TestLemmas.{at-most, less, not-less}

-- a name whose first zero byte is known, whatever follows
pub record IsNamed (name : List ℕ) (len : ℕ) (means : StreamName) : Type 0 where
  pub short : length name ≤ 32
  pub inside : len < length name
  pub wide : length name ≡ 4 * ((len + 4) / 4)
  pub ends : (rest : List ℕ) → position_or_len (λ c. eqb c 0) (name ++ rest) ≡ len
  pub text : (rest : List ℕ) → stream_meaning (take len (name ++ rest)) ≡ Some means

-- what is read of a header
pub record IsHeader (m : List ℕ) (place offset size wide : ℕ) (means : StreamName) : Type 0 where
  pub width : header_width m place ≡ wide
  pub good : bad_header m place ≡ false
  pub stream : stream_at m place ≡ record { name = Some means; offset = offset; size = size }

-- the window in which the name is looked for begins with it
window : (m : List ℕ) (place : ℕ) (name : List ℕ) (h : HasPart m (place + 8) name) → length name ≤ 32 → (rest : List ℕ) × (name_window m place ≡ name ++ rest)
window m place name h short =
    let room = has-room h in
    let n = min (place + 40) (length m) - (place + 8) in
    let long : length name ≤ n = omega arith in
    let split : length name + (n - length name) ≡ n = omega arith in (
      take (n - length name) h.after,
      ap (take n) (has-drop h) ∙ ap (λ (i : ℕ). take i (name ++ h.after)) (sym split) ∙ take-append-add name h.after (n - length name),
    )

pub header-read : (m : List ℕ) (place offset size len : ℕ) (name : List ℕ) (means : StreamName) → HasPart m place (little_bytes 4 offset ++ (little_bytes 4 size ++ name)) → IsNamed name len means → offset < 256 ^ 4 → size < 256 ^ 4 → offset + size ≤ length m
    → IsHeader m place offset size (8 + length name) means
unfolding name_length header_width bad_header stream_at u32_at
header-read m place offset size len name means h named small short within =
    let first = has-within h (has-front (little_bytes 4 offset) (little_bytes 4 size ++ name)) in
    let second = has-within h (has-behind (little_bytes 4 offset) (has-front (little_bytes 4 size) name)) in
    let third = has-within h (has-behind (little_bytes 4 offset) (has-behind (little_bytes 4 size) (has-all name))) in
    let offset_at : little_from place 4 m ≡ offset = number-there 4 offset (has-at (omega arith) first) small in
    let size_at : little_from (place + 4) 4 m ≡ size = number-there 4 size (has-at (omega arith) second) short in
    let (rest, shows) = window m place name (has-at (omega arith) third) named.short in
    let ends : position_or_len (λ c. eqb c 0) (name_window m place) ≡ len = ap (position_or_len (λ c. eqb c 0)) shows ∙ named.ends rest in
    let room = has-room h in
    let header_long : length (little_bytes 4 offset ++ (little_bytes 4 size ++ name)) ≡ 8 + length name = omega arith in
    let inside : len < length (name_window m place) = (let e = ap length shows in let k = length-append name rest in omega (arith, e, k, named.inside)) in
    let wide : 8 + 4 * ((len + 1 + 3) / 4) ≡ 8 + length name = (let e = named.wide in omega (arith, e)) in
    let end = place + (8 + 4 * ((len + 1 + 3) / 4)) in
    record {
      width = ap (λ (n : ℕ). 8 + 4 * ((n + 1 + 3) / 4)) ends ∙ wide;
      good =
          ap (λ (n : ℕ). not (ltb n (length (name_window m place))) || (not (leb (place + (8 + 4 * ((n + 1 + 3) / 4))) (length m)) || ltb (length m) (little_from place 4 m + little_from (place + 4) 4 m))) ends
          ∙ ap (λ t. not t || (not (leb end (length m)) || ltb (length m) (little_from place 4 m + little_from (place + 4) 4 m))) (less len (length (name_window m place)) inside)
          ∙ ap (λ t. not t || ltb (length m) (little_from place 4 m + little_from (place + 4) 4 m)) (at-most end (length m) (omega (arith, room, header_long, wide)))
          ∙ ap (λ (n : ℕ). ltb (length m) (n + little_from (place + 4) 4 m)) offset_at
          ∙ ap (λ (n : ℕ). ltb (length m) (offset + n)) size_at
          ∙ not-less (length m) (offset + size) within;
      stream =
          ap (λ (n : ℕ). record { name = stream_meaning (take n (name_window m place)); offset = little_from place 4 m; size = little_from (place + 4) 4 m }) ends
          ∙ ap (λ s. record { name = stream_meaning (take len s); offset = little_from place 4 m; size = little_from (place + 4) 4 m }) shows
          ∙ ap (λ t. record { name = t; offset = little_from place 4 m; size = little_from (place + 4) 4 m }) (named.text rest)
          ∙ ap (λ (n : ℕ). record { name = Some means; offset = n; size = little_from (place + 4) 4 m }) offset_at
          ∙ ap (λ (n : ℕ). record { name = Some means; offset = offset; size = n }) size_at;
    }

-- What the parts that were laid come to.
use Rattle.std.proofs.Common.{◌≡◌, ℕ, ◌≤◌, ◌^◌, List, [], ◌∷◌, ◌++◌, length, refl, sym, ap, subst, ◌∙◌, arith}
use Rattle.std.specs.Prelude.{Ok, Err, Some, None}
use Rattle.laid_parts.specs.LaidParts.{LaidBytes, Part, laid, with_part}
use Rattle.laid_parts.specs.declared.parts.TooLong.{TooLong}
use Rattle.laid_parts.proofs.PartLemmas.{laid-kept, laid-long, parts_grow}
use Rattle.pe_image.specs.declared.facts.Facts.{Facts}
use Rattle.pe_write.specs.Image.{WritesImage, cli_numbers, header_parts, image_bytes, image_parts, image_size, raw_size, section_parts, used_size}
use Rattle.pe_write.specs.declared.contents.Contents.{Contents}
use Rattle.pe_write.specs.declared.headers.CliNumbers.{CliNumbers}
use Rattle.pe_write.specs.declared.fail.PeWriteFail.TheVariants.{TooLarge}

-- four parts more
pub four-more : (old one two three four : LaidBytes) (ps : List Part) (p q r s : Part) → old ≡ laid 0 (2 ^ 26) ps
    → one ≡ with_part old p → two ≡ with_part one q → three ≡ with_part two r → four ≡ with_part three s → four ≡ laid 0 (2 ^ 26) (ps ++ p ∷ q ∷ r ∷ s ∷ [])
four-more old one two three four ps p q r s start a b c d =
    let is-one : one ≡ laid 0 (2 ^ 26) (ps ++ p ∷ []) = a ∙ ap (λ l. with_part l p) start ∙ parts_grow 0 (2 ^ 26) ps p in
    let is-two = b ∙ ap (λ l. with_part l q) is-one ∙ parts_grow 0 (2 ^ 26) (ps ++ p ∷ []) q in
    let is-three = c ∙ ap (λ l. with_part l r) is-two ∙ parts_grow 0 (2 ^ 26) ((ps ++ p ∷ []) ++ q ∷ []) r in
    let is-four = d ∙ ap (λ l. with_part l s) is-three ∙ parts_grow 0 (2 ^ 26) (((ps ++ p ∷ []) ++ q ∷ []) ++ r ∷ []) s in
    is-four ∙ ap (laid 0 (2 ^ 26)) (joined ps p q r s)
  where
    joined : (ps : List Part) (p q r s : Part) → (((ps ++ p ∷ []) ++ q ∷ []) ++ r ∷ []) ++ s ∷ [] ≡ ps ++ p ∷ q ∷ r ∷ s ∷ []
    joined [] p q r s = refl
    joined (x ∷ ps) p q r s = ap (λ xs. x ∷ xs) (joined ps p q r s)

-- the headers and the section make the image
pub laid-is : (f : Facts) (c : Contents) (headers all : LaidBytes) (used raw image : ℕ) (n : CliNumbers) → used ≡ used_size c → raw ≡ raw_size c → image ≡ image_size c → n ≡ cli_numbers f c
    → ((ps : List Part) → headers ≡ laid 0 (2 ^ 26) ps → all ≡ laid 0 (2 ^ 26) (ps ++ section_parts n c)) → headers ≡ laid 0 (2 ^ 26) (header_parts f used raw image)
    → all ≡ laid 0 (2 ^ 26) (image_parts f c)
laid-is f c headers all used raw image n u r i e more start =
    more (header_parts f used raw image) start
    ∙ ap (λ (k : ℕ). laid 0 (2 ^ 26) (header_parts f k raw image ++ section_parts n c)) u
    ∙ ap (λ (k : ℕ). laid 0 (2 ^ 26) (header_parts f (used_size c) k image ++ section_parts n c)) r
    ∙ ap (λ (k : ℕ). laid 0 (2 ^ 26) (header_parts f (used_size c) (raw_size c) k ++ section_parts n c)) i
    ∙ ap (λ (x : CliNumbers). laid 0 (2 ^ 26) (header_parts f (used_size c) (raw_size c) (image_size c) ++ section_parts x c)) e

pub kept-is : (f : Facts) (c : Contents) (l : LaidBytes) (bytes : List ℕ) → l ≡ laid 0 (2 ^ 26) (image_parts f c) → l.bytes ≡ Some bytes → WritesImage f c (Ok bytes)
unfolding image_bytes
kept-is f c l bytes e h =
    let (is, few) = laid-kept 0 (2 ^ 26) (image_parts f c) bytes (subst (λ (x : LaidBytes). x.bytes ≡ Some bytes) e h) in
    (is, subst (λ xs. length xs ≤ 2 ^ 26) (sym is) few)

pub long-is : (f : Facts) (c : Contents) (l : LaidBytes) (long : TooLong) → l ≡ laid 0 (2 ^ 26) (image_parts f c) → (l.bytes ≡ None) × (long.size ≡ l.size) → WritesImage f c (Err (TooLarge long.size))
unfolding image_bytes
long-is f c l long e h =
    let many = laid-long 0 (2 ^ 26) (image_parts f c) (subst (λ (x : LaidBytes). x.bytes ≡ None) e h.0) in
    let size = h.1 ∙ ap (λ (x : LaidBytes). x.size) e in
    (size, omega (arith, many, size))

-- The hyphenated form of a UUID, of the sixteen bytes as they are stored.
use Rattle.std.proofs.Common.{◌≡◌, ℕ, zero, suc, ◌/◌, ◌%◌, ◌<◌, ◌==◌, List, [], ◌∷◌, length, get_or, slice_index, if◌then◌else◌, arith, refl, sym, ◌∙◌, ap}
use Rattle.std.proofs.lemmas.Bool.Decides.{nat_tests}
use Rattle.std.proofs.lemmas.List.{get_or_default}
use Rattle.cil_base.specs.Escape.{lower_hex}
use Rattle.uuid.specs.Text.{by_index, hex_digit, nibble, digit_place, is_hyphen_place, hyphenated_text, lower}
use Rattle.uuid.specs.Parts.{swap_fields}
use Rattle.uuid.proofs.TextLemmas.{by_index_cong, by_index_same}
use Rattle.asm_names.specs.Guid.{guid_text}

-- the digit of a number below 16, and of half a byte
lower_digit : (d : ℕ) → hex_digit lower d ≡ lower_hex d
lower_digit d = grind (arith, nat_tests)

abbrev half : List ℕ → ℕ → ℕ
half xs k = if k % 2 == 0 then slice_index xs (k / 2) / 16 else slice_index xs (k / 2) % 16

half_digit : (xs : List ℕ) (k : ℕ) → slice_index xs (k / 2) < 256 → hex_digit lower (nibble xs k) ≡ lower_hex (half xs k)
half_digit xs k fits =
    let small : slice_index xs (k / 2) / 16 % 16 ≡ slice_index xs (k / 2) / 16 = omega arith in
    lower_digit (nibble xs k) ∙ rw small refl

-- a list of sixteen, item by item
sixteen : (b : List ℕ) → length b ≡ 16 → b ≡ by_index 16 (λ k. slice_index b k)
sixteen b len = by_index_same b 16 (λ k. slice_index b k) len (λ k d within. get_or_default b k d 0 (rw len within))

abbrev place_text : List ℕ → ℕ → ℕ
place_text xs k = if is_hyphen_place k then 0x2d else lower_hex (half xs (digit_place k))

places : (b : List ℕ) → guid_text (by_index 16 (λ k. slice_index b k)) ≡ by_index 36 (place_text (swap_fields b))
unfolding guid_text by_index
places b = refl

-- each item is a byte
pub record AllBytes (xs : List ℕ) : Type 0 where
  pub at : (i : ℕ) → get_or xs i 0 < 256

no_bytes : AllBytes []
no_bytes = record { at = λ i. omega arith }

at_front : (x : ℕ) (xs : List ℕ) → x < 256 → AllBytes xs → (i : ℕ) → get_or (x ∷ xs) i 0 < 256
at_front x xs first rest zero = first
at_front x xs first rest (suc i) = rest.at i

more_bytes : (x : ℕ) (xs : List ℕ) → x < 256 → AllBytes xs → AllBytes (x ∷ xs)
more_bytes x xs first rest = record { at = at_front x xs first rest }

swapped_bytes : (b : List ℕ) → AllBytes b → AllBytes (swap_fields b)
swapped_bytes b fit =
    more_bytes _ _ (fit.at 3) (more_bytes _ _ (fit.at 2) (more_bytes _ _ (fit.at 1) (more_bytes _ _ (fit.at 0) (
    more_bytes _ _ (fit.at 5) (more_bytes _ _ (fit.at 4) (more_bytes _ _ (fit.at 7) (more_bytes _ _ (fit.at 6) (
    more_bytes _ _ (fit.at 8) (more_bytes _ _ (fit.at 9) (more_bytes _ _ (fit.at 10) (more_bytes _ _ (fit.at 11) (
    more_bytes _ _ (fit.at 12) (more_bytes _ _ (fit.at 13) (more_bytes _ _ (fit.at 14) (more_bytes _ _ (fit.at 15) no_bytes)))))))))))))))

same_places : (xs : List ℕ) → AllBytes xs → hyphenated_text lower xs ≡ by_index 36 (place_text xs)
same_places xs fit =
    by_index_cong 36 _ (place_text xs) (λ k within. ap (λ digit. if is_hyphen_place k then 0x2d else digit) (half_digit xs (digit_place k) (fit.at (digit_place k / 2))))

pub hyphenated_text-swap_fields : (b : List ℕ) → length b ≡ 16 → AllBytes b → hyphenated_text lower (swap_fields b) ≡ guid_text b
hyphenated_text-swap_fields b len fit =
    same_places (swap_fields b) (swapped_bytes b fit) ∙ sym (places b) ∙ ap guid_text (sym (sixteen b len))

-- Numbers at their locations: of a store in which nothing is filled, and after one of them is written.
use Rattle.std.proofs.Common.{◌≡◌, ◌≢◌, ◌⊎◌, inl, inr, eqb, ltb, refl, sym, ◌∙◌, ap, arith, add-one, length-append}
use Rattle.std.proofs.Common.{ℕ, zero, suc, ◌+◌, ◌-◌, ◌*◌, ◌<◌, ◌≤◌, Bool, true, false, Option, Some, None}
use Rattle.std.proofs.Common.{List, [], ◌∷◌, ◌++◌, length, get_or, set, replicate}
use Rattle.std.specs.Prelude.{slice_index}
use Rattle.std.proofs.Math.Nat.{mul_comm}
use Rattle.std.proofs.Math.Seq.{get_or-append_seam}
use Rattle.std.proofs.lemmas.Bool.Decides.{eqb_tells, nat_tests}
use Rattle.std.proofs.lemmas.List.{get_or-set_same, get_or-set_other, get_or-replicate, get_or_past, get_or_append_left}
use Rattle.std.proofs.lemmas.List.{length-replicate, length-set}
use Rattle.std.proofs.lemmas.Nat.{mul-add-lt}
use Rattle.slot_store.specs.inner.Numbers.{IsNumbering, blank_numbers, blank_table, location, stored_number}
use Rattle.slot_store.specs.declared.place.Place.{Place}
use Rattle.slot_store.specs.declared.place.Shape.{Shape}
use Rattle.slot_store.proofs.LocationLemmas.{same_or_not, some_is_not_none, stands_in}

-- the numbers with one written at a location
abbrev pub with_number : List (List ℕ) → ℕ × ℕ → ℕ → List (List ℕ)
with_number numbers at n = set numbers at.0 (set (get_or numbers at.0 []) at.1 n)

-- a location that the vectors have
pub record IsWithin (numbers : List (List ℕ)) (at : ℕ × ℕ) : Type 0 where
  pub table : at.0 < length numbers
  pub index : at.1 < length (get_or numbers at.0 [])

-- the vector of the location's table, with the number written
abbrev row_with : List (List ℕ) → ℕ × ℕ → ℕ → List ℕ
row_with numbers at n = set (get_or numbers at.0 []) at.1 n

pub number_here : (numbers : List (List ℕ)) (at : ℕ × ℕ) (n : ℕ) → IsWithin numbers at
    → stored_number (with_number numbers at n) at ≡ n
unfolding stored_number
number_here numbers at n within =
    ap (λ (row : List ℕ). slice_index row at.1) (get_or-set_same numbers at.0 (row_with numbers at n) [] within.table)
    ∙ get_or-set_same (get_or numbers at.0 []) at.1 n 0 within.index

pub number_elsewhere : (numbers : List (List ℕ)) (at b : ℕ × ℕ) (n : ℕ) → IsWithin numbers at → (at ≡ b → ⊥)
    → stored_number (with_number numbers at n) b ≡ stored_number numbers b
unfolding stored_number
number_elsewhere numbers at b n within other = by (eqb_tells b.0 at.0)
  where
    in_table : b.0 ≡ at.0 → stored_number (with_number numbers at n) b ≡ stored_number numbers b
    in_table table =
        ap (λ t. slice_index (get_or (with_number numbers at n) t []) b.1) table
        ∙ ap (λ (row : List ℕ). slice_index row b.1)
        (get_or-set_same numbers at.0 (row_with numbers at n) [] within.table)
        ∙ get_or-set_other (get_or numbers at.0 []) at.1 b.1 n 0 (λ index. other (λ i. (sym table i, sym index i)))
        ∙ ap (λ t. slice_index (get_or numbers t []) b.1) (sym table)

    by : ((eqb b.0 at.0 ≡ true) × (b.0 ≡ at.0)) ⊎ ((eqb b.0 at.0 ≡ false) × (b.0 ≢ at.0))
        → stored_number (with_number numbers at n) b ≡ stored_number numbers b
    by (inl same) = in_table same.1
    by (inr differ) =
        ap (λ (row : List ℕ). slice_index row b.1)
        (get_or-set_other numbers at.0 b.0 (row_with numbers at n) [] differ.1)

pub blank_next : (shape : Shape) (n : ℕ)
    → blank_numbers shape (n + 1) ≡ blank_numbers shape n ++ blank_table shape n ∷ []
unfolding blank_numbers
blank_next shape n = ap (blank_numbers shape) (add-one n)

blank_length : (shape : Shape) (n : ℕ) → length (blank_numbers shape n) ≡ n
unfolding blank_numbers
blank_length shape zero = refl
blank_length shape (suc n) =
    length-append (blank_numbers shape n) (blank_table shape n ∷ []) ∙ omega (arith, blank_length shape n)

blank_of : (shape : Shape) (n t : ℕ) → t < n → get_or (blank_numbers shape n) t [] ≡ blank_table shape t
unfolding blank_numbers
blank_of shape zero t less = absurd (omega arith)
blank_of shape (suc n) t less = by (blank_of shape n t) (eqb_tells t n)
  where
    by : (t < n → get_or (blank_numbers shape n) t [] ≡ blank_table shape t)
        → ((eqb t n ≡ true) × (t ≡ n)) ⊎ ((eqb t n ≡ false) × (t ≢ n))
        → get_or (blank_numbers shape n ++ blank_table shape n ∷ []) t [] ≡ blank_table shape t
    by before (inl last) =
        ap (λ i. get_or (blank_numbers shape n ++ blank_table shape n ∷ []) i []) (last.1 ∙ sym (blank_length shape n))
        ∙ get_or-append_seam (blank_numbers shape n) (blank_table shape n) [] []
        ∙ ap (blank_table shape) (sym last.1)
    by before (inr other) =
        get_or_append_left (blank_numbers shape n) (blank_table shape n ∷ []) [] t
        (omega (arith, blank_length shape n, less, other.1))
        ∙ before (omega (arith, less, other.1))

all_zeros : (n i : ℕ) → slice_index (replicate n 0) i ≡ zero
all_zeros n i = by (ltb i n) refl
  where
    by : (t : Bool) → ltb i n ≡ t → slice_index (replicate n 0) i ≡ zero
    by true less = get_or-replicate n i 0 0 (grind (arith, nat_tests))
    by false past = get_or_past (replicate n 0) i 0 (rw (length-replicate {A = ℕ} n 0) (grind (arith, nat_tests)))

pub blank_number : (shape : Shape) (n : ℕ) (at : ℕ × ℕ) → stored_number (blank_numbers shape n) at ≡ zero
unfolding stored_number
blank_number shape n at = by (ltb at.0 n) refl
  where
    by : (t : Bool) → ltb at.0 n ≡ t → slice_index (get_or (blank_numbers shape n) at.0 []) at.1 ≡ zero
    by true less =
        ap (λ (row : List ℕ). slice_index row at.1) (blank_of shape n at.0 (grind (arith, nat_tests)))
        ∙ all_zeros _ at.1
    by false past =
        ap (λ (row : List ℕ). slice_index row at.1)
        (get_or_past (blank_numbers shape n) at.0 [] (rw (blank_length shape n) (grind (arith, nat_tests))))

pub blank_is_numbering : (shape : Shape) → IsNumbering shape (blank_numbers shape 64) 0
blank_is_numbering shape = record {
  tables = blank_length shape 64;
  sizes = λ t less. ap length (blank_of shape 64 t less) ∙ length-replicate {A = ℕ} _ 0;
  counted = λ a. omega (arith, blank_number shape 64 a);
  distinct = λ a b some same. absurd (omega (arith, some, blank_number shape 64 a));
}

-- the vectors have the location of a place of the shape
pub is_within : (shape : Shape) (numbers : List (List ℕ)) (count : ℕ) (o : Option Place) (at : ℕ × ℕ)
    → IsNumbering shape numbers count → location shape o ≡ Some at → IsWithin numbers at
unfolding location
is_within shape numbers count None at numbering is = absurd (some_is_not_none (sym is))
is_within shape numbers count (Some p) at numbering is =
    let x = stands_in shape p at is in
    let low : at.0 < 64 = omega (arith, x.low, x.table) in
    let rows = slice_index shape.rows p.table in
    let kinds = slice_index shape.kinds p.table in
    let size : length (get_or numbers at.0 []) ≡ rows * kinds =
    numbering.sizes at.0 low ∙ ap (λ t. slice_index shape.rows t * slice_index shape.kinds t) (sym x.table) in
    let inside = mul-add-lt (p.rid - 1) kinds p.kind rows (omega (arith, x.from_one, x.row)) x.kind in
    record {
      table = omega (arith, low, numbering.tables);
      index = omega (arith, inside, size, x.index, mul_comm kinds rows);
    }

-- the number of one more value, written at a location
module _ (shape : Shape) (numbers : List (List ℕ)) (count : ℕ) (at : ℕ × ℕ)
    (within : IsWithin numbers at) (old : IsNumbering shape numbers count) where
  -- the number at a location is the new one, where the location is the one that is written, or else the old one
  abbrev IsNewOrOld : ℕ × ℕ → Type 0
  IsNewOrOld a = ((at ≡ a) × (stored_number (with_number numbers at (count + 1)) a ≡ count + 1))
      ⊎ (stored_number (with_number numbers at (count + 1)) a ≡ stored_number numbers a)

  new_sizes : (t : ℕ) → t < 64
      → length (get_or (with_number numbers at (count + 1)) t []) ≡ slice_index shape.rows t * slice_index shape.kinds t
  new_sizes t less = by (eqb_tells t at.0)
    where
      by : ((eqb t at.0 ≡ true) × (t ≡ at.0)) ⊎ ((eqb t at.0 ≡ false) × (t ≢ at.0))
          → length (get_or (with_number numbers at (count + 1)) t [])
          ≡ slice_index shape.rows t * slice_index shape.kinds t
      by (inl same) =
          ap (λ i. length (get_or (with_number numbers at (count + 1)) i [])) same.1
          ∙ ap length (get_or-set_same numbers at.0 (row_with numbers at (count + 1)) [] within.table)
          ∙ length-set (get_or numbers at.0 []) at.1 (count + 1)
          ∙ ap (λ i. length (get_or numbers i [])) (sym same.1)
          ∙ old.sizes t less
      by (inr other) =
          ap length (get_or-set_other numbers at.0 t (row_with numbers at (count + 1)) [] other.1) ∙ old.sizes t less

  new_number : (a : ℕ × ℕ) → IsNewOrOld a
  new_number a = by (same_or_not at a)
    where
      by : (at ≡ a) ⊎ (at ≡ a → ⊥) → IsNewOrOld a
      by (inl same) =
          let there = ap (stored_number (with_number numbers at (count + 1))) (sym same) in
          inl (same, there ∙ number_here numbers at (count + 1) within)
      by (inr other) = inr (number_elsewhere numbers at a (count + 1) within other)

  new_counted : (a : ℕ × ℕ) → stored_number (with_number numbers at (count + 1)) a ≤ count + 1
  new_counted a = by (new_number a)
    where
      by : IsNewOrOld a → stored_number (with_number numbers at (count + 1)) a ≤ count + 1
      by (inl new) = omega (arith, new.1)
      by (inr same) = omega (arith, same, old.counted a)

  new_distinct : (a b : ℕ × ℕ) → 0 < stored_number (with_number numbers at (count + 1)) a
      → stored_number (with_number numbers at (count + 1)) a ≡ stored_number (with_number numbers at (count + 1)) b
      → a ≡ b
  new_distinct a b some same = by (new_number a) (new_number b)
    where
      by : IsNewOrOld a → IsNewOrOld b → a ≡ b
      by (inl x) (inl y) = sym x.0 ∙ y.0
      by (inl x) (inr y) = absurd (omega (arith, x.1, y, old.counted b, same))
      by (inr x) (inl y) = absurd (omega (arith, x, y.1, old.counted a, same))
      by (inr x) (inr y) = old.distinct a b (omega (arith, some, x)) (sym x ∙ same ∙ y)

  pub new_is_numbering : IsNumbering shape (with_number numbers at (count + 1)) (count + 1)
  new_is_numbering = record {
    tables = length-set numbers at.0 _ ∙ old.tables;
    sizes = new_sizes;
    counted = new_counted;
    distinct = new_distinct;
  }

-- the same, where the number is that of the last of the values as they are now
pub one_more : (shape : Shape) (old new : List (List ℕ)) (count len number : ℕ) (o : Option Place) (at : ℕ × ℕ)
    → location shape o ≡ Some at → IsNumbering shape old count
    → number ≡ count + 1 → new ≡ with_number old at number → len ≡ count + 1 → IsNumbering shape new len
one_more shape old new count len number o at there numbering number_is new_is len_is =
    rw (new_is, len_is, number_is)
    (new_is_numbering shape old count at (is_within shape old count o at numbering there) numbering)

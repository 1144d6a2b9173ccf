-- A location is that of one place, and keys that have one location are equal.
use Rattle.std.proofs.Common.{◌≡◌, ◌≢◌, ◌⊎◌, inl, inr, eqb, refl, sym, ◌∙◌, ap, ℕ, ◌+◌, ◌-◌, ◌*◌, ◌<◌, ◌≤◌, arith}
use Rattle.std.proofs.Common.{Bool, true, false, cond, Option, Some, None, is_some, true≢false}
use Rattle.std.specs.Prelude.{◌/◌, ◌%◌, slice_index}
use Rattle.std.proofs.lemmas.Bool.Decides.{eqb_tells, nat_tests}
use Rattle.std.proofs.lemmas.Nat.{div-mul-add, mod-mul-add}
use Rattle.slot_store.specs.Shape.{is_in_shape}
use Rattle.slot_store.specs.inner.Numbers.{location}
use Rattle.slot_store.specs.inner.PlaceLaws.{same_place}
use Rattle.slot_store.specs.declared.place.Place.{Place}
use Rattle.slot_store.specs.declared.place.Shape.{Shape}

pub some_is_not_none : {A : Type 0} {x : A} → Some x ≡ None → ⊥
some_is_not_none is = true≢false (ap is_some is)

-- two locations are the same or not
pub same_or_not : (a b : ℕ × ℕ) → (a ≡ b) ⊎ (a ≡ b → ⊥)
same_or_not a b = by (eqb_tells a.0 b.0) (eqb_tells a.1 b.1)
  where
    by : ((eqb a.0 b.0 ≡ true) × (a.0 ≡ b.0)) ⊎ ((eqb a.0 b.0 ≡ false) × (a.0 ≢ b.0))
        → ((eqb a.1 b.1 ≡ true) × (a.1 ≡ b.1)) ⊎ ((eqb a.1 b.1 ≡ false) × (a.1 ≢ b.1)) → (a ≡ b) ⊎ (a ≡ b → ⊥)
    by (inl table) (inl index) = inl (λ i. (table.1 i, index.1 i))
    by (inr table) _ = inr (λ is. table.1 (ap (λ (c : ℕ × ℕ). c.0) is))
    by (inl table) (inr index) = inr (λ is. index.1 (ap (λ (c : ℕ × ℕ). c.1) is))

-- a place of the shape, and its location
pub record StandsIn (shape : Shape) (p : Place) (at : ℕ × ℕ) : Type 0 where
  pub table : p.table ≡ at.0
  pub low : p.table < 64
  pub from_one : 0 < p.rid
  pub row : p.rid ≤ slice_index shape.rows p.table
  pub kind : p.kind < slice_index shape.kinds p.table
  pub index : (p.rid - 1) * slice_index shape.kinds p.table + p.kind ≡ at.1

pub stands_in : (shape : Shape) (p : Place) (at : ℕ × ℕ) → location shape (Some p) ≡ Some at → StandsIn shape p at
unfolding location is_in_shape
stands_in shape p at is = by (is_in_shape shape (Some p)) refl is
  where
    by : (b : Bool) → is_in_shape shape (Some p) ≡ b
        → cond b (Some (p.table, (p.rid - 1) * slice_index shape.kinds p.table + p.kind)) None ≡ Some at
        → StandsIn shape p at
    by false _ none = absurd (some_is_not_none (sym none))
    by true inside some = record {
      table = cc;
      low = grind (arith, nat_tests);
      from_one = grind (arith, nat_tests);
      row = grind (arith, nat_tests);
      kind = grind (arith, nat_tests);
      index = cc;
    }

pub location_of_one : (shape : Shape) (p q : Place) (at : ℕ × ℕ)
    → StandsIn shape p at → StandsIn shape q at → p ≡ q
location_of_one shape p q at x y =
    let table : p.table ≡ q.table = x.table ∙ sym y.table in
    let width : slice_index shape.kinds q.table ≡ slice_index shape.kinds p.table =
    ap (slice_index shape.kinds) (sym table) in
    let w : ℕ = slice_index shape.kinds p.table in
    let kind : q.kind < w = omega (arith, width, y.kind) in
    let index : (p.rid - 1) * w + p.kind ≡ (q.rid - 1) * w + q.kind =
    x.index ∙ sym y.index ∙ ap (λ n. (q.rid - 1) * n + q.kind) width in
    let rid : p.rid - 1 ≡ q.rid - 1 =
    sym (div-mul-add (p.rid - 1) w p.kind x.kind) ∙ ap (λ n. n / w) index ∙ div-mul-add (q.rid - 1) w q.kind kind in
    same_place p q table
    (omega (arith, x.from_one, y.from_one, rid))
    (sym (mod-mul-add (p.rid - 1) w p.kind x.kind) ∙ ap (λ n. n % w) index ∙ mod-mul-add (q.rid - 1) w q.kind kind)

-- what is known of keys
pub record KeyLaws {K : Type 0} (place : K → Option Place) (eq : K → K → Bool) : Type 0 where
  pub one_place : (a b : K) → eq a b ≡ true → place a ≡ place b
  pub one_key : (a b : K) (p : Place) → place a ≡ Some p → place b ≡ Some p → eq a b ≡ true

module _ {K : Type 0} (place : K → Option Place) (eq : K → K → Bool) (laws : KeyLaws place eq)
    (shape : Shape) (a b : K) where
  pub keys_of_one : (at : ℕ × ℕ)
      → location shape (place a) ≡ Some at → location shape (place b) ≡ Some at → eq a b ≡ true
  unfolding location
  keys_of_one at x y = by (place a) refl (place b) refl
    where
      by : (o : Option Place) → place a ≡ o → (u : Option Place) → place b ≡ u → eq a b ≡ true
      by None of_a u of_b = absurd (some_is_not_none (sym x ∙ ap (location shape) of_a))
      by (Some p) of_a None of_b = absurd (some_is_not_none (sym y ∙ ap (location shape) of_b))
      by (Some p) of_a (Some q) of_b =
          let of_p = stands_in shape p at (sym (ap (location shape) of_a) ∙ x) in
          let of_q = stands_in shape q at (sym (ap (location shape) of_b) ∙ y) in
          laws.one_key a b p of_a (of_b ∙ ap Some (sym (location_of_one shape p q at of_p of_q)))

  -- keys of two locations, or of which one alone has none, are not equal
  pub keys_of_two : (location shape (place a) ≡ location shape (place b) → ⊥) → eq a b ≡ false
  keys_of_two other = by (eq a b) refl
    where
      by : (t : Bool) → eq a b ≡ t → t ≡ false
      by false _ = refl
      by true equal = absurd (other (ap (location shape) (laws.one_place a b equal)))

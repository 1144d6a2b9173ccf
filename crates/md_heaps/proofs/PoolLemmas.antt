-- Where the entries of a pool stand.
use Rattle.std.proofs.Common.{◌≡◌, ℕ, ◌+◌, List, [], ◌∷◌, ◌++◌, Bool, true, false, cond, length, refl, sym, ap, ◌∙◌, arith, eqb}
use Rattle.std.specs.Prelude.{◌||◌, ◌&&◌, Some, None, nat_eq, is_some}
use Rattle.std.proofs.lemmas.List.{append_assoc, append-nil, length-append, map-append}
use Rattle.std.proofs.lemmas.Bool.Decides.{nat_tests}
use Rattle.std.specs.Map.{keys_of}
use Rattle.std.specs.Cmp.Lexicographic.{pointwise}
use Rattle.indexmap.specs.IndexMap.{insert_entry}
use Rattle.md_heaps.specs.Pools.{EntriesStay, StandsAt, entry_place, has_entry, joined_entries, with_entry}
use Rattle.md_heaps.specs.inner.PoolMap.{IsPoolMap, kept_place, kept_with, placed_from}

pub same_bytes : (entry : List ℕ) → pointwise nat_eq entry entry ≡ true
same_bytes [] = refl
same_bytes (byte ∷ entry) = grind (arith, same_bytes entry)

-- entries that compare alike are one
same_head : (x y : ℕ) (t : Bool) → eqb x y && t ≡ true → (x ≡ y) × (t ≡ true)
same_head x y t h = (grind (arith, nat_tests), grind (arith, nat_tests))

pub same_entry : (a b : List ℕ) → pointwise nat_eq a b ≡ true → a ≡ b
same_entry [] [] h = refl
same_entry [] (y ∷ b) h = absurd (cc)
same_entry (x ∷ a) [] h = absurd (cc)
same_entry (x ∷ a) (y ∷ b) h =
    let (head, tests) = same_head x y (pointwise nat_eq a b) h in
    let rest = same_entry a b tests in
    cc

-- the bytes of one entry more
pub joined-push : (es : List (List ℕ)) (entry : List ℕ) → joined_entries (es ++ entry ∷ []) ≡ joined_entries es ++ entry
joined-push [] entry = append-nil entry
joined-push (e ∷ es) entry = ap (λ s. e ++ s) (joined-push es entry) ∙ sym (append_assoc e (joined_entries es) entry)

-- a new entry stands behind all others
pub place-last : (es : List (List ℕ)) (entry : List ℕ) → has_entry es entry ≡ false → entry_place (es ++ entry ∷ []) entry ≡ length (joined_entries es)
place-last [] entry new = ap (λ b. cond b 0 (length entry + 0)) (same_bytes entry)
place-last (e ∷ es) entry new =
    elim (pointwise nat_eq entry e) as (λ b. b || has_entry es entry ≡ false → cond b 0 (length e + entry_place (es ++ entry ∷ []) entry) ≡ length (e ++ joined_entries es)) [
      | true ↦ λ h. absurd (cc)
      | false ↦ λ h. let behind = place-last es entry h in let long = length-append e (joined_entries es) in omega (arith, behind, long)
    ] new

pub has-last : (es : List (List ℕ)) (entry : List ℕ) → has_entry (es ++ entry ∷ []) entry ≡ true
has-last [] entry = ap (λ b. b || false) (same_bytes entry)
has-last (e ∷ es) entry = elim (pointwise nat_eq entry e) as (λ b. b || has_entry (es ++ entry ∷ []) entry ≡ true) [ true ↦ refl | false ↦ has-last es entry ]

-- one entry more leaves the others where they are
has-more : (es : List (List ℕ)) (one more : List ℕ) → has_entry es one ≡ true → has_entry (es ++ more ∷ []) one ≡ true
has-more [] one more h = absurd (cc)
has-more (e ∷ es) one more h =
    elim (pointwise nat_eq one e) as (λ t. t || has_entry es one ≡ true → t || has_entry (es ++ more ∷ []) one ≡ true) [
      | true ↦ λ _. refl
      | false ↦ λ later. has-more es one more later
    ] h

place-more : (es : List (List ℕ)) (one more : List ℕ) → has_entry es one ≡ true → entry_place (es ++ more ∷ []) one ≡ entry_place es one
place-more [] one more h = absurd (cc)
place-more (e ∷ es) one more h =
    elim (pointwise nat_eq one e) as (λ t. t || has_entry es one ≡ true → cond t 0 (length e + entry_place (es ++ more ∷ []) one) ≡ cond t 0 (length e + entry_place es one)) [
      | true ↦ λ _. refl
      | false ↦ λ later. ap (λ (n : ℕ). length e + n) (place-more es one more later)
    ] h

pub entries_stay : (es : List (List ℕ)) (more : List ℕ) → EntriesStay es (with_entry es more)
entries_stay es more one place stands =
    elim (has_entry es more) as (λ t. StandsAt (cond t es (es ++ more ∷ [])) one place) [
      | true ↦ stands
      | false ↦ (has-more es one more stands.0, stands.1 ∙ sym (place-more es one more stands.0))
    ]

-- the place that is found
pub found-placed : (at : ℕ) (es : List (List ℕ)) (entry : List ℕ) → kept_place (placed_from at es) entry ≡ cond (has_entry es entry) (Some (at + entry_place es entry)) None
found-placed at [] entry = refl
found-placed at (e ∷ es) entry =
    elim (pointwise nat_eq entry e) as (λ b. cond b (Some at) (kept_place (placed_from (at + length e) es) entry) ≡ cond (b || has_entry es entry) (Some (at + cond b 0 (length e + entry_place es entry))) None) [
      | true ↦ ap Some (let z : at ≡ at + 0 = omega arith in z)
      | false ↦ found-placed (at + length e) es entry
          ∙ ap (λ (n : ℕ). cond (has_entry es entry) (Some n) None) (let z : at + length e + entry_place es entry ≡ at + (length e + entry_place es entry) = omega arith in z)
    ]

-- one entry more, with the place behind all others
pub placed-push : (at : ℕ) (es : List (List ℕ)) (entry : List ℕ) → placed_from at es ++ (entry, at + length (joined_entries es)) ∷ [] ≡ placed_from at (es ++ entry ∷ [])
placed-push at [] entry = ap (λ (n : ℕ). (entry, n) ∷ []) (let z : at + 0 ≡ at = omega arith in z)
placed-push at (e ∷ es) entry =
    let long = length-append e (joined_entries es) in
    let behind : at + length (e ++ joined_entries es) ≡ at + length e + length (joined_entries es) = omega (arith, long) in
    ap (λ l. (e, at) ∷ l) (ap (λ (n : ℕ). placed_from (at + length e) es ++ (entry, n) ∷ []) behind ∙ placed-push (at + length e) es entry)

-- an entry that is not kept goes last
pub insert-last : (kept : List (List ℕ × ℕ)) (entry : List ℕ) (place : ℕ) → has_entry (keys_of kept) entry ≡ false → insert_entry (pointwise nat_eq) kept entry place ≡ kept ++ (entry, place) ∷ []
insert-last [] entry place new = refl
insert-last (e ∷ kept) entry place new =
    elim (pointwise nat_eq entry e.0) as (λ b. b || has_entry (keys_of kept) entry ≡ false → cond b ((e.0, place) ∷ kept) (e ∷ insert_entry (pointwise nat_eq) kept entry place) ≡ e ∷ (kept ++ (entry, place) ∷ [])) [
      | true ↦ λ h. absurd (cc)
      | false ↦ λ h. ap (λ l. e ∷ l) (insert-last kept entry place h)
    ] new

-- what is known once an entry was found
by_test : (b : Bool) (n place : ℕ) → cond b (Some n) None ≡ Some place → (b ≡ true) × (place ≡ n)
by_test true n place h = (refl, let e : place ≡ n = cc in e)
by_test false n place h = absurd (cc)

-- and once it was not
by_none : (b : Bool) (n : ℕ) → cond b (Some n) None ≡ None → b ≡ false
by_none true n h = absurd (cc)
by_none false n h = refl

module _ (kept new : List (List ℕ × ℕ)) (size : ℕ) (entry : List ℕ) (pool : IsPoolMap kept size) (is : new ≡ kept_with kept entry size) where
  found : kept_place kept entry ≡ cond (has_entry (keys_of kept) entry) (Some (entry_place (keys_of kept) entry)) None
  found =
      ap (λ l. kept_place l entry) pool.places ∙ found-placed 0 (keys_of kept) entry
      ∙ ap (λ (n : ℕ). cond (has_entry (keys_of kept) entry) (Some n) None) (let z : 0 + entry_place (keys_of kept) entry ≡ entry_place (keys_of kept) entry = omega arith in z)

  -- an entry that is there
  pub record Known (place : ℕ) : Type 0 where
    pub same : new ≡ kept
    pub entries : keys_of new ≡ with_entry (keys_of kept) entry
    pub stands : StandsAt (keys_of new) entry place

  pub known : (place : ℕ) → Some place ≡ kept_place kept entry → Known place
  known place h =
      let (there, at) = by_test (has_entry (keys_of kept) entry) (entry_place (keys_of kept) entry) place (sym found ∙ sym h) in
      let same : new ≡ kept = is ∙ ap (λ o. cond (is_some o) kept (insert_entry (pointwise nat_eq) kept entry size)) (sym h) in
      let keys = ap keys_of same in
      record {
        same = same;
        entries = keys ∙ ap (λ b. cond b (keys_of kept) (keys_of kept ++ entry ∷ [])) (sym there);
        stands = (ap (λ l. has_entry l entry) keys ∙ there, at ∙ ap (λ l. entry_place l entry) (sym keys));
      }

  -- an entry that is new
  pub record Grown : Type 0 where
    pub grows : IsPoolMap new (size + length entry)
    pub entries : keys_of new ≡ with_entry (keys_of kept) entry
    pub stands : StandsAt (keys_of new) entry size

  pub grown : None ≡ kept_place kept entry → Grown
  grown h =
      let es = keys_of kept in
      let absent = by_none (has_entry es entry) (entry_place es entry) (sym found ∙ sym h) in
      let last : new ≡ kept ++ (entry, size) ∷ [] = is ∙ ap (λ o. cond (is_some o) kept (insert_entry (pointwise nat_eq) kept entry size)) (sym h) ∙ insert-last kept entry size absent in
      let keys : keys_of new ≡ es ++ entry ∷ [] = ap keys_of last ∙ map-append (λ (p : List ℕ × ℕ). p.0) kept ((entry, size) ∷ []) in
      let total : size ≡ 0 + length (joined_entries es) = pool.total ∙ omega arith in
      let long : length (joined_entries (keys_of new)) ≡ length (joined_entries es) + length entry = ap (λ l. length (joined_entries l)) keys ∙ ap length (joined-push es entry) ∙ length-append (joined_entries es) entry in
      record {
        grows = record {
          places = last ∙ ap (λ l. l ++ (entry, size) ∷ []) pool.places ∙ ap (λ (n : ℕ). placed_from 0 es ++ (entry, n) ∷ []) total ∙ placed-push 0 es entry ∙ ap (placed_from 0) (sym keys);
          total = omega (arith, long, pool.total);
        };
        entries = keys ∙ ap (λ b. cond b es (es ++ entry ∷ [])) (sym absent);
        stands = (ap (λ l. has_entry l entry) keys ∙ has-last es entry, pool.total ∙ sym (place-last es entry absent) ∙ ap (λ l. entry_place l entry) (sym keys));
      }

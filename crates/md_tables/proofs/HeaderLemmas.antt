-- Sums over the numbers below n, and the counts of the header.
use Rattle.std.proofs.Common.{◌≡◌, ℕ, zero, suc, length, get_or, set, ◌+◌, ◌*◌, ◌-◌, ◌<◌, ◌≤◌, true, false, List, refl, sym, ap, subst, ◌∙◌, arith, if◌then◌else◌}
use Rattle.std.proofs.lemmas.List.Edits.{fill_by_more}
use Rattle.std.proofs.lemmas.List.FromFn.{sum_by-map-range_with_len_more}
use Rattle.md_schema.specs.Header.{is_present, is_set, present_below, sum_below, valid_of}
use Rattle.md_tables.specs.inner.Opening.{IsCount}

pub sum_below-zero : (f : ℕ → ℕ) → sum_below f 0 ≡ 0
unfolding sum_below
sum_below-zero f = refl

pub sum_below-more : (f : ℕ → ℕ) (n : ℕ) → sum_below f (n + 1) ≡ sum_below f n + f n
unfolding sum_below
sum_below-more f n = sum_by-map-range_with_len_more (λ x. x) f 0 n n (omega arith)

pub sum_below-rises : (f : ℕ → ℕ) (n d : ℕ) → sum_below f n ≤ sum_below f (n + d)
sum_below-rises f n zero = let e : n + 0 ≡ n = omega arith in rw e (omega arith)
sum_below-rises f n (suc d) =
    let ih = sum_below-rises f n d in
    let more = sum_below-more f (n + d) in
    let e : n + suc d ≡ n + d + 1 = omega arith in
    rw e (omega (arith, ih, more))

pub sum_below-mono : (f : ℕ → ℕ) (n m : ℕ) → n ≤ m → sum_below f n ≤ sum_below f m
sum_below-mono f n m h =
    let e : n + (m - n) ≡ m = omega arith in
    subst (λ k. sum_below f n ≤ sum_below f k) e (sum_below-rises f n (m - n))

pub present-set : (stream : List ℕ) (table : ℕ) → is_present stream table ≡ true → present_below stream (table + 1) ≡ present_below stream table + 1
present-set stream table h =
    sum_below-more (λ lesser. if is_present stream lesser then 1 else 0) table
    ∙ ap (λ b. present_below stream table + (if b then 1 else 0)) h

pub present-clear : (stream : List ℕ) (table : ℕ) → is_present stream table ≡ false → present_below stream (table + 1) ≡ present_below stream table
present-clear stream table h =
    sum_below-more (λ lesser. if is_present stream lesser then 1 else 0) table
    ∙ ap (λ b. present_below stream table + (if b then 1 else 0)) h ∙ omega arith

pub present-zero : (stream : List ℕ) → present_below stream 0 ≡ 0
present-zero stream = sum_below-zero (λ lesser. if is_present stream lesser then 1 else 0)

pub present-mono : (stream : List ℕ) (n m : ℕ) → n ≤ m → present_below stream n ≤ present_below stream m
present-mono stream n m h = sum_below-mono (λ lesser. if is_present stream lesser then 1 else 0) n m h

-- the counts before the last that is read do not pass a whole stream
pub cut_count : (stream : List ℕ) (valid table present : ℕ) → valid ≡ valid_of stream → table < 64 → present ≡ present_below stream table → is_set valid table ≡ true → length stream - (24 + 4 * present) < 4 → 24 + 4 * present_below stream 64 ≤ length stream → ⊥
cut_count stream valid table present e within p set cut whole =
    let more = present-set stream table (ap (λ v. is_set v table) (sym e) ∙ set) in
    let mono = present-mono stream (table + 1) 64 (omega arith) in
    omega (arith, p, cut, whole, more, mono)

-- one more count
pub record IsNext (stream : List ℕ) (table present : ℕ) : Type 0 where
  pub is : present ≡ present_below stream table
  pub within : 24 + 4 * present ≤ length stream
  pub small : present ≤ table

pub next-set : (stream : List ℕ) (valid table present count : ℕ) → valid ≡ valid_of stream → IsNext stream table present → IsCount stream table count → is_set valid table ≡ true → IsNext stream (table + 1) (present + 1)
next-set stream valid table present count e p read set =
    let is = ap (λ v. is_set v table) (sym e) ∙ set in
    let more = present-set stream table is in
    let fits = read.within is in
    record { is = omega (arith, more, p.is); within = omega (arith, fits, p.is); small = omega (arith, p.small) }

pub next-clear : (stream : List ℕ) (valid table present : ℕ) → valid ≡ valid_of stream → IsNext stream table present → is_set valid table ≡ false → IsNext stream (table + 1) present
next-clear stream valid table present e p clear =
    let more = present-clear stream table (ap (λ v. is_set v table) (sym e) ∙ clear) in
    record { is = omega (arith, more, p.is); within = p.within; small = omega (arith, p.small) }

-- a list that is filled with the values of f in order
pub fill-next : (f : ℕ → ℕ) (xs : List ℕ) (i v : ℕ) → v ≡ f i → i < length xs → ((k : ℕ) → k < i → get_or xs k 0 ≡ f k) → (k : ℕ) → k < i + 1 → get_or (set xs i v) k 0 ≡ f k
fill-next f xs i v e h below =
    let filled = fill_by_more f xs i 0 h below in
    subst (λ w. (k : ℕ) → k < i + 1 → get_or (set xs i w) k 0 ≡ f k) (sym e) filled

-- The table at a place is the one that is found by its number.
use Rattle.std.proofs.Common.{◌≡◌, ℕ, zero, suc, ◌+◌, ◌<◌, ◌≤◌, ◌==◌, nat_eq, List, [], ◌∷◌, Option, Some, None, slice_get, get_or, length, nat_le, nat_lt, not, map, Bor, refl, sym, ap, ◌∙◌, arith, Bool, true, false, cond}
use Rattle.std.specs.List.{find, list_all, position, position_or_len}
use Rattle.std.specs.Option.{option_map, option_and_then, option_copied, IfSome}
use Rattle.std.proofs.lemmas.Option.{slice_get_past, slice_get_read}
use Rattle.std.proofs.lemmas.List.{length-map}
use Rattle.std.proofs.lemmas.Bool.{and_parts}
use Rattle.std.proofs.lemmas.Bool.Decides.{nat_tests}
use Rattle.md_schema.specs.Entry.{columns_of, table_entry_of, numbered_tables, seen_table}
use Rattle.md_schema.specs.Schema.{TableOf, tables}
use Rattle.md_schema.specs.declared.schema.Table.{Table}

-- the table of number k
abbrev pub found : ℕ → List TableOf → Option TableOf
found k ts = find (λ t. t.number == k) ts

pub found-below : (xs : List (Option Table)) (n k : ℕ) → k < n → found k (numbered_tables n xs) ≡ None
found-below [] n k h = refl
found-below (None ∷ xs) n k h = found-below xs (suc n) k (omega arith)
found-below (Some x ∷ xs) n k h =
    let ih : found k (numbered_tables (suc n) xs) ≡ None = found-below xs (suc n) k (omega arith) in
    let e : nat_eq n k ≡ false = grind (arith, nat_tests) in
    rw e ih

pub found-numbered_tables : (xs : List (Option Table)) (n i k : ℕ) → k ≡ n + i → option_map (seen_table k) (option_and_then (λ x. x) (slice_get xs i)) ≡ found k (numbered_tables n xs)
found-numbered_tables [] n i k e = refl
found-numbered_tables (None ∷ xs) n zero k e = sym (found-below xs (suc n) k (omega arith))
found-numbered_tables (None ∷ xs) n (suc i) k e = found-numbered_tables xs (suc n) i k (omega arith)
found-numbered_tables (Some x ∷ xs) n zero k e =
    let same : nat_eq n k ≡ true = grind (arith, nat_tests) in
    let k_is : k ≡ n = omega arith in
    rw (same, k_is) refl
found-numbered_tables (Some x ∷ xs) n (suc i) k e =
    let other : nat_eq n k ≡ false = grind (arith, nat_tests) in
    rw other (found-numbered_tables xs (suc n) i k (omega arith))

pub found-past : (xs : List (Option Table)) (k : ℕ) (ts : List TableOf) → numbered_tables 0 xs ≡ ts → length xs ≤ k → found k ts ≡ None
found-past xs k ts e h =
    let past : slice_get xs k ≡ None = slice_get_past xs k h in
    let all = found-numbered_tables xs 0 k k (omega arith) in
    ap (found k) (sym e) ∙ sym all ∙ ap (λ o. option_map (seen_table k) (option_and_then (λ x. x) o)) past

pub found-at : (xs : List (Option Table)) (k : ℕ) (x : Option Table) (ts : List TableOf) → numbered_tables 0 xs ≡ ts → k < length xs → x ≡ get_or xs k x → option_map (seen_table k) x ≡ found k ts
found-at xs k x ts e h is =
    let stands : slice_get xs k ≡ Some x = slice_get_read xs (length xs) k x refl h is in
    let all = found-numbered_tables xs 0 k k (omega arith) in
    ap (λ o. option_map (seen_table k) (option_and_then (λ x. x) o)) (sym stands) ∙ all ∙ ap (found k) e

pub map-copied : {A B : Type 0} (f : A → B) (r : Option (Bor A)) → option_map (λ x. f x.now) r ≡ option_map f (option_copied r)
map-copied f None = refl
map-copied f (Some x) = refl

-- what holds of all holds of the one that is found
pub find-all : {X : Type 0} (p q : X → Bool) (xs : List X) → list_all q xs ≡ true → IfSome (find p xs) (λ x. q x ≡ true)
find-all p q [] h = tt
find-all p q (x ∷ xs) h =
    let parts = and_parts (q x) (list_all q xs) h in
    elim (p x) as (λ b. IfSome (cond b (Some x) (find p xs)) (λ y. q y ≡ true)) [ true ↦ parts.0 | false ↦ find-all p q xs parts.1 ]

all_few : list_all (λ table. nat_le (length table.columns) 9) tables ≡ true
unfolding tables
all_few = refl

IfSome-mapped : (o : Option TableOf) → IfSome o (λ table. nat_le (length table.columns) 9 ≡ true) → IfSome (option_map (λ table. table.columns) o) (λ columns. length columns ≤ 9)
IfSome-mapped None h = tt
IfSome-mapped (Some table) h = grind (arith, nat_tests, h)

pub few_columns : (number : ℕ) → IfSome (columns_of number) (λ columns. length columns ≤ 9)
few_columns number =
    let h : IfSome (table_entry_of number) (λ table. nat_le (length table.columns) 9 ≡ true) =
    find-all (λ table. table.number == number) (λ table. nat_le (length table.columns) 9) tables all_few in
    IfSome-mapped (table_entry_of number) h

-- the first place among mapped items
position_or_len-map : {X Y : Type 0} (f : X → Y) (p : Y → Bool) (xs : List X) → position_or_len p (map f xs) ≡ position_or_len (λ x. p (f x)) xs
position_or_len-map f p [] = refl
position_or_len-map f p (x ∷ xs) = ap (λ n. cond (not (p (f x))) (1 + n) 0) (position_or_len-map f p xs)

pub position-map : {X Y : Type 0} (f : X → Y) (p : Y → Bool) (xs : List X) → position p (map f xs) ≡ position (λ x. p (f x)) xs
position-map f p xs =
    ap (λ n. cond (nat_lt n (length (map f xs))) (Some n) None) (position_or_len-map f p xs)
    ∙ ap (λ m. cond (nat_lt (position_or_len (λ x. p (f x)) xs) m) (Some (position_or_len (λ x. p (f x)) xs)) None) (length-map xs f)

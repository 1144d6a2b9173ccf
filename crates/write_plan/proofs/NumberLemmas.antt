-- New numbers: each kept row of a table has one, no two have the same, and they go from 1 to the count.
use Rattle.std.proofs.Common.{◌≡◌, ◌≢◌, ◌∙◌, sym, ap, subst, refl, ℕ, zero, suc, ◌<◌, ◌+◌, Bool, true, false, cond, List, [], ◌∷◌, length, get_or, set, replicate, Option, Some, None, arith}
use Rattle.std.specs.Prelude.{◌||◌, ◌&&◌, ◌==◌, fold, nat_lt, slice_get}
use Rattle.std.specs.List.{AllByRecursion, IsDistinct, list_any, list_all, position}
use Rattle.std.specs.Option.{option_map}
use Rattle.std.proofs.lemmas.Bool.Decides.{nat_tests}
use Rattle.std.proofs.lemmas.Iterator.Adapters.{position_from-zero}
use Rattle.std.specs.List.{position_from}
use Rattle.std.proofs.lemmas.List.{get_or-set_same, get_or-set_other, length-set}
use Rattle.std.proofs.lemmas.Option.{unwrap_or-slice_get}
use Rattle.cil_base.specs.Token.{Token}
use Rattle.md_schema.specs.Schema.{tables}
use Rattle.node_model.specs.KeyKinds.{is_root_table}
use Rattle.node_model.specs.Keys.{same_token}
use Rattle.node_model.specs.declared.key.Key.{Key}
use Rattle.node_model.specs.declared.value.Value.{Value}
use Rattle.write_plan.specs.GraphWalk.{graph_walk, rows_of_table, walk_tables, walked_value}
use Rattle.write_plan.specs.Planned.{NumbersAreOneToOne, OneToOne}
use Rattle.write_plan.specs.Written.{in_link_order, token_renumbered, rows_in, table_written, written_lists}
use Rattle.write_plan.proofs.DistinctLemmas.{order_any, order_distinct, order_length, rows_distinct, walked_distinct}

pub token_is : (a b : Token) → same_token a b ≡ true → a ≡ b
token_is a b e = grind arith

token_self : (a : Token) → same_token a a ≡ true
token_self a = grind arith

number_is : (n m : ℕ) → (n == m) ≡ true → n ≡ m
number_is n m e = grind (arith, nat_tests)

some_same : {A : Type 0} (x y : A) → Some x ≡ Some y → x ≡ y
some_same x y e = cc

-- places in a list

pub record StandsAt (t : Token) (start : ℕ) (xs : List Token) : Type 0 where
  pub place : ℕ
  pub below : place < length xs
  pub found : position_from (same_token t) start xs ≡ Some (start + place)
  pub item : slice_get xs place ≡ Some t

stands : (t : Token) (start : ℕ) (xs : List Token) → list_any (same_token t) xs ≡ true → StandsAt t start xs
stands t start [] e = absurd (cc)
stands t start (x ∷ xs) e = by (stands t (start + 1) xs) (same_token t x) refl e
  where
    by : (list_any (same_token t) xs ≡ true → StandsAt t (start + 1) xs) → (b : Bool) → same_token t x ≡ b → (b || list_any (same_token t) xs) ≡ true → StandsAt t start (x ∷ xs)
    by rest true is h = record {
      place = 0;
      below = omega arith;
      found = ap (λ b. cond b (Some start) (position_from (same_token t) (start + 1) xs)) is ∙ ap Some (omega arith);
      item = ap Some (sym (token_is t x is));
    }
    by rest false is h =
        let s = rest h in record {
          place = suc s.place;
          below = omega (arith, s.below);
          found = ap (λ b. cond b (Some start) (position_from (same_token t) (start + 1) xs)) is ∙ s.found ∙ ap Some (omega arith);
          item = s.item;
        }

before : (t : Token) (from to : ℕ) (xs : List Token) → to < from → position_from (same_token t) from xs ≡ Some to → ⊥
before t from to [] less h = absurd (cc)
before t from to (y ∷ ys) less h = step (before t (from + 1) to ys (omega (arith, less))) (same_token t y) h
  where
    step : (position_from (same_token t) (from + 1) ys ≡ Some to → ⊥) → (b : Bool) → cond b (Some from) (position_from (same_token t) (from + 1) ys) ≡ Some to → ⊥
    step rest true k = omega (arith, less, some_same from to k)
    step rest false k = rest k

-- the item at the place that was found
item_found : (t : Token) (start n : ℕ) (xs : List Token) → position_from (same_token t) start xs ≡ Some (start + n) → slice_get xs n ≡ Some t
item_found t start n [] e = absurd (cc)
item_found t start n (x ∷ xs) e = by (λ n h. item_found t (start + 1) n xs h) (same_token t x) refl n e
  where
    by : ((n : ℕ) → position_from (same_token t) (start + 1) xs ≡ Some (start + 1 + n) → slice_get xs n ≡ Some t)
        → (b : Bool) → same_token t x ≡ b → (n : ℕ) → cond b (Some start) (position_from (same_token t) (start + 1) xs) ≡ Some (start + n) → slice_get (x ∷ xs) n ≡ Some t
    by rest true is n h =
        let none : n ≡ 0 = omega (arith, some_same start (start + n) h) in
        ap (slice_get (x ∷ xs)) none ∙ ap Some (sym (token_is t x is))
    by rest false is zero h = absurd (before t (start + 1) start xs (omega arith) (h ∙ ap Some (omega arith)))
    by rest false is (suc n) h = rest n (h ∙ ap Some (omega arith))

apart_at : (t u : Token) (n : ℕ) (xs : List Token) → AllByRecursion (λ y. same_token t y ≡ false) xs → slice_get xs n ≡ Some u → same_token t u ≡ false
apart_at t u n [] a e = absurd (cc)
apart_at t u zero (x ∷ xs) a e = ap (same_token t) (sym (some_same x u e)) ∙ a.0
apart_at t u (suc n) (x ∷ xs) a e = apart_at t u n xs a.1 e

-- an item of a list without repeats is found where it stands
found_at : (t : Token) (start n : ℕ) (xs : List Token) → IsDistinct same_token xs → slice_get xs n ≡ Some t → position_from (same_token t) start xs ≡ Some (start + n)
unfolding IsDistinct
found_at t start n [] d e = absurd (cc)
found_at t start zero (x ∷ xs) d e =
    let is : same_token t x ≡ true = ap (λ y. same_token t y) (some_same x t e) ∙ token_self t in
    ap (λ b. cond b (Some start) (position_from (same_token t) (start + 1) xs)) is ∙ ap Some (omega arith)
found_at t start (suc n) (x ∷ xs) d e =
    let other : same_token t x ≡ false = turned t x ∙ apart_at x t n xs d.0 e in
    ap (λ b. cond b (Some start) (position_from (same_token t) (start + 1) xs)) other
    ∙ found_at t (start + 1) n xs d.1 e ∙ ap Some (omega arith)
  where
    turned : (a b : Token) → same_token a b ≡ same_token b a
    turned a b = grind (arith, nat_tests)

there : (xs : List Token) (n : ℕ) → n < length xs → (t : Token) × (slice_get xs n ≡ Some t) × (list_any (same_token t) xs ≡ true)
there [] n h = absurd (omega arith)
there (x ∷ xs) zero h = (x, refl, ap (λ b. b || list_any (same_token x) xs) (token_self x))
there (x ∷ xs) (suc n) h =
    let (t, at, any) = there xs n (omega (arith, h)) in
    (t, at, ap (λ b. same_token t x || b) any ∙ or_true (same_token t x))
  where
    or_true : (a : Bool) → (a || true) ≡ true
    or_true true = refl
    or_true false = refl

-- the rows of a table among others are of that table
of_table : (t : Token) (table : ℕ) (xs : List Token) → list_any (same_token t) (rows_of_table table xs) ≡ true → t.table ≡ table
of_table t table [] e = absurd (cc)
of_table t table (x ∷ xs) e = by (of_table t table xs) (x.table == table) refl (same_token t x) refl e
  where
    by : (list_any (same_token t) (rows_of_table table xs) ≡ true → t.table ≡ table) → (b : Bool) → (x.table == table) ≡ b → (c : Bool) → same_token t x ≡ c
        → list_any (same_token t) (cond b (x ∷ rows_of_table table xs) (rows_of_table table xs)) ≡ true → t.table ≡ table
    by rest true is true same h = ap (λ (u : Token). u.table) (token_is t x same) ∙ number_is x.table table is
    by rest true is false same h = rest (sym (ap (λ b. b || list_any (same_token t) (rows_of_table table xs)) same) ∙ h)
    by rest false is c same h = rest h

-- the list of a table, once it is written

abbrev Ordered : (Key → Option Value) → List Token → ℕ → List Token → Type 0
Ordered value all table rows = (lists : List (List Token)) × (rows ≡ in_link_order value lists table (rows_of_table table all))

rows-set_same : (lists : List (List Token)) (table : ℕ) (rows : List Token) → table < length lists → rows_in (set lists table rows) table ≡ rows
rows-set_same lists table rows h = unwrap_or-slice_get (set lists table rows) table [] ∙ get_or-set_same lists table rows [] h

rows-set_other : (lists : List (List Token)) (table other : ℕ) (rows : List Token) → (other ≢ table) → rows_in (set lists table rows) other ≡ rows_in lists other
rows-set_other lists table other rows h =
    unwrap_or-slice_get (set lists table rows) other [] ∙ get_or-set_other lists table other rows [] h ∙ sym (unwrap_or-slice_get lists other [])

module _ (value : Key → Option Value) (all : List Token) (table : ℕ) where
  ordered_stays : (ts : List ℕ) (lists : List (List Token)) → length lists ≡ 256 → table < 256 → Ordered value all table (rows_in lists table)
      → Ordered value all table (rows_in (fold (table_written value all) lists ts) table)
  ordered_stays [] lists long small o = o
  ordered_stays (t ∷ ts) lists long small o =
      let ordered = in_link_order value lists t (rows_of_table t all) in
      let next = table_written value all lists t in
      let long_next : length next ≡ 256 = length-set lists t ordered ∙ long in
      ordered_stays ts next long_next small (by (table == t) refl)
    where
      by : (b : Bool) → (table == t) ≡ b → Ordered value all table (rows_in (table_written value all lists t) table)
      by true is =
          let same = number_is table t is in
          subst (λ n. Ordered value all n (rows_in (table_written value all lists t) n)) (sym same)
          (lists, rows-set_same lists t (in_link_order value lists t (rows_of_table t all)) (omega (arith, long, small, same)))
      by false is =
          let other : table ≢ t = λ e. absurd (grind (arith, nat_tests)) in
          (o.0, rows-set_other lists t table (in_link_order value lists t (rows_of_table t all)) other ∙ o.1)

  ordered_made : (ts : List ℕ) (lists : List (List Token)) → length lists ≡ 256 → table < 256 → list_any (λ n. n == table) ts ≡ true
      → Ordered value all table (rows_in (fold (table_written value all) lists ts) table)
  ordered_made [] lists long small any = absurd (cc)
  ordered_made (t ∷ ts) lists long small any = by (λ more. ordered_made ts (table_written value all lists t) (length-set lists t (in_link_order value lists t (rows_of_table t all)) ∙ long) small more) (t == table) refl any
    where
      long_next : length (table_written value all lists t) ≡ 256
      long_next = length-set lists t (in_link_order value lists t (rows_of_table t all)) ∙ long

      by : (list_any (λ n. n == table) ts ≡ true → Ordered value all table (rows_in (fold (table_written value all) (table_written value all lists t) ts) table))
          → (b : Bool) → (t == table) ≡ b → (b || list_any (λ n. n == table) ts) ≡ true → Ordered value all table (rows_in (fold (table_written value all) lists (t ∷ ts)) table)
      by rest true is h =
          let same = number_is t table is in
          ordered_stays ts (table_written value all lists t) long_next small
          (subst (λ n. Ordered value all n (rows_in (table_written value all lists t) n)) same
          (lists, rows-set_same lists t (in_link_order value lists t (rows_of_table t all)) (omega (arith, long, small, same))))
      by rest false is h = rest h

small_among : (ts : List ℕ) (table : ℕ) → AllByRecursion (λ n. n < 64) ts → list_any (λ n. n == table) ts ≡ true → table < 64
small_among [] table all e = absurd (cc)
small_among (t ∷ ts) table all e = by (small_among ts table all.1) (t == table) refl e
  where
    by : (list_any (λ n. n == table) ts ≡ true → table < 64) → (b : Bool) → (t == table) ≡ b → (b || list_any (λ n. n == table) ts) ≡ true → table < 64
    by rest true is h = omega (arith, all.0, number_is t table is)
    by rest false is h = rest h

all_small : (ts : List ℕ) → list_all (λ n. nat_lt n 64) ts ≡ true → AllByRecursion (λ n. n < 64) ts
all_small [] e = tt
all_small (t ∷ ts) e = by (all_small ts) (nat_lt t 64) refl e
  where
    by : (list_all (λ n. nat_lt n 64) ts ≡ true → AllByRecursion (λ n. n < 64) ts) → (b : Bool) → nat_lt t 64 ≡ b → (b && list_all (λ n. nat_lt n 64) ts) ≡ true → AllByRecursion (λ n. n < 64) (t ∷ ts)
    by rest true is h = (grind (arith, nat_tests), rest h)
    by rest false is h = absurd (cc)

walk_numbers : list_all (λ n. nat_lt n 64) walk_tables ≡ true
unfolding walk_tables is_root_table tables
walk_numbers = refl

pub walk_small : AllByRecursion (λ n. n < 64) walk_tables
walk_small = all_small walk_tables walk_numbers

pub small_item : (ts : List ℕ) (i t : ℕ) → AllByRecursion (λ n. n < 64) ts → i < length ts → t ≡ get_or ts i t → t < 64
small_item [] i t all h is = absurd (omega arith)
small_item (x ∷ ts) zero t all h is = omega (arith, all.0, is)
small_item (x ∷ ts) (suc i) t all h is = small_item ts i t all.1 (omega (arith, h)) is

-- a list of a table's kept rows in some order, without repeats

new_place : (lists : List (List Token)) (t new : Token) → token_renumbered lists t ≡ Some new
    → (n : ℕ) × (position_from (same_token t) 0 (rows_in lists t.table) ≡ Some n) × (new ≡ record { table = t.table; rid = suc n })
new_place lists t new e = by (position (same_token t) (rows_in lists t.table)) (position_from-zero (same_token t) (rows_in lists t.table)) e
  where
    by : (o : Option ℕ) → o ≡ position_from (same_token t) 0 (rows_in lists t.table) → option_map (λ (place : ℕ). record { table = t.table; rid = suc place }) o ≡ Some new
        → (n : ℕ) × (position_from (same_token t) 0 (rows_in lists t.table) ≡ Some n) × (new ≡ record { table = t.table; rid = suc n })
    by None is h = absurd (cc)
    by (Some n) is h = (n, sym is, sym (some_same _ new h))

placed : (lists : List (List Token)) (t : Token) (n : ℕ) → position_from (same_token t) 0 (rows_in lists t.table) ≡ Some n → token_renumbered lists t ≡ Some (record { table = t.table; rid = suc n })
placed lists t n e = ap (option_map (λ (place : ℕ). record { table = t.table; rid = suc place })) (position_from-zero (same_token t) (rows_in lists t.table) ∙ e)

one_to_one : (value : Key → Option Value) (lists : List (List Token)) (all : List Token) (table : ℕ) → IsDistinct same_token all → Ordered value all table (rows_in lists table) → OneToOne lists (rows_of_table table all) table
one_to_one value lists all table distinct (done, is) = record { each = each; apart = apart; onto = onto }
  where
    kept : List Token
    kept = rows_of_table table all

    each : (t : Token) → list_any (same_token t) (rows_of_table table all) ≡ true
        → (n : ℕ) × (n < length (rows_of_table table all)) × (token_renumbered lists t ≡ Some (record { table = table; rid = suc n }))
    each t e =
        let home : t.table ≡ table = of_table t table all e in
        let any : list_any (same_token t) (rows_in lists table) ≡ true = ap (list_any (same_token t)) is ∙ order_any value done table (rows_of_table table all) (same_token t) ∙ e in
        let s = stands t 0 (rows_in lists table) any in
        let long : length (rows_in lists table) ≡ length (rows_of_table table all) = ap length is ∙ order_length value done table (rows_of_table table all) in (
          s.place,
          omega (arith, s.below, long),
          placed lists t s.place (ap (λ n. position_from (same_token t) 0 (rows_in lists n)) home ∙ s.found ∙ ap Some (omega arith))
              ∙ ap (λ n. Some (record { table = n; rid = suc s.place })) home,
        )

    apart : (t u new : Token) → token_renumbered lists t ≡ Some new → token_renumbered lists u ≡ Some new → t ≡ u
    apart t u new e f =
        let (n, at, is_new) = new_place lists t new e in
        let (m, at_u, is_new_u) = new_place lists u new f in
        let both = sym is_new ∙ is_new_u in
        let home : t.table ≡ u.table = ap (λ (x : Token). x.table) both in
        let same : suc n ≡ suc m = ap (λ (x : Token). x.rid) both in
        let here = item_found t 0 n (rows_in lists t.table) (at ∙ ap Some (omega arith)) in
        let here_u = item_found u 0 m (rows_in lists u.table) (at_u ∙ ap Some (omega arith)) in
        some_same t u (sym here ∙ ap (λ x. slice_get (rows_in lists x) n) home ∙ ap (slice_get (rows_in lists u.table)) (omega (arith, same)) ∙ here_u)

    onto : (n : ℕ) → n < length (rows_of_table table all)
        → (t : Token) × (list_any (same_token t) (rows_of_table table all) ≡ true) × (token_renumbered lists t ≡ Some (record { table = table; rid = suc n }))
    onto n h =
        let long : length (rows_in lists table) ≡ length (rows_of_table table all) = ap length is ∙ order_length value done table (rows_of_table table all) in
        let (t, at, any) = there (rows_in lists table) n (omega (arith, h, long)) in
        let known : list_any (same_token t) (rows_of_table table all) ≡ true = sym (ap (list_any (same_token t)) is ∙ order_any value done table (rows_of_table table all) (same_token t)) ∙ any in
        let home : t.table ≡ table = of_table t table all known in
        let once : IsDistinct same_token (rows_in lists table) = subst (IsDistinct same_token) (sym is) (order_distinct value done table (rows_of_table table all) (rows_distinct table all distinct)) in (
          t,
          known,
          placed lists t n (ap (λ x. position_from (same_token t) 0 (rows_in lists x)) home ∙ found_at t 0 n (rows_in lists table) once at ∙ ap Some (omega arith))
              ∙ ap (λ x. Some (record { table = x; rid = suc n })) home,
        )

pub numbers_one_to_one : NumbersAreOneToOne
unfolding written_lists
numbers_one_to_one see table any =
    let all = (graph_walk see).all in
    let small = small_among walk_tables table walk_small any in
    one_to_one (walked_value see) (written_lists (walked_value see) all) all table (walked_distinct see)
    (ordered_made (walked_value see) all table walk_tables (replicate 256 []) refl (omega (arith, small)) any)

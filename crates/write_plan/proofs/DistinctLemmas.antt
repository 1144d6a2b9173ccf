-- A walk keeps each row once, and so do filters and sorts of what it keeps.
use Rattle.std.proofs.Common.{◌≡◌, ◌∙◌, ap, refl, ℕ, zero, suc, ◌<◌, Bool, true, false, cond, leb, List, [], ◌∷◌, ◌++◌, length, take, get_or, Option, Some, None, arith, filter}
use Rattle.std.specs.Prelude.{◌||◌, ◌==◌, fold}
use Rattle.std.specs.List.{AllByRecursion, IsDistinct, list_any}
use Rattle.std.specs.Option.{option_map_or}
use Rattle.std.proofs.lemmas.Bool.Decides.{nat_tests}
use Rattle.cil_base.specs.Token.{Token}
use Rattle.node_model.specs.Keys.{same_token}
use Rattle.node_model.specs.declared.key.Key.{Key}
use Rattle.node_model.specs.declared.key.Key.TheVariants.{Row}
use Rattle.node_model.specs.declared.look.Look.{Look}
use Rattle.node_model.specs.declared.value.Value.{Value}
use Rattle.write_plan.specs.GraphWalk.{Met, Walked, graph_walk, member_met, members_seen, rows_of_table, table_walked, walk_start, walk_tables}
use Rattle.write_plan.specs.Seen.{is_seen}
use Rattle.write_plan.specs.Written.{in_link_order, insert_by, link_number, sort_link, sorted_by}

token_turned : (a b : Token) → same_token a b ≡ same_token b a
token_turned a b = grind (arith, nat_tests)

abbrev pub Apart : Token → List Token → Type 0
Apart t xs = AllByRecursion (λ y. same_token t y ≡ false) xs

apart_more : (t x : Token) (xs : List Token) → Apart t xs → same_token t x ≡ false → Apart t (xs ++ x ∷ [])
apart_more t x [] a e = (e, tt)
apart_more t x (y ∷ ys) a e = (a.0, apart_more t x ys a.1 e)

-- an item that is none of the list goes last
distinct_more : (xs : List Token) (t : Token) → IsDistinct same_token xs → list_any (same_token t) xs ≡ false → IsDistinct same_token (xs ++ t ∷ [])
unfolding IsDistinct
distinct_more [] t d e = (tt, tt)
distinct_more (x ∷ xs) t d e = by (distinct_more xs t d.1) (same_token t x) refl e
  where
    by : (list_any (same_token t) xs ≡ false → IsDistinct same_token (xs ++ t ∷ [])) → (b : Bool) → same_token t x ≡ b → (b || list_any (same_token t) xs) ≡ false → IsDistinct same_token (x ∷ (xs ++ t ∷ []))
    by rest true is h = absurd (cc)
    by rest false is h = (apart_more x t xs d.0 (token_turned x t ∙ is), rest h)

met_distinct : (see : Key → Look) (table : ℕ) (m : Met) (t : Token) → IsDistinct same_token m.all → IsDistinct same_token (member_met see table m t).all
met_distinct see table m t d = by (t.table == table) (is_seen (see (Row t))) (list_any (same_token t) m.all) refl
  where
    by : (same there known : Bool) → list_any (same_token t) m.all ≡ known
        → IsDistinct same_token (cond same (cond there (cond known (record { all = m.all; rows = m.rows; again = m.again ++ t ∷ [] }) (record { all = m.all ++ t ∷ []; rows = m.rows ++ t ∷ []; again = m.again })) m) m).all
    by true true true e = d
    by true true false e = distinct_more m.all t d e
    by true false known e = d
    by false there known e = d

members_distinct : (see : Key → Look) (table : ℕ) (ts : List Token) (m : Met) → IsDistinct same_token m.all → IsDistinct same_token (fold (member_met see table) m ts).all
members_distinct see table [] m d = d
members_distinct see table (t ∷ ts) m d = members_distinct see table ts (member_met see table m t) (met_distinct see table m t d)

tables_distinct : (see : Key → Look) (tables : List ℕ) (w : Walked) → IsDistinct same_token w.all → IsDistinct same_token (fold (table_walked see) w tables).all
tables_distinct see [] w d = d
tables_distinct see (table ∷ tables) w d =
    tables_distinct see tables (table_walked see w table) (members_distinct see table (members_seen see w.all table) (record { all = w.all; rows = []; again = w.again }) d)

pub walked_distinct : (see : Key → Look) → IsDistinct same_token (graph_walk see).all
unfolding graph_walk IsDistinct
walked_distinct see = tables_distinct see walk_tables walk_start tt

-- what stays of such a list

apart_filter : (p : Token → Bool) (t : Token) (xs : List Token) → Apart t xs → Apart t (filter p xs)
apart_filter p t [] a = tt
apart_filter p t (x ∷ xs) a = elim (p x) as (λ b. Apart t (cond b (x ∷ filter p xs) (filter p xs))) [
  | true ↦ (a.0, apart_filter p t xs a.1)
  | false ↦ apart_filter p t xs a.1
]

distinct_filter : (p : Token → Bool) (xs : List Token) → IsDistinct same_token xs → IsDistinct same_token (filter p xs)
unfolding IsDistinct
distinct_filter p [] d = tt
distinct_filter p (x ∷ xs) d = elim (p x) as (λ b. IsDistinct same_token (cond b (x ∷ filter p xs) (filter p xs))) [
  | true ↦ (apart_filter p x xs d.0, distinct_filter p xs d.1)
  | false ↦ distinct_filter p xs d.1
]

pub rows_distinct : (table : ℕ) (rows : List Token) → IsDistinct same_token rows → IsDistinct same_token (rows_of_table table rows)
rows_distinct table rows d = distinct_filter (λ t. t.table == table) rows d

module _ (n : Token → ℕ) where
  apart_insert : (t x : Token) (ys : List Token) → same_token t x ≡ false → Apart t ys → Apart t (insert_by n x ys)
  apart_insert t x [] e a = (e, tt)
  apart_insert t x (y ∷ ys) e a = elim (leb (n x) (n y)) as (λ b. Apart t (cond b (x ∷ (y ∷ ys)) (y ∷ insert_by n x ys))) [
    | true ↦ (e, a)
    | false ↦ (a.0, apart_insert t x ys e a.1)
  ]

  distinct_insert : (x : Token) (ys : List Token) → Apart x ys → IsDistinct same_token ys → IsDistinct same_token (insert_by n x ys)
  unfolding IsDistinct
  distinct_insert x [] a d = (tt, tt)
  distinct_insert x (y ∷ ys) a d = elim (leb (n x) (n y)) as (λ b. IsDistinct same_token (cond b (x ∷ (y ∷ ys)) (y ∷ insert_by n x ys))) [
    | true ↦ (a, d)
    | false ↦ (apart_insert y x ys (token_turned y x ∙ a.0) d.0, distinct_insert x ys a.1 d.1)
  ]

  apart_sorted : (t : Token) (xs : List Token) → Apart t xs → Apart t (sorted_by n xs)
  apart_sorted t [] a = tt
  apart_sorted t (x ∷ xs) a = apart_insert t x (sorted_by n xs) a.0 (apart_sorted t xs a.1)

  distinct_sorted : (xs : List Token) → IsDistinct same_token xs → IsDistinct same_token (sorted_by n xs)
  unfolding IsDistinct
  distinct_sorted [] d = tt
  distinct_sorted (x ∷ xs) d = distinct_insert x (sorted_by n xs) (apart_sorted x xs d.0) (distinct_sorted xs d.1)

  any_insert : (p : Token → Bool) (x : Token) (ys : List Token) → list_any p (insert_by n x ys) ≡ (p x || list_any p ys)
  any_insert p x [] = refl
  any_insert p x (y ∷ ys) = elim (leb (n x) (n y)) as (λ b. list_any p (cond b (x ∷ (y ∷ ys)) (y ∷ insert_by n x ys)) ≡ (p x || (p y || list_any p ys))) [
    | true ↦ refl
    | false ↦ ap (λ b. p y || b) (any_insert p x ys) ∙ turned (p y) (p x) (list_any p ys)
  ]
    where
      turned : (a b c : Bool) → (a || (b || c)) ≡ (b || (a || c))
      turned true true c = refl
      turned true false c = refl
      turned false b c = refl

  any_sorted : (p : Token → Bool) (xs : List Token) → list_any p (sorted_by n xs) ≡ list_any p xs
  any_sorted p [] = refl
  any_sorted p (x ∷ xs) = any_insert p x (sorted_by n xs) ∙ ap (λ b. p x || b) (any_sorted p xs)

  length_insert : (x : Token) (ys : List Token) → length (insert_by n x ys) ≡ suc (length ys)
  length_insert x [] = refl
  length_insert x (y ∷ ys) = elim (leb (n x) (n y)) as (λ b. length (cond b (x ∷ (y ∷ ys)) (y ∷ insert_by n x ys)) ≡ suc (suc (length ys))) [
    | true ↦ refl
    | false ↦ ap suc (length_insert x ys)
  ]

  length_sorted : (xs : List Token) → length (sorted_by n xs) ≡ length xs
  length_sorted [] = refl
  length_sorted (x ∷ xs) = length_insert x (sorted_by n xs) ∙ ap suc (length_sorted xs)

-- the rows of a table in the order in which they are written

module _ (value : Key → Option Value) (lists : List (List Token)) (table : ℕ) (rows : List Token) where
  pub order_distinct : IsDistinct same_token rows → IsDistinct same_token (in_link_order value lists table rows)
  order_distinct d = elim (sort_link table) as (λ o. IsDistinct same_token (option_map_or (λ link. sorted_by (link_number value lists link) rows) o rows)) [
    | Some link ↦ distinct_sorted (link_number value lists link) rows d
    | None ↦ d
  ]

  pub order_any : (p : Token → Bool) → list_any p (in_link_order value lists table rows) ≡ list_any p rows
  order_any p = elim (sort_link table) as (λ o. list_any p (option_map_or (λ link. sorted_by (link_number value lists link) rows) o rows) ≡ list_any p rows) [
    | Some link ↦ any_sorted (link_number value lists link) p rows
    | None ↦ refl
  ]

  pub order_length : length (in_link_order value lists table rows) ≡ length rows
  order_length = elim (sort_link table) as (λ o. length (option_map_or (λ link. sorted_by (link_number value lists link) rows) o rows) ≡ length rows) [
    | Some link ↦ length_sorted (link_number value lists link) rows
    | None ↦ refl
  ]

-- an item stands once

apart_from : (t x : Token) (i : ℕ) (xs : List Token) → AllByRecursion (λ y. same_token x y ≡ false) xs → i < length xs → t ≡ get_or xs i t → same_token t x ≡ false
apart_from t x i [] a h is = absurd (omega arith)
apart_from t x zero (y ∷ ys) a h is = token_turned t x ∙ ap (same_token x) is ∙ a.0
apart_from t x (suc i) (y ∷ ys) a h is = apart_from t x i ys a.1 (omega (arith, h)) is

pub fresh_at : (xs : List Token) (i : ℕ) (t : Token) → IsDistinct same_token xs → i < length xs → t ≡ get_or xs i t → list_any (same_token t) (take i xs) ≡ false
unfolding IsDistinct
fresh_at [] i t d h is = absurd (omega arith)
fresh_at (x ∷ xs) zero t d h is = refl
fresh_at (x ∷ xs) (suc i) t d h is =
    ap (λ b. b || list_any (same_token t) (take i xs)) (apart_from t x i xs d.0 (omega (arith, h)) is) ∙ fresh_at xs i t d.1 (omega (arith, h)) is

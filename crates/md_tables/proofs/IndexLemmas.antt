-- Rows by the numbers of a link's column: filters, sorts and slices of an index's lists.
use Rattle.std.proofs.Common.{◌≡◌, ℕ, zero, suc, ◌+◌, ◌-◌, ◌<◌, ◌≤◌, ◌==◌, ◌&&◌, ◌⊎◌, inl, inr, not, Bool, true, false, cond, List, [], ◌∷◌, ◌++◌, map, length, get_or, slice_get, take, drop, Some, ltb, leb, refl, sym, ap, ◌∙◌, arith}
use Rattle.std.specs.List.{filter, range_with_len}
use Rattle.std.specs.List.Sorted.{IsNonDecreasing, IsNonDecreasingBy, IsPartitionPoint, IsStableByKey}
use Rattle.std.specs.Option.{option_map_or, unwrap_or}
use Rattle.std.specs.Ordering.{is_lt, nat_cmp}
use Rattle.std.proofs.lemmas.Bool.{cases_lt, eq-eqb, ltb-false, ltb-true, leb-false, leb-true, ne_eqb}
use Rattle.std.proofs.lemmas.Bool.Decides.{nat_tests}
use Rattle.std.proofs.lemmas.List.FromFn.{map-range_with_len_more}
use Rattle.std.proofs.lemmas.Option.{slice_get_read}
use Rattle.std.proofs.lemmas.List.{get_or-map, length-map, take_all}
use Rattle.cil_base.specs.Token.{Token}
use Rattle.md_schema.proofs.LinkLemmas.{link_stands}
use Rattle.md_schema.specs.Cell.{cell_of}
use Rattle.md_schema.specs.Link.{all_links, link_column_of, link_kind_of, link_table_of}
use Rattle.md_schema.specs.LinkedRows.{is_linked, linked_of, rows_to}
use Rattle.md_schema.specs.Reference.{is_named}
use Rattle.md_schema.specs.Runs.{table_row_count}
use Rattle.md_schema.specs.declared.column.ColumnKind.{ColumnKind}
use Rattle.md_schema.specs.declared.link.Link.{Link}
use Rattle.md_schema.specs.declared.link.Link.TheVariants.{InterfaceImpl, Constant, CustomAttribute, FieldMarshal, DeclSecurity, ClassLayout, FieldLayout, EventMap, PropertyMap, MethodSemantics, MethodImpl, ImplMap, FieldRVA, NestedClass, Nested, GenericParam, GenericParamConstraint}
use Rattle.md_tables.proofs.NamedLemmas.{named_once}
use Rattle.md_tables.specs.LinkIndex.{IndexesLinks, ListsLink, link_place_of, link_rows, list_in, rids_at, rids_in, rows_beside}
use Rattle.md_tables.specs.declared.link_row.LinkRow.{LinkRow}

filter_same : {X : Type 0} (p q : X → Bool) → ((x : X) → p x ≡ q x) → (xs : List X) → filter p xs ≡ filter q xs
filter_same p q same [] = refl
filter_same p q same (x ∷ xs) =
    ap (λ b. cond b (x ∷ filter p xs) (filter p xs)) (same x) ∙ ap (λ rest. cond (q x) (x ∷ rest) rest) (filter_same p q same xs)

pub filter_none : {X : Type 0} (p : X → Bool) → ((x : X) → p x ≡ false) → (xs : List X) → filter p xs ≡ []
filter_none p none [] = refl
filter_none p none (x ∷ xs) = ap (λ b. cond b (x ∷ filter p xs) (filter p xs)) (none x) ∙ filter_none p none xs

filter-map : {X Y : Type 0} (f : X → Y) (p : Y → Bool) (xs : List X) → filter p (map f xs) ≡ map f (filter (λ x. p (f x)) xs)
filter-map f p [] = refl
filter-map f p (x ∷ xs) =
    elim (p (f x)) as (λ b. cond b (f x ∷ filter p (map f xs)) (filter p (map f xs)) ≡ map f (cond b (x ∷ filter (λ x. p (f x)) xs) (filter (λ x. p (f x)) xs))) [
      | true ↦ ap (λ rest. f x ∷ rest) (filter-map f p xs)
      | false ↦ filter-map f p xs
    ]

map-same : {X Y Z : Type 0} (f : X → Y) (g : Y → Z) (h : X → Z) → ((x : X) → g (f x) ≡ h x) → (xs : List X) → map g (map f xs) ≡ map h xs
map-same f g h same [] = refl
map-same f g h same (x ∷ xs) = ap (λ y. y ∷ map g (map f xs)) (same x) ∙ ap (λ rest. h x ∷ rest) (map-same f g h same xs)

abbrev rid_of : LinkRow → ℕ
rid_of row = row.rid

-- a row of the link's table
abbrev pub link_row : List ℕ → Link → ℕ → LinkRow
link_row stream link rid = record { number = cell_of stream (link_table_of link) rid (link_column_of link); rid = rid }

-- a stable sort keeps the rows of each number, in their order

tied : (a b : ℕ) → (not (is_lt (nat_cmp a b)) && not (is_lt (nat_cmp b a))) ≡ (b == a)
tied a b = grind (arith, nat_tests)

pub sort-keeps : (old new : List LinkRow) → IsStableByKey (λ (row : LinkRow). row.number) nat_cmp old new → (number : ℕ) → rids_at new number ≡ rids_at old number
sort-keeps old new stable number =
    let x : LinkRow = record { number = number; rid = 0 } in
    let p : LinkRow → Bool = λ y. not (is_lt (nat_cmp number y.number)) && not (is_lt (nat_cmp y.number number)) in
    let q : LinkRow → Bool = λ y. y.number == number in
    let same : (y : LinkRow) → p y ≡ q y = λ y. tied number y.number in
    ap (map rid_of) (sym (filter_same p q same new) ∙ stable x ∙ filter_same p q same old)

pub beside : (rows : List LinkRow) → rows_beside (map (λ row. row.number) rows) (map rid_of rows) ≡ rows
beside [] = refl
beside (row ∷ rows) = ap (λ rest. row ∷ rest) (beside rows)

-- the rows of one number lie side by side

pub points_rise : (numbers : List ℕ) (number start end : ℕ) → start ≤ length numbers → IsPartitionPoint (λ n. ltb n number ≡ true) (λ n. ltb n number ≡ false) numbers start
    → IsPartitionPoint (λ n. leb n number ≡ true) (λ n. leb n number ≡ false) numbers end → start ≤ end
points_rise numbers number start end within low high =
    elim (cases_lt end start) [
      | inl less ↦
          let below = ltb-true (get_or numbers end 0) number (low.0 end 0 (omega arith) less) in
          let above = leb-false (get_or numbers end 0) number (high.1 end 0 (omega arith) (omega arith)) in
          absurd (omega (arith, below, above))
      | inr rises ↦ rises
    ]

one_row : (n r number : ℕ) (ns rs : List ℕ) → (n ≡ number → ⊥) → rids_at (rows_beside (n ∷ ns) (r ∷ rs)) number ≡ rids_at (rows_beside ns rs) number
one_row n r number ns rs other =
    ap (λ b. map rid_of (cond b (record { number = n; rid = r } ∷ filter (λ row. row.number == number) (rows_beside ns rs)) (filter (λ row. row.number == number) (rows_beside ns rs)))) (ne_eqb n number other)

side_by_side : (numbers rids : List ℕ) (number start end : ℕ) → length rids ≡ length numbers → start ≤ end → end ≤ length numbers
    → ((k : ℕ) → k < start → get_or numbers k 0 ≡ number → ⊥)
    → ((k : ℕ) → start ≤ k → k < end → get_or numbers k 0 ≡ number)
    → ((k : ℕ) → end ≤ k → k < length numbers → get_or numbers k 0 ≡ number → ⊥)
    → rids_at (rows_beside numbers rids) number ≡ take (end - start) (drop start rids)
side_by_side [] [] number start end long rises within below inside above =
    let none : start ≡ 0 = omega arith in
    let last : end ≡ 0 = omega arith in
    rw (none, last) refl
side_by_side [] (r ∷ rs) number start end long rises within below inside above = absurd (omega arith)
side_by_side (n ∷ ns) [] number start end long rises within below inside above = absurd (omega arith)
side_by_side (n ∷ ns) (r ∷ rs) number zero zero long rises within below inside above =
    one_row n r number ns rs (above 0 (omega arith) (omega arith))
    ∙ side_by_side ns rs number 0 0 (omega arith) (omega arith) (omega arith) (λ k h. absurd (omega arith)) (λ k l h. absurd (omega arith)) (λ k l h. above (suc k) (omega arith) (omega arith))
side_by_side (n ∷ ns) (r ∷ rs) number zero (suc end) long rises within below inside above =
    let rest = side_by_side ns rs number 0 end (omega arith) (omega arith) (omega arith) (λ k h. absurd (omega arith)) (λ k l h. inside (suc k) (omega arith) (omega arith)) (λ k l h. above (suc k) (omega arith) (omega arith)) in
    let less : suc end - 0 ≡ suc (end - 0) = omega arith in
    ap (λ b. map rid_of (cond b (record { number = n; rid = r } ∷ filter (λ row. row.number == number) (rows_beside ns rs)) (filter (λ row. row.number == number) (rows_beside ns rs)))) (eq-eqb n number (inside 0 (omega arith) (omega arith)))
    ∙ ap (λ found. r ∷ found) rest ∙ ap (λ m. take m (r ∷ rs)) (sym less)
side_by_side (n ∷ ns) (r ∷ rs) number (suc start) zero long rises within below inside above = absurd (omega arith)
side_by_side (n ∷ ns) (r ∷ rs) number (suc start) (suc end) long rises within below inside above =
    let rest = side_by_side ns rs number start end (omega arith) (omega arith) (omega arith) (λ k h. below (suc k) (omega arith)) (λ k l h. inside (suc k) (omega arith) (omega arith)) (λ k l h. above (suc k) (omega arith) (omega arith)) in
    let less : end - start ≡ suc end - suc start = omega arith in
    one_row n r number ns rs (below 0 (omega arith)) ∙ rest ∙ ap (λ m. take m (drop start rs)) less

pub slice_at : (numbers rids : List ℕ) (number start end : ℕ) → length rids ≡ length numbers → start ≤ length numbers → end ≤ length numbers
    → IsPartitionPoint (λ n. ltb n number ≡ true) (λ n. ltb n number ≡ false) numbers start
    → IsPartitionPoint (λ n. leb n number ≡ true) (λ n. leb n number ≡ false) numbers end
    → rids_at (rows_beside numbers rids) number ≡ take (end - start) (drop start rids)
slice_at numbers rids number start end long first last low high =
    side_by_side numbers rids number start end long (points_rise numbers number start end first low high) last
    (λ k h e. let below = ltb-true (get_or numbers k 0) number (low.0 k 0 (omega arith) h) in omega (arith, below, e))
    (λ k l h. let from = ltb-false (get_or numbers k 0) number (low.1 k 0 l (omega arith)) in let to = leb-true (get_or numbers k 0) number (high.0 k 0 (omega arith) h) in omega (arith, from, to))
    (λ k l h e. let above = leb-false (get_or numbers k 0) number (high.1 k 0 l h) in omega (arith, above, e))

-- lists that agree at each number agree at the number of a token

pub at_number : (kind : ColumnKind) (token : Token) (number : ℕ) → ((n : ℕ) → is_named kind n token ≡ (n == number)) → (rows : List LinkRow)
    → map rid_of (filter (λ row. is_named kind row.number token) rows) ≡ rids_at rows number
at_number kind token number once rows = ap (map rid_of) (filter_same (λ row. is_named kind row.number token) (λ row. row.number == number) (λ row. once row.number) rows)

first_named : (p : LinkRow → Bool) (rows : List LinkRow) → (filter p rows ≡ []) ⊎ ((row : LinkRow) × (p row ≡ true))
first_named p [] = inl refl
first_named p (row ∷ rows) =
    elim (p row) as (λ b. p row ≡ b → (cond b (row ∷ filter p rows) (filter p rows) ≡ []) ⊎ ((row : LinkRow) × (p row ≡ true))) [
      | true ↦ λ t. inr (row, t)
      | false ↦ λ _. first_named p rows
    ] refl

agree : (kind : ColumnKind) (token : Token) (xs ys : List LinkRow) → ((number : ℕ) → rids_at xs number ≡ rids_at ys number)
    → map rid_of (filter (λ row. is_named kind row.number token) xs) ≡ map rid_of (filter (λ row. is_named kind row.number token) ys)
agree kind token xs ys same =
    let p : LinkRow → Bool = λ row. is_named kind row.number token in
    elim (first_named p xs) [
      | inr (row, t) ↦ by_number row.number t
      | inl none ↦ elim (first_named p ys) [
        | inr (row, t) ↦ by_number row.number t
        | inl none' ↦ ap (map rid_of) (none ∙ sym none')
      ]
    ]
  where
    by_number : (number : ℕ) → is_named kind number token ≡ true → map rid_of (filter (λ row. is_named kind row.number token) xs) ≡ map rid_of (filter (λ row. is_named kind row.number token) ys)
    by_number number t =
        let once = named_once kind number token t in
        at_number kind token number once xs ∙ same number ∙ sym (at_number kind token number once ys)

-- the rows of the table that are linked

linked_rows : (stream : List ℕ) (token : Token) (link : Link) (kind : ColumnKind) → link_kind_of link ≡ Some kind
    → map rid_of (filter (λ row. is_named kind row.number token) (link_rows stream link)) ≡ map (λ (row : Token). row.rid) (linked_of stream token link)
unfolding link_rows linked_of rows_to is_linked
linked_rows stream token link kind is =
    let table = link_table_of link in
    let range = range_with_len 1 (table_row_count stream table) in
    let number : ℕ → ℕ = λ rid. cell_of stream table rid (link_column_of link) in
    let as_row : ℕ → LinkRow = λ rid. record { number = number rid; rid = rid } in
    let as_token : ℕ → Token = λ rid. record { table = table; rid = rid } in
    let named : ℕ → Bool = λ rid. is_named kind (number rid) token in
    let linked : Token → Bool = λ row. option_map_or (λ kind. is_named kind (cell_of stream row.table row.rid (link_column_of link)) token) (link_kind_of link) false in
    let same : (rid : ℕ) → linked (as_token rid) ≡ named rid = λ rid. ap (λ o. option_map_or (λ kind. is_named kind (number rid) token) o false) is in
    ap (map rid_of) (filter-map as_row (λ row. is_named kind row.number token) range)
    ∙ map-same as_row rid_of (λ rid. rid) (λ rid. refl) (filter named range)
    ∙ ap (map (λ (rid : ℕ). rid)) (sym (filter_same (λ rid. linked (as_token rid)) named same range))
    ∙ sym (map-same as_token (λ (row : Token). row.rid) (λ rid. rid) (λ rid. refl) (filter (λ rid. linked (as_token rid)) range))
    ∙ sym (ap (map (λ (row : Token). row.rid)) (filter-map as_token linked range))

pub rids_in-kind : (index : List (List LinkRow)) (token : Token) (link : Link) (kind : ColumnKind) → link_kind_of link ≡ Some kind
    → rids_in index token link ≡ map rid_of (filter (λ row. is_named kind row.number token) (list_in index link))
unfolding rids_in
rids_in-kind index token link kind is = ap (λ o. option_map_or (λ kind. map rid_of (filter (λ row. is_named kind row.number token) (list_in index link))) o []) is

pub indexes : (stream : List ℕ) (index : List (List LinkRow)) → ((link : Link) → ListsLink stream link (list_in index link)) → IndexesLinks stream index
indexes stream index lists token link =
    let stands = link_stands link in
    rids_in-kind index token link stands.0 stands.1
    ∙ agree stands.0 token (list_in index link) (link_rows stream link) (lists link)
    ∙ linked_rows stream token link stands.0 stands.1

-- each link stands at its place
pub placed : (link : Link) → slice_get all_links (link_place_of link) ≡ Some link
placed InterfaceImpl = refl
placed Constant = refl
placed CustomAttribute = refl
placed FieldMarshal = refl
placed DeclSecurity = refl
placed ClassLayout = refl
placed FieldLayout = refl
placed EventMap = refl
placed PropertyMap = refl
placed MethodSemantics = refl
placed MethodImpl = refl
placed ImplMap = refl
placed FieldRVA = refl
placed NestedClass = refl
placed Nested = refl
placed GenericParam = refl
placed GenericParamConstraint = refl

-- numbers of rows that rise, rise
pub rising_numbers : (rows : List LinkRow) → IsNonDecreasingBy (λ (row : LinkRow). row.number) rows → IsNonDecreasing (map (λ row. row.number) rows)
rising_numbers rows rise i j d up within =
    let any : LinkRow = record { number = 0; rid = 0 } in
    let number : LinkRow → ℕ = λ row. row.number in
    let long = length-map rows number in
    let low = get_or-map number rows i any d (omega (arith, long)) in
    let high = get_or-map number rows j any d (omega (arith, long)) in
    let rises = rise i j any up (omega (arith, long)) in
    omega (arith, low, high, rises)

-- one more list
pub all_listed-more : (stream : List ℕ) (lists more : List (List LinkRow)) (count : ℕ) (list : List LinkRow) → length lists ≡ count → more ≡ lists ++ list ∷ []
    → ((k : ℕ) (link : Link) → k < count → slice_get all_links k ≡ Some link → ListsLink stream link (unwrap_or (slice_get lists k) []))
    → ((link : Link) → slice_get all_links count ≡ Some link → ListsLink stream link list)
    → (k : ℕ) (link : Link) → k < count + 1 → slice_get all_links k ≡ Some link → ListsLink stream link (unwrap_or (slice_get more k) [])
all_listed-more stream lists more count list long is before here k link less stands number =
    elim (cases_lt k count) [
      | inl old ↦
          let same : slice_get more k ≡ slice_get lists k = ap (λ all. slice_get all k) is ∙ slice_get-front lists (list ∷ []) k (omega (arith, long)) in
          ap (λ o. rids_at (unwrap_or o []) number) same ∙ before k link old stands number
      | inr new ↦
          let at : k ≡ count = omega arith in
          let last : slice_get more k ≡ Some list = ap (λ all. slice_get all k) is ∙ ap (λ n. slice_get (lists ++ list ∷ []) n) (at ∙ sym long) ∙ slice_get-last lists list in
          ap (λ o. rids_at (unwrap_or o []) number) last ∙ here link (ap (slice_get all_links) (sym at) ∙ stands) number
    ]
  where
    slice_get-front : {X : Type 0} (xs ys : List X) (k : ℕ) → k < length xs → slice_get (xs ++ ys) k ≡ slice_get xs k
    slice_get-front [] ys k h = absurd (omega arith)
    slice_get-front (x ∷ xs) ys zero h = refl
    slice_get-front (x ∷ xs) ys (suc k) h = slice_get-front xs ys k (omega arith)

    slice_get-last : {X : Type 0} (xs : List X) (x : X) → slice_get (xs ++ x ∷ []) (length xs) ≡ Some x
    slice_get-last [] x = refl
    slice_get-last (y ∷ xs) x = slice_get-last xs x

-- the numbers and the row numbers of all rows
pub list_made : (items : List LinkRow) (numbers rids : List ℕ) (i : ℕ) → length items ≤ i → numbers ≡ map (λ row. row.number) (take i items) → rids ≡ map rid_of (take i items)
    → (numbers ≡ map (λ row. row.number) items) × (rids ≡ map rid_of items)
list_made items numbers rids i all n r =
    let whole = take_all i items all in
    (n ∙ ap (map (λ (row : LinkRow). row.number)) whole, r ∙ ap (map rid_of) whole)

-- one more row of the table
pub link_rows-more : (stream : List ℕ) (link : Link) (rid number : ℕ) (rows new : List LinkRow) → 1 ≤ rid
    → rows ≡ map (link_row stream link) (range_with_len 1 (rid - 1))
    → number ≡ cell_of stream (link_table_of link) rid (link_column_of link)
    → new ≡ rows ++ record { number = number; rid = rid } ∷ []
    → new ≡ map (link_row stream link) (range_with_len 1 (rid + 1 - 1))
link_rows-more stream link rid number rows new first before is e =
    let row = link_row stream link in
    let place : 1 + (rid - 1) ≡ rid = omega arith in
    let count : rid - 1 + 1 ≡ rid + 1 - 1 = omega arith in
    e ∙ ap (λ n. rows ++ record { number = n; rid = rid } ∷ []) is ∙ ap (λ all. all ++ row rid ∷ []) before
    ∙ sym (map-range_with_len_more row 1 (rid - 1) rid place) ∙ ap (λ n. map row (range_with_len 1 n)) count

pub link_rows-all : (stream : List ℕ) (link : Link) (count : ℕ) → count ≡ table_row_count stream (link_table_of link)
    → map (link_row stream link) (range_with_len 1 count) ≡ link_rows stream link
unfolding link_rows
link_rows-all stream link count is = ap (λ n. map (link_row stream link) (range_with_len 1 n)) is

-- the list that is read is the one of the link
pub list_there : (index : List (List LinkRow)) (link : Link) (place : ℕ) (found : List LinkRow) → length index ≡ 17 → place < 17 → place ≡ link_place_of link
    → found ≡ get_or index place found → found ≡ list_in index link
list_there index link place found long within is read =
    let stands = slice_get_read index (length index) place found refl (omega (arith, long)) read in
    sym (ap (λ o. unwrap_or o []) stands) ∙ ap (λ n. unwrap_or (slice_get index n) []) is

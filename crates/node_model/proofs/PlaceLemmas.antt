-- The places in the shape of an image are those of its keys.
use Rattle.std.proofs.Common.{◌≡◌, ◌∙◌, refl, sym, ap, subst, true≢false, ℕ, ◌<◌, Bool, true, false, cond, List, Option, Some, None, map, length, is_some, nat_lt, nat_le, arith}
use Rattle.std.specs.Prelude.{◌==◌, ◌&&◌, ◌||◌, slice_index, slice_set}
use Rattle.std.specs.List.{list_any, position, range_with_len}
use Rattle.std.specs.Option.{option_map}
use Rattle.std.proofs.lemmas.Bool.{and_parts, and_right}
use Rattle.std.proofs.lemmas.Bool.Decides.{nat_tests}
use Rattle.std.proofs.lemmas.List.{get_or-set_other, get_or-set_same, length-map}
use Rattle.std.proofs.lemmas.List.FromFn.{get_or-map-range_with_len}
use Rattle.std.proofs.lemmas.List.Quantifiers.{position-Some}
use Rattle.cil_base.specs.Token.{Token, root}
use Rattle.slot_store.specs.Shape.{is_in_shape}
use Rattle.slot_store.specs.declared.place.Place.{Place}
use Rattle.slot_store.specs.declared.place.Shape.{Shape}
use Rattle.node_model.specs.KeyKinds.{has_kind, is_root_token}
use Rattle.node_model.specs.Keys.{is_key_there, is_of_root, is_row, same_key, same_token, token_of_key}
use Rattle.node_model.specs.Places.{image_shape, key_of_kind, key_place, kinds_of, number_of_kinds, place_among, root_keys, root_kinds, row_keys}
use Rattle.node_model.specs.declared.key.Key.{Key}
use Rattle.node_model.specs.inner.KeyEquality.{token_self}
use Rattle.node_model.proofs.RowKeyLemmas.{root_keys_are, row_keys_are}
use Rattle.node_model.proofs.TableLemmas.{position_any, table_of_key}

none_among : (keys : List Key) (k : Key) → position (same_key k) keys ≡ None → list_any (same_key k) keys ≡ false
none_among keys k found = sym (position_any (same_key k) keys) ∙ ap is_some found

some_among : (keys : List Key) (k : Key) (n : ℕ) → position (same_key k) keys ≡ Some n → list_any (same_key k) keys ≡ true
some_among keys k n found = sym (position_any (same_key k) keys) ∙ ap is_some found

four_tests : (b c : Bool) → (true && (b && (c && true))) ≡ ((b && c) && true)
four_tests true true = refl
four_tests true false = refl
four_tests false c = refl

-- the place that a key has among keys, where it has one
abbrev placed : ℕ → ℕ → Option ℕ → Option Place
placed table rid o = option_map (λ (number : ℕ). record { table = table; rid = rid; kind = number }) o

-- a key that is among the keys of a row has a place in the shape where the row has one
among_in_shape : (s : Shape) (keys : List Key) (table rid : ℕ) (k : Key) → table < 64 → length keys ≡ slice_index s.kinds table
    → is_in_shape s (place_among keys table rid k)
    ≡ ((nat_lt 0 rid && nat_le rid (slice_index s.rows table)) && list_any (same_key k) keys)
unfolding is_in_shape
among_in_shape s keys table rid k low all = by (position (same_key k) keys) refl
  where
    has_row : Bool
    has_row = nat_lt 0 rid && nat_le rid (slice_index s.rows table)

    by : (o : Option ℕ) → position (same_key k) keys ≡ o
        → is_in_shape s (placed table rid o) ≡ (has_row && list_any (same_key k) keys)
    by None found = sym (and_right has_row (list_any (same_key k) keys) (none_among keys k found))
    by (Some n) found =
        let within : nat_lt n (slice_index s.kinds table) ≡ true =
        grind (arith, nat_tests, (position-Some (same_key k) keys n k found).0) in
        let a_table : nat_lt table 64 ≡ true = grind (arith, nat_tests) in
        rw (a_table, within, some_among keys k n found) (four_tests (nat_lt 0 rid) (nat_le rid (slice_index s.rows table)))

-- row 0 has no place in a shape
no_row : (s : Shape) (keys : List Key) (table rid : ℕ) (k : Key) → nat_lt 0 rid ≡ false → is_in_shape s (place_among keys table rid k) ≡ false
unfolding is_in_shape
no_row s keys table rid k low = by (position (same_key k) keys)
  where
    by : (o : Option ℕ) → is_in_shape s (placed table rid o) ≡ false
    by None = refl
    by (Some n) =
        and_right (nat_lt table 64) (nat_lt 0 rid && (nat_le rid (slice_index s.rows table) && nat_lt n (slice_index s.kinds table)))
        (ap (λ b. b && (nat_le rid (slice_index s.rows table) && nat_lt n (slice_index s.kinds table))) low)

-- nor has a key that is not among these
not_among : (s : Shape) (keys : List Key) (table rid : ℕ) (k : Key) → list_any (same_key k) keys ≡ false
    → is_in_shape s (place_among keys table rid k) ≡ false
unfolding is_in_shape
not_among s keys table rid k lacks = by (position (same_key k) keys) refl
  where
    by : (o : Option ℕ) → position (same_key k) keys ≡ o → is_in_shape s (placed table rid o) ≡ false
    by None found = refl
    by (Some n) found = absurd (true≢false (sym (some_among keys k n found) ∙ lacks))

row_of_image : (rows : List ℕ) (t : ℕ) → t < 45 → slice_index (slice_set rows 63 1) t ≡ slice_index rows t
row_of_image rows t low = get_or-set_other rows 63 t 1 0 (λ is. omega (arith, is, low))

kinds_in_shape : (t : ℕ) → t < 64 → slice_index (map number_of_kinds (range_with_len 0 64)) t ≡ number_of_kinds t
kinds_in_shape t low = get_or-map-range_with_len number_of_kinds 0 64 t t 0 low (omega arith)

row_keys_long : (t : Token) → t.table < 45 → length (row_keys t) ≡ number_of_kinds t.table
row_keys_long t low =
    let no_table : (t.table == 63) ≡ false = grind (arith, nat_tests) in
    length-map (kinds_of t.table) (key_of_kind t)
    ∙ sym (ap (λ (b : Bool). cond b (length root_kinds) (length (kinds_of t.table))) no_table)

root_in_shape : (rows : List ℕ) (k : Key) → length rows ≡ 64
    → is_in_shape (image_shape rows) (place_among root_keys 63 1 k) ≡ (is_of_root k && has_kind k)
unfolding image_shape
root_in_shape rows k long =
    let one_row : slice_index (slice_set rows 63 1) 63 ≡ 1 = get_or-set_same rows 63 1 0 (omega (arith, long)) in
    among_in_shape (image_shape rows) root_keys 63 1 k (omega arith) (length-map root_kinds (key_of_kind root) ∙ sym (kinds_in_shape 63 (omega arith)))
    ∙ ap (λ n. (nat_lt 0 1 && nat_le 1 n) && list_any (same_key k) root_keys) one_row ∙ root_keys_are k

row_in_shape : (rows : List ℕ) (k : Key) (t : Token) → token_of_key k ≡ t → is_of_root k ≡ false
    → is_in_shape (image_shape rows) (place_among (row_keys t) t.table t.rid k) ≡ (is_row (slice_index rows) t && has_kind k)
unfolding image_shape
row_in_shape rows k t of other = by (is_root_token t) refl (has_kind k) refl
  where
    row : Bool
    row = is_row (slice_index rows) t

    here : same_token t (token_of_key k) ≡ true
    here = ap (same_token t) of ∙ token_self t

    by : (r : Bool) → is_root_token t ≡ r → (h : Bool) → has_kind k ≡ h
        → is_in_shape (image_shape rows) (place_among (row_keys t) t.table t.rid k) ≡ (row && h)
    by true is h has =
        let none : nat_lt 0 t.rid ≡ false = grind (arith, nat_tests, (and_parts (t.table == 0) (t.rid == 0) is).1) in
        no_row (image_shape rows) (row_keys t) t.table t.rid k none
        ∙ sym (ap (λ b. (b && nat_le t.rid (slice_index rows t.table)) && h) none)
    by false is true has =
        let low : t.table < 45 = subst (λ x. x.table < 45) of (table_of_key k other has) in
        among_in_shape (image_shape rows) (row_keys t) t.table t.rid k (omega (arith, low))
        (row_keys_long t low ∙ sym (kinds_in_shape t.table (omega (arith, low))))
        ∙ ap (λ n. (nat_lt 0 t.rid && nat_le t.rid n) && list_any (same_key k) (row_keys t)) (row_of_image rows t.table low)
        ∙ ap (λ b. row && b) (row_keys_are k t is ∙ ap (λ b. b && has_kind k) here ∙ has)
    by false is false has =
        not_among (image_shape rows) (row_keys t) t.table t.rid k
        (row_keys_are k t is ∙ and_right (same_token t (token_of_key k)) (has_kind k) has)
        ∙ sym (and_right row false refl)

-- a key has a place in the shape of an image exactly where it is a key of the image
pub in_image_shape : (rows : List ℕ) (k : Key) → length rows ≡ 64
    → is_in_shape (image_shape rows) (key_place k) ≡ (is_key_there (slice_index rows) k && has_kind k)
unfolding key_place
in_image_shape rows k long = by (is_of_root k) refl
  where
    by : (b : Bool) → is_of_root k ≡ b
        → is_in_shape (image_shape rows) (cond b (place_among root_keys 63 1 k) (place_among (row_keys (token_of_key k)) (token_of_key k).table (token_of_key k).rid k))
        ≡ ((b || is_row (slice_index rows) (token_of_key k)) && has_kind k)
    by true is = root_in_shape rows k long ∙ ap (λ b. b && has_kind k) is
    by false is = row_in_shape rows k (token_of_key k) refl is

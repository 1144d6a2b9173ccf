-- Two keys that have one place are equal, and equal keys have one place.
use Rattle.std.proofs.Common.{◌≡◌, ◌∙◌, refl, sym, ap, subst, ℕ, Bool, true, false, cond, List, [], Option, Some, None}
use Rattle.std.proofs.Common.{map}
use Rattle.std.specs.List.{position}
use Rattle.std.specs.Option.{option_map}
use Rattle.std.proofs.lemmas.List.Quantifiers.{position-Some}
use Rattle.cil_base.specs.Token.{Token}
use Rattle.md_schema.specs.Schema.{tables}
use Rattle.slot_store.specs.declared.place.Place.{Place}
use Rattle.node_model.specs.KeyKinds.{has_sig, may_link, owns_table}
use Rattle.node_model.specs.Keys.{is_of_root, same_key, token_of_key}
use Rattle.node_model.specs.Places.{key_of_kind, key_place, kinds_of, place_among, root_keys, row_keys}
use Rattle.node_model.specs.contracts.key.KeyPartialEq.TheImpl.{eq-value}
use Rattle.node_model.specs.declared.key.Key.{Key}
use Rattle.node_model.specs.inner.KeyEquality.{eq_is_same, key_is, key_self}

pub one_place : (a b : Key) → (eq-value).it a b ≡ true → key_place a ≡ key_place b
one_place a b e = ap key_place (key_is a b (sym (eq_is_same a b) ∙ e))

some_is : {A : Type 0} {x y : A} → Some x ≡ Some y → x ≡ y
some_is h = cc

-- a key that stands at a place among keys
record StandsAt (keys : List Key) (table rid : ℕ) (k : Key) (p : Place) : Type 0 where
  pub table_is : table ≡ p.table
  pub rid_is : rid ≡ p.rid
  pub number : position (same_key k) keys ≡ Some p.kind

stands_at : (keys : List Key) (table rid : ℕ) (k : Key) (p : Place) → place_among keys table rid k ≡ Some p → StandsAt keys table rid k p
stands_at keys table rid k p is = by (position (same_key k) keys) refl is
  where
    by : (o : Option ℕ) → position (same_key k) keys ≡ o
        → option_map (λ (number : ℕ). let p : Place = record { table = table; rid = rid; kind = number } in p) o ≡ Some p
        → StandsAt keys table rid k p
    by None found h = absurd cc
    by (Some n) found h = record {
      table_is = ap (λ (p : Place). p.table) (some_is h);
      rid_is = ap (λ (p : Place). p.rid) (some_is h);
      number = found ∙ ap (λ (p : Place). Some p.kind) (some_is h);
    }

-- keys that have one number among keys are one of these
one_number : (keys : List Key) (a b : Key) (n : ℕ) → position (same_key a) keys ≡ Some n → position (same_key b) keys ≡ Some n → same_key a b ≡ true
one_number keys a b n x y =
    let first = position-Some (same_key a) keys n a x in
    let second = position-Some (same_key b) keys n a y in
    subst (λ q. same_key a q ≡ true) (key_is a _ first.1 ∙ sym (key_is b _ second.1)) (key_self a)

-- no row has its keys where those of the root stand
no_kinds : kinds_of 63 ≡ []
unfolding kinds_of has_sig owns_table may_link tables
no_kinds = refl

apart : (t : Token) (k : Key) (n : ℕ) → t.table ≡ 63 → position (same_key k) (row_keys t) ≡ Some n → ⊥
apart t k n is found =
    let none : position (same_key k) (row_keys t) ≡ None =
    ap (λ kinds. position (same_key k) (map (key_of_kind t) kinds)) (ap kinds_of is ∙ no_kinds) in
    cc

one_key_same : (a b : Key) (p : Place) → key_place a ≡ Some p → key_place b ≡ Some p → same_key a b ≡ true
unfolding key_place
one_key_same a b p x y = by (is_of_root a) (is_of_root b) x y
  where
    row_place : Key → Option Place
    row_place k = place_among (row_keys (token_of_key k)) (token_of_key k).table (token_of_key k).rid k

    by : (of_a of_b : Bool) → cond of_a (place_among root_keys 63 1 a) (row_place a) ≡ Some p
        → cond of_b (place_among root_keys 63 1 b) (row_place b) ≡ Some p → same_key a b ≡ true
    by true true x y =
        one_number root_keys a b p.kind (stands_at root_keys 63 1 a p x).number (stands_at root_keys 63 1 b p y).number
    by true false x y =
        let s = stands_at (row_keys (token_of_key b)) (token_of_key b).table (token_of_key b).rid b p y in
        absurd (apart (token_of_key b) b p.kind (s.table_is ∙ sym (stands_at root_keys 63 1 a p x).table_is) s.number)
    by false true x y =
        let s = stands_at (row_keys (token_of_key a)) (token_of_key a).table (token_of_key a).rid a p x in
        absurd (apart (token_of_key a) a p.kind (s.table_is ∙ sym (stands_at root_keys 63 1 b p y).table_is) s.number)
    by false false x y =
        let s = stands_at (row_keys (token_of_key a)) (token_of_key a).table (token_of_key a).rid a p x in
        let t = stands_at (row_keys (token_of_key b)) (token_of_key b).table (token_of_key b).rid b p y in
        let row : token_of_key a ≡ token_of_key b =
        λ i. record { table = (s.table_is ∙ sym t.table_is) i; rid = (s.rid_is ∙ sym t.rid_is) i } in
        one_number (row_keys (token_of_key a)) a b p.kind s.number (ap (λ r. position (same_key b) (row_keys r)) row ∙ t.number)

pub one_key : (a b : Key) (p : Place) → key_place a ≡ Some p → key_place b ≡ Some p → (eq-value).it a b ≡ true
one_key a b p x y = eq_is_same a b ∙ one_key_same a b p x y

-- The kinds of keys of each table, as they stand in the code's table.
use Rattle.std.proofs.Common.{Bor, ◌≡◌, ◌∙◌, refl, sym, ap, ℕ, ◌<◌, ◌≤◌, suc, Bool, true, false, cond, List, [], ◌∷◌, map, length, get_or, arith}
use Rattle.std.specs.Prelude.{◌==◌}
use Rattle.std.specs.List.{filter, list_all, position, range_with_len}
use Rattle.std.proofs.lemmas.Bool.{and_parts, and_right, false_from_ne_true}
use Rattle.std.proofs.lemmas.List.{get_or-map, length-map}
use Rattle.std.proofs.lemmas.List.FromFn.{get_or-map-range_with_len, length-map-range_with_len}
use Rattle.cil_base.specs.Token.{Token}
use Rattle.md_schema.proofs.SchemaLemmas.{position-map}
use Rattle.node_model.specs.KeyKinds.{has_kind}
use Rattle.node_model.specs.Keys.{same_key}
use Rattle.node_model.specs.Places.{all_kinds, key_of_kind, kinds_of}
use Rattle.node_model.specs.declared.key.Key.{Key}
use Rattle.node_model.specs.declared.key.Key.TheVariants.{Row, Sig, Owned, Linked, Body, Data, Resource}
use Rattle.node_model.specs.declared.kinds.KeyKind.{KeyKind}
use Rattle.node_model.specs.declared.kinds.KeyKind.TheVariants as kinds
use Rattle.node_model.proofs.TableLemmas.{table_of_key}

abbrev is_row_kind : KeyKind → Bool
is_row_kind kinds.Facts = false
is_row_kind _ = true

abbrev first_row : ℕ → Token
first_row table = record { table = table; rid = 1 }

table_of_kind : (table : ℕ) (kind : KeyKind) → is_row_kind kind ≡ true → has_kind (key_of_kind (first_row table) kind) ≡ true → table < 45
table_of_kind table kinds.Row is h = table_of_key (Row (first_row table)) refl h
table_of_kind table kinds.Sig is h = table_of_key (Sig (first_row table)) refl h
table_of_kind table (kinds.Owned n) is h = table_of_key (Owned (first_row table) n) (and_right (table == 0) false refl) h
table_of_kind table (kinds.Linked l) is h = table_of_key (Linked (first_row table) l) refl h
table_of_kind table kinds.Body is h = table_of_key (Body (first_row table)) refl h
table_of_kind table kinds.Data is h = table_of_key (Data (first_row table)) refl h
table_of_kind table kinds.Resource is h = table_of_key (Resource (first_row table)) refl h
table_of_kind table kinds.Facts is h = absurd cc

filter_none : {A : Type 0} (p q : A → Bool) (xs : List A) → list_all q xs ≡ true → ((x : A) → q x ≡ true → p x ≡ false) → filter p xs ≡ []
filter_none p q [] all none = refl
filter_none p q (x ∷ xs) all none =
    let parts = and_parts (q x) (list_all q xs) all in
    rw (none x parts.0) (filter_none p q xs parts.1 none)

no_kinds : (table : ℕ) → 45 ≤ table → kinds_of table ≡ []
unfolding kinds_of
no_kinds table high =
    filter_none (λ kind. has_kind (key_of_kind (first_row table) kind)) is_row_kind all_kinds refl
    (λ kind is. false_from_ne_true (has_kind (key_of_kind (first_row table) kind)) (λ h. omega (arith, table_of_kind table kind is h, high)))

long_as : (xs : List (Bor (List KeyKind))) → map (λ (kinds : Bor (List KeyKind)). kinds.now) xs ≡ map kinds_of (range_with_len 0 45) → length xs ≡ 45
long_as xs is =
    let now : Bor (List KeyKind) → List KeyKind = λ kinds. kinds.now in
    sym (length-map xs now) ∙ ap length is ∙ length-map-range_with_len kinds_of 0 45

pub kinds_at : (xs : List (Bor (List KeyKind))) (table : ℕ) (x : Bor (List KeyKind))
    → map (λ (kinds : Bor (List KeyKind)). kinds.now) xs ≡ map kinds_of (range_with_len 0 45) → table < length xs → x ≡ get_or xs table x
    → x.now ≡ kinds_of table
kinds_at xs table x is within at =
    let now : Bor (List KeyKind) → List KeyKind = λ kinds. kinds.now in
    ap now at ∙ sym (get_or-map now xs table x x.now within) ∙ ap (λ ks. get_or ks table x.now) is
    ∙ get_or-map-range_with_len kinds_of 0 45 table table x.now (omega (arith, long_as xs is, within)) (omega arith)

pub kinds_past : (xs : List (Bor (List KeyKind))) (table : ℕ)
    → map (λ (kinds : Bor (List KeyKind)). kinds.now) xs ≡ map kinds_of (range_with_len 0 45) → length xs ≤ table → kinds_of table ≡ []
kinds_past xs table is past = no_kinds table (omega (arith, long_as xs is, past))

filter_short : {A : Type 0} (p : A → Bool) (xs : List A) → length (filter p xs) ≤ length xs
filter_short p [] = omega arith
filter_short p (x ∷ xs) = by (p x) (filter_short p xs)
  where
    by : (b : Bool) → length (filter p xs) ≤ length xs → length (cond b (x ∷ filter p xs) (filter p xs)) ≤ suc (length xs)
    by true less = omega (arith, less)
    by false less = omega (arith, less)

pub few_kinds : (table : ℕ) → length (kinds_of table) < 256
unfolding kinds_of
few_kinds table =
    let few = filter_short (λ kind. has_kind (key_of_kind (first_row table) kind)) all_kinds in
    omega (arith, few)

-- the number of a key among those of these kinds
pub number_of_kind : (k : Key) (t : Token) (kinds : List KeyKind)
    → position (λ kind. same_key k (key_of_kind t kind)) kinds ≡ position (same_key k) (map (key_of_kind t) kinds)
number_of_kind k t kinds = sym (position-map (key_of_kind t) (same_key k) kinds)

-- The keys of a row are those of the kinds that its table has, and the root's keys are its lists and the facts.
use Rattle.std.proofs.Common.{◌≡◌, ◌∙◌, refl, sym, ap, subst, ℕ, zero, suc, ◌+◌, ◌<◌, ◌≤◌, Bool, true, false, cond, List, [], ◌∷◌, Option, Some, None, map, is_some, arith}
use Rattle.std.specs.Prelude.{◌==◌, ◌&&◌, ◌||◌}
use Rattle.std.specs.List.{filter, list_all, list_any, position, range_with_len}
use Rattle.std.specs.Option.{IfSome, option_and_then, option_map}
use Rattle.std.proofs.lemmas.Bool.{and_parts, and_right}
use Rattle.std.proofs.lemmas.Bool.Decides.{nat_tests}
use Rattle.cil_base.specs.Token.{Token, root}
use Rattle.md_schema.specs.Column.{ColumnOf}
use Rattle.md_schema.specs.Entry.{is_start, table_entry_of}
use Rattle.md_schema.specs.Link.{all_links}
use Rattle.md_schema.specs.Schema.{TableOf, tables}
use Rattle.md_schema.specs.declared.column.ColumnKind.{ColumnKind}
use Rattle.md_schema.specs.declared.column.ColumnKind.TheVariants.{Start}
use Rattle.md_schema.specs.declared.link.Link.{Link}
use Rattle.md_schema.specs.declared.link.Link.TheVariants.{InterfaceImpl, Constant, CustomAttribute, FieldMarshal, DeclSecurity, ClassLayout, FieldLayout, EventMap, PropertyMap, MethodSemantics, MethodImpl, ImplMap, FieldRVA, NestedClass, Nested, GenericParam, GenericParamConstraint}
use Rattle.md_schema.proofs.SchemaLemmas.{find-all}
use Rattle.node_model.specs.Fresh.{is_key_of}
use Rattle.node_model.specs.KeyKinds.{has_kind, is_root_table, is_root_token, owns_table}
use Rattle.node_model.specs.Keys.{is_of_root, same_key, same_link, same_token, token_of_key}
use Rattle.node_model.specs.Places.{all_kinds, key_of_kind, kinds_of, root_keys, root_kinds, row_keys}
use Rattle.node_model.specs.declared.key.Key.{Key}
use Rattle.node_model.specs.declared.key.Key.TheVariants.{Row, Sig, Owned, Linked, Body, Data, Resource, Facts}
use Rattle.node_model.specs.declared.kinds.KeyKind.{KeyKind}
use Rattle.node_model.specs.declared.kinds.KeyKind.TheVariants as kinds
use Rattle.node_model.specs.inner.KeyEquality.{key_is, token_is}
use Rattle.node_model.proofs.TableLemmas.{position_any, root_table_low}

-- a test that only the one item passes that is looked for: of the items that are kept, as of all, if that one is kept
any_kept : {X Y : Type 0} (test : Y → Bool) (f : X → Y) (kept : X → Bool) (has : Bool) (xs : List X)
    → ((x : X) → test (f x) ≡ true → kept x ≡ has) → list_any test (map f (filter kept xs)) ≡ (list_any test (map f xs) && has)
any_kept test f kept has [] same = refl
any_kept test f kept has (x ∷ xs) same = by (test (f x)) refl (kept x) refl (any_kept test f kept has xs same)
  where
    rest : Bool
    rest = list_any test (map f xs)

    few : Bool
    few = list_any test (map f (filter kept xs))

    by : (t : Bool) → test (f x) ≡ t → (k : Bool) → kept x ≡ k → few ≡ (rest && has)
        → list_any test (map f (cond k (x ∷ filter kept xs) (filter kept xs))) ≡ ((t || rest) && has)
    by true is true ke ih = ap (λ b. b || few) is ∙ sym ke ∙ same x is
    by true is false ke ih =
        let lacks : has ≡ false = sym (same x is) ∙ ke in
        ih ∙ and_right rest has lacks ∙ sym lacks
    by false is true ke ih = ap (λ b. b || few) is ∙ ih
    by false is false ke ih = ih

-- a row that is not the root has the kinds that the first row of its table has
kind_of_row : (t : Token) → is_root_token t ≡ false → (kind : KeyKind)
    → has_kind (key_of_kind (record { table = t.table; rid = 1 }) kind) ≡ has_kind (key_of_kind t kind)
kind_of_row t r kinds.Row = refl
kind_of_row t r kinds.Sig = refl
kind_of_row t r (kinds.Owned n) =
    let first : is_root_token (record { table = t.table; rid = 1 }) ≡ false = and_right (t.table == 0) false refl in
    ap (λ (x : Bool). cond x (is_root_table n) (owns_table t.table n)) (first ∙ sym r)
kind_of_row t r (kinds.Linked l) = refl
kind_of_row t r kinds.Body = refl
kind_of_row t r kinds.Data = refl
kind_of_row t r kinds.Resource = refl
kind_of_row t r kinds.Facts = refl

-- the tables that rows own are those of five lists
abbrev owned_tables : List ℕ
owned_tables = 0x04 ∷ 0x06 ∷ 0x08 ∷ 0x14 ∷ 0x17 ∷ []

abbrev starts_known : ColumnKind → Bool
starts_known (Start n) = list_any (λ m. n == m) owned_tables
starts_known _ = true

all_starts : list_all (λ (table : TableOf). list_all (λ (column : ColumnOf). starts_known column.kind) table.columns) tables ≡ true
unfolding tables
all_starts = refl

start_known : (kind : ColumnKind) (n : ℕ) → starts_known kind ≡ true → is_start n kind ≡ true → list_any (λ m. n == m) owned_tables ≡ true
start_known (Start m) n known is =
    let same : m ≡ n = grind (arith, nat_tests) in
    subst (λ k. list_any (λ m. k == m) owned_tables ≡ true) same known
start_known _ n known is = absurd cc

columns_start : (columns : List ColumnOf) (n : ℕ) → list_all (λ (column : ColumnOf). starts_known column.kind) columns ≡ true
    → list_any (λ (column : ColumnOf). is_start n column.kind) columns ≡ true → list_any (λ m. n == m) owned_tables ≡ true
columns_start [] n all h = absurd cc
columns_start (column ∷ columns) n all h =
    let parts = and_parts (starts_known column.kind) (list_all (λ (column : ColumnOf). starts_known column.kind) columns) all in
    by parts.0 (is_start n column.kind) refl (columns_start columns n parts.1) h
  where
    by : starts_known column.kind ≡ true → (b : Bool) → is_start n column.kind ≡ b
        → (list_any (λ (column : ColumnOf). is_start n column.kind) columns ≡ true → list_any (λ m. n == m) owned_tables ≡ true)
        → (b || list_any (λ (column : ColumnOf). is_start n column.kind) columns) ≡ true → list_any (λ m. n == m) owned_tables ≡ true
    by known true is rest h = start_known column.kind n known is
    by known false is rest h = rest h

owned_is_known : (t n : ℕ) → owns_table t n ≡ true → list_any (λ m. n == m) owned_tables ≡ true
unfolding owns_table
owned_is_known t n h =
    by (table_entry_of t) (find-all (λ table. table.number == t) (λ table. list_all (λ (column : ColumnOf). starts_known column.kind) table.columns) tables all_starts) h
  where
    by : (o : Option TableOf) → IfSome o (λ table. list_all (λ (column : ColumnOf). starts_known column.kind) table.columns ≡ true)
        → is_some (option_and_then (λ columns. position (λ column. is_start n column.kind) columns) (option_map (λ table. table.columns) o)) ≡ true
        → list_any (λ m. n == m) owned_tables ≡ true
    by None all h = absurd cc
    by (Some table) all h = columns_start table.columns n all (sym (position_any (λ column. is_start n column.kind) table.columns) ∙ h)

link_listed : (l : Link) → list_any (same_link l) all_links ≡ true
link_listed InterfaceImpl = refl
link_listed Constant = refl
link_listed CustomAttribute = refl
link_listed FieldMarshal = refl
link_listed DeclSecurity = refl
link_listed ClassLayout = refl
link_listed FieldLayout = refl
link_listed EventMap = refl
link_listed PropertyMap = refl
link_listed MethodSemantics = refl
link_listed MethodImpl = refl
link_listed ImplMap = refl
link_listed FieldRVA = refl
link_listed NestedClass = refl
link_listed Nested = refl
link_listed GenericParam = refl
link_listed GenericParamConstraint = refl

or_false : (x : Bool) → (x || false) ≡ x
or_false true = refl
or_false false = refl

token_turned : (a b : Token) → same_token a b ≡ same_token b a
token_turned a b = grind (arith, nat_tests)

owned_and : (x : Bool) (n : ℕ) → list_any (λ m. x && (n == m)) owned_tables ≡ (x && list_any (λ m. n == m) owned_tables)
owned_and true n = refl
owned_and false n = refl

links_and : (x : Bool) (l : Link) → list_any (λ m. x && same_link l m) all_links ≡ (x && list_any (same_link l) all_links)
links_and true l = refl
links_and false l = refl

and_settled : (x y : Bool) → (x ≡ true → y ≡ true) → (x && y) ≡ x
and_settled true y h = h refl
and_settled false y h = refl

-- a key of a kind that its table has is among the keys of all kinds of a row, if it is of that row
among_all : (k : Key) (t : Token) → is_root_token t ≡ false → has_kind k ≡ true
    → list_any (same_key k) (map (key_of_kind t) all_kinds) ≡ same_token t (token_of_key k)
among_all (Row a) t r has = or_false (same_token a t) ∙ token_turned a t
among_all (Sig a) t r has = or_false (same_token a t) ∙ token_turned a t
among_all (Owned a n) t r has =
    owned_and (same_token a t) n
    ∙ and_settled (same_token a t) (list_any (λ m. n == m) owned_tables)
    (λ is. let row : is_root_token a ≡ false = ap is_root_token (token_is a t is) ∙ r in
    owned_is_known a.table n (sym (ap (λ (x : Bool). cond x (is_root_table n) (owns_table a.table n)) row) ∙ has))
    ∙ token_turned a t
among_all (Linked a l) t r has =
    links_and (same_token a t) l ∙ and_settled (same_token a t) (list_any (same_link l) all_links) (λ is. link_listed l) ∙ token_turned a t
among_all (Body a) t r has = or_false (same_token a t) ∙ token_turned a t
among_all (Data a) t r has = or_false (same_token a t) ∙ token_turned a t
among_all (Resource a) t r has = or_false (same_token a t) ∙ token_turned a t
among_all Facts t r has = sym r

-- two tests that agree where a third passes
and_agree : (x y h : Bool) → (h ≡ true → x ≡ y) → (x && h) ≡ (y && h)
and_agree x y true same = ap (λ b. b && true) (same refl)
and_agree x y false same = and_right x false refl ∙ sym (and_right y false refl)

-- the keys of a row that is not the root are those of the kinds that its table has
pub row_keys_are : (k : Key) (t : Token) → is_root_token t ≡ false → list_any (same_key k) (row_keys t) ≡ is_key_of t k
unfolding kinds_of
row_keys_are k t r =
    any_kept (same_key k) (key_of_kind t) (λ kind. has_kind (key_of_kind (record { table = t.table; rid = 1 }) kind)) (has_kind k) all_kinds
    (λ kind is. kind_of_row t r kind ∙ sym (ap has_kind (key_is k (key_of_kind t kind) is)))
    ∙ and_agree (list_any (same_key k) (map (key_of_kind t) all_kinds)) (same_token t (token_of_key k)) (has_kind k) (among_all k t r)

listed_in_range : (a : Token) (n : ℕ) → is_root_token a ≡ true → has_kind (Owned a n) ≡ true → n < 64
listed_in_range a n is has =
    let low = root_table_low n (sym (ap (λ (x : Bool). cond x (is_root_table n) (owns_table a.table n)) is) ∙ has) in
    omega (arith, low)

in_range : (a len n : ℕ) → a ≤ n → n < a + len → list_any (λ m. n == m) (range_with_len a len) ≡ true
in_range a zero n low high = absurd (omega arith)
in_range a (suc len) n low high = by (n == a) refl (in_range (a + 1) len n)
  where
    by : (b : Bool) → (n == a) ≡ b → (a + 1 ≤ n → n < (a + 1) + len → list_any (λ m. n == m) (range_with_len (a + 1) len) ≡ true)
        → (b || list_any (λ m. n == m) (range_with_len (a + 1) len)) ≡ true
    by true is rest = refl
    by false is rest = rest (grind (arith, nat_tests)) (omega arith)

range_and : (x : Bool) (n : ℕ) → list_any (λ m. x && (n == m)) (range_with_len 0 64) ≡ (x && list_any (λ m. n == m) (range_with_len 0 64))
range_and true n = refl
range_and false n = refl

-- the keys of the root are the facts, and its lists of the tables whose rows the image itself lists
pub root_keys_are : (k : Key) → list_any (same_key k) root_keys ≡ (is_of_root k && has_kind k)
unfolding root_kinds is_root_table tables
root_keys_are (Row a) = refl
root_keys_are (Sig a) = refl
root_keys_are (Owned a n) =
    any_kept (same_key (Owned a n)) (λ m. Owned root m) is_root_table (has_kind (Owned a n)) (range_with_len 0 64)
    (λ m is. sym (ap has_kind (key_is (Owned a n) (Owned root m) is)))
    ∙ and_agree (list_any (same_key (Owned a n)) (map (λ m. Owned root m) (range_with_len 0 64))) (is_root_token a) (has_kind (Owned a n))
    (λ has. range_and (is_root_token a) n ∙ and_settled (is_root_token a) (list_any (λ m. n == m) (range_with_len 0 64))
    (λ is. in_range 0 64 n (omega arith) (listed_in_range a n is has)))
root_keys_are (Linked a l) = refl
root_keys_are (Body a) = refl
root_keys_are (Data a) = refl
root_keys_are (Resource a) = refl
root_keys_are Facts = refl

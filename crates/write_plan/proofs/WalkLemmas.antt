-- The walk, table by table and row by row.
use Rattle.std.proofs.Common.{◌≡◌, ◌∙◌, sym, ap, subst, refl, ℕ, zero, suc, ◌<◌, ◌≤◌, ◌+◌, Bool, true, false, cond, List, [], ◌∷◌, ◌++◌, map, length, take, drop, get_or, Option, None, is_some, append_assoc, append-nil, OnOk, arith}
use Rattle.std.specs.Prelude.{◌||◌, ◌==◌, Result, Ok, Err, fold}
use Rattle.std.specs.List.{filter, flat_map, list_any, list_all}
use Rattle.std.proofs.lemmas.Grind.{flat_map-append}
use Rattle.std.proofs.lemmas.Bool.{and_parts}
use Rattle.std.proofs.lemmas.List.{take_all}
use Rattle.std.proofs.lemmas.List.Elements.{filter-append}
use Rattle.md_schema.specs.Entry.{columns_of}
use Rattle.md_schema.specs.Schema.{tables}
use Rattle.std.proofs.lemmas.List.Folds.{list_any-append}
use Rattle.std.proofs.lemmas.List.Sums.{fold-append}
use Rattle.std.specs.Option.{option_map}
use Rattle.cil_base.specs.Token.{Token, root}
use Rattle.node_model.specs.KeyKinds.{has_kind, is_root_table}
use Rattle.node_model.specs.Keys.{same_key, same_token}
use Rattle.node_model.specs.declared.key.Key.{Key}
use Rattle.node_model.specs.RowLists.{list_key}
use Rattle.node_model.specs.declared.key.Key.TheVariants.{Row, Owned, Linked}
use Rattle.md_schema.specs.Tables.{nested_class}
use Rattle.md_schema.specs.declared.link.Link.TheVariants.{Nested}
use Rattle.node_model.specs.declared.look.Look.{Look}
use Rattle.node_model.specs.inner.KeyEquality.{key_self}
use Rattle.write_plan.specs.GraphWalk.{graph_walk, Met, Walked, list_keys, member_met, met_one, nested_keys, own_keys, row_met, table_keys, table_walked, value_among, walk_tables}
use Rattle.write_plan.specs.Seen.{is_seen, list_members, value_seen}
use Rattle.write_plan.specs.declared.kept.Kept.{Kept}
use Rattle.write_plan.specs.declared.met.MetRows.{MetRows}
use Rattle.write_plan.specs.Refusals.{Refused, first_fault}
use Rattle.write_plan.specs.declared.refusal.WriteRefusal.{WriteRefusal}
use Rattle.write_plan.specs.declared.refusal.WriteRefusal.TheVariants.{Reached}
use Rattle.write_plan.specs.inner.Taken.{Takes, new_keys, row_new_keys, value_kept, walked_so}
use Rattle.write_plan.proofs.KeptLemmas.{TakesOk, front_more, split_at, takes_more, takes_then}

-- a member more

met_by : Bool → Bool → Bool → Met → Token → Met
met_by same there known m t =
    cond same
    (cond there
    (cond known
    (record { all = m.all; rows = m.rows; again = m.again ++ t ∷ [] })
    (record { all = m.all ++ t ∷ []; rows = m.rows ++ t ∷ []; again = m.again }))
    m)
    m

abbrev new_by : {A : Type 0} → Bool → Bool → Bool → List A → List A
new_by same there known new = cond same (cond there (cond known [] new) []) []

rows_by : (same there known : Bool) (m : Met) (t : Token) → (met_by same there known m t).rows ≡ m.rows ++ new_by same there known (t ∷ [])
unfolding met_by
rows_by true true true m t = sym (append-nil m.rows)
rows_by true true false m t = refl
rows_by true false known m t = sym (append-nil m.rows)
rows_by false there known m t = sym (append-nil m.rows)

keys_by : (same there known : Bool) (t : Token) → flat_map own_keys (new_by same there known (t ∷ [])) ≡ new_by same there known (own_keys t)
keys_by true true true t = refl
keys_by true true false t = append-nil (own_keys t)
keys_by true false known t = refl
keys_by false there known t = refl

pub new_rows : (see : Key → Look) (table : ℕ) (m : Met) (t : Token) → flat_map own_keys (member_met see table m t).rows ≡ flat_map own_keys m.rows ++ new_keys see table m t
unfolding met_by
new_rows see table m t =
    let same = t.table == table in
    let there = is_seen (see (Row t)) in
    let known = list_any (same_token t) m.all in
    ap (flat_map own_keys) (rows_by same there known m t) ∙ flat_map-append own_keys m.rows (new_by same there known (t ∷ []))
    ∙ ap (λ keys. flat_map own_keys m.rows ++ keys) (keys_by same there known t)

pub rows_grow : (see : Key → Look) (table : ℕ) (ts : List Token) (m : Met) → (rest : List Token) × ((fold (member_met see table) m ts).rows ≡ m.rows ++ rest)
unfolding met_by
rows_grow see table [] m = ([], sym (append-nil m.rows))
rows_grow see table (t ∷ ts) m =
    let same = t.table == table in
    let there = is_seen (see (Row t)) in
    let known = list_any (same_token t) m.all in
    let (rest, is) = rows_grow see table ts (member_met see table m t) in (
      new_by same there known (t ∷ []) ++ rest,
      is ∙ ap (λ rows. rows ++ rest) (rows_by same there known m t) ∙ append_assoc m.rows (new_by same there known (t ∷ [])) rest,
    )

-- rows that are not there, that were met before, and that are new

pub row_unseen : (see : Key → Look) (m : Met) (t : Token) → is_seen (see (Row t)) ≡ false → row_met see m t ≡ m
row_unseen see m t e = ap (λ b. cond b (met_one m t) m) e

pub row_seen : (see : Key → Look) (m : Met) (t : Token) → is_seen (see (Row t)) ≡ true → row_met see m t ≡ met_one m t
row_seen see m t e = ap (λ b. cond b (met_one m t) m) e

pub unseen_keys : (see : Key → Look) (m : Met) (t : Token) → is_seen (see (Row t)) ≡ false → row_new_keys see m t ≡ []
unseen_keys see m t e = ap (λ b. cond b (cond (list_any (same_token t) m.all) [] (own_keys t)) []) e

pub seen_keys : (see : Key → Look) (m : Met) (t : Token) (known : Bool) → is_seen (see (Row t)) ≡ true → list_any (same_token t) m.all ≡ known → row_new_keys see m t ≡ cond known [] (own_keys t)
seen_keys see m t known e k =
    ap (λ b. cond b (cond (list_any (same_token t) m.all) [] (own_keys t)) []) e ∙ ap (λ b. cond b [] (own_keys t)) k

pub keys_grow : (see : Key → Look) (ts : List ℕ) (w : Walked) → (rest : List Key) × ((fold (table_walked see) w ts).keys ≡ w.keys ++ rest)
keys_grow see [] w = ([], sym (append-nil w.keys))
keys_grow see (t ∷ ts) w =
    let (rest, is) = keys_grow see ts (table_walked see w t) in
    (table_keys see w t ++ rest, is ∙ append_assoc w.keys (table_keys see w t) rest)

-- the members of lists that were taken are those that are seen

members_from : (see : Key → Look) (value : Key → Option Rattle.node_model.specs.declared.value.Value.Value) (keys before lists : List Key)
    → ((k : Key) → value k ≡ value_among see keys k) → keys ≡ before ++ lists
    → flat_map (λ k. list_members (value k)) lists ≡ flat_map (λ k. list_members (value_seen (see k))) lists
members_from see value keys before [] is taken = refl
members_from see value keys before (k ∷ lists) is taken =
    let there : list_any (same_key k) keys ≡ true =
    ap (list_any (same_key k)) taken ∙ list_any-append (same_key k) before (k ∷ lists) ∙ ap (λ b. list_any (same_key k) before || (b || list_any (same_key k) lists)) (key_self k) ∙ or_true (list_any (same_key k) before) in
    let here : value k ≡ value_seen (see k) = is k ∙ ap (λ b. cond b (value_seen (see k)) None) there in
    let rest = members_from see value keys (before ++ k ∷ []) lists is (taken ∙ sym (append_assoc before (k ∷ []) lists)) in
    ap (λ v. list_members v ++ flat_map (λ k. list_members (value k)) lists) here ∙ ap (λ ts. list_members (value_seen (see k)) ++ ts) rest
  where
    or_true : (a : Bool) → (a || true) ≡ true
    or_true true = refl
    or_true false = refl

pub members_kept : (see : Key → Look) (w : Kept) (before lists : List Key) → ((k : Key) → value_kept w k ≡ value_among see w.keys k) → w.keys ≡ before ++ lists
    → flat_map (λ k. list_members (value_kept w k)) lists ≡ flat_map (λ k. list_members (value_seen (see k))) lists
members_kept see w before lists is taken = members_from see (value_kept w) w.keys before lists is taken

-- keys of kinds that there are

pub known_one : (k : Key) → has_kind k ≡ true → filter has_kind (k ∷ []) ≡ k ∷ []
known_one k e = ap (λ b. cond b (k ∷ []) []) e

pub unknown_one : (k : Key) → has_kind k ≡ false → filter has_kind (k ∷ []) ≡ []
unknown_one k e = ap (λ b. cond b (k ∷ []) []) e

pub known_next : (keys : List Key) (i : ℕ) (k : Key) → i < length keys → k ≡ get_or keys i k → filter has_kind (take i keys) ++ filter has_kind (k ∷ []) ≡ filter has_kind (take (i + 1) keys)
known_next keys i k h is = sym (filter-append has_kind (take i keys) (k ∷ [])) ∙ ap (filter has_kind) (sym (front_more keys i k h is))

pub known_all : (keys : List Key) (i : ℕ) (k : Key) → i < length keys → k ≡ get_or keys i k
    → (filter has_kind (take i keys) ++ filter has_kind (k ∷ [])) ++ filter has_kind (drop (i + 1) keys) ≡ filter has_kind keys
known_all keys i k h is =
    append_assoc (filter has_kind (take i keys)) (filter has_kind (k ∷ [])) (filter has_kind (drop (i + 1) keys))
    ∙ ap (λ ks. filter has_kind (take i keys) ++ ks) (sym (filter-append has_kind (k ∷ []) (drop (i + 1) keys)))
    ∙ sym (filter-append has_kind (take i keys) (k ∷ drop (i + 1) keys)) ∙ ap (filter has_kind) (split_at keys i k h is)

filter_again : (keys : List Key) → filter has_kind (filter has_kind keys) ≡ filter has_kind keys
filter_again [] = refl
filter_again (k ∷ keys) = by (filter_again keys) (has_kind k) refl
  where
    by : filter has_kind (filter has_kind keys) ≡ filter has_kind keys → (b : Bool) → has_kind k ≡ b → filter has_kind (cond b (k ∷ filter has_kind keys) (filter has_kind keys)) ≡ cond b (k ∷ filter has_kind keys) (filter has_kind keys)
    by rest true e = ap (λ b. cond b (k ∷ filter has_kind (filter has_kind keys)) (filter has_kind (filter has_kind keys))) e ∙ ap (λ ks. k ∷ ks) rest
    by rest false e = rest

pub lists_known : (rows : List Token) (table : ℕ) → filter has_kind (list_keys rows table) ≡ list_keys rows table
lists_known rows table = by (is_root_table table) refl
  where
    by : (b : Bool) → is_root_table table ≡ b
        → filter has_kind (cond b (Owned root table ∷ []) (filter has_kind (map (λ owner. list_key owner table) rows))) ≡ cond b (Owned root table ∷ []) (filter has_kind (map (λ owner. list_key owner table) rows))
    by true e = known_one (Owned root table) e
    by false e = filter_again (map (λ owner. list_key owner table) rows)

pub nested_known : (rows : List Token) (table : ℕ) → filter has_kind (nested_keys rows table) ≡ nested_keys rows table
nested_known rows table = by (table == nested_class)
  where
    by : (b : Bool) → filter has_kind (cond b (filter has_kind (map (λ t. Linked t Nested) rows)) []) ≡ cond b (filter has_kind (map (λ t. Linked t Nested) rows)) []
    by true = filter_again (map (λ t. Linked t Nested) rows)
    by false = refl

-- members one after the other

abbrev pub met_to : (Key → Look) → ℕ → Met → List Token → Met
met_to see table m ts = fold (member_met see table) m ts

module _ (see : Key → Look) (table : ℕ) (ts : List Token) (i : ℕ) (t : Token) (m0 m : Met) (a b : Kept) where
  pub members_next : (m' : Met) (c : Kept) → i < length ts → t ≡ get_or ts i t → m ≡ met_to see table m0 (take i ts) → TakesOk see a (flat_map own_keys m.rows) b
      → m' ≡ member_met see table m t → TakesOk see b (new_keys see table m t) c
      → (m' ≡ met_to see table m0 (take (i + 1) ts)) × TakesOk see a (flat_map own_keys m'.rows) c
  members_next m' c h is so_far took met takes = (
    met ∙ ap (λ n. member_met see table n t) so_far ∙ sym (fold-append (member_met see table) m0 (take i ts) (t ∷ [])) ∙ ap (met_to see table m0) (sym (front_more ts i t h is)),
    subst (λ ks. TakesOk see a ks c) (sym (new_rows see table m t) ∙ ap (λ (n : Met). flat_map own_keys n.rows) (sym met))
        (takes_then see a b c (flat_map own_keys m.rows) (new_keys see table m t) (Ok tt) took takes),
  )

  pub members_stop : (e : WriteRefusal) → i < length ts → t ≡ get_or ts i t → m ≡ met_to see table m0 (take i ts) → TakesOk see a (flat_map own_keys m.rows) b
      → Refused (option_map Reached (first_fault see (new_keys see table m t))) e
      → Refused (option_map Reached (first_fault see (flat_map own_keys (met_to see table m0 ts).rows))) e
  members_stop e h is so_far took stopped =
      let (rest, grown) = rows_grow see table (drop (i + 1) ts) (member_met see table m t) in
      let whole : met_to see table m0 ts ≡ met_to see table (member_met see table m t) (drop (i + 1) ts) =
      ap (met_to see table m0) (sym (split_at ts i t h is)) ∙ fold-append (member_met see table) m0 (take i ts) (t ∷ drop (i + 1) ts)
      ∙ ap (λ n. met_to see table (member_met see table n t) (drop (i + 1) ts)) (sym so_far) in
      let keys : flat_map own_keys (met_to see table m0 ts).rows ≡ (flat_map own_keys m.rows ++ new_keys see table m t) ++ flat_map own_keys rest =
      ap (λ (n : Met). flat_map own_keys n.rows) whole ∙ ap (flat_map own_keys) grown
      ∙ flat_map-append own_keys (member_met see table m t).rows rest ∙ ap (λ ks. ks ++ flat_map own_keys rest) (new_rows see table m t) in
      subst (λ ks. Refused (option_map Reached (first_fault see ks)) e) (sym keys)
      (takes_more see (flat_map own_keys m.rows ++ new_keys see table m t) (flat_map own_keys rest) e
      (takes_then see a b b (flat_map own_keys m.rows) (new_keys see table m t) (Err e) took stopped))

-- tables one after the other

abbrev pub walked_to : (Key → Look) → Walked → List ℕ → Walked
walked_to see w ts = fold (table_walked see) w ts

module _ (see : Key → Look) (ts : List ℕ) (i t : ℕ) (w0 w : Walked) (a b : Kept) where
  pub tables_next : (w' : Walked) → i < length ts → t ≡ get_or ts i t → w ≡ walked_to see w0 (take i ts) → w' ≡ table_walked see w t → w' ≡ walked_to see w0 (take (i + 1) ts)
  tables_next w' h is so_far walked =
      walked ∙ ap (λ v. table_walked see v t) so_far ∙ sym (fold-append (table_walked see) w0 (take i ts) (t ∷ [])) ∙ ap (walked_to see w0) (sym (front_more ts i t h is))

  pub tables_stop : (e : WriteRefusal) → i < length ts → t ≡ get_or ts i t → w ≡ walked_to see w0 (take i ts) → TakesOk see a w.keys b
      → Refused (option_map Reached (first_fault see (table_keys see w t))) e
      → Refused (option_map Reached (first_fault see (walked_to see w0 ts).keys)) e
  tables_stop e h is so_far took stopped =
      let (rest, grown) = keys_grow see (drop (i + 1) ts) (table_walked see w t) in
      let whole : walked_to see w0 ts ≡ walked_to see (table_walked see w t) (drop (i + 1) ts) =
      ap (walked_to see w0) (sym (split_at ts i t h is)) ∙ fold-append (table_walked see) w0 (take i ts) (t ∷ drop (i + 1) ts)
      ∙ ap (λ v. walked_to see (table_walked see v t) (drop (i + 1) ts)) (sym so_far) in
      subst (λ ks. Refused (option_map Reached (first_fault see ks)) e) (sym (ap (λ (v : Walked). v.keys) whole ∙ grown))
      (takes_more see (w.keys ++ table_keys see w t) rest e (takes_then see a b b w.keys (table_keys see w t) (Err e) took stopped))

pub always_on_ok : {A E : Type 0} {P : Type 0} (r : Result A E) → P → OnOk r P
always_on_ok (Ok a) p = p
always_on_ok (Err e) p = tt

pub walked_keys : (see : Key → Look) (a b : Kept) (m : MetRows) → a.keys ≡ [] → walked_so b m ≡ graph_walk see → b.keys ≡ a.keys ++ (graph_walk see).keys
walked_keys see a b m none walked = ap (λ (w : Walked). w.keys) walked ∙ sym (ap (λ ks. ks ++ (graph_walk see).keys) none)

-- what follows from keys that were taken, where the call did not fail
pub on_ok_to : {P : Type 0} (see : Key → Look) (a b : Kept) (ks : List Key) (r : Result (Unit {0}) WriteRefusal) → (TakesOk see a ks b → P) → Takes see a ks b r → OnOk r P
on_ok_to see a b ks (Ok u) to t = to t
on_ok_to see a b ks (Err e) to t = tt

-- the tables of the walk have columns, and are gone over to the end

all_at : {X : Type 0} (p : X → Bool) (xs : List X) (i : ℕ) (x : X) → list_all p xs ≡ true → i < length xs → x ≡ get_or xs i x → p x ≡ true
all_at p [] i x all h is = absurd (omega arith)
all_at p (y ∷ ys) zero x all h is = ap p is ∙ (and_parts (p y) (list_all p ys) all).0
all_at p (y ∷ ys) (suc i) x all h is = all_at p ys i x (and_parts (p y) (list_all p ys) all).1 (omega (arith, h)) is

walk_columns : list_all (λ t. is_some (columns_of t)) walk_tables ≡ true
unfolding walk_tables is_root_table tables
walk_columns = refl

pub walk_known : (ts : List ℕ) (i t : ℕ) → ts ≡ walk_tables → i < length ts → t ≡ get_or ts i t → is_some (columns_of t) ≡ true
walk_known ts i t same h is = all_at (λ t. is_some (columns_of t)) ts i t (ap (list_all (λ t. is_some (columns_of t))) same ∙ walk_columns) h is

pub walk_end : (ts : List ℕ) (i : ℕ) → length ts ≤ i → take i ts ≡ ts
walk_end ts i h = take_all i ts h

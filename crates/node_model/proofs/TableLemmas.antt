-- Which tables have keys: those of the schema, whose numbers are below 45 (ECMA-335 II.22).
use Rattle.std.proofs.Common.{◌≡◌, ◌∙◌, refl, sym, ap, ℕ, ◌<◌, Bool, true, false, cond, List, [], ◌∷◌, Option, Some, None, is_some, nat_lt, length, arith}
use Rattle.std.specs.Prelude.{◌+◌, suc, not, ◌==◌, ◌||◌}
use Rattle.std.specs.List.{find, list_all, list_any, position, position_or_len}
use Rattle.std.specs.Option.{option_and_then, option_map, option_map_or}
use Rattle.std.proofs.lemmas.Bool.{and_parts}
use Rattle.std.proofs.lemmas.Bool.Decides.{nat_tests}
use Rattle.md_schema.specs.CodedKind.{tables_of}
use Rattle.md_schema.specs.Entry.{columns_of, holder_of, table_entry_of}
use Rattle.md_schema.specs.Link.{link_kind_of}
use Rattle.md_schema.specs.Reference.{is_tag_table, may_name_of}
use Rattle.md_schema.specs.Schema.{TableOf, tables}
use Rattle.md_schema.specs.declared.column.ColumnKind.{ColumnKind}
use Rattle.md_schema.specs.declared.column.ColumnKind.TheVariants.{Index, Coded}
use Rattle.md_schema.specs.declared.holder.Holder.{Holder}
use Rattle.md_schema.specs.declared.link.Link.{Link}
use Rattle.md_schema.specs.declared.link.Link.TheVariants.{InterfaceImpl, Constant, CustomAttribute, FieldMarshal, DeclSecurity, ClassLayout, FieldLayout, EventMap, PropertyMap, MethodSemantics, MethodImpl, ImplMap, FieldRVA, NestedClass, Nested, GenericParam, GenericParamConstraint}
use Rattle.node_model.specs.KeyKinds.{has_kind, has_sig, is_root_holder, is_root_table, may_link, owns_table}
use Rattle.node_model.specs.Keys.{is_of_root, token_of_key}
use Rattle.node_model.specs.declared.key.Key.{Key}
use Rattle.node_model.specs.declared.key.Key.TheVariants.{Row, Sig, Owned, Linked, Body, Data, Resource, Facts}

abbrev is_low : TableOf → Bool
is_low table = nat_lt table.number 45

all_low : list_all is_low tables ≡ true
unfolding tables
all_low = refl

found_low : (ts : List TableOf) (n : ℕ) → list_all is_low ts ≡ true → is_some (find (λ table. table.number == n) ts) ≡ true → n < 45
found_low [] n all found = absurd cc
found_low (t ∷ ts) n all found = by (t.number == n) refl (found_low ts n) found
  where
    by : (b : Bool) → (t.number == n) ≡ b → (list_all is_low ts ≡ true → is_some (find (λ table. table.number == n) ts) ≡ true → n < 45)
        → is_some (cond b (Some t) (find (λ table. table.number == n) ts)) ≡ true → n < 45
    by true is rest h =
        let low = (and_parts (is_low t) (list_all is_low ts) all).0 in
        grind (arith, nat_tests, low, is)
    by false is rest h = rest (and_parts (is_low t) (list_all is_low ts) all).1 h

table_low : (n : ℕ) → is_some (table_entry_of n) ≡ true → n < 45
table_low n found = found_low tables n all_low found

mapped_some : {A B : Type 0} (f : A → B) (o : Option A) → is_some (option_map f o) ≡ true → is_some o ≡ true
mapped_some f None h = absurd cc
mapped_some f (Some a) h = refl

then_some : {A B : Type 0} (f : A → Option B) (o : Option A) → is_some (option_and_then f o) ≡ true → is_some o ≡ true
then_some f None h = absurd cc
then_some f (Some a) h = refl

columns_low : (n : ℕ) → is_some (columns_of n) ≡ true → n < 45
columns_low n h = table_low n (mapped_some (λ table. table.columns) (table_entry_of n) h)

-- the tables that a link's column may name
abbrev is_low_tag : Option ℕ → Bool
is_low_tag None = true
is_low_tag (Some n) = nat_lt n 45

abbrev names_low : ColumnKind → Bool
names_low (Index n) = nat_lt n 45
names_low (Coded kind) = list_all is_low_tag (tables_of kind)
names_low _ = true

abbrev names_low_if : Option ColumnKind → Bool
names_low_if None = true
names_low_if (Some kind) = names_low kind

links_low : (l : Link) → names_low_if (link_kind_of l) ≡ true
unfolding tables
links_low InterfaceImpl = refl
links_low Constant = refl
links_low CustomAttribute = refl
links_low FieldMarshal = refl
links_low DeclSecurity = refl
links_low ClassLayout = refl
links_low FieldLayout = refl
links_low EventMap = refl
links_low PropertyMap = refl
links_low MethodSemantics = refl
links_low MethodImpl = refl
links_low ImplMap = refl
links_low FieldRVA = refl
links_low NestedClass = refl
links_low Nested = refl
links_low GenericParam = refl
links_low GenericParamConstraint = refl

tags_low : (tags : List (Option ℕ)) (n : ℕ) → list_all is_low_tag tags ≡ true → list_any (is_tag_table n) tags ≡ true → n < 45
tags_low [] n all h = absurd cc
tags_low (None ∷ tags) n all h = tags_low tags n all h
tags_low (Some m ∷ tags) n all h = by (m == n) refl (tags_low tags n (and_parts (nat_lt m 45) (list_all is_low_tag tags) all).1) h
  where
    by : (b : Bool) → (m == n) ≡ b → (list_any (is_tag_table n) tags ≡ true → n < 45) → (b || list_any (is_tag_table n) tags) ≡ true → n < 45
    by true is rest h =
        let low = (and_parts (nat_lt m 45) (list_all is_low_tag tags) all).0 in
        grind (arith, nat_tests, low, is)
    by false is rest h = rest h

named_low : (o : Option ColumnKind) (n : ℕ) → names_low_if o ≡ true → option_map_or (λ kind. may_name_of kind n) o false ≡ true → n < 45
named_low None n low h = absurd cc
named_low (Some (Index m)) n low h = grind (arith, nat_tests)
named_low (Some (Coded kind)) n low h = tags_low (tables_of kind) n low h
named_low (Some _) n low h = absurd cc

-- the table of a key's row, where it has the key's kind
pub table_of_key : (k : Key) → is_of_root k ≡ false → has_kind k ≡ true → (token_of_key k).table < 45
unfolding has_sig owns_table may_link
table_of_key (Row t) r h = columns_low t.table h
table_of_key (Sig t) r h = columns_low t.table (then_some _ (columns_of t.table) h)
table_of_key (Owned t n) r h =
    let owns : owns_table t.table n ≡ true = sym (ap (λ (x : Bool). cond x (is_root_table n) (owns_table t.table n)) r) ∙ h in
    columns_low t.table (then_some _ (columns_of t.table) owns)
table_of_key (Linked t l) r h = named_low (link_kind_of l) t.table (links_low l) h
table_of_key (Body t) r h = grind (arith, nat_tests)
table_of_key (Data t) r h = grind (arith, nat_tests)
table_of_key (Resource t) r h = grind (arith, nat_tests)
table_of_key Facts r h = absurd cc

listed_low : (o : Option Holder) → is_root_holder o ≡ true → is_some o ≡ true
listed_low None h = absurd cc
listed_low (Some holder) h = refl

-- a table that the image itself lists
pub root_table_low : (n : ℕ) → is_root_table n ≡ true → n < 45
unfolding is_root_table
root_table_low n h = table_low n (mapped_some (λ table. table.holder) (table_entry_of n) (listed_low (holder_of n) h))

cond_some : (b : Bool) (n : ℕ) → is_some (cond b (Some n) None) ≡ b
cond_some true n = refl
cond_some false n = refl

lt_one_more : (a b : ℕ) → nat_lt (1 + a) (suc b) ≡ nat_lt a b
lt_one_more a b = grind (arith, nat_tests)

none_before : (n : ℕ) → nat_lt 0 (suc n) ≡ true
none_before n = grind (arith, nat_tests)

first_within : {A : Type 0} (p : A → Bool) (xs : List A) → nat_lt (position_or_len p xs) (length xs) ≡ list_any p xs
first_within p [] = refl
first_within p (x ∷ xs) = by (p x) (first_within p xs)
  where
    by : (b : Bool) → nat_lt (position_or_len p xs) (length xs) ≡ list_any p xs
        → nat_lt (cond (not b) (1 + position_or_len p xs) 0) (suc (length xs)) ≡ (b || list_any p xs)
    by true is = none_before (length xs)
    by false is = lt_one_more (position_or_len p xs) (length xs) ∙ is

-- there is a first item that passes where one does
pub position_any : {A : Type 0} (p : A → Bool) (xs : List A) → is_some (position p xs) ≡ list_any p xs
position_any p xs = cond_some (nat_lt (position_or_len p xs) (length xs)) (position_or_len p xs) ∙ first_within p xs

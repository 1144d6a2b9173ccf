-- The walks for names look at none but keys that are there, and of kinds that their tables have.
use Rattle.std.proofs.Common.{◌≡◌, refl, ◌∙◌, ap, ℕ, zero, suc, Bool, true, false, List, [], ◌∷◌, Option, Some, None, if◌then◌else◌, is_some, find, arith, tests}
use Rattle.std.specs.Prelude.{codes, ◌==◌, ◌&&◌, ◌||◌}
use Rattle.std.proofs.lemmas.Bool.{and_parts}
use Rattle.cil_base.specs.Token.{Token}
use Rattle.md_schema.specs.Entry.{columns_of}
use Rattle.md_schema.specs.Schema.{tables}
use Rattle.md_schema.specs.Tables.{assembly, assembly_ref, nested_class, type_def, type_ref, type_spec}
use Rattle.md_schema.specs.declared.link.Link.TheVariants.{NestedClass}
use Rattle.pe_image.proofs.Finding.{find-passes}
use Rattle.sig_tree.specs.Printed.{named_sig, own_text, tokens}
use Rattle.node_model.specs.KeyKinds.{has_sig, may_link}
use Rattle.node_model.specs.Nodes.{Nodes, is_live_row}
use Rattle.node_model.specs.RowNames.{assembly_walk, has_name, is_assembly_table, is_member, is_type_table, name_of_type, name_walk, named_in_sig, nested_walk, scoped_walk, sig_walk, type_def_walk, type_name_level, type_name_walk, type_ref_walk, unknown_name, within_walk}
use Rattle.node_model.specs.RowTexts.{inner_type_name, own_type_name, token_named}
use Rattle.node_model.specs.Walk.{Walk, Gives, Asks, each_walk, then_walk}
use Rattle.node_model.specs.declared.key.Key.TheVariants.{Row, Sig, Linked}
use Rattle.node_model.specs.declared.value.RowValue.{RowValue}
use Rattle.node_model.proofs.KnownLemmas.{Known, knows, live_key}

pub known_then : {A R : Type 0} (n : Nodes) (w : Walk A) (f : A → Walk R) → Known n w → ((a : A) → Known n (f a)) → Known n (then_walk w f)
known_then n (Gives a) f known rest = rest a
known_then n (Asks k g) f known rest = (known.0, λ v. known_then n (g v) f (known.1 v) rest)

pub known_each : {A R : Type 0} (n : Nodes) (f : A → Walk R) (xs : List A) → ((x : A) → Known n (f x)) → Known n (each_walk f xs)
known_each n f [] each = tt
known_each n f (x ∷ xs) each =
    known_then n (f x) (λ r. then_walk (each_walk f xs) (λ rs. Gives (r ∷ rs))) (each x)
    (λ r. known_then n (each_walk f xs) (λ rs. Gives (r ∷ rs)) (known_each n f xs each) (λ rs. tt))

-- what holds of a table holds of a row of the table
pub at_table : (P : ℕ → Bool) (t table : ℕ) → (t == table) ≡ true → P table ≡ true → P t ≡ true
at_table P t table e has =
    let same : t ≡ table = grind (arith, tests) in
    ap P same ∙ has

abbrev pub has_rows : ℕ → Bool
has_rows table = is_some (columns_of table)

-- the row of a member is known
pub member_known : (n : Nodes) (table : ℕ) (t : Token) → has_rows table ≡ true → is_member n table t ≡ true → knows n (Row t) ≡ true
member_known n table t has member =
    let parts = and_parts (is_live_row n t) (t.table == table) member in
    live_key n (Row t) parts.0 (at_table has_rows t.table table parts.1 has)

-- the tables whose rows are looked at for names have rows, and types are linked to NestedClass rows
record NameKinds : Type 0 where
  pub types : has_rows type_def ≡ true
  pub references : has_rows type_ref ≡ true
  pub nestings : has_rows nested_class ≡ true
  pub assemblies : has_rows assembly ≡ true
  pub assembly_refs : has_rows assembly_ref ≡ true
  pub nested : may_link type_def NestedClass ≡ true

name_kinds : NameKinds
unfolding tables may_link
name_kinds = record { types = refl; references = refl; nestings = refl; assemblies = refl; assembly_refs = refl; nested = refl }

-- one of two tables
one_or : (P : ℕ → Bool) (t a b : ℕ) → ((t == a) || (t == b)) ≡ true → P a ≡ true → P b ≡ true → P t ≡ true
one_or P t a b e first second = by_test (t == a) refl e
  where
    by_test : (x : Bool) → (t == a) ≡ x → (x || (t == b)) ≡ true → P t ≡ true
    by_test true is e = at_table P t a is first
    by_test false is e = at_table P t b e second

-- the walks for the types that a type is in
abbrev InnerKnown : Nodes → (Token → Walk (List ℕ)) → Type 0
InnerKnown n inner = (t : Token) → is_live_row n t ≡ true → is_type_table t.table ≡ true → Known n (inner t)

named_known : (n : Nodes) (inner : Token → Walk (List ℕ)) → InnerKnown n inner → (o : Option Token) → Known n (name_of_type n inner o)
named_known n inner each None = tt
named_known n inner each (Some t) = by_test (is_live_row n t && is_type_table t.table) refl
  where
    by_test : (x : Bool) → (is_live_row n t && is_type_table t.table) ≡ x → Known n (if x then inner t else Gives unknown_name)
    by_test true is =
        let parts = and_parts (is_live_row n t) (is_type_table t.table) is in
        each t parts.0 parts.1
    by_test false is = tt

nested_known : (n : Nodes) (inner : Token → Walk (List ℕ)) → InnerKnown n inner → (t : Token) → knows n (Row t) ≡ true
    → (o : Option Token) → ((m : Token) → o ≡ Some m → is_member n nested_class m ≡ true) → Known n (nested_walk n inner t o)
nested_known n inner each t row None found = (row, λ r. tt)
nested_known n inner each t row (Some m) found = (
  member_known n nested_class m name_kinds.nestings (found m refl),
  λ nesting. known_then n (name_of_type n inner (token_named (codes "EnclosingClass") nesting)) (within_walk t)
      (named_known n inner each (token_named (codes "EnclosingClass") nesting)) (λ outer. (row, λ r. tt)),
)

scoped_known : (n : Nodes) (inner : Token → Walk (List ℕ)) → InnerKnown n inner → (row : RowValue) (o : Option Token) → Known n (scoped_walk n inner row o)
scoped_known n inner each row None = tt
scoped_known n inner each row (Some scope) = by_table (scope.table == type_ref)
  where
    by_table : (x : Bool) → Known n (if x then then_walk (name_of_type n inner (Some scope)) (λ outer. Gives (inner_type_name outer row)) else Gives (own_type_name row))
    by_table true =
        known_then n (name_of_type n inner (Some scope)) (λ outer. Gives (inner_type_name outer row)) (named_known n inner each (Some scope)) (λ outer. tt)
    by_table false = tt

or_second : (x y : Bool) → x ≡ false → (x || y) ≡ true → y ≡ true
or_second false y e f = f
or_second true y e f = absurd cc

level_known : (n : Nodes) (inner : Token → Walk (List ℕ)) → InnerKnown n inner → InnerKnown n (type_name_level n inner)
unfolding type_name_level
level_known n inner each t live type = by_table (t.table == type_def) refl
  where
    by_table : (x : Bool) → (t.table == type_def) ≡ x → Known n (if x then type_def_walk n inner t else type_ref_walk n inner t)
    by_table true is = (
      live_key n (Linked t NestedClass) live (at_table (λ m. may_link m NestedClass) t.table type_def is name_kinds.nested),
      λ ts. nested_known n inner each t (live_key n (Row t) live (at_table has_rows t.table type_def is name_kinds.types))
          (find (is_member n nested_class) ts) (λ m found. find-passes (is_member n nested_class) ts m found),
    )
    by_table false is = (
      live_key n (Row t) live (at_table has_rows t.table type_ref (or_second (t.table == type_def) (t.table == type_ref) is type) name_kinds.references),
      λ row. scoped_known n inner each row (token_named (codes "ResolutionScope") row),
    )

pub type_known : (n : Nodes) (depth : ℕ) → InnerKnown n (type_name_walk n depth)
type_known n zero t live type = tt
type_known n (suc depth) t live type = level_known n (type_name_walk n depth) (λ t live type. type_known n depth t live type) t live type

in_sig_known : (n : Nodes) (inner : Token → Walk (List ℕ)) → InnerKnown n inner → (t : Token) → Known n (named_in_sig n inner t)
in_sig_known n inner each t = by_test (is_member n type_spec t)
  where
    by_test : (x : Bool) → Known n (if x then Gives (own_text t) else name_of_type n inner (Some t))
    by_test true = tt
    by_test false = named_known n inner each (Some t)

sig_known : (n : Nodes) (inner : Token → Walk (List ℕ)) → InnerKnown n inner → (t : Token) → is_live_row n t ≡ true → has_sig t.table ≡ true
    → Known n (sig_walk n inner t)
unfolding sig_walk
sig_known n inner each t live has = (
  live_key n (Sig t) live has,
  λ sig. known_then n (each_walk (named_in_sig n inner) (tokens sig)) (λ names. Gives (named_sig sig names))
      (known_each n (named_in_sig n inner) (tokens sig) (λ t. in_sig_known n inner each t)) (λ names. tt),
)

-- the name of a row that is there, and whose table has names
pub name_known : (n : Nodes) (t : Token) → is_live_row n t ≡ true → has_name t.table ≡ true → Known n (name_walk n t)
unfolding name_walk has_name
name_known n t live has = by_type (is_type_table t.table) refl has
  where
    by_assembly : (x : Bool) → is_assembly_table t.table ≡ x → (x || has_sig t.table) ≡ true
        → Known n (if x then assembly_walk t else sig_walk n (type_name_walk n 63) t)
    by_assembly true is has = (live_key n (Row t) live (one_or has_rows t.table assembly assembly_ref is name_kinds.assemblies name_kinds.assembly_refs), λ row. tt)
    by_assembly false is has = sig_known n (type_name_walk n 63) (type_known n 63) t live has

    by_type : (x : Bool) → is_type_table t.table ≡ x → (x || (is_assembly_table t.table || has_sig t.table)) ≡ true
        → Known n (if x then type_name_walk n 64 t
        else (if is_assembly_table t.table then assembly_walk t else sig_walk n (type_name_walk n 63) t))
    by_type true is has = type_known n 64 t live is
    by_type false is has = by_assembly (is_assembly_table t.table) refl has

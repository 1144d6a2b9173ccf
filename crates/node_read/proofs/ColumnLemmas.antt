-- The columns that the code reads by number are those that the definition reads by name.
use Rattle.std.proofs.Common.{◌≡◌, ℕ, zero, suc, ◌<◌, List, [], ◌∷◌, Option, Some, None, slice_get, length, Bool, true, false, nat_lt, cond, codes, refl, sym, subst, arith}
use Rattle.std.specs.List.{position, position_or_len}
use Rattle.std.proofs.lemmas.Bool.{ltb-true}
use Rattle.std.specs.Option.{IsSome, option_and_then}
use Rattle.md_schema.specs.Column.{ColumnOf}
use Rattle.md_schema.specs.Entry.{column_of, columns_of}
use Rattle.md_schema.specs.Schema.{tables}
use Rattle.md_schema.specs.Tables.{class_layout, field_rva, manifest_resource, method_def}
use Rattle.node_model.specs.KeyKinds.{is_sig_kind, sig_column_of}
use Rattle.node_model.specs.Streams.{column_named}

pub method-rva : column_named method_def (codes "RVA") ≡ 0
unfolding tables
method-rva = refl

pub method-impl_flags : column_named method_def (codes "ImplFlags") ≡ 1
unfolding tables
method-impl_flags = refl

pub data-rva : column_named field_rva (codes "RVA") ≡ 0
unfolding tables
data-rva = refl

pub data-field : column_named field_rva (codes "Field") ≡ 1
unfolding tables
data-field = refl

pub class-size : column_named class_layout (codes "ClassSize") ≡ 1
unfolding tables
class-size = refl

pub resource-offset : column_named manifest_resource (codes "Offset") ≡ 0
unfolding tables
resource-offset = refl

pub resource-implementation : column_named manifest_resource (codes "Implementation") ≡ 3
unfolding tables
resource-implementation = refl

pub method-rva-there : IsSome (column_of method_def 0)
unfolding tables
method-rva-there = refl

pub method-impl_flags-there : IsSome (column_of method_def 1)
unfolding tables
method-impl_flags-there = refl

pub data-rva-there : IsSome (column_of field_rva 0)
unfolding tables
data-rva-there = refl

pub data-field-there : IsSome (column_of field_rva 1)
unfolding tables
data-field-there = refl

pub class-size-there : IsSome (column_of class_layout 1)
unfolding tables
class-size-there = refl

pub resource-offset-there : IsSome (column_of manifest_resource 0)
unfolding tables
resource-offset-there = refl

pub resource-implementation-there : IsSome (column_of manifest_resource 3)
unfolding tables
resource-implementation-there = refl

some-within : {A : Type 0} (xs : List A) (n : ℕ) → n < length xs → IsSome (slice_get xs n)
some-within [] n h = absurd (omega arith)
some-within (x ∷ xs) zero h = refl
some-within (x ∷ xs) (suc n) h = some-within xs n (omega arith)

-- a column of a number below that of the columns is there
pub column-within : (t n : ℕ) (cols : List ColumnOf) → columns_of t ≡ Some cols → n < length cols → IsSome (column_of t n)
column-within t n cols known h = subst (λ (o : Option (List ColumnOf)). IsSome (option_and_then (λ columns. slice_get columns n) o)) (sym known) (some-within cols n h)

-- the place of the first item that passes is within
position-within : {A : Type 0} (p : A → Bool) (xs : List A) (n : ℕ) → position p xs ≡ Some n → n < length xs
position-within p xs n =
    elim (nat_lt (position_or_len p xs) (length xs)) as (λ b. nat_lt (position_or_len p xs) (length xs) ≡ b → cond b (Some (position_or_len p xs)) None ≡ Some n → n < length xs) [
      | true ↦ λ within e. let same : position_or_len p xs ≡ n = cc in subst (λ (m : ℕ). m < length xs) same (ltb-true (position_or_len p xs) (length xs) within)
      | false ↦ λ past e. absurd (cc)
    ] refl

sig-within : (n : ℕ) (o : Option (List ColumnOf)) → option_and_then (λ columns. position (λ column. is_sig_kind column.kind) columns) o ≡ Some n → IsSome (option_and_then (λ columns. slice_get columns n) o)
sig-within n None e = absurd (cc)
sig-within n (Some columns) e = some-within columns n (position-within (λ (column : ColumnOf). is_sig_kind column.kind) columns n e)

-- the column of a signature is there
pub sig_there : (t n : ℕ) → sig_column_of t ≡ Some n → IsSome (column_of t n)
sig_there t n e = sig-within n (columns_of t) e

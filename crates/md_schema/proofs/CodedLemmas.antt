-- A number is its quotient and its rest, as the row and the tag of a coded index, and says one thing.
use Rattle.std.proofs.Common.{◌≡◌, ℕ, ◌+◌, ◌*◌, ◌^◌, ◌<◌, ◌/◌, ◌%◌, ◌==◌, nat_lt, true, false, cond, Option, Some, None, refl, sym, ap, subst, ◌∙◌, arith, lit<}
use Rattle.std.proofs.Math.Nat.{mod-lt, one-le-pow}
use Rattle.std.proofs.lemmas.Bool.{eqb-false, eqb-true, lt-ltb, le-ltb, ltb-false, ltb-true, ne_eqb}
use Rattle.std.proofs.lemmas.Nat.{div-add-mod', div-mul-add, mod-mul-add}
use Rattle.std.specs.Option.{IsSome}
use Rattle.md_schema.specs.CodedKind.{tag_bits_of, tag_table_of}
use Rattle.md_schema.specs.Coded.{CodedDecodes, Decodes, Packs, coded_from, coded_of, row_in}
use Rattle.md_schema.specs.declared.coded_kind.CodedKind.{CodedKind}
use Rattle.md_schema.specs.declared.coded.Coded.{Coded}
use Rattle.md_schema.specs.declared.coded.Coded.TheVariants.{Null, Is, BadTag, Beyond}

-- the row part and the tag are the quotient and the rest
pub unpacked : (kind : CodedKind) (value rid tag : ℕ) → Packs kind value rid tag
    → (value / 2 ^ tag_bits_of kind ≡ rid) × (value % 2 ^ tag_bits_of kind ≡ tag)
unpacked kind value rid tag p =
    let tags = 2 ^ tag_bits_of kind in
    (ap (λ v. v / tags) p.sum ∙ div-mul-add rid tags tag p.narrow, ap (λ v. v % tags) p.sum ∙ mod-mul-add rid tags tag p.narrow)

packed : (kind : CodedKind) (value : ℕ) → Packs kind value (value / 2 ^ tag_bits_of kind) (value % 2 ^ tag_bits_of kind)
packed kind value =
    let tags = 2 ^ tag_bits_of kind in
    record { sum = sym (div-add-mod' value tags); narrow = mod-lt value (one-le-pow (tag_bits_of kind) 2 (lit< tt)) }

-- a number below the tags has no row part
pub packed_tag : (kind : CodedKind) (value : ℕ) → value < 2 ^ tag_bits_of kind → Packs kind value 0 value
packed_tag kind value small = record { sum = omega arith; narrow = small }

by_parts : (kind : CodedKind) (value rid tag : ℕ) → Packs kind value rid tag → coded_of kind value ≡ coded_from kind rid tag
unfolding coded_of
by_parts kind value rid tag p =
    let parts = unpacked kind value rid tag p in
    ap (λ r. coded_from kind r (value % 2 ^ tag_bits_of kind)) parts.0 ∙ ap (λ t. coded_from kind rid t) parts.1

-- a row part that is not 0 goes by its tag
by_tag : (kind : CodedKind) (rid tag : ℕ) (named : Option ℕ) → 0 < rid → tag_table_of kind tag ≡ named → coded_from kind rid tag ≡ row_in named rid tag
by_tag kind rid tag named row is =
    let other : (rid == 0) ≡ false = ne_eqb rid 0 (λ e. omega arith) in
    ap (λ b. cond b Null (row_in (tag_table_of kind tag) rid tag)) other ∙ ap (λ o. row_in o rid tag) is

-- what the function gives is said

row_decodes : (kind : CodedKind) (value rid tag : ℕ) (named : Option ℕ) → Packs kind value rid tag → 0 < rid → tag_table_of kind tag ≡ named → Decodes kind value (row_in named rid tag)
row_decodes kind value rid tag None p row is = (rid, p, row, is)
row_decodes kind value rid tag (Some table) p row is =
    elim (nat_lt rid (2 ^ 24)) as (λ b. nat_lt rid (2 ^ 24) ≡ b → Decodes kind value (cond b (Is (record { table = table; rid = rid })) (Beyond rid))) [
      | true ↦ λ t. (tag, p, row, ltb-true rid (2 ^ 24) t, is)
      | false ↦ λ t. (tag, p, ltb-false rid (2 ^ 24) t, subst (λ (o : Option ℕ). IsSome o) (sym is) refl)
    ] refl

parts_decode : (kind : CodedKind) (value rid tag : ℕ) → Packs kind value rid tag → Decodes kind value (coded_from kind rid tag)
parts_decode kind value rid tag p =
    elim (rid == 0) as (λ b. (rid == 0) ≡ b → Decodes kind value (cond b Null (row_in (tag_table_of kind tag) rid tag))) [
      | true ↦ λ t.
          let none : value ≡ 0 * 2 ^ tag_bits_of kind + tag = p.sum ∙ ap (λ r. r * 2 ^ tag_bits_of kind + tag) (eqb-true rid 0 t) in
          omega (arith, none, p.narrow)
      | false ↦ λ t. let row : 0 < rid = omega (arith, eqb-false rid 0 t) in row_decodes kind value rid tag (tag_table_of kind tag) p row refl
    ] refl

decodes : (kind : CodedKind) (value : ℕ) → Decodes kind value (coded_of kind value)
unfolding coded_of
decodes kind value = parts_decode kind value (value / 2 ^ tag_bits_of kind) (value % 2 ^ tag_bits_of kind) (packed kind value)

-- and what is said is given

named_row : (o : Option ℕ) → IsSome o → (table : ℕ) × (o ≡ Some table)
named_row None h = absurd (cc)
named_row (Some table) h = (table, refl)

given : (kind : CodedKind) (value : ℕ) (coded : Coded) → Decodes kind value coded → coded_of kind value ≡ coded
given kind value Null small = by_parts kind value 0 value (packed_tag kind value small)
given kind value (Is token) (tag, p, row, small, is) =
    by_parts kind value token.rid tag p ∙ by_tag kind token.rid tag (Some token.table) row is
    ∙ ap (λ b. cond b (Is token) (Beyond token.rid)) (lt-ltb token.rid (2 ^ 24) small)
given kind value (BadTag tag) (rid, p, row, is) = by_parts kind value rid tag p ∙ by_tag kind rid tag None row is
given kind value (Beyond rid) (tag, p, large, some) =
    let (table, is) = named_row (tag_table_of kind tag) some in
    let row : 0 < rid = omega (arith, large) in
    by_parts kind value rid tag p ∙ by_tag kind rid tag (Some table) row is
    ∙ ap (λ b. cond b (Is (record { table = table; rid = rid })) (Beyond rid)) (le-ltb rid (2 ^ 24) large)

pub coded-decodes : CodedDecodes
coded-decodes kind value coded = (λ e. subst (Decodes kind value) e (decodes kind value), given kind value coded)

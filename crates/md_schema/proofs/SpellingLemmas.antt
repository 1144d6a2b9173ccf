-- Tables stand once among the tags of a kind, so a token has one number.
use Rattle.std.proofs.Common.{◌≡◌, ℕ, zero, suc, ◌+◌, ◌*◌, ◌^◌, ◌<◌, ◌≤◌, ◌==◌, ◌&&◌, not, ◌||◌, Bool, true, false, List, [], ◌∷◌, length, Option, Some, None, slice_get, refl, sym, ap, subst, ◌∙◌, arith, lit≤}
use Rattle.std.proofs.lemmas.Bool.{and_parts, or_right}
use Rattle.std.proofs.lemmas.Bool.Decides.{nat_tests}
use Rattle.std.proofs.lemmas.Option.{none-some, same_Some}
use Rattle.std.specs.Option.{unwrap_or}
use Rattle.std.specs.List.{list_any}
use Rattle.md_schema.specs.CodedKind.{tag_table_of, tables_of, tag_bits_of}
use Rattle.md_schema.specs.Coded.{Packs}
use Rattle.md_schema.specs.Reference.{is_tag_table}
use Rattle.md_schema.specs.Spelling.{EachSpelledOnce, WrittenIsRead, WrittenOnce}
use Rattle.md_schema.specs.declared.coded_kind.CodedKind.{CodedKind}
use Rattle.md_schema.specs.declared.coded_kind.CodedKind.TheVariants.{TypeDefOrRef, HasConstant, HasCustomAttribute, HasFieldMarshal, HasDeclSecurity, MemberRefParent, HasSemantics, MethodDefOrRef, MemberForwarded, Implementation, CustomAttributeType, ResolutionScope, TypeOrMethodDef}
use Rattle.md_schema.specs.declared.column.ColumnKind.TheVariants.{Index, Coded as Choice}
use Rattle.md_schema.specs.declared.coded.Coded.TheVariants.{Null, Is, BadTag, Beyond}
use Rattle.md_schema.proofs.CodedLemmas.{packed_tag, unpacked}

-- the table at a place of a list of tags
abbrev at : List (Option ℕ) → ℕ → Option ℕ
at named tag = unwrap_or (slice_get named tag) None

-- no table stands twice
distinct : List (Option ℕ) → Bool
distinct [] = true
distinct (None ∷ named) = distinct named
distinct (Some number ∷ named) = not (list_any (is_tag_table number) named) && distinct named

each_distinct : (kind : CodedKind) → distinct (tables_of kind) ≡ true
unfolding distinct
each_distinct TypeDefOrRef = refl
each_distinct HasConstant = refl
each_distinct HasCustomAttribute = refl
each_distinct HasFieldMarshal = refl
each_distinct HasDeclSecurity = refl
each_distinct MemberRefParent = refl
each_distinct HasSemantics = refl
each_distinct MethodDefOrRef = refl
each_distinct MemberForwarded = refl
each_distinct Implementation = refl
each_distinct CustomAttributeType = refl
each_distinct ResolutionScope = refl
each_distinct TypeOrMethodDef = refl

each_fits : (kind : CodedKind) → length (tables_of kind) ≤ 2 ^ tag_bits_of kind
each_fits TypeDefOrRef = lit≤ tt
each_fits HasConstant = lit≤ tt
each_fits HasCustomAttribute = lit≤ tt
each_fits HasFieldMarshal = lit≤ tt
each_fits HasDeclSecurity = lit≤ tt
each_fits MemberRefParent = lit≤ tt
each_fits HasSemantics = lit≤ tt
each_fits MethodDefOrRef = lit≤ tt
each_fits MemberForwarded = lit≤ tt
each_fits Implementation = lit≤ tt
each_fits CustomAttributeType = lit≤ tt
each_fits ResolutionScope = lit≤ tt
each_fits TypeOrMethodDef = lit≤ tt

decide : {P : Type 0} (b : Bool) → (b ≡ true → P) → (b ≡ false → P) → P
decide true y n = y refl
decide false y n = n refl

same : (n : ℕ) → (n == n) ≡ true
same n = grind (arith, nat_tests)

-- a table at a place is among them
among : (named : List (Option ℕ)) (tag number : ℕ) → at named tag ≡ Some number → list_any (is_tag_table number) named ≡ true
among [] tag number h = absurd (cc)
among (named ∷ more) zero number h =
    let here : is_tag_table number named ≡ true = ap (is_tag_table number) h ∙ same number in
    ap (λ b. b || list_any (is_tag_table number) more) here
among (named ∷ more) (suc tag) number h =
    ap (λ b. is_tag_table number named || b) (among more tag number h) ∙ or_right (is_tag_table number named) true refl

-- and one that is among them stands at a place
place : (named : List (Option ℕ)) (number : ℕ) → list_any (is_tag_table number) named ≡ true → (tag : ℕ) × (tag < length named) × (at named tag ≡ Some number)
place [] number h = absurd (cc)
place (None ∷ more) number h = let r = place more number h in (suc r.0, omega (arith, r.1), r.2)
place (Some other ∷ more) number h =
    decide (other == number)
    (λ e. let is : other ≡ number = grind (arith, nat_tests) in (0, omega arith, ap Some is))
    (λ e. let r = place more number (subst (λ b. (b || list_any (is_tag_table number) more) ≡ true) e h) in (suc r.0, omega (arith, r.1), r.2))

-- a table that stands before others is not among them
no_more : (other : ℕ) (more : List (Option ℕ)) (number : ℕ) → not (list_any (is_tag_table other) more) ≡ true → other ≡ number → list_any (is_tag_table number) more ≡ true → ⊥
no_more other more number n e h =
    let clash : true ≡ false = sym n ∙ ap (λ o. not (list_any (is_tag_table o) more)) e ∙ ap not h in
    cc

one_place : (named : List (Option ℕ)) (i j number : ℕ) → distinct named ≡ true → at named i ≡ Some number → at named j ≡ Some number → i ≡ j
unfolding distinct
one_place [] i j number d h k = absurd (cc)
one_place (named ∷ more) zero zero number d h k = refl
one_place (None ∷ more) (suc i) (suc j) number d h k = ap suc (one_place more i j number d h k)
one_place (Some other ∷ more) (suc i) (suc j) number d h k = ap suc (one_place more i j number (and_parts _ _ d).1 h k)
one_place (None ∷ more) zero (suc j) number d h k = absurd (cc)
one_place (None ∷ more) (suc i) zero number d h k = absurd (cc)
one_place (Some other ∷ more) zero (suc j) number d h k =
    absurd (no_more other more number (and_parts _ _ d).0 (same_Some other number h) (among more j number k))
one_place (Some other ∷ more) (suc i) zero number d h k =
    absurd (no_more other more number (and_parts _ _ d).0 (same_Some other number k) (among more i number h))

-- a number has one row part and one tag
same_parts : (kind : CodedKind) (value r t r' t' : ℕ) → Packs kind value r t → Packs kind value r' t' → (r ≡ r') × (t ≡ t')
same_parts kind value r t r' t' p q =
    let one = unpacked kind value r t p in
    let other = unpacked kind value r' t' q in
    (sym one.0 ∙ other.0, sym one.1 ∙ other.1)

pub written_is_read : WrittenIsRead
written_is_read kind token value Null row (tag, p, e) r =
    let zero_part = packed_tag kind value r in
    let parts = same_parts kind value token.rid tag 0 value p zero_part in
    absurd (omega (arith, parts.0, row.first))
written_is_read kind token value (Is found) row (tag, p, e) (tag', q, positive, small, e') =
    let parts = same_parts kind value found.rid tag' token.rid tag q p in
    let table : found.table ≡ token.table = same_Some found.table token.table (sym e' ∙ ap (tag_table_of kind) parts.1 ∙ e) in
    ap (λ t. Is (record { table = t; rid = found.rid })) table ∙ ap (λ n. Is (record { table = token.table; rid = n })) parts.0
written_is_read kind token value (BadTag tag') row (tag, p, e) (rid, q, positive, none) =
    let parts = same_parts kind value rid tag' token.rid tag q p in
    let clash : None ≡ Some token.table = sym none ∙ ap (tag_table_of kind) parts.1 ∙ e in
    absurd (none-some token.table clash)
written_is_read kind token value (Beyond rid) row (tag, p, e) (tag', q, large, some) =
    let parts = same_parts kind value rid tag' token.rid tag q p in
    absurd (omega (arith, parts.0, row.last, large))

-- a table has one tag
one_tag : (kind : CodedKind) (i j number : ℕ) → tag_table_of kind i ≡ Some number → tag_table_of kind j ≡ Some number → i ≡ j
one_tag kind i j number h k = one_place (tables_of kind) i j number (each_distinct kind) h k

pub written_once : WrittenOnce
written_once kind token None None none none' = refl
written_once kind token None (Some value) none (tag, p, is) = absurd (none tag is)
written_once kind token (Some value) None (tag, p, is) none = absurd (none tag is)
written_once kind token (Some value) (Some other) (tag, p, is) (tag', q, is') =
    let same_tag = one_tag kind tag tag' token.table is is' in
    let same_number : value ≡ other = p.sum ∙ ap (λ t. token.rid * 2 ^ tag_bits_of kind + t) same_tag ∙ sym q.sum in
    ap Some same_number

pub each_spelled_once : EachSpelledOnce
each_spelled_once (Index number) token row h =
    let table : token.table ≡ number = grind (arith, nat_tests) in
    (token.rid, record { read = (row.first, row.last, refl, table); only = λ other r. sym r.2 })
each_spelled_once (Choice kind) token row h =
    let stands = place (tables_of kind) token.table h in
    let tag = stands.0 in
    let narrow : tag < 2 ^ tag_bits_of kind = omega (arith, stands.1, each_fits kind) in
    let p : Packs kind (token.rid * 2 ^ tag_bits_of kind + tag) token.rid tag = record { sum = refl; narrow = narrow } in (
      token.rid * 2 ^ tag_bits_of kind + tag,
      record {
        read = (tag, p, row.first, row.last, stands.2);
        only = λ other r. r.1.sum ∙ ap (λ t. token.rid * 2 ^ tag_bits_of kind + t) (one_tag kind r.0 tag token.table r.4 stands.2);
      },
    )
each_spelled_once _ token row h = absurd (cc)

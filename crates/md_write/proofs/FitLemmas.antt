-- Numbers that a column may hold fit its bytes.
use Rattle.std.proofs.Common.{◌≡◌, ℕ, zero, suc, ◌+◌, ◌-◌, ◌*◌, ◌<◌, ◌≤◌, ◌^◌, ⊎_elim, List, [], ◌∷◌, Bool, true, false, cond, refl, sym, ap, subst, ◌∙◌, arith, eqb, slice_get, Option, Some, None, bit_and}
use Rattle.std.specs.List.{list_all}
use Rattle.std.specs.Option.{unwrap_or}
use Rattle.std.proofs.Math.Nat.{add-mul, mul-le-mul_right, pow-le-pow_right}
use Rattle.std.proofs.lemmas.Nat.{pow-add}
use Rattle.std.proofs.lemmas.Bool.{and_parts, cases_lt, eqb-true, ltb-true}
use Rattle.md_schema.specs.Coded.{Decodes}
use Rattle.md_schema.specs.CodedKind.{tag_bits_of, tables_of}
use Rattle.md_schema.specs.Reference.{DecodesIndex}
use Rattle.md_schema.specs.Width.{column_width_of, heap_width_of, is_small, rows_of}
use Rattle.md_schema.specs.declared.coded.Coded.{Coded}
use Rattle.md_schema.specs.declared.coded.Coded.TheVariants.{Null, Is, BadTag, Beyond}
use Rattle.md_schema.specs.declared.coded_kind.CodedKind.{CodedKind}
use Rattle.md_schema.specs.declared.coded_kind.CodedKind.TheVariants.{TypeDefOrRef, HasConstant, HasCustomAttribute, HasFieldMarshal, HasDeclSecurity, MemberRefParent, HasSemantics, MethodDefOrRef, MemberForwarded, Implementation, CustomAttributeType, ResolutionScope, TypeOrMethodDef}
use Rattle.md_schema.specs.declared.column.ColumnKind.{ColumnKind}
use Rattle.md_schema.specs.declared.column.ColumnKind.TheVariants.{U8Pad, U16, U32, Text, Guid, Blob, Sig, Index, Coded as Choice, Start, Rva, Offset}
use Rattle.md_schema.specs.declared.column_width.Counts.{Counts}
use Rattle.md_schema.specs.Cell.{read_width}
use Rattle.md_write.specs.ColumnNumbers.{IsColumnNumber, IsHeapIndex, IsStartIn, IsThereOrNull, NumbersFit}

-- a row above the bits of a tag
above_tag : (bits rid tag n : ℕ) → bits ≤ n → rid < 2 ^ (n - bits) → tag < 2 ^ bits → rid * 2 ^ bits + tag < 2 ^ n
above_tag bits rid tag n h small narrow =
    let whole : n - bits + bits ≡ n = omega arith in
    let split : 2 ^ n ≡ 2 ^ (n - bits) * 2 ^ bits = ap (λ (k : ℕ). 2 ^ k) (sym whole) ∙ pow-add 2 (n - bits) bits in
    let top : (rid + 1) * 2 ^ bits ≤ 2 ^ (n - bits) * 2 ^ bits = mul-le-mul_right (2 ^ bits) (omega arith) in
    let next : (rid + 1) * 2 ^ bits ≡ rid * 2 ^ bits + 1 * 2 ^ bits = add-mul rid 1 (2 ^ bits) in
    omega (arith, split, top, next, narrow)

few_bits : (kind : CodedKind) → tag_bits_of kind ≤ 5
few_bits TypeDefOrRef = omega arith
few_bits HasConstant = omega arith
few_bits HasCustomAttribute = omega arith
few_bits HasFieldMarshal = omega arith
few_bits HasDeclSecurity = omega arith
few_bits MemberRefParent = omega arith
few_bits HasSemantics = omega arith
few_bits MethodDefOrRef = omega arith
few_bits MemberForwarded = omega arith
few_bits Implementation = omega arith
few_bits CustomAttributeType = omega arith
few_bits ResolutionScope = omega arith
few_bits TypeOrMethodDef = omega arith

-- what holds of all tables holds of the one of a tag
all_small : (counts : Counts) (bits : ℕ) (named : List (Option ℕ)) (tag table : ℕ) → list_all (is_small counts bits) named ≡ true → unwrap_or (slice_get named tag) None ≡ Some table → rows_of counts table < 2 ^ (16 - bits)
all_small counts bits [] tag table all at = absurd (cc)
all_small counts bits (n ∷ named) zero table all at =
    let one = (and_parts (is_small counts bits n) (list_all (is_small counts bits) named) all).0 in
    ltb-true (rows_of counts table) (2 ^ (16 - bits)) (subst (λ o. is_small counts bits o ≡ true) at one)
all_small counts bits (n ∷ named) (suc tag) table all at =
    all_small counts bits named tag table (and_parts (is_small counts bits n) (list_all (is_small counts bits) named) all).1 at

-- a number fits where it fits two bytes under small tables, and four otherwise
by_width : (number : ℕ) (small : Bool) → (small ≡ true → number < 2 ^ 16) → number < 2 ^ 32 → number < 256 ^ cond small 2 4
by_width number true fits most = let f = fits refl in omega arith
by_width number false fits most = omega arith

coded-fits : (counts : Counts) (kind : CodedKind) (number : ℕ) (named : Coded) → ((table : ℕ) → rows_of counts table < 2 ^ 24) → Decodes kind number named → IsThereOrNull counts named → number < 256 ^ column_width_of (Choice kind) counts
coded-fits counts kind number Null few null there =
    let bits = few_bits kind in
    let up : 2 ^ tag_bits_of kind ≤ 2 ^ 16 = pow-le-pow_right {n = 2} (omega arith) {i = tag_bits_of kind} {j = 16} (omega (arith, bits)) in
    by_width number (list_all (is_small counts (tag_bits_of kind)) (tables_of kind)) (λ all. omega (arith, null, up)) (omega (arith, null, up))
coded-fits counts kind number (Is token) few (tag, packs, some, most, names) there =
    let bits = tag_bits_of kind in
    let small = few_bits kind in
    let up : 2 ^ 24 ≤ 2 ^ (32 - bits) = pow-le-pow_right {n = 2} (omega arith) {i = 24} {j = 32 - bits} (omega (arith, small)) in
    let wide = above_tag bits token.rid tag 32 (omega (arith, small)) (omega (arith, up, most)) packs.narrow in
    by_width number (list_all (is_small counts bits) (tables_of kind))
    (λ all.
    let narrow = all_small counts bits (tables_of kind) tag token.table all names in
    let fits = above_tag bits token.rid tag 16 (omega (arith, small)) (omega (arith, narrow, there)) packs.narrow in
    omega (arith, fits, packs.sum))
    (omega (arith, wide, packs.sum))
coded-fits counts kind number (BadTag tag) few bad there = absurd there
coded-fits counts kind number (Beyond rid) few beyond there = absurd there

index-fits : (counts : Counts) (table number : ℕ) (named : Coded) → ((table : ℕ) → rows_of counts table < 2 ^ 24) → DecodesIndex table number named → IsThereOrNull counts named → number < 256 ^ column_width_of (Index table) counts
index-fits counts table number Null few null there =
    by_width number (list_all (is_small counts 0) (Some table ∷ [])) (λ all. omega (arith, null)) (omega (arith, null))
index-fits counts table number (Is token) few (some, most, rid, same) there =
    let has : token.rid ≤ rows_of counts table = subst (λ (t : ℕ). token.rid ≤ rows_of counts t) same there in
    by_width number (list_all (is_small counts 0) (Some table ∷ []))
    (λ all. let narrow = all_small counts 0 (Some table ∷ []) 0 table all refl in omega (arith, narrow, has, rid))
    (omega (arith, most))
index-fits counts table number (BadTag tag) few bad there = absurd there
index-fits counts table number (Beyond rid) few beyond there = absurd there

start-fits : (counts : Counts) (table number : ℕ) → ((table : ℕ) → rows_of counts table < 2 ^ 24) → IsStartIn counts table number → number < 256 ^ column_width_of (Start table) counts
start-fits counts table number few start =
    let most = few table in
    by_width number (list_all (is_small counts 0) (Some table ∷ []))
    (λ all.
    let narrow = all_small counts 0 (Some table ∷ []) 0 table all refl in
    ⊎_elim
    (λ (less : rows_of counts table < 65535). omega (arith, less, start.last))
    (λ (full : 65535 ≤ rows_of counts table). let room = start.room (omega (arith, narrow, full)) in omega (arith, room))
    (cases_lt (rows_of counts table) 65535))
    (omega (arith, most, start.last))

heap-fits : (counts : Counts) (bit index : ℕ) → IsHeapIndex counts bit index → index < 256 ^ heap_width_of counts bit
heap-fits counts bit index is =
    by_width index (eqb (bit_and counts.heap_sizes bit) 0) (λ clear. is.small (eqb-true (bit_and counts.heap_sizes bit) 0 clear)) is.bounded

number-fits : (counts : Counts) (kind : ColumnKind) (number : ℕ) → ((table : ℕ) → rows_of counts table < 2 ^ 24) → IsColumnNumber counts kind number → number < 256 ^ read_width kind counts
number-fits counts U8Pad number few is = omega (arith, is)
number-fits counts U16 number few is = omega (arith, is)
number-fits counts U32 number few is = omega (arith, is)
number-fits counts Text number few is = heap-fits counts 1 number is
number-fits counts Guid number few is = heap-fits counts 2 number is
number-fits counts Blob number few is = heap-fits counts 4 number is
number-fits counts Sig number few is = heap-fits counts 4 number is
number-fits counts (Index table) number few (named, refers, there) = index-fits counts table number named few refers there
number-fits counts (Choice kind) number few (named, refers, there) = coded-fits counts kind number named few refers there
number-fits counts (Start table) number few is = start-fits counts table number few is
number-fits counts Rva number few is = omega (arith, is)
number-fits counts Offset number few is = omega (arith, is)

pub numbers_fit : NumbersFit
numbers_fit counts [] numbers few are = are
numbers_fit counts (c ∷ cs) [] few are = absurd are
numbers_fit counts (c ∷ cs) (n ∷ ns) few (first, later) = (number-fits counts c.kind n few first, numbers_fit counts cs ns few later)

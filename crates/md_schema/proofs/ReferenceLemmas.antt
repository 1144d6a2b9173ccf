-- A number names a token exactly where it is read as that token.
use Rattle.std.proofs.Common.{◌≡◌, ℕ, ◌<◌, ◌^◌, ◌%◌, ◌==◌, ◌&&◌, nat_lt, if◌then◌else◌, cond, Bool, true, false, Some, None, refl, sym, ap, subst, ◌∙◌, arith}
use Rattle.std.proofs.lemmas.Bool.Decides.{nat_tests}
use Rattle.std.proofs.lemmas.Bool.{eq-eqb, eqb-false, eqb-true, le-ltb, lt-ltb, ltb-false, ltb-true, ne_eqb}
use Rattle.std.proofs.lemmas.Option.{none-some, same_Some}
use Rattle.md_schema.specs.CodedKind.{tag_table_of, tag_bits_of}
use Rattle.md_schema.specs.Coded.{Packs, coded_of}
use Rattle.md_schema.specs.Reference.{DecodesIndex, ReferenceRefers, Refers, index_of, is_named, is_rid, is_same, is_tag_table, reference_of}
use Rattle.md_schema.specs.declared.coded_kind.CodedKind.{CodedKind}
use Rattle.md_schema.specs.declared.column.ColumnKind.{ColumnKind}
use Rattle.md_schema.specs.declared.column.ColumnKind.TheVariants.{Index, Coded as Choice}
use Rattle.md_schema.specs.declared.coded.Coded.{Coded}
use Rattle.md_schema.specs.declared.coded.Coded.TheVariants.{Null, Is, BadTag, Beyond}
use Rattle.cil_base.specs.Token.{Token}
use Rattle.md_schema.proofs.CodedLemmas.{coded-decodes, packed_tag, unpacked}

-- a coded index names the token that its row part and its tag name
named-packed : (kind : CodedKind) (value rid tag : ℕ) (token : Token) → Packs kind value rid tag → is_named (Choice kind) value token ≡ (is_tag_table token.table (tag_table_of kind tag) && (rid == token.rid) && is_rid rid)
named-packed kind value rid tag token p =
    let parts = unpacked kind value rid tag p in
    ap (λ r. is_tag_table token.table (tag_table_of kind (value % 2 ^ tag_bits_of kind)) && (r == token.rid) && is_rid r) parts.0
    ∙ ap (λ t. is_tag_table token.table (tag_table_of kind t) && (rid == token.rid) && is_rid rid) parts.1

and_false : (a : Bool) → (a && false) ≡ false
and_false true = refl
and_false false = refl

and_true : (a : Bool) → (a && true) ≡ a
and_true true = refl
and_true false = refl

pub is_same-named : (kind : ColumnKind) (value : ℕ) (token : Token) (coded : Coded) → Refers kind value coded → is_same coded token ≡ is_named kind value token
is_same-named (Index number) value token Null h = grind (arith, nat_tests, h)
is_same-named (Index number) value token (Is found) h = grind (arith, nat_tests, h)
is_same-named (Index number) value token (BadTag tag) h = absurd h
is_same-named (Index number) value token (Beyond rid) h = grind (arith, nat_tests, h)
is_same-named (Choice kind) value token Null h =
    let p = packed_tag kind value h in
    sym (named-packed kind value 0 value token p ∙ and_false (is_tag_table token.table (tag_table_of kind value) && (0 == token.rid)))
is_same-named (Choice kind) value token (Is found) (tag, p, positive, small, e) =
    let good : is_rid found.rid ≡ true = grind (arith, nat_tests) in
    sym (named-packed kind value found.rid tag token p
    ∙ ap (λ b. is_tag_table token.table (tag_table_of kind tag) && (found.rid == token.rid) && b) good
    ∙ and_true (is_tag_table token.table (tag_table_of kind tag) && (found.rid == token.rid))
    ∙ ap (λ o. is_tag_table token.table o && (found.rid == token.rid)) e)
is_same-named (Choice kind) value token (BadTag tag) (rid, p, positive, e) =
    sym (named-packed kind value rid tag token p ∙ ap (λ o. is_tag_table token.table o && (rid == token.rid) && is_rid rid) e)
is_same-named (Choice kind) value token (Beyond rid) (tag, p, large, some) =
    let bad : is_rid rid ≡ false = grind (arith, nat_tests) in
    sym (named-packed kind value rid tag token p
    ∙ ap (λ b. is_tag_table token.table (tag_table_of kind tag) && (rid == token.rid) && b) bad
    ∙ and_false (is_tag_table token.table (tag_table_of kind tag) && (rid == token.rid)))
is_same-named _ value token coded h = absurd h

pub none-named : (kind : ColumnKind) (value : ℕ) (token : Token) → reference_of kind value ≡ None → false ≡ is_named kind value token
none-named (Index number) value token h = absurd (cc)
none-named (Choice kind) value token h = absurd (cc)
none-named _ value token h = refl

-- a row number says one thing

abbrev index_row : ℕ → ℕ → Coded
index_row number value = if nat_lt value (2 ^ 24) then Is (record { table = number; rid = value }) else Beyond value

index_row_decodes : (number value : ℕ) → 0 < value → DecodesIndex number value (index_row number value)
index_row_decodes number value row =
    elim (nat_lt value (2 ^ 24)) as (λ b. nat_lt value (2 ^ 24) ≡ b → DecodesIndex number value (cond b (Is (record { table = number; rid = value })) (Beyond value))) [
      | true ↦ λ t. (row, ltb-true value (2 ^ 24) t, refl, refl)
      | false ↦ λ t. (refl, ltb-false value (2 ^ 24) t)
    ] refl

index_decodes : (number value : ℕ) → DecodesIndex number value (index_of number value)
index_decodes number value =
    elim (value == 0) as (λ b. (value == 0) ≡ b → DecodesIndex number value (cond b Null (index_row number value))) [
      | true ↦ λ t. eqb-true value 0 t
      | false ↦ λ t. let row : 0 < value = omega (arith, eqb-false value 0 t) in index_row_decodes number value row
    ] refl

index_given : (number value : ℕ) (coded : Coded) → DecodesIndex number value coded → index_of number value ≡ coded
index_given number value Null none = ap (λ b. cond b Null (index_row number value)) (eq-eqb value 0 none)
index_given number value (Is token) (row, small, rid, table) =
    ap (λ b. cond b Null (index_row number value)) (ne_eqb value 0 (λ e. omega arith))
    ∙ ap (λ b. cond b (Is (record { table = number; rid = value })) (Beyond value)) (lt-ltb value (2 ^ 24) small)
    ∙ ap (λ t. Is (record { table = t; rid = value })) (sym table) ∙ ap (λ r. Is (record { table = token.table; rid = r })) (sym rid)
index_given number value (BadTag tag) none = absurd none
index_given number value (Beyond rid) (is, large) =
    ap (λ b. cond b Null (index_row number value)) (ne_eqb value 0 (λ e. omega arith))
    ∙ ap (λ b. cond b (Is (record { table = number; rid = value })) (Beyond value)) (le-ltb value (2 ^ 24) large)
    ∙ ap Beyond (sym is)

pub reference-refers : ReferenceRefers
reference-refers (Index number) value coded =
    (λ e. subst (DecodesIndex number value) (same_Some (index_of number value) coded e) (index_decodes number value), λ said. ap Some (index_given number value coded said))
reference-refers (Choice kind) value coded =
    (λ e. (coded-decodes kind value coded).0 (same_Some (coded_of kind value) coded e), λ said. ap Some ((coded-decodes kind value coded).1 said))
reference-refers _ value coded = (λ e. absurd (none-some coded e), λ said. absurd said)

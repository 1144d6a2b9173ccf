-- The one number of a column that is read as a token.
use Rattle.std.proofs.Common.{◌≡◌, ℕ, ◌==◌, true, false, Some, None, refl, sym, ap, subst, ◌∙◌, arith}
use Rattle.std.proofs.lemmas.Bool.{and_parts, both_ways, eq-eqb, eqb-true, false_from_ne_true, ne_eqb}
use Rattle.std.proofs.lemmas.Bool.Decides.{nat_tests}
use Rattle.std.proofs.lemmas.Option.{same_Some}
use Rattle.cil_base.specs.Token.{Token}
use Rattle.md_schema.proofs.CodedLemmas.{coded-decodes}
use Rattle.md_schema.proofs.ReferenceLemmas.{is_same-named}
use Rattle.md_schema.proofs.SpellingLemmas.{written_once}
use Rattle.md_schema.specs.Coded.{Decodes, Encodes, coded_of}
use Rattle.md_schema.specs.Reference.{is_named, is_same}
use Rattle.md_schema.specs.declared.coded_kind.CodedKind.{CodedKind}
use Rattle.md_schema.specs.declared.coded.Coded.{Coded}
use Rattle.md_schema.specs.declared.coded.Coded.TheVariants.{Null, Is, BadTag, Beyond}
use Rattle.md_schema.specs.declared.column.ColumnKind.{ColumnKind}
use Rattle.md_schema.specs.declared.column.ColumnKind.TheVariants.{Index, Coded as Choice}

is_same-true : (coded : Coded) (token : Token) → is_same coded token ≡ true → coded ≡ Is token
is_same-true Null token h = cc
is_same-true (Is found) token h =
    let parts = and_parts (found.table == token.table) (found.rid == token.rid) h in
    ap (λ t. Is (record { table = t; rid = found.rid })) (eqb-true found.table token.table parts.0)
    ∙ ap (λ r. Is (record { table = token.table; rid = r })) (eqb-true found.rid token.rid parts.1)
is_same-true (BadTag tag) token h = cc
is_same-true (Beyond rid) token h = cc

pub named_encodes : (kind : CodedKind) (n : ℕ) (token : Token) → is_named (Choice kind) n token ≡ true → Encodes kind token (Some n)
named_encodes kind n token h =
    let said = (coded-decodes kind n (coded_of kind n)).0 refl in
    let is = is_same-true (coded_of kind n) token (is_same-named (Choice kind) n token (coded_of kind n) said ∙ h) in
    let read : Decodes kind n (Is token) = subst (Decodes kind n) is said in
    (read.0, read.1, read.4)

pub named_same : (kind : ColumnKind) (a b : ℕ) (token : Token) → is_named kind a token ≡ true → is_named kind b token ≡ true → a ≡ b
named_same (Index number) a b token h k = grind (arith, nat_tests)
named_same (Choice kind) a b token h k =
    same_Some a b (written_once kind token (Some a) (Some b) (named_encodes kind a token h) (named_encodes kind b token k))
named_same _ a b token h k = absurd (cc)

pub named_once : (kind : ColumnKind) (number : ℕ) (token : Token) → is_named kind number token ≡ true → (n : ℕ) → is_named kind n token ≡ (n == number)
named_once kind number token h n =
    elim (is_named kind n token) as (λ b. is_named kind n token ≡ b → b ≡ (n == number)) [
      | true ↦ λ t. sym (eq-eqb n number (named_same kind n number token t h))
      | false ↦ λ f. sym (ne_eqb n number (λ e. both_ways (is_named kind n token) f (ap (λ m. is_named kind m token) e ∙ h)))
    ] refl

-- where no tag names the token's table, no number does
pub unnamed : (kind : CodedKind) (token : Token) → Encodes kind token None → (n : ℕ) → is_named (Choice kind) n token ≡ false
unnamed kind token none n =
    false_from_ne_true (is_named (Choice kind) n token) (λ t. let e = named_encodes kind n token t in none e.0 e.2)

-- and where the number of the token's tag does not, as at row 0, no number does
pub unnamed_row : (kind : CodedKind) (token : Token) (number : ℕ) → Encodes kind token (Some number) → is_named (Choice kind) number token ≡ false → (n : ℕ) → is_named (Choice kind) n token ≡ false
unnamed_row kind token number written none n =
    false_from_ne_true (is_named (Choice kind) n token) (λ t.
    let same = same_Some n number (written_once kind token (Some n) (Some number) (named_encodes kind n token t) written) in
    both_ways (is_named (Choice kind) number token) none (ap (λ m. is_named (Choice kind) m token) (sym same) ∙ t))

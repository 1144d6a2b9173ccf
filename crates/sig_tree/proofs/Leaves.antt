-- Numbers and type tokens: what is read is what is stripped.
use Rattle.std.proofs.Common.{◌≡◌, ℕ, ◌+◌, ◌*◌, ◌/◌, ◌%◌, ◌^◌, ◌<◌, List, [], ◌∷◌, Bool, true, cond, eqb, ltb, ℤ, Option, Some, None, refl, sym, ap, subst, ◌∙◌, arith}
use Rattle.std.specs.Option.{option_and_then, option_map}
use Rattle.std.proofs.lemmas.Bool.{eqb-true}
use Rattle.cil_base.specs.Token.{Token}
use Rattle.cil_base.specs.inner.Reading.{compressed_at, signed_at}
use Rattle.cil_base.proofs.NumberLemmas.{strip-compressed_at, compressed_at-strip}
use Rattle.cil_base.proofs.SignedLemmas.{strip-signed_at, signed_at-strip}
use Rattle.sig_tree.specs.declared.symbol.Symbol.TheVariants.{Number, Signed, TypeToken}
use Rattle.sig_tree.specs.Symbols.{strip_symbol, tag_of, coded_token}
use Rattle.sig_tree.specs.Fronts.{table_of_tag, token_of_number, type_token_at}
use Rattle.sig_tree.proofs.Strips.{Exact, split, same_some, none_some, came, one, first_of_row, goes}

pub number_exact : Exact ℕ compressed_at (λ n. Number n ∷ []) (λ n. true)
number_exact = record {
  sound = λ n s r h. (one (Number n) [] s r r (compressed_at-strip s n r h) refl, refl);
  full = λ n s r h k. let p = first_of_row (Number n) [] s r h in strip-compressed_at n s r (p.before ∙ p.then);
}

pub signed_exact : Exact ℤ signed_at (λ z. Signed z ∷ []) (λ z. true)
signed_exact = record {
  sound = λ z s r h. (one (Signed z) [] s r r (signed_at-strip s z r h) refl, refl);
  full = λ z s r h k. let p = first_of_row (Signed z) [] s r h in strip-signed_at z s r (p.before ∙ p.then);
}

-- an option that was changed
pub record Mapped (A B : Type 0) (f : A → B) (found : Option A) (b : B) : Type 0 where
  pub value : A
  pub first : found ≡ Some value
  pub same : f value ≡ b

pub mapped : {A B : Type 0} (f : A → B) (found : Option A) (b : B) → option_map f found ≡ Some b → Mapped A B f found b
mapped {A} {B} f None b h = none_some {A = B} {P = Mapped A B f None b} b h
mapped f (Some x) b h = record { value = x; first = refl; same = same_some (f x) b h }

tag_table : (tag table : ℕ) → table_of_tag tag ≡ Some table → tag_of table ≡ Some tag
tag_table tag table h =
    split {P = tag_of table ≡ Some tag} (eqb tag 0) (Some 2) (cond (eqb tag 1) (Some 1) (cond (eqb tag 2) (Some 0x1b) None)) (Some table) h
    (λ e f. subst (λ t. tag_of t ≡ Some tag) (same_some 2 table f) (ap Some (sym (eqb-true tag 0 e))))
    (λ e f. split {P = tag_of table ≡ Some tag} (eqb tag 1) (Some 1) (cond (eqb tag 2) (Some 0x1b) None) (Some table) f
    (λ e f. subst (λ t. tag_of t ≡ Some tag) (same_some 1 table f) (ap Some (sym (eqb-true tag 1 e))))
    (λ e f. split {P = tag_of table ≡ Some tag} (eqb tag 2) (Some 0x1b) None (Some table) f
    (λ e f. subst (λ t. tag_of t ≡ Some tag) (same_some 0x1b table f) (ap Some (sym (eqb-true tag 2 e))))
    (λ e f. none_some {A = ℕ} {P = tag_of table ≡ Some tag} table f)))

-- a tag is below 3, and names its table
pub record Tagged (table tag : ℕ) : Type 0 where
  pub small : tag < 3
  pub names : table_of_tag tag ≡ Some table

pub table_tag : (table tag : ℕ) → tag_of table ≡ Some tag → Tagged table tag
table_tag table tag h =
    split {P = Tagged table tag} (eqb table 2) (Some 0) (cond (eqb table 1) (Some 1) (cond (eqb table 0x1b) (Some 2) None)) (Some tag) h
    (λ e f. subst (Tagged table) (same_some 0 tag f) (record { small = omega arith; names = ap Some (sym (eqb-true table 2 e)) }))
    (λ e f. split {P = Tagged table tag} (eqb table 1) (Some 1) (cond (eqb table 0x1b) (Some 2) None) (Some tag) f
    (λ e f. subst (Tagged table) (same_some 1 tag f) (record { small = omega arith; names = ap Some (sym (eqb-true table 1 e)) }))
    (λ e f. split {P = Tagged table tag} (eqb table 0x1b) (Some 2) None (Some tag) f
    (λ e f. subst (Tagged table) (same_some 2 tag f) (record { small = omega arith; names = ap Some (sym (eqb-true table 0x1b e)) }))
    (λ e f. none_some {A = ℕ} {P = Tagged table tag} tag f)))

made : ℕ → ℕ → Token
made rid table = record { table = table; rid = rid }

token_there : (n : ℕ) (t : Token) → token_of_number n ≡ Some t → coded_token t ≡ Some n
unfolding made
token_there n t h =
    split {P = coded_token t ≡ Some n} (ltb (n / 4) (2 ^ 24)) (option_map (made (n / 4)) (table_of_tag (n % 4))) None (Some t) h
    (λ e f.
    let m = mapped (made (n / 4)) (table_of_tag (n % 4)) t f in
    let back : n / 4 * 4 + n % 4 ≡ n = omega arith in
    subst (λ t. coded_token t ≡ Some n) m.same
    (ap (λ (b : Bool). cond {A = Option ℕ} b (option_map (λ (tag : ℕ). n / 4 * 4 + tag) (tag_of m.value)) None) e
    ∙ ap (λ (o : Option ℕ). option_map (λ (tag : ℕ). n / 4 * 4 + tag) o) (tag_table (n % 4) m.value m.first)
    ∙ ap Some back))
    (λ e f. none_some {A = Token} {P = coded_token t ≡ Some n} t f)

token_coded : (t : Token) (n : ℕ) → coded_token t ≡ Some n → token_of_number n ≡ Some t
unfolding made
token_coded t n h =
    split {P = token_of_number n ≡ Some t} (ltb t.rid (2 ^ 24)) (option_map (λ (tag : ℕ). t.rid * 4 + tag) (tag_of t.table)) None (Some n) h
    (λ e f.
    let m = mapped (λ (tag : ℕ). t.rid * 4 + tag) (tag_of t.table) n f in
    let g = table_tag t.table m.value m.first in
    let small : m.value < 3 = g.small in
    let same : t.rid * 4 + m.value ≡ n = m.same in
    let row : n / 4 ≡ t.rid = omega arith in
    let tag : n % 4 ≡ m.value = omega arith in
    ap (λ (q : ℕ). cond {A = Option Token} (ltb q (2 ^ 24)) (option_map (made q) (table_of_tag (n % 4))) None) row
    ∙ ap (λ (b : Bool). cond {A = Option Token} b (option_map (made t.rid) (table_of_tag (n % 4))) None) e
    ∙ ap (λ (k : ℕ). option_map (made t.rid) (table_of_tag k)) tag
    ∙ ap (option_map (made t.rid)) g.names)
    (λ e f. none_some {A = ℕ} {P = token_of_number n ≡ Some t} n f)

spelled : (t : Token) (s r : List ℕ) (o : Option ℕ) → coded_token t ≡ o → option_and_then {T = ℕ} {U = List ℕ} (λ n. strip_symbol (Number n) s) o ≡ Some r → type_token_at s ≡ Some (t, r)
spelled t s r None e h = none_some {A = List ℕ} {P = type_token_at s ≡ Some (t, r)} r h
spelled t s r (Some n) e h =
    goes (compressed_at s) (λ n r. option_map (λ t. (t, r)) (token_of_number n)) n r (strip-compressed_at n s r h)
    ∙ ap (option_map (λ (u : Token). (u, r))) (token_coded t n e)

stripped : (t : Token) (s r : List ℕ) → strip_symbol (TypeToken t) s ≡ Some r → type_token_at s ≡ Some (t, r)
stripped t s r h = spelled t s r (coded_token t) refl h

pub token_exact : Exact Token type_token_at (λ t. TypeToken t ∷ []) (λ t. true)
token_exact = record {
  sound = λ t s r h.
      let c = came (compressed_at s) (λ n r. option_map (λ t. (t, r)) (token_of_number n)) (t, r) h in
      let m = mapped (λ (u : Token). (u, c.rest)) (token_of_number c.value) (t, r) c.then in
      let coded = token_there c.value t (m.first ∙ ap Some (ap (λ p. p.0) m.same)) in (
        one (TypeToken t) [] s c.rest r (ap (option_and_then {T = ℕ} {U = List ℕ} (λ n. strip_symbol (Number n) s)) coded ∙ compressed_at-strip s c.value c.rest c.first)
            (ap Some (ap (λ p. p.1) m.same)),
        refl,
      );
  full = λ t s r h k.
      let p = first_of_row (TypeToken t) [] s r h in
      stripped t s r (p.before ∙ p.then);
}

-- What is read can be written.
use Rattle.std.proofs.Common.{◌≡◌, ◌+◌, ◌*◌, ◌^◌, ◌≤◌, ◌++◌, ℕ, zero, suc, List, [], ◌∷◌, length, map, Bool, true, false, Option, Some, None, refl, sym, subst, arith, inl, inr}
use Rattle.std.specs.Prelude.{option_map, flat_map}
use Rattle.std.specs.Int.{cast_signed, w8, w32, w64}
use Rattle.std.specs.List.{AllByRecursion}
use Rattle.std.proofs.lemmas.Bool.{cases_lt}
use Rattle.il_code.specs.declared.kind.OperandKind as k
use Rattle.il_code.specs.declared.kind.OperandKind.TheVariants as kind
use Rattle.il_code.specs.declared.operand.Operand.{Operand}
use Rattle.il_code.specs.declared.operand.Operand.TheVariants as of
use Rattle.il_code.specs.declared.instr.Instr.{Instr}
use Rattle.il_code.specs.declared.handler.Handler.{Handler}
use Rattle.il_code.specs.Body.{Body}
use Rattle.il_code.specs.Instructions.{kind_of}
use Rattle.cil_base.specs.Place.{number_within}
use Rattle.cil_base.specs.Steps.{◌>>=◌}
use Rattle.cil_base.specs.Token.{token_from}
use Rattle.il_code.specs.Items.{items_at}
use Rattle.il_code.specs.Targets.{target_at}
use Rattle.il_code.specs.Code.{at, code_size, size_of, user_text, switch_target_at, operand_at, code_at, instr_of, instr_at, placed, placed_operand, Stand, TargetsBelow}
use Rattle.il_code.specs.Sections.{clause_size, handler_kind, fields_at, handler_of, clause_at, aligned, FollowedBy, Sections}
use Rattle.il_code.specs.Spelling.{placed_handler, BoundedHandler, Handled, Spells}
use Rattle.il_code.specs.Writable.{IsOfKind, IsSound, IsSoundHandler, Writable}
use Rattle.il_code.proofs.CodeLemmas.{came, mapped, same_some}
use Rattle.il_code.proofs.SpellingLemmas.{at-rises}

-- an operand that is read is of the kind by which it is read

kept : {A : Type 0} (P : Operand → Type 0) (f : A → Operand) (read : Option A) (o : Operand) → ((x : A) → P (f x)) → option_map f read ≡ Some o → P o
kept P f None o all h = absurd (nothing o h)
  where
    nothing : (o : Operand) → None ≡ Some o → ⊥
    nothing o h = cc
kept P f (Some x) o all h = subst P (same_some (f x) o h) (all x)

kept-after : (P : Operand → Type 0) (next : ℕ → Option Operand) (read : Option ℕ) (o : Operand) → ((n : ℕ) → next n ≡ Some o → P o) → (read >>= next) ≡ Some o → P o
kept-after P next None o all h = absurd (nothing o h)
  where
    nothing : (o : Operand) → None ≡ Some o → ⊥
    nothing o h = cc
kept-after P next (Some n) o all h = all n h

operand-kind : (users b : List ℕ) (p : ℕ) (found : k.OperandKind) (o : Operand) → operand_at users b p found ≡ Some o → IsOfKind (Some found) o
unfolding operand_at
operand-kind users b p kind.NoOperand o h = subst (IsOfKind (Some kind.NoOperand)) (same_some of.None o h) refl
operand-kind users b p kind.U8 o h = kept (IsOfKind (Some kind.U8)) of.U8 (number_within b p 1) o (λ (n : ℕ). refl) h
operand-kind users b p kind.U16 o h = kept (IsOfKind (Some kind.U16)) of.U16 (number_within b p 2) o (λ (n : ℕ). refl) h
operand-kind users b p kind.I8 o h = kept (IsOfKind (Some kind.I8)) (λ n. of.I8 (cast_signed w8 n)) (number_within b p 1) o (λ (n : ℕ). refl) h
operand-kind users b p kind.I32 o h = kept (IsOfKind (Some kind.I32)) (λ n. of.I32 (cast_signed w32 n)) (number_within b p 4) o (λ (n : ℕ). refl) h
operand-kind users b p kind.I64 o h = kept (IsOfKind (Some kind.I64)) (λ n. of.I64 (cast_signed w64 n)) (number_within b p 8) o (λ (n : ℕ). refl) h
operand-kind users b p kind.R4 o h = kept (IsOfKind (Some kind.R4)) of.R4 (number_within b p 4) o (λ (n : ℕ). refl) h
operand-kind users b p kind.R8 o h = kept (IsOfKind (Some kind.R8)) of.R8 (number_within b p 8) o (λ (n : ℕ). refl) h
operand-kind users b p kind.Token o h = kept (IsOfKind (Some kind.Token)) (λ n. of.Tok (token_from n)) (number_within b p 4) o (λ (n : ℕ). refl) h
operand-kind users b p kind.Text o h = kept-after (IsOfKind (Some kind.Text)) (λ n. option_map of.Text (user_text users n)) (number_within b p 4) o (λ n e. kept (IsOfKind (Some kind.Text)) of.Text (user_text users n) o (λ (units : List ℕ). refl) e) h
operand-kind users b p kind.ShortBranch o h = kept-after (IsOfKind (Some kind.ShortBranch)) (λ n. option_map of.Target (target_at b (2 ^ 7) (p + 1) n)) (number_within b p 1) o (λ n e. kept (IsOfKind (Some kind.ShortBranch)) of.Target (target_at b (2 ^ 7) (p + 1) n) o (λ (t : ℕ). inl refl) e) h
operand-kind users b p kind.Branch o h = kept-after (IsOfKind (Some kind.Branch)) (λ n. option_map of.Target (target_at b (2 ^ 31) (p + 4) n)) (number_within b p 4) o (λ n e. kept (IsOfKind (Some kind.Branch)) of.Target (target_at b (2 ^ 31) (p + 4) n) o (λ (t : ℕ). inr refl) e) h
operand-kind users b p kind.Switch o h = kept-after (IsOfKind (Some kind.Switch)) (λ count. option_map of.Switch (items_at (switch_target_at b (p + 4 + 4 * count)) 4 (p + 4) count)) (number_within b p 4) o (λ n e. kept (IsOfKind (Some kind.Switch)) of.Switch (items_at (switch_target_at b (p + 4 + 4 * n)) 4 (p + 4) n) o (λ (ts : List ℕ). refl) e) h

kind-placed : (found : Option k.OperandKind) (place : ℕ → ℕ) (o : Operand) → IsOfKind found (placed_operand place o) → IsOfKind found o
kind-placed found place of.None h = h
kind-placed found place (of.U8 n) h = h
kind-placed found place (of.U16 n) h = h
kind-placed found place (of.I8 n) h = h
kind-placed found place (of.I32 n) h = h
kind-placed found place (of.I64 n) h = h
kind-placed found place (of.R4 n) h = h
kind-placed found place (of.R8 n) h = h
kind-placed found place (of.Tok n) h = h
kind-placed found place (of.Text n) h = h
kind-placed found place (of.Target n) h = h
kind-placed found place (of.Switch n) h = h

instr-kind : (users b : List ℕ) (p : ℕ) (x : Instr) → instr_at users b p ≡ Some x → IsOfKind (kind_of x.op) x.operand
unfolding instr_at
instr-kind users b p x h =
    let op = came (code_at b p) (λ op. kind_of op >>= λ kind. option_map (instr_of op) (operand_at users b (p + code_size op) kind)) x h in
    let found = came (kind_of op.by) (λ kind. option_map (instr_of op.by) (operand_at users b (p + code_size op.by) kind)) x op.after in
    let operand = mapped (instr_of op.by) (operand_at users b (p + code_size op.by) found.by) x found.after in
    let is = operand-kind users b (p + code_size op.by) found.by operand.by operand.first in
    subst (λ (y : Instr). IsOfKind (kind_of y.op) y.operand) operand.is (subst (λ f. IsOfKind f operand.by) (sym found.first) is)

code-sound : (users b : List ℕ) (n p : ℕ) (place : ℕ → ℕ) (xs : List Instr) → Stand users b p (map (placed place) xs) → AllByRecursion (λ (x : Instr). TargetsBelow n x.operand) xs → AllByRecursion (IsSound n) xs
code-sound users b n p place [] stand targets = tt
code-sound users b n p place (x ∷ xs) stand targets = (
  record { kind = kind-placed (kind_of x.op) place x.operand (instr-kind users b p (placed place x) stand.0); targets = targets.0 },
  code-sound users b n (p + size_of (placed place x)) place xs stand.1 targets.1,
)

-- a handler that is read is in order

pub record InOrder (h : Handler) : Type 0 where
  pub range : h.try_start ≤ h.try_end
  pub handler : h.start ≤ h.end

clause-ordered : (fat : Bool) (s : List ℕ) (p : ℕ) (h : Handler) → clause_at fat s p ≡ Some h → InOrder h
unfolding clause_at handler_of
clause-ordered fat s p h e =
    let fields = came (fields_at fat s p) handler_of h e in
    let made = mapped _ (handler_kind fields.by.flags fields.by.last) h fields.after in
    subst InOrder made.is (record { range = omega arith; handler = omega arith })

items-ordered : (fat : Bool) (s : List ℕ) (w p n : ℕ) (hs : List Handler) → items_at (clause_at fat s) w p n ≡ Some hs → AllByRecursion InOrder hs
unfolding items_at
items-ordered fat s w p zero hs h = subst (AllByRecursion InOrder) (same_some [] hs h) tt
items-ordered fat s w p (suc n) hs h =
    let first = came (clause_at fat s p) (λ x. option_map (λ xs. x ∷ xs) (items_at (clause_at fat s) w (p + w) n)) hs h in
    let rest = mapped (λ xs. first.by ∷ xs) (items_at (clause_at fat s) w (p + w) n) hs first.after in
    subst (AllByRecursion InOrder) rest.is (clause-ordered fat s p first.by first.first, items-ordered fat s w (p + w) n rest.by rest.first)

all-append : {A : Type 0} (P : A → Type 0) (xs ys : List A) → AllByRecursion P xs → AllByRecursion P ys → AllByRecursion P (xs ++ ys)
all-append P [] ys a b = b
all-append P (x ∷ xs) ys a b = (a.0, all-append P xs ys a.1 b)

follows : (t : Bool) (rest : List (List Handler)) (Q : Type 0) → FollowedBy t rest Q → (Q → AllByRecursion InOrder (flat_map (λ part. part) rest)) → AllByRecursion InOrder (flat_map (λ part. part) rest)
follows true rest Q f next = next f
follows false rest Q f next = subst (λ r. AllByRecursion InOrder (flat_map (λ part. part) r)) (sym f) tt

sections-ordered : (s : List ℕ) (p : ℕ) (parts : List (List Handler)) → Sections s p parts → AllByRecursion InOrder (flat_map (λ part. part) parts)
sections-ordered s p [] stand = absurd stand
sections-ordered s p (part ∷ rest) stand =
    all-append InOrder part (flat_map (λ part. part) rest)
    (items-ordered stand.0.fat s (clause_size stand.0.fat) (aligned p + 4) stand.0.count part stand.2)
    (follows stand.0.further rest (Sections s (aligned p + 4 + stand.0.count * clause_size stand.0.fat) rest) stand.3 (λ next. sections-ordered s (aligned p + 4 + stand.0.count * clause_size stand.0.fat) rest next))

handled-ordered : (t : Bool) (s : List ℕ) (p : ℕ) (hs : List Handler) → Handled t s p hs → AllByRecursion InOrder hs
handled-ordered true s p hs h = subst (AllByRecursion InOrder) h.1 (sections-ordered s p h.0 h.2)
handled-ordered false s p hs h = subst (AllByRecursion InOrder) (sym h) tt

-- numbers are in order where their places are
no_fall : (code : List Instr) (i j : ℕ) → i ≤ length code → at code i ≤ at code j → i ≤ j
no_fall code i j l h = elim (cases_lt j i) [ inl less ↦ let down = at-rises code j i less l in absurd (omega (arith, down, h)) | inr no_less ↦ no_less ]

handlers-sound : (code : List Instr) (hs : List Handler) → AllByRecursion InOrder (map (placed_handler (at code)) hs) → AllByRecursion (BoundedHandler (length code)) hs → AllByRecursion (IsSoundHandler (length code)) hs
handlers-sound code [] ordered bounds = tt
handlers-sound code (h ∷ hs) ordered bounds = (
  record {
    kind = bounds.0.kind;
    range = no_fall code h.try_start h.try_end bounds.0.try_start ordered.0.range;
    try_end = bounds.0.try_end;
    handler = no_fall code h.start h.end bounds.0.start ordered.0.handler;
    end = bounds.0.end;
  },
  handlers-sound code hs ordered.1 bounds.1,
)

-- a body that is spelled can be written
pub spelled-writable : (v : Body) (s users : List ℕ) → Spells v s users → Writable v
spelled-writable v s users spelled = record {
  code = code-sound users _ (length v.code) 0 (at v.code) v.code spelled.code spelled.targets;
  handlers = handlers-sound v.code v.handlers (handled-ordered spelled.header.sections s (spelled.header.start + spelled.header.size) (map (placed_handler (at v.code)) v.handlers) spelled.handlers) spelled.bounds;
}

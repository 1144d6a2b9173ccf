-- A body whose first bad instruction and bad handler are none can be written: ECMA-335 II.25.4.6 and III.1.7.
use Rattle.std.proofs.Common.{◌≡◌, refl, ℕ, ◌+◌, ◌<◌, Bool, true, false, cond, List, [], ◌∷◌, length, Option, Some, None, find, not, nat_le, nat_lt}
use Rattle.std.specs.Prelude.{◌&&◌}
use Rattle.std.specs.List.{AllByRecursion, enumerate_from, list_all}
use Rattle.std.proofs.lemmas.Bool.{and_parts, leb-true, ltb-true}
use Rattle.il_code.specs.Body.{Body}
use Rattle.il_code.specs.Code.{TargetsBelow}
use Rattle.il_code.specs.Edited.{bad_code, bad_handler, first_failing}
use Rattle.il_code.specs.Instructions.{kind_of}
use Rattle.il_code.specs.Sound.{filter_fits, fits_kind, is_sound_handler, is_sound_instr, targets_fit}
use Rattle.il_code.specs.Spelling.{FilterBelow}
use Rattle.il_code.specs.Writable.{IsSound, IsSoundHandler, Writable}
use Rattle.il_code.specs.declared.handler.Handler.{Handler}
use Rattle.il_code.specs.declared.handler.HandlerKind.{HandlerKind}
use Rattle.il_code.specs.declared.handler.HandlerKind.TheVariants.{Filter}
use Rattle.il_code.specs.declared.il_refusal.IlRefusal.TheVariants.{BadCode, BadHandler}
use Rattle.il_code.specs.declared.instr.Instr.{Instr}
use Rattle.il_code.specs.declared.operand.Operand.{Operand}
use Rattle.il_code.specs.declared.operand.Operand.TheVariants as of
use Rattle.il_code.proofs.KindLemmas.{of-kind}
use Rattle.node_model.proofs.EarlyLemmas.{map_none}

all_pass : {A : Type 0} (test : A → Bool) (P : A → Type 0) → ((a : A) → test a ≡ true → P a) → (k : ℕ) (xs : List A)
    → find (λ (e : ℕ × A). not (test e.1)) (enumerate_from k xs) ≡ None → AllByRecursion P xs
all_pass test P holds k [] e = tt
all_pass {A = A} test P holds k (x ∷ xs) e = by (test x) refl e (all_pass test P holds (k + 1) xs)
  where
    by : (b : Bool) → test x ≡ b → cond (not b) (Some (k, x)) (find (λ (e : ℕ × A). not (test e.1)) (enumerate_from (k + 1) xs)) ≡ None
        → (find (λ (e : ℕ × A). not (test e.1)) (enumerate_from (k + 1) xs) ≡ None → AllByRecursion P xs) → AllByRecursion P (x ∷ xs)
    by true is e more = (holds x is, more e)
    by false is e more = absurd cc

all_below : (n : ℕ) (ts : List ℕ) → list_all (λ t. nat_lt t n) ts ≡ true → AllByRecursion (λ t. t < n) ts
all_below n [] e = tt
all_below n (t ∷ ts) e =
    let parts = and_parts (nat_lt t n) (list_all (λ t. nat_lt t n) ts) e in
    (ltb-true t n parts.0, all_below n ts parts.1)

targets_below : (n : ℕ) (o : Operand) → targets_fit n o ≡ true → TargetsBelow n o
targets_below n (of.Target t) e = ltb-true t n e
targets_below n (of.Switch ts) e = all_below n ts e
targets_below n _ e = tt

instr_sound : (n : ℕ) (x : Instr) → is_sound_instr n x ≡ true → IsSound n x
instr_sound n x e =
    let parts = and_parts (fits_kind (kind_of x.op) x.operand) (targets_fit n x.operand) e in
    record { kind = of-kind (kind_of x.op) x.operand parts.0; targets = targets_below n x.operand parts.1 }

filter_below : (n : ℕ) (kind : HandlerKind) → filter_fits n kind ≡ true → FilterBelow n kind
filter_below n (Filter start) e = ltb-true start n e
filter_below n _ e = tt

handler_sound : (n : ℕ) (h : Handler) → is_sound_handler n h ≡ true → IsSoundHandler n h
handler_sound n h e =
    let first = filter_fits n h.kind in
    let range = nat_le h.try_start h.try_end in
    let within = nat_le h.try_end n in
    let own = nat_le h.start h.end in
    let a = and_parts (first && range && within && own) (nat_le h.end n) e in
    let b = and_parts (first && range && within) own a.0 in
    let c = and_parts (first && range) within b.0 in
    let d = and_parts first range c.0 in
    record {
      kind = filter_below n h.kind d.0;
      range = leb-true h.try_start h.try_end d.1;
      try_end = leb-true h.try_end n c.1;
      handler = leb-true h.start h.end b.1;
      end = leb-true h.end n a.1;
    }

pub body_writable : (v : Body) → bad_code v ≡ None → bad_handler v ≡ None → Writable v
body_writable v code handlers =
    let n = length v.code in
    record {
      code = all_pass (is_sound_instr n) (IsSound n) (instr_sound n) 0 v.code
          (map_none (λ (e : ℕ × Instr). e.0) (find (λ (e : ℕ × Instr). not (is_sound_instr n e.1)) (enumerate_from 0 v.code)) (map_none BadCode (first_failing (is_sound_instr n) v.code) code));
      handlers = all_pass (is_sound_handler n) (IsSoundHandler n) (handler_sound n) 0 v.handlers
          (map_none (λ (e : ℕ × Handler). e.0) (find (λ (e : ℕ × Handler). not (is_sound_handler n e.1)) (enumerate_from 0 v.handlers)) (map_none BadHandler (first_failing (is_sound_handler n) v.handlers) handlers));
    }

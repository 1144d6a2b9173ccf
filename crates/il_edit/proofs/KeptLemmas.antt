-- The numbers of a sound body fit 32 bits.
use Rattle.std.proofs.Common.{◌≡◌, ◌&&◌, ◌-◌, ◌+◌, ◌<◌, ◌≤◌, ◌^◌, ℕ, List, [], ◌∷◌, map, Bool, true, false, cond, None, refl, ap, ◌∙◌, arith, nat_lt, nat_le}
use Rattle.std.specs.List.{list_all}
use Rattle.std.proofs.lemmas.Bool.Decides.{nat_tests}
use Rattle.il_code.specs.declared.operand.Operand.{Operand}
use Rattle.il_code.specs.declared.operand.Operand.TheVariants as of
use Rattle.il_code.specs.declared.instr.Instr.{Instr}
use Rattle.il_code.specs.declared.handler.HandlerKind.{HandlerKind}
use Rattle.il_code.specs.declared.handler.HandlerKind.TheVariants.{Typed, Filter, Finally, Fault}
use Rattle.il_code.specs.declared.handler.Handler.{Handler}
use Rattle.il_code.specs.Instructions.{kind_of}
use Rattle.il_code.specs.Code.{instr_of, placed, placed_operand}
use Rattle.il_code.specs.Sound.{filter_fits, fits_kind, is_sound_handler, is_sound_instr, targets_fit}
use Rattle.il_code.specs.Spelling.{placed_handler, placed_kind}
use Rattle.il_edit.specs.declared.shift.Shift.{Shift}
use Rattle.il_edit.specs.inner.Failing.{failing_from}
use Rattle.il_edit.specs.inner.Shifted.{kept_number, shifted}
use Rattle.il_edit.proofs.FailingLemmas.{passes}
use Rattle.il_edit.proofs.ShiftLemmas.{handler-alike}

both_true : (a b : Bool) → (a && b) ≡ true → (a ≡ true) × (b ≡ true)
both_true true true h = (refl, refl)
both_true true false h = cc
both_true false b h = cc

fits : (m n : ℕ) → m ≤ n → n < 2 ^ 32 → cond (nat_lt m (2 ^ 32)) m (2 ^ 32 - 1) ≡ m
fits m n h small = grind (arith, nat_tests)

number-kept : (s : Shift) (t n : ℕ) → shifted s t ≤ n → n < 2 ^ 32 → kept_number s t ≡ shifted s t
number-kept s t n h small = fits (shifted s t) n h small

below : (m n : ℕ) → nat_lt m n ≡ true → m ≤ n
below m n h = grind (arith, nat_tests)

upto : (m n : ℕ) → nat_le m n ≡ true → m ≤ n
upto m n h = grind (arith, nat_tests)

targets-kept : (s : Shift) (n : ℕ) (ts : List ℕ) → n < 2 ^ 32 → list_all (λ t. nat_lt t n) (map (shifted s) ts) ≡ true → map (kept_number s) ts ≡ map (shifted s) ts
targets-kept s n [] small h = refl
targets-kept s n (t ∷ ts) small h =
    let parts = both_true (nat_lt (shifted s t) n) (list_all (λ t. nat_lt t n) (map (shifted s) ts)) h in
    ap (λ z. z ∷ map (kept_number s) ts) (number-kept s t n (below (shifted s t) n parts.0) small) ∙ ap (λ z. shifted s t ∷ z) (targets-kept s n ts small parts.1)

operand-kept : (s : Shift) (n : ℕ) (o : Operand) → n < 2 ^ 32 → targets_fit n (placed_operand (shifted s) o) ≡ true → placed_operand (kept_number s) o ≡ placed_operand (shifted s) o
operand-kept s n of.None small h = refl
operand-kept s n (of.U8 v) small h = refl
operand-kept s n (of.U16 v) small h = refl
operand-kept s n (of.I8 v) small h = refl
operand-kept s n (of.I32 v) small h = refl
operand-kept s n (of.I64 v) small h = refl
operand-kept s n (of.R4 v) small h = refl
operand-kept s n (of.R8 v) small h = refl
operand-kept s n (of.Tok v) small h = refl
operand-kept s n (of.Text v) small h = refl
operand-kept s n (of.Target t) small h = ap of.Target (number-kept s t n (below (shifted s t) n h) small)
operand-kept s n (of.Switch ts) small h = ap of.Switch (targets-kept s n ts small h)

instr-kept : (s : Shift) (n : ℕ) (x : Instr) → n < 2 ^ 32 → is_sound_instr n (placed (shifted s) x) ≡ true → placed (kept_number s) x ≡ placed (shifted s) x
instr-kept s n x small h = ap (instr_of x.op) (operand-kept s n x.operand small (both_true (fits_kind (kind_of x.op) (placed_operand (shifted s) x.operand)) (targets_fit n (placed_operand (shifted s) x.operand)) h).1)

pub code-kept : (s : Shift) (n k : ℕ) (xs : List Instr) → n < 2 ^ 32 → failing_from (is_sound_instr n) k (map (placed (shifted s)) xs) ≡ None → map (placed (kept_number s)) xs ≡ map (placed (shifted s)) xs
code-kept s n k [] small h = refl
code-kept s n k (x ∷ xs) small h =
    let parts = passes (is_sound_instr n) k (placed (shifted s) x) (map (placed (shifted s)) xs) h in
    ap (λ z. z ∷ map (placed (kept_number s)) xs) (instr-kept s n x small parts.first)
    ∙ ap (λ z. placed (shifted s) x ∷ z) (code-kept s n (k + 1) xs small parts.others)

-- what a sound handler's numbers are
record Bounds (n : ℕ) (h : Handler) : Type 0 where
  filter : filter_fits n h.kind ≡ true
  range : h.try_start ≤ h.try_end
  try_end : h.try_end ≤ n
  handler : h.start ≤ h.end
  end : h.end ≤ n

bounds : (n : ℕ) (h : Handler) → is_sound_handler n h ≡ true → Bounds n h
bounds n h s =
    let a = both_true (filter_fits n h.kind && nat_le h.try_start h.try_end && nat_le h.try_end n && nat_le h.start h.end) (nat_le h.end n) s in
    let b = both_true (filter_fits n h.kind && nat_le h.try_start h.try_end && nat_le h.try_end n) (nat_le h.start h.end) a.0 in
    let c = both_true (filter_fits n h.kind && nat_le h.try_start h.try_end) (nat_le h.try_end n) b.0 in
    let d = both_true (filter_fits n h.kind) (nat_le h.try_start h.try_end) c.0 in
    record { filter = d.0; range = upto h.try_start h.try_end d.1; try_end = upto h.try_end n c.1; handler = upto h.start h.end b.1; end = upto h.end n a.1 }

kind-kept : (s : Shift) (n : ℕ) (k : HandlerKind) → n < 2 ^ 32 → filter_fits n (placed_kind (shifted s) k) ≡ true → placed_kind (kept_number s) k ≡ placed_kind (shifted s) k
kind-kept s n (Typed t) small h = refl
kind-kept s n (Filter start) small h = ap Filter (number-kept s start n (below (shifted s start) n h) small)
kind-kept s n Finally small h = refl
kind-kept s n Fault small h = refl

handler-kept : (s : Shift) (n : ℕ) (h : Handler) → n < 2 ^ 32 → is_sound_handler n (placed_handler (shifted s) h) ≡ true → placed_handler (kept_number s) h ≡ placed_handler (shifted s) h
handler-kept s n h small sound =
    let b = bounds n (placed_handler (shifted s) h) sound in
    handler-alike _ _ _ _ _ _ _ _ _ _ (kind-kept s n h.kind small b.filter)
    (number-kept s h.try_start n (omega (arith, b.range, b.try_end)) small)
    (number-kept s h.try_end n b.try_end small)
    (number-kept s h.start n (omega (arith, b.handler, b.end)) small)
    (number-kept s h.end n b.end small)

pub handlers-kept : (s : Shift) (n k : ℕ) (hs : List Handler) → n < 2 ^ 32 → failing_from (is_sound_handler n) k (map (placed_handler (shifted s)) hs) ≡ None → map (placed_handler (kept_number s)) hs ≡ map (placed_handler (shifted s)) hs
handlers-kept s n k [] small h = refl
handlers-kept s n k (x ∷ hs) small h =
    let parts = passes (is_sound_handler n) k (placed_handler (shifted s) x) (map (placed_handler (shifted s)) hs) h in
    ap (λ z. z ∷ map (placed_handler (kept_number s)) hs) (handler-kept s n x small parts.first)
    ∙ ap (λ z. placed_handler (shifted s) x ∷ z) (handlers-kept s n (k + 1) hs small parts.others)

-- Edits of a method's body, and which are refused. Targets and bounds are the numbers of instructions.
use Rattle.std.specs.Prelude.{◌==◌, ◌||◌, ℕ, ◌+◌, ◌-◌, ◌^◌, Bool, not, List, [], ◌∷◌, ◌++◌, length, map, Option}
use Rattle.std.specs.Prelude.{Some}
use Rattle.std.specs.Prelude.{None, nat_lt, nat_le, if◌then◌else◌, option_map, insert, remove, slice_set}
use Rattle.std.specs.List.{enumerate_from, find}
use Rattle.std.specs.Option.{option_or}
use Rattle.il_code.specs.declared.instr.Instr.{Instr}
use Rattle.il_code.specs.declared.handler.Handler.{Handler}
use Rattle.il_code.specs.declared.il_refusal.IlRefusal.{IlRefusal}
use Rattle.il_code.specs.declared.il_refusal.IlRefusal.TheVariants.{PlaceBeyond, BadCode, BadHandler}
use Rattle.il_code.specs.Body.{Body}
use Rattle.il_code.specs.Code.{placed}
use Rattle.il_code.specs.Sound.{is_sound_instr, is_sound_handler}
use Rattle.il_code.specs.Spelling.{placed_handler}

-- what a number becomes where an instruction is put in before number `at`: `at` itself and those above it rise
abbrev pub raised : ℕ → ℕ → ℕ
raised at n = if nat_lt n at then n else n + 1

-- what a number becomes where instruction number `at` is taken out: those above it fall, `at` itself stays
abbrev pub lowered : ℕ → ℕ → ℕ
lowered at n = if nat_le n at then n else n - 1

-- a body with other instructions and handlers
abbrev pub body_of_parts : Body → List Instr → List Handler → Body
body_of_parts v code handlers = record {
  max_stack = v.max_stack;
  init_locals = v.init_locals;
  locals = v.locals;
  code = code;
  handlers = handlers;
}

-- a body whose targets, filter starts and bounds all go by one function
abbrev pub renumbered : (ℕ → ℕ) → Body → Body
renumbered number v = body_of_parts v (map (placed number) v.code) (map (placed_handler number) v.handlers)

-- an instruction is put in before number `at`; its own targets are numbers of the body afterwards
unfoldable pub with_instr : ℕ → Instr → Body → Body
with_instr at x v = let w = renumbered (raised at) v in body_of_parts w (insert w.code at x) w.handlers

-- instruction number `at` is taken out
unfoldable pub without_instr : ℕ → Body → Body
without_instr at v = let w = renumbered (lowered at) v in body_of_parts w (remove w.code at) w.handlers

-- an instruction stands in place of number `at`
unfoldable pub with_instr_for : ℕ → Instr → Body → Body
with_instr_for at x v = body_of_parts v (slice_set v.code at x) v.handlers

-- a handler more, behind the others
unfoldable pub with_handler : Handler → Body → Body
with_handler h v = body_of_parts v v.code (v.handlers ++ h ∷ [])

-- handler number `at` is taken out
unfoldable pub without_handler : ℕ → Body → Body
without_handler at v = body_of_parts v v.code (remove v.handlers at)

-- the number of the first item that fails a test
abbrev pub first_failing : {A : Type 0} → (A → Bool) → List A → Option ℕ
first_failing {A = A} test xs =
    option_map (λ (e : ℕ × A). e.0) (find (λ (e : ℕ × A). not (test e.1)) (enumerate_from 0 xs))

-- the first instruction whose operand is not of its code's kind, or with a target that is no instruction
abbrev pub bad_code : Body → Option IlRefusal
bad_code v = option_map BadCode (first_failing (is_sound_instr (length v.code)) v.code)

-- the first handler with an end before its start, a bound past the end, or a filter start that is no instruction
abbrev pub bad_handler : Body → Option IlRefusal
bad_handler v = option_map BadHandler (first_failing (is_sound_handler (length v.code)) v.handlers)

-- a place that is beyond, of so many
abbrev pub beyond : Bool → ℕ → ℕ → Option IlRefusal
beyond test at n = if test then Some (PlaceBeyond at n) else None

-- the first refusal of an edit that makes this body: its place, then the instructions, then the handlers
abbrev pub edit_refusal : Option IlRefusal → Body → Option IlRefusal
edit_refusal place after = option_or place (option_or (bad_code after) (bad_handler after))

-- of each edit; a body has at most 2^32 - 1 instructions and as many handlers
unfoldable pub insert_refusal : ℕ → Instr → Body → Option IlRefusal
insert_refusal at x v =
    let n = length v.code in
    edit_refusal (beyond (nat_lt n at || (n == 2 ^ 32 - 1)) at n) (with_instr at x v)

unfoldable pub remove_refusal : ℕ → Body → Option IlRefusal
remove_refusal at v = edit_refusal (beyond (nat_le (length v.code) at) at (length v.code)) (without_instr at v)

unfoldable pub replace_refusal : ℕ → Instr → Body → Option IlRefusal
replace_refusal at x v = edit_refusal (beyond (nat_le (length v.code) at) at (length v.code)) (with_instr_for at x v)

unfoldable pub add_handler_refusal : Handler → Body → Option IlRefusal
add_handler_refusal h v =
    let n = length v.handlers in
    edit_refusal (beyond (n == 2 ^ 32 - 1) n n) (with_handler h v)

unfoldable pub remove_handler_refusal : ℕ → Body → Option IlRefusal
remove_handler_refusal at v =
    edit_refusal (beyond (nat_le (length v.handlers) at) at (length v.handlers)) (without_handler at v)

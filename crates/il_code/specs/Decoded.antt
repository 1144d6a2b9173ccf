-- The body that bytes spell, as a function: ECMA-335 II.25.4 and III. A law says that it finds what `Spells` says.
use Rattle.std.specs.Prelude.{◌↔◌, ◌≡◌, ◌==◌, ℕ, zero, suc, ◌+◌, ◌^◌, List, [], ◌∷◌, length, take, drop, Option, Some}
use Rattle.std.specs.Prelude.{None, nat_lt, nat_le, if◌then◌else◌, option_map}
use Rattle.il_code.specs.declared.instr.Instr.{Instr}
use Rattle.il_code.specs.declared.handler.Handler.{Handler}
use Rattle.il_code.specs.declared.header.Header.{Header}
use Rattle.il_code.specs.Body.{Body}
use Rattle.il_code.specs.Code.{size_of, instr_at}
use Rattle.cil_base.specs.Steps.{◌>>=◌}
use Rattle.il_code.specs.Numbering.{places, each, numbered_instr, handlers_after}
use Rattle.il_code.specs.Sections.{header_at}
use Rattle.il_code.specs.Spelling.{Spells}

-- the instructions from a place to the end of the code's bytes, at most `left` of them; their targets are places
unfoldable pub instrs_from : List ℕ → List ℕ → ℕ → ℕ → Option (List Instr)
instrs_from users b zero p = if p == length b then Some [] else None
instrs_from users b (suc left) p =
    if p == length b then Some []
    else (instr_at users b p >>= λ x. option_map (λ xs. x ∷ xs) (instrs_from users b left (p + size_of x)))

-- the instructions of the code's bytes: each takes a byte or more
unfoldable pub code_in : List ℕ → List ℕ → Option (List Instr)
code_in users b = instrs_from users b (length b) 0

-- a body of these parts: it has fewer than 2^32 handlers
unfoldable pub body_with : Header → List Instr → List Handler → Option Body
body_with h code handlers =
    if nat_lt (length handlers) (2 ^ 32)
    then Some (record {
      max_stack = h.max_stack;
      init_locals = h.init_locals;
      locals = h.locals;
      code = code;
      handlers = handlers;
    })
    else None

-- the body with numbers in place of places, whose instructions are known
unfoldable pub numbered_body : List ℕ → Header → List Instr → Option Body
numbered_body s h raw =
    each (numbered_instr (places raw) (length raw)) raw >>= λ code.
    handlers_after (places raw) (length raw) s h >>= λ handlers. body_with h code handlers

-- the body whose header is known
unfoldable pub body_after : List ℕ → List ℕ → Header → Option Body
body_after s users h =
    if nat_le (h.start + h.size) (length s)
    then (code_in users (take h.size (drop h.start s)) >>= λ raw. numbered_body s h raw)
    else None

-- the body that a front of the bytes spells, whose texts stand in the heap #US
unfoldable pub body_at : List ℕ → List ℕ → Option Body
body_at s users = header_at s >>= λ h. body_after s users h

-- the function finds a body exactly where the bytes spell it
abbrev pub SpellsAlone : Type 0
SpellsAlone = (s users : List ℕ) (v : Body) → (body_at s users ≡ Some v) ↔ Spells v s users

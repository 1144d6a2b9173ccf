-- From the places of instructions to their numbers: ECMA-335 III.1.7.2 and II.25.4.6.
use Rattle.std.specs.Prelude.{◌==◌, ◌++◌, ◌*◌, Bool, ℕ, zero, suc, ◌+◌, List, [], ◌∷◌, length, map, Option}
use Rattle.std.specs.Prelude.{Some, None, nat_lt, if◌then◌else◌, option_map}
use Rattle.std.specs.List.{range_with_len}
use Rattle.il_code.specs.declared.operand.Operand.{Operand}
use Rattle.il_code.specs.declared.operand.Operand.TheVariants as of
use Rattle.il_code.specs.declared.instr.Instr.{Instr}
use Rattle.il_code.specs.declared.handler.HandlerKind.{HandlerKind}
use Rattle.il_code.specs.declared.handler.HandlerKind.TheVariants.{Filter}
use Rattle.il_code.specs.declared.handler.Handler.{Handler}
use Rattle.il_code.specs.Code.{at, instr_of}
use Rattle.il_code.specs.declared.header.Header.{Header}
use Rattle.il_code.specs.declared.section.Section.{Section}
use Rattle.cil_base.specs.Steps.{◌>>=◌}
use Rattle.il_code.specs.Items.{items_at}
use Rattle.il_code.specs.Sections.{aligned, clause_at, clause_size, data_section_at}

-- the places of the instructions, and the end of the last
unfoldable pub places : List Instr → List ℕ
places code = map (at code) (range_with_len 0 (length code + 1))

-- the number of the instruction that stands at a place, or the number of all at the end
unfoldable pub number_in : List ℕ → ℕ → Option ℕ
number_in [] p = None
number_in (q ∷ qs) p = if q == p then Some 0 else option_map (λ i. i + 1) (number_in qs p)

-- what a function makes of each item, where it makes something of all of them
unfoldable pub each : {A : Type 0} → (A → Option A) → List A → Option (List A)
each f [] = Some []
each f (x ∷ xs) = f x >>= λ y. option_map (λ ys. y ∷ ys) (each f xs)

-- the number of the instruction at a place, of so many
unfoldable pub target_in : List ℕ → ℕ → ℕ → Option ℕ
target_in ps n p = number_in ps p >>= λ t. if nat_lt t n then Some t else None

-- an operand with numbers in place of places
unfoldable pub numbered_operand : List ℕ → ℕ → Operand → Option Operand
numbered_operand ps n (of.Target p) = option_map of.Target (target_in ps n p)
numbered_operand ps n (of.Switch targets) = option_map of.Switch (each (target_in ps n) targets)
numbered_operand ps n operand = Some operand

-- an instruction with numbers in place of places
unfoldable pub numbered_instr : List ℕ → ℕ → Instr → Option Instr
numbered_instr ps n x = option_map (instr_of x.op) (numbered_operand ps n x.operand)

-- a handler's kind with a number in place of the filter's place
unfoldable pub numbered_kind : List ℕ → ℕ → HandlerKind → Option HandlerKind
numbered_kind ps n (Filter p) = option_map Filter (target_in ps n p)
numbered_kind ps n kind = Some kind

-- a handler with numbers in place of places
unfoldable pub numbered_handler : List ℕ → ℕ → Handler → Option Handler
numbered_handler ps n h =
    numbered_kind ps n h.kind >>= λ kind. number_in ps h.try_start >>= λ try_start.
    number_in ps h.try_end >>= λ try_end.
    number_in ps h.start >>= λ start. number_in ps h.end >>= λ end.
    Some (record { kind = kind; try_start = try_start; try_end = try_end; start = start; end = end })

-- the handler of the clause at a place, with numbers
unfoldable pub numbered_clause : List ℕ → ℕ → Bool → List ℕ → ℕ → Option Handler
numbered_clause ps n fat s p = clause_at fat s p >>= numbered_handler ps n

-- the handlers of a section whose clauses begin at a place
unfoldable pub handlers_in : List ℕ → ℕ → List ℕ → Section → ℕ → Option (List Handler)
handlers_in ps n s head p = items_at (numbered_clause ps n head.fat s) (clause_size head.fat) p head.count

-- the handlers of at most so many sections from a place on
unfoldable pub sections_in : List ℕ → ℕ → List ℕ → ℕ → ℕ → Option (List Handler)
sections_in ps n s zero p = None
sections_in ps n s (suc fuel) p =
    data_section_at s (aligned p) >>= λ head. handlers_in ps n s head (aligned p + 4) >>= λ hs.
    if head.further
    then option_map (λ rest. hs ++ rest) (sections_in ps n s fuel (aligned p + 4 + head.count * clause_size head.fat))
    else Some hs

-- the handlers of a body with that header
abbrev pub handlers_after : List ℕ → ℕ → List ℕ → Header → Option (List Handler)
handlers_after ps n s header = if header.sections then sections_in ps n s (length s) (header.start + header.size)
    else Some []

-- Which bodies have no bytes: ECMA-335 III.1.7.2 for short targets; the limits are our own.
use Rattle.std.specs.Prelude.{◌≡◌, ◌&&◌, ◌||◌, ℕ, ◌+◌, ◌^◌, ◌-◌, Bool, false, List, length, min, Option, Some, None}
use Rattle.std.specs.Prelude.{option_map, nat_lt, if◌then◌else◌, find, Result, Ok, Err}
use Rattle.std.specs.List.{enumerate_from}
use Rattle.il_code.specs.declared.operand.Operand.{Operand}
use Rattle.il_code.specs.declared.operand.Operand.TheVariants as of
use Rattle.il_code.specs.declared.instr.Instr.{Instr}
use Rattle.il_code.specs.declared.refusal.BodyRefusal.{BodyRefusal}
use Rattle.il_code.specs.declared.refusal.BodyRefusal.TheVariants as refusal
use Rattle.il_code.specs.Body.{Body}
use Rattle.il_code.specs.Instructions.{kind_of}
use Rattle.il_code.specs.Code.{at}
use Rattle.il_code.specs.CodeBytes.{is_short}

-- the distance is outside -128 to 127
abbrev pub is_past : ℕ → ℕ → Bool
is_past after place = nat_lt (place + 128) after || nat_lt (after + 127) place

-- a target at such a distance
abbrev pub target_is_far : (ℕ → ℕ) → ℕ → Operand → Bool
target_is_far place after (of.Target t) = is_past after (place t)
target_is_far place after operand = false

-- a short branch whose target is too far from the place after it
abbrev pub is_far_branch : (ℕ → ℕ) → ℕ → Instr → Bool
is_far_branch place after x = is_short (kind_of x.op) && target_is_far place after x.operand

-- the number of the first such branch
unfoldable pub first_far : (ℕ → ℕ) → List Instr → Option ℕ
first_far place code =
    option_map (λ (e : ℕ × Instr). e.0)
    (find (λ (e : ℕ × Instr). is_far_branch place (place (e.0 + 1)) e.1) (enumerate_from 0 code))

-- the refusal of a body with that branch, so many bytes of code and so many handlers
abbrev pub refused_by : Option ℕ → ℕ → ℕ → Option BodyRefusal
refused_by (Some i) size count = Some (refusal.BranchTooFar i)
refused_by None size count =
    if nat_lt (2 ^ 24) size then Some (refusal.BodyTooLarge (min size (2 ^ 64 - 1)))
    else (if nat_lt 65535 count then Some (refusal.BodyTooLarge count) else None)

-- the first refusal of a body: a branch, more than 2^24 bytes of code (its size is told up to 2^64 - 1), or more than
-- 65,535 handlers
unfoldable pub refusal_of : Body → Option BodyRefusal
refusal_of v = refused_by (first_far (at v.code) v.code) (at v.code (length v.code)) (length v.handlers)

-- bytes come where there is no refusal, and a refusal where it is that one; want of memory may come at any time
abbrev pub BodyAnswers : Result (List ℕ) BodyRefusal → Option BodyRefusal → Type 0
BodyAnswers (Ok bytes) found = found ≡ None
BodyAnswers (Err refusal.NoMemory) found = Unit {0}
BodyAnswers (Err e) found = found ≡ Some e

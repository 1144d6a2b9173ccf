-- A law of the edits of a body.
use Rattle.std.specs.Prelude.{◌↔◌, ◌≡◌, ◌≤◌, ℕ, length}
use Rattle.il_code.specs.declared.instr.Instr.{Instr}
use Rattle.il_code.specs.Body.{Body}
use Rattle.il_code.specs.Edited.{with_instr, without_instr}

-- taking out what was just put in gives the body back, exactly where it was put before one of its instructions or
-- behind the last. No number of the body is the new instruction's, since `at` itself rose
abbrev pub RemovesWhatWasInserted : Type 0
RemovesWhatWasInserted =
    (at : ℕ) (x : Instr) (v : Body) → (without_instr at (with_instr at x v) ≡ v) ↔ (at ≤ length v.code)

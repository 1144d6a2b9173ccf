use Rattle.std.proofs.Common.{◌≡◌, ◌+◌, ℕ, drop}
use Rattle.std.specs.List.{find, enumerate_from}
use Rattle.il_code.specs.declared.instr.Instr.{Instr}
use Rattle.il_code.specs.CodePlaces.{instr_place}
use Rattle.il_code.specs.Refusal.{is_far_branch}
use Rattle.il_write.proofs.far.far_branch.Given as goal

abbrev pub invariant-loop-i : goal.invariant-loop-i
invariant-loop-i l =
    find (λ (e : ℕ × Instr). is_far_branch (instr_place l.places) (instr_place l.places (e.0 + 1)) e.1) (drop l.i (enumerate_from 0 l.code))
    ≡ find (λ (e : ℕ × Instr). is_far_branch (instr_place l.places) (instr_place l.places (e.0 + 1)) e.1) (enumerate_from 0 l.code)

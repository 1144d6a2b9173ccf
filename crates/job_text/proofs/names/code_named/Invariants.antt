use Rattle.std.proofs.Common.{◌≡◌, ◌-◌}
use Rattle.il_code.specs.Instructions.{instr_name}
use Rattle.job_text.specs.Names.{place_code, first_from, is_called}
use Rattle.job_text.proofs.names.code_named.Given as goal

-- the places to come have the first of that name
abbrev pub invariant-loop-place : goal.invariant-loop-place
invariant-loop-place l =
    first_from (λ place. is_called l.name (instr_name (place_code place))) (0x11f - l.place) l.place
    ≡ first_from (λ place. is_called l.name (instr_name (place_code place))) 0x11f 0

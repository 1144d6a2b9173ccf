use Rattle.std.proofs.Common.{◌≡◌, ◌++◌, take}
use Rattle.std.specs.List.{flat_map}
use Rattle.il_code.specs.SectionBytes.{clause_bytes}
use Rattle.il_write.proofs.write_section.write_clauses.Given as goal

abbrev pub invariant-loop-clause : goal.invariant-loop-clause
invariant-loop-clause l = l.out ≡ l.initial.out ++ flat_map (clause_bytes l.fat) (take l.clause-index l.clauses)

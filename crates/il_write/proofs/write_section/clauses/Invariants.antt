use Rattle.std.proofs.Common.{◌≡◌, map, take}
use Rattle.il_code.specs.SectionBytes.{clause_of}
use Rattle.il_code.specs.CodePlaces.{instr_place}
use Rattle.il_write.specs.inner.Ranges.{HandlerFits}
use Rattle.std.specs.List.{AllByRecursion}
use Rattle.il_write.proofs.write_section.clauses.Given as goal

abbrev pub invariant-loop-handler : goal.invariant-loop-handler
invariant-loop-handler l = (l.all ≡ map (clause_of (instr_place l.places)) (take l.handler-index l.handlers)) × AllByRecursion HandlerFits (take l.handler-index l.handlers)

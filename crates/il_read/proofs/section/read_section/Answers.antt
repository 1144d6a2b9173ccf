use Rattle.std.proofs.Common.{sym}
use Rattle.il_code.proofs.CodeLemmas.{number-ends}
use Rattle.il_read.proofs.section.read_section.Goals as goal

pub returns-then-kind-eq-SECT_EH_TABLE-clause-within : goal.returns-then-kind-eq-SECT_EH_TABLE-clause-within
returns-then-kind-eq-SECT_EH_TABLE-clause-within c = number-ends 4 c.args.bytes.now c.args.place c.in_ok-number.number (sym c.in_ok-number.ensures)

use Rattle.std.proofs.Common.{List, ◌∙◌, ap, subst}
use Rattle.std.specs.Prelude.{IfOk}
use Rattle.il_code.specs.declared.instr.Instr.{Instr}
use Rattle.write_tables.specs.UserStrings.{body_code, code_strings}
use Rattle.write_tables.proofs.GatherLemmas.{GathersStrings}
use Rattle.write_tables.proofs.strings.put_method.Goals as goal

pub returns : goal.returns
returns c =
    subst (λ (code : List Instr). IfOk c.put_code.result (GathersStrings c.args.heaps.now c.put_code.new.heaps (code_strings code)))
    (c.body_code.ensures ∙ ap body_code c.value-body.ensures) c.put_code.ensures

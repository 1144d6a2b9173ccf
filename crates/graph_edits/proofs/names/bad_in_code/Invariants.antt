use Rattle.std.proofs.Common.{◌≡◌, drop}
use Rattle.std.specs.List.{flat_map}
use Rattle.il_code.specs.declared.instr.Instr.{Instr}
use Rattle.node_model.specs.NamedTokens.{operand_names}
use Rattle.node_model.specs.Nodes.{nodes_there}
use Rattle.graph_edits.specs.inner.BadNames.{first_bad}
use Rattle.graph_edits.proofs.names.bad_in_code.Given as goal

abbrev pub invariant-loop-instr : goal.invariant-loop-instr
invariant-loop-instr l =
    first_bad (nodes_there l.rows) (flat_map (λ (x : Instr). operand_names x.operand) l.code)
    ≡ first_bad (nodes_there l.rows) (flat_map (λ (x : Instr). operand_names x.operand) (drop l.instr-index l.code))

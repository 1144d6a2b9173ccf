use Rattle.std.proofs.Common.{◌≡◌, drop}
use Rattle.node_model.specs.Nodes.{nodes_there}
use Rattle.graph_edits.specs.inner.BadNames.{first_bad_type, tokens_of_types}
use Rattle.graph_edits.proofs.sig_names.+names.Given as goal

abbrev pub invariant-bad_in_types-loop-ty : goal.invariant-bad_in_types-loop-ty
invariant-bad_in_types-loop-ty l =
    first_bad_type (nodes_there l.rows) (tokens_of_types l.types) ≡ first_bad_type (nodes_there l.rows) (tokens_of_types (drop l.ty-index l.types))

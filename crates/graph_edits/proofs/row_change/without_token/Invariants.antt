use Rattle.std.proofs.Common.{◌≡◌, take}
use Rattle.node_model.specs.Changes.{without_token}
use Rattle.graph_edits.proofs.row_change.without_token.Given as goal

abbrev pub invariant-loop-other : goal.invariant-loop-other
invariant-loop-other l = l.others ≡ without_token l.token (take l.other-index l.tokens)

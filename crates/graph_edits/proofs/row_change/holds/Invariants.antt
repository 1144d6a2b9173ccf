use Rattle.std.proofs.Common.{◌≡◌, drop}
use Rattle.std.specs.List.{list_any}
use Rattle.node_model.specs.Keys.{same_token}
use Rattle.graph_edits.proofs.row_change.holds.Given as goal

abbrev pub invariant-loop-other : goal.invariant-loop-other
invariant-loop-other l =
    list_any (same_token l.token) (drop l.other-index l.tokens) ≡ list_any (same_token l.token) l.tokens

use Rattle.std.proofs.Common.{◌≡◌, drop}
use Rattle.node_model.specs.RowNames.{live_members}
use Rattle.node_model.specs.TypeViews.{row_walk}
use Rattle.node_model.specs.Walk.{each_walk, said}
use Rattle.graph_query.specs.Answered.{nodes_asked, slots_asked}
use Rattle.node_model.proofs.SayLemmas.{after}
use Rattle.graph_query.proofs.views.live_rows.Given as goal

-- what the rows behind the place say, with those before
abbrev pub invariant-loop-token : goal.invariant-loop-token
invariant-loop-token l =
    after l.rows (said (slots_asked l.graph) (each_walk row_walk (live_members (nodes_asked l.graph) l.table (drop l.token-index l.tokens))))
    ≡ said (slots_asked l.graph) (each_walk row_walk (live_members (nodes_asked l.graph) l.table l.tokens))

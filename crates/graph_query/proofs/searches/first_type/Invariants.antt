use Rattle.std.proofs.Common.{◌≡◌, drop}
use Rattle.md_schema.specs.Tables.{type_def}
use Rattle.node_model.specs.RowNames.{live_members}
use Rattle.node_model.specs.Searches.{first_walk, type_test}
use Rattle.node_model.specs.Walk.{said}
use Rattle.graph_query.specs.Answered.{nodes_asked, slots_asked}
use Rattle.graph_query.proofs.searches.first_type.Given as goal

-- what the types behind the place say is what all say
abbrev pub invariant-loop-token : goal.invariant-loop-token
invariant-loop-token l =
    said (slots_asked l.graph) (first_walk (type_test l.namespace l.type_name) (live_members (nodes_asked l.graph) type_def (drop l.token-index l.tokens)))
    ≡ said (slots_asked l.graph) (first_walk (type_test l.namespace l.type_name) (live_members (nodes_asked l.graph) type_def l.tokens))

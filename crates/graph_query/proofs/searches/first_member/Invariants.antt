use Rattle.std.proofs.Common.{◌≡◌, drop}
use Rattle.node_model.specs.RowNames.{live_members}
use Rattle.node_model.specs.Searches.{first_walk, member_test}
use Rattle.node_model.specs.Walk.{said}
use Rattle.graph_query.specs.Answered.{nodes_asked, slots_asked}
use Rattle.graph_query.proofs.searches.first_member.Given as goal

-- what the members behind the place say is what all say
abbrev pub invariant-loop-token : goal.invariant-loop-token
invariant-loop-token l =
    said (slots_asked l.graph) (first_walk (member_test (nodes_asked l.graph) l.member_name l.sig) (live_members (nodes_asked l.graph) l.table (drop l.token-index l.tokens)))
    ≡ said (slots_asked l.graph) (first_walk (member_test (nodes_asked l.graph) l.member_name l.sig) (live_members (nodes_asked l.graph) l.table l.tokens))

use Rattle.std.proofs.Common.{◌≡◌, drop, length}
use Rattle.node_model.specs.RowNames.{named_in_sig, type_name_walk}
use Rattle.node_model.specs.Walk.{each_walk, said}
use Rattle.graph_query.specs.Answered.{nodes_asked, slots_asked}
use Rattle.node_model.proofs.SayLemmas.{after}
use Rattle.graph_query.proofs.sig_names.names_in_sig.Given as goal

-- what the tokens behind the place say, with the names before, of which there is one for each token
abbrev pub invariant-loop-token : goal.invariant-loop-token
invariant-loop-token l =
    (after l.names (said (slots_asked l.graph) (each_walk (named_in_sig (nodes_asked l.graph) (type_name_walk (nodes_asked l.graph) l.depth)) (drop l.token-index l.tokens)))
    ≡ said (slots_asked l.graph) (each_walk (named_in_sig (nodes_asked l.graph) (type_name_walk (nodes_asked l.graph) l.depth)) l.tokens))
    × (length l.names ≡ l.token-index)

-- What is seen of a key in the edited graph.
use Rattle.std.specs.Prelude.{if◌then◌else◌}
use Rattle.node_model.specs.Graph.{Graph}
use Rattle.node_model.specs.Keys.{is_of_root, token_of_key}
use Rattle.node_model.specs.Nodes.{Nodes, row_status}
use Rattle.node_model.specs.declared.key.Key.{Key}
use Rattle.node_model.specs.declared.look.Look.{Look}
use Rattle.node_model.specs.declared.look.Look.TheVariants as looks
use Rattle.node_model.specs.declared.nodes.RowStatus.{RowStatus}
use Rattle.node_model.specs.declared.nodes.RowStatus.TheVariants.{Absent, Removed, Live}

-- the status of the row of a key; the root's keys are there
abbrev pub key_status : Nodes → Key → RowStatus
key_status n k = if is_of_root k then Live else row_status n (token_of_key k)

abbrev pub look_at : RowStatus → Graph → Key → Look
look_at Live g k = looks.Slot (g.held k)
look_at Absent g k = looks.Absent (token_of_key k)
look_at Removed g k = looks.Removed (token_of_key k)

-- nothing is seen of a key whose row is absent or was removed, but that it is
abbrev pub look : Graph → Key → Look
look g k = look_at (key_status g.nodes k) g k

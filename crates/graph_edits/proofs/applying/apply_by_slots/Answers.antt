use Rattle.std.proofs.Common.{rules}
use Rattle.node_model.proofs.StepLemmas.{sound_change}
use Rattle.graph_edits.specs.Graphs.{nodes_in, slots_in}
use Rattle.graph_edits.proofs.NewRowLemmas.{rows_sound}
use Rattle.graph_edits.proofs.applying.apply_by_slots.Goals as goal

pub make_change-requires-clause-sound : goal.make_change-requires-clause-sound
make_change-requires-clause-sound c =
    let n = nodes_in c.args.graph.now in
    let change = c.in-Ok-Ok.change in
    let sound = sound_change n (slots_in c.args.graph.now) c.args.edit.now change (search rules) (search rules) in
    record { contents = sound.have; rows = rows_sound n change.rows sound.rows }

use Rattle.std.proofs.Common.{sym, ap, ◌∙◌}
use Rattle.node_model.proofs.EarlyLemmas.{has_room, passed}
use Rattle.node_model.specs.EditRefusals.{early_refusal}
use Rattle.node_model.specs.declared.edit.Edit.TheVariants.{Add, Insert}
use Rattle.graph_edits.specs.Graphs.{nodes_in}
use Rattle.graph_edits.proofs.edits.change_of.Goals as goal

pub add_change-requires : goal.add_change-requires
add_change-requires c =
    let n = nodes_in c.args.graph.now in
    has_room n c.in-Add.table (passed n (Add c.in-Add.table c.in-Add.cells c.in-Add.sig) (ap (early_refusal n) (sym c.in-Add.is) ∙ c.requires)).room

pub insert_change-requires : goal.insert_change-requires
insert_change-requires c =
    let n = nodes_in c.args.graph.now in
    has_room n c.in-Insert.table (passed n (Insert c.in-Insert.owner c.in-Insert.table c.in-Insert.at c.in-Insert.cells c.in-Insert.sig)
    (ap (early_refusal n) (sym c.in-Insert.is) ∙ c.requires)).room

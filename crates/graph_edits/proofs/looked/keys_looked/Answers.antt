use Rattle.std.proofs.Common.{sym, ap, ◌∙◌}
use Rattle.node_model.specs.EditWalks.{edit_walk}
use Rattle.node_model.specs.RowLists.{added_lists}
use Rattle.node_model.specs.Walk.{looked}
use Rattle.graph_edits.specs.Graphs.{nodes_in, slots_in}
use Rattle.graph_edits.specs.inner.ListWalks.{lists_looked}
use Rattle.graph_edits.proofs.ListLemmas.{add_looked, ok_is}
use Rattle.graph_edits.proofs.looked.keys_looked.Goals as goal

pub returns-in-Add : goal.returns-in-Add
returns-in-Add c =
    let n = nodes_in c.args.graph.now in
    let p = slots_in c.args.graph.now in
    ok_is c.add_looked.result (lists_looked p (added_lists c.in-Add.table c.in-Add.cells)) (looked p (edit_walk n c.args.edit.now)) c.add_looked.ensures
    (add_looked n p c.in-Add.table c.in-Add.cells c.in-Add.sig ∙ ap (λ e. looked p (edit_walk n e)) (sym c.in-Add.is))

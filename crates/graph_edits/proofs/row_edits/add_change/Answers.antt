use Rattle.std.proofs.Common.{ap, ◌∙◌}
use Rattle.graph_edits.specs.Graphs.{nodes_in, slots_in}
use Rattle.graph_edits.specs.inner.ListWalks.{lists_with, row_made}
use Rattle.node_model.specs.Changes.{new_row}
use Rattle.graph_edits.proofs.ListLemmas.{add_said}
use Rattle.graph_edits.proofs.row_edits.add_change.Goals as goal

pub returns : goal.returns
returns c =
    let n = nodes_in c.args.graph.now in
    add_said n (slots_in c.args.graph.now) c.args.table c.args.cells.now c.args.sig.now c.as_slice.result.now c.in_ok-lists.lists c.in_ok-row_made.field-0
    (c.as_slice.ensures ∙ c.in_ok-keys.ensures) c.in_ok-lists.ensures
    (c.in_ok-row_made.ensures ∙ ap (row_made (new_row n c.args.table c.args.cells.now) c.args.sig.now)
    (c.in_ok-contents.ensures ∙ ap (λ t. lists_with t c.in_ok-lists.lists) c.next_row.ensures))

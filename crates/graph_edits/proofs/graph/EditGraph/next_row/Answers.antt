use Rattle.std.proofs.Common.{◌<◌, ◌-◌, ◌^◌, sym, ap, subst, ◌∙◌}
use Rattle.node_model.specs.Nodes.{Nodes, next_row}
use Rattle.graph_edits.proofs.graph.EditGraph.next_row.Goals as goal

pub next_row-requires : goal.next_row-requires
next_row-requires c = subst (λ (n : Nodes). n.rows c.args.table < 2 ^ 24 - 1) (sym c.rows_there.ensures) c.requires

pub returns : goal.returns
returns c = c.next_row.ensures ∙ ap (λ (n : Nodes). next_row n c.args.table) c.rows_there.ensures

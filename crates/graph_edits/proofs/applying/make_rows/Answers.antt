use Rattle.std.proofs.Common.{sym, ap, subst, ◌∙◌}
use Rattle.std.specs.Option.{option_or}
use Rattle.node_model.specs.Changes.{begun}
use Rattle.node_model.specs.Places.{slot_at}
use Rattle.node_model.specs.declared.change.RowChange.{RowChange}
use Rattle.graph_edits.specs.Graphs.{nodes_in}
use Rattle.graph_edits.specs.inner.Making.{SoundRows}
use Rattle.graph_edits.proofs.NewRowLemmas.{made_of_row, made_outside, made_begins}
use Rattle.graph_edits.proofs.applying.make_rows.Goals as goal

pub begin-requires-clause-outside : goal.begin-requires-clause-outside
begin-requires-clause-outside c =
    made_outside c.args.graph.now c.in-Made.row c.in-Made.sig c.as_slice.result.now c.requires.shape
    (subst (SoundRows (nodes_in c.args.graph.now)) c.in-Made.is c.requires.sound) (c.as_slice.ensures ∙ c.in_ok-keys-in-Made.ensures)

pub begin-requires-clause-of_row : goal.begin-requires-clause-of_row
begin-requires-clause-of_row c =
    made_of_row c.args.graph.now c.in-Made.row c.in-Made.sig c.as_slice.result.now
    (subst (SoundRows (nodes_in c.args.graph.now)) c.in-Made.is c.requires.sound) (c.as_slice.ensures ∙ c.in_ok-keys-in-Made.ensures)

pub returns-in_ok-begin-in-Made-clause-slots : goal.returns-in_ok-begin-in-Made-clause-slots
returns-in_ok-begin-in-Made-clause-slots c = λ q.
    c.in_ok-begin-in-Made.ensures.ok q
    ∙ ap (option_or (slot_at c.args.graph.now.slots q))
    (made_begins c.args.graph.now c.in-Made.row c.in-Made.sig c.as_slice.result.now
    (subst (SoundRows (nodes_in c.args.graph.now)) c.in-Made.is c.requires.sound) (c.as_slice.ensures ∙ c.in_ok-keys-in-Made.ensures) q
    ∙ ap (λ (r : RowChange). begun r q) (sym c.in-Made.is))

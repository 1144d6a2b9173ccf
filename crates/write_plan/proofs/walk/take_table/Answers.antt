use Rattle.std.proofs.Common.{◌∙◌}
use Rattle.write_plan.specs.Seen.{seen_in}
use Rattle.write_plan.specs.GraphWalk.{table_keys}
use Rattle.write_plan.specs.inner.Taken.{walked_so}
use Rattle.write_plan.proofs.KeptLemmas.{stopped_on}
use Rattle.write_plan.proofs.TableLemmas.{lists_stop, rows_stop, table_done, table_takes}
use Rattle.write_plan.proofs.WalkLemmas.{on_ok_to}
use Rattle.write_plan.proofs.walk.take_table.Goals as goal

pub returns-in_err-take_keys-clause-keys : goal.returns-in_err-take_keys-clause-keys
returns-in_err-take_keys-clause-keys g c =
    let see = seen_in (g.G.Graph.bytes c.args.graph.now) (g.G.Graph.edits c.args.graph.now) in
    let e = c.in_err-take_keys.field-0.0 in
    stopped_on see c.args.kept.now c.take_keys.new.kept (table_keys see (walked_so c.args.kept.now c.args.met.now) c.args.table)
    c.from_residual-in_err-take_keys.result e c.from_residual-in_err-take_keys.ensures.1
    (lists_stop see c.args.kept.now c.args.met.now c.args.table c.as_slice-lists.result.now (c.as_slice-lists.ensures ∙ c.in_ok-found.ensures) e c.in_err-take_keys.ensures)

pub returns-in_err-take_members-clause-keys : goal.returns-in_err-take_members-clause-keys
returns-in_err-take_members-clause-keys g c =
    let see = seen_in (g.G.Graph.bytes c.args.graph.now) (g.G.Graph.edits c.args.graph.now) in
    let e = c.in_err-take_members.field-0.0 in
    stopped_on see c.args.kept.now c.take_members.new.kept (table_keys see (walked_so c.args.kept.now c.args.met.now) c.args.table)
    c.from_residual-in_err-take_members.result e c.from_residual-in_err-take_members.ensures.1
    (rows_stop see c.args.kept.now c.args.met.now c.args.table c.as_slice-lists.result.now (c.as_slice-lists.ensures ∙ c.in_ok-found.ensures)
    c.take_keys.new.kept c.begin.new.self c.as_slice.result.now c.in_ok-take_keys.ensures (c.as_slice.ensures ∙ c.in_ok-members.ensures)
    c.begin.ensures.rows e c.in_err-take_members.ensures.keys)

pub returns-clause-keys : goal.returns-clause-keys
returns-clause-keys g c =
    let see = seen_in (g.G.Graph.bytes c.args.graph.now) (g.G.Graph.edits c.args.graph.now) in
    table_takes see c.args.kept.now c.args.met.now c.args.table c.as_slice-lists.result.now (c.as_slice-lists.ensures ∙ c.in_ok-found.ensures) c.take_keys.new.kept c.begin.new.self c.as_slice.result.now c.in_ok-take_keys.ensures (c.as_slice.ensures ∙ c.in_ok-members.ensures) c.begin.ensures.rows c.as_slice-2.result.now c.take_members.new.kept c.take_keys-2.new.kept c.take_keys-2.result (c.as_slice-2.ensures ∙ c.in_ok-nested.ensures) c.in_ok-take_members.ensures.keys c.take_keys-2.ensures

pub returns-clause-walked : goal.returns-clause-walked
returns-clause-walked g c =
    let see = seen_in (g.G.Graph.bytes c.args.graph.now) (g.G.Graph.edits c.args.graph.now) in
    on_ok_to see c.args.kept.now c.take_keys-2.new.kept (table_keys see (walked_so c.args.kept.now c.args.met.now) c.args.table) c.take_keys-2.result (table_done see c.args.kept.now c.args.met.now c.args.table c.as_slice-lists.result.now (c.as_slice-lists.ensures ∙ c.in_ok-found.ensures) c.take_keys.new.kept c.begin.new.self c.as_slice.result.now c.in_ok-take_keys.ensures (c.as_slice.ensures ∙ c.in_ok-members.ensures) c.begin.ensures.rows c.take_keys-2.new.kept c.take_members.new.met c.in_ok-take_members.ensures.met) (returns-clause-keys g c)

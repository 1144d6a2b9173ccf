use Rattle.std.proofs.Common.{◌∙◌, [], ◌∷◌, ◌++◌, ap, get_or, rules, subst, sym}
use Rattle.std.specs.Option.{option_map}
use Rattle.std.proofs.lemmas.List.{get_or_default}
use Rattle.node_model.specs.declared.key.Key.TheVariants.{Facts}
use Rattle.write_plan.specs.GraphWalk.{Walked, graph_walk, walk_start, walk_tables}
use Rattle.write_plan.specs.Refusals.{Refused, first_fault}
use Rattle.write_plan.specs.Seen.{seen_in}
use Rattle.write_plan.specs.declared.refusal.WriteRefusal.TheVariants.{Reached}
use Rattle.write_plan.specs.inner.Taken.{walked_so}
use Rattle.write_plan.proofs.KeptLemmas.{TakesOk, stopped_on, takes_more}
use Rattle.write_plan.proofs.TableLemmas.{same_walked}
use Rattle.write_plan.proofs.WalkLemmas.{keys_grow, tables_next, tables_stop, walk_end, walked_keys, walked_to, walk_known}
use Rattle.write_plan.proofs.walk.walk.Goals as goal

pub loop-table-init : goal.loop-table-init
loop-table-init g c =
    let begun = c.requires.begun in (
      c.requires.met,
      c.in_ok-take_key.ensures.1,
      same_walked _ _ _ _ _ _
          (c.in_ok-take_key.ensures.0 ∙ ap (λ (w : Walked). w.keys ++ Facts ∷ []) begun) (ap (λ (w : Walked). w.all) begun) (ap (λ (w : Walked). w.again) begun),
    )

pub take_table-requires-clause-kind : goal.take_table-requires-clause-kind
take_table-requires-clause-kind g c =
    let ts = c.walk_order-tables.result.now in
    let table = get_or ts c.loop-table.table-index 0 in
    walk_known ts c.loop-table.table-index table c.walk_order-tables.ensures c.loop-table-test.true (get_or_default ts c.loop-table.table-index 0 table c.loop-table-test.true)

pub loop-table-preserved : goal.loop-table-preserved
loop-table-preserved g c =
    let ts = c.walk_order-tables.result.now in
    let table = get_or ts c.loop-table.table-index 0 in
    let see = seen_in (g.G.Graph.bytes c.args.graph.now) (g.G.Graph.edits c.args.graph.now) in (
      c.in_ok-take_table.ensures.is_met,
      c.in_ok-take_table.ensures.keys.1,
      tables_next see ts c.loop-table.table-index table walk_start (walked_so c.loop-table.kept c.loop-table.met)
          c.args.kept.now c.loop-table.kept (walked_so c.take_table.new.kept c.take_table.new.met) c.loop-table-test.true (get_or_default ts c.loop-table.table-index 0 table c.loop-table-test.true) c.loop-table.invariant.2 c.in_ok-take_table.ensures.walked,
    )

pub returns-in_err-take_key-clause-keys : goal.returns-in_err-take_key-clause-keys
unfolding graph_walk
returns-in_err-take_key-clause-keys g c =
    let see = seen_in (g.G.Graph.bytes c.args.graph.now) (g.G.Graph.edits c.args.graph.now) in
    let e = c.in_err-take_key.field-0.0 in
    let (rest, grown) = keys_grow see walk_tables walk_start in
    stopped_on see c.args.kept.now c.take_key.new.kept (graph_walk see).keys c.from_residual.result e c.from_residual.ensures.1
    (subst (λ ks. Refused (option_map Reached (first_fault see ks)) e) (sym grown) (takes_more see (Facts ∷ []) rest e c.in_err-take_key.ensures))

pub returns-in_err-take_table-clause-keys : goal.returns-in_err-take_table-clause-keys
unfolding graph_walk
returns-in_err-take_table-clause-keys g c =
    let ts = c.walk_order-tables.result.now in
    let table = get_or ts c.loop-table.table-index 0 in
    let see = seen_in (g.G.Graph.bytes c.args.graph.now) (g.G.Graph.edits c.args.graph.now) in
    let e = c.in_err-take_table.field-0.0 in
    let none = ap (λ (w : Walked). w.keys) c.requires.begun in
    let took : TakesOk see c.args.kept.now c.loop-table.kept.keys c.loop-table.kept = (sym (ap (λ ks. ks ++ c.loop-table.kept.keys) none), c.loop-table.invariant.1) in
    stopped_on see c.args.kept.now c.take_table.new.kept (graph_walk see).keys c.from_residual-in_err-take_table.result e c.from_residual-in_err-take_table.ensures.1
    (subst (λ ts. Refused (option_map Reached (first_fault see (walked_to see walk_start ts).keys)) e) c.walk_order-tables.ensures
    (tables_stop see ts c.loop-table.table-index table walk_start (walked_so c.loop-table.kept c.loop-table.met)
    c.args.kept.now c.loop-table.kept e c.loop-table-test.true (get_or_default ts c.loop-table.table-index 0 table c.loop-table-test.true) c.loop-table.invariant.2 took c.in_err-take_table.ensures.keys))

pub returns-clause-walked : goal.returns-clause-walked
unfolding graph_walk
returns-clause-walked g c =
    let ts = c.walk_order-tables.result.now in
    let see = seen_in (g.G.Graph.bytes c.args.graph.now) (g.G.Graph.edits c.args.graph.now) in
    c.loop-table.invariant.2 ∙ ap (walked_to see walk_start) (walk_end ts c.loop-table.table-index (search rules) ∙ c.walk_order-tables.ensures)

pub returns-clause-keys : goal.returns-clause-keys
returns-clause-keys g c =
    let see = seen_in (g.G.Graph.bytes c.args.graph.now) (g.G.Graph.edits c.args.graph.now) in (
      walked_keys see c.args.kept.now c.loop-table.kept c.loop-table.met (ap (λ (w : Walked). w.keys) c.requires.begun) (returns-clause-walked g c),
      c.loop-table.invariant.1,
    )

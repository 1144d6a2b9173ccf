use Rattle.std.proofs.Common.{◌∙◌, ◌<◌, ◌^◌, ap, ap₂, length, subst, sym}
use Rattle.std.specs.List.{IsDistinct}
use Rattle.cil_base.specs.Token.{Token}
use Rattle.node_model.specs.Keys.{same_token}
use Rattle.node_model.specs.declared.key.Key.{Key}
use Rattle.node_model.specs.declared.value.Value.{Value}
use Rattle.std.specs.Prelude.{List, Option}
use Rattle.write_plan.specs.GraphWalk.{Walked, graph_walk, rows_of_table, walked_value}
use Rattle.write_plan.specs.Refusals.{Refused}
use Rattle.write_plan.specs.Seen.{seen_in}
use Rattle.write_plan.specs.Written.{written_lists}
use Rattle.write_plan.specs.declared.refusal.WriteRefusal.{WriteRefusal}
use Rattle.write_plan.proofs.DistinctLemmas.{walked_distinct}
use Rattle.write_plan.proofs.PlanLemmas.{begun_empty, few_rows, kept_empty, later_as_seen, later_first, made_not, none_refused, reached_first, walks}
use Rattle.write_plan.proofs.plan.Plan.make.Goals as goal

pub walk-requires-clause-kept : goal.walk-requires-clause-kept
walk-requires-clause-kept g c = kept_empty _ c.new-kept.result c.new-kept.ensures.keys c.new-kept.ensures.values

pub walk-requires-clause-begun : goal.walk-requires-clause-begun
walk-requires-clause-begun g c = begun_empty c.new-kept.result c.new-met.result c.new-kept.ensures.keys c.new-met.ensures.rows

pub refuse-requires-clause-rows : goal.refuse-requires-clause-rows
refuse-requires-clause-rows g c = c.in_ok-rows.ensures ∙ c.in_ok-all.ensures

pub written_lists-requires-clause-distinct : goal.written_lists-requires-clause-distinct
written_lists-requires-clause-distinct g c =
    let see = seen_in (g.G.Graph.bytes c.args.graph.now) (g.G.Graph.edits c.args.graph.now) in
    let whole = walks see c.new-kept.result c.walk.new.kept c.walk.new.met c.new-kept.ensures.keys c.in_ok-walk.ensures.walked c.in_ok-walk.ensures.keys in
    let all = c.in_ok-rows.ensures ∙ c.in_ok-all.ensures ∙ ap (λ (w : Walked). w.all) whole.walked in
    subst (IsDistinct same_token) (sym all) (walked_distinct see)

pub written_lists-requires-clause-few : goal.written_lists-requires-clause-few
written_lists-requires-clause-few g c = λ table small.
    let see = seen_in (g.G.Graph.bytes c.args.graph.now) (g.G.Graph.edits c.args.graph.now) in
    let whole = walks see c.new-kept.result c.walk.new.kept c.walk.new.met c.new-kept.ensures.keys c.in_ok-walk.ensures.walked c.in_ok-walk.ensures.keys in
    let all = c.in_ok-rows.ensures ∙ c.in_ok-all.ensures ∙ ap (λ (w : Walked). w.all) whole.walked in
    let none = sym (later_as_seen see c.walk.new.kept c.walk.new.met whole) ∙ c.in_ok-refuse.ensures in
    subst (λ (rows : List Token). length (rows_of_table table rows) < 2 ^ 24) (sym all) (few_rows (walked_value see) (graph_walk see) none table small)

pub returns-in_err-walk : goal.returns-in_err-walk
returns-in_err-walk g c =
    let see = seen_in (g.G.Graph.bytes c.args.graph.now) (g.G.Graph.edits c.args.graph.now) in
    let e = c.in_err-walk.field-0.0 in
    made_not see c.from_residual.result e c.from_residual.ensures.1 (reached_first see e c.in_err-walk.ensures.keys)

pub returns-in_err-refuse : goal.returns-in_err-refuse
returns-in_err-refuse g c =
    let see = seen_in (g.G.Graph.bytes c.args.graph.now) (g.G.Graph.edits c.args.graph.now) in
    let whole = walks see c.new-kept.result c.walk.new.kept c.walk.new.met c.new-kept.ensures.keys c.in_ok-walk.ensures.walked c.in_ok-walk.ensures.keys in
    let e = c.in_err-refuse.field-0.0 in
    made_not see c.from_residual-in_err-refuse.result e c.from_residual-in_err-refuse.ensures.1
    (later_first see e whole.sound
    (subst (λ (v : Option WriteRefusal). Refused v e) (later_as_seen see c.walk.new.kept c.walk.new.met whole) c.in_err-refuse.ensures))

pub returns : goal.returns
returns g c =
    let see = seen_in (g.G.Graph.bytes c.args.graph.now) (g.G.Graph.edits c.args.graph.now) in
    let whole = walks see c.new-kept.result c.walk.new.kept c.walk.new.met c.new-kept.ensures.keys c.in_ok-walk.ensures.walked c.in_ok-walk.ensures.keys in
    let all = c.in_ok-rows.ensures ∙ c.in_ok-all.ensures ∙ ap (λ (w : Walked). w.all) whole.walked in
    let none = sym (later_as_seen see c.walk.new.kept c.walk.new.met whole) ∙ c.in_ok-refuse.ensures in (
      none_refused see whole.sound none,
      record {
        lists = c.in_ok-lists.ensures.lists ∙ ap₂ written_lists whole.value all;
        values = λ k. ap (λ (value : Key → Option Value). value k) whole.value;
      },
    )

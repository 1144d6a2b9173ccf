use Rattle.std.proofs.Common.{◌∷◌, ◌++◌, ap, ◌∙◌}
use Rattle.node_model.specs.declared.key.Key.TheVariants.{Row}
use Rattle.graph_edits.specs.Graphs.{nodes_in, slots_in}
use Rattle.graph_edits.specs.inner.ListWalks.{lists_looked}
use Rattle.graph_edits.proofs.ListLemmas.{nesting_looked}
use Rattle.graph_edits.proofs.looked.nesting_looked.Goals as goal

pub returns : goal.returns
returns c =
    let p = slots_in c.args.graph.now in
    c.in_ok-look_at_lists.ensures
    ∙ ap (λ ks. ks ++ lists_looked p c.as_slice.result.now) c.in_ok-looked.ensures
    ∙ ap (λ ks. Row c.args.token ∷ lists_looked p ks) (c.as_slice.ensures ∙ c.in_ok-keys.ensures)
    ∙ nesting_looked (nodes_in c.args.graph.now) p c.args.owner c.args.token c.in-Ok.row.now c.requires c.in-Ok.ensures

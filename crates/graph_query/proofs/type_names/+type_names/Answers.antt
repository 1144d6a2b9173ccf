use Rattle.std.proofs.Common.{subst, Option}
use Rattle.cil_base.specs.Token.{Token}
use Rattle.node_model.specs.Parts.{Meets}
use Rattle.node_model.specs.RowNames.{scoped_walk, type_name_walk}
use Rattle.node_model.specs.Walk.{said}
use Rattle.graph_query.specs.Answered.{nodes_asked, slots_asked}
use Rattle.graph_query.proofs.type_names.+type_names.Goals as goal

pub reference_name-returns : goal.reference_name-returns
reference_name-returns t c =
    let n = nodes_asked c.args.graph.now in
    subst (λ (o : Option Token). Meets c.scoped_name.result (said (slots_asked c.args.graph.now) (scoped_walk n (type_name_walk n c.args.depth) c.args.row.now o)))
    c.token_named.ensures c.scoped_name.ensures

use Rattle.std.proofs.Common.{List, sym, ap, ◌∙◌}
use Rattle.sig_tree.specs.declared.tree.TypeSig.{TypeSig}
use Rattle.node_model.specs.Nodes.{nodes_there}
use Rattle.graph_edits.specs.inner.BadNames.{first_bad_type, tokens_of_types}
use Rattle.graph_edits.proofs.NameLemmas.{first_is, second_is}
use Rattle.graph_edits.proofs.TypeTokens.{property}
use Rattle.graph_edits.proofs.sig_names.bad_in_tree.Goals as goal

pub returns-in-Some : goal.returns-in-Some
returns-in-Some c =
    let n = nodes_there c.args.rows.now in
    first_is _ _ _ c.in-Some.token (property n c.args.sig.now c.in-Property.this c.in-Property.ty c.in-Property.params c.in-Property.is)
    (sym c.bad_in_type-in-Property.ensures ∙ c.in-Some.is)

pub returns-in_default : goal.returns-in_default
returns-in_default c =
    let n = nodes_there c.args.rows.now in
    c.bad_in_types-in-Property.ensures
    ∙ ap (λ (ts : List TypeSig). first_bad_type n (tokens_of_types ts)) c.as_slice-in-Property.ensures
    ∙ second_is _ _ _ (property n c.args.sig.now c.in-Property.this c.in-Property.ty c.in-Property.params c.in-Property.is)
    (sym c.bad_in_type-in-Property.ensures ∙ c.in_default.is)

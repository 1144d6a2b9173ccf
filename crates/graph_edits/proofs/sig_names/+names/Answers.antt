use Rattle.std.proofs.Common.{List, sym, ap, ◌∙◌}
use Rattle.sig_tree.specs.declared.tree.TypeSig.{TypeSig}
use Rattle.node_model.specs.Nodes.{nodes_there}
use Rattle.graph_edits.specs.inner.BadNames.{first_bad_type, tokens_of_type, tokens_of_types}
use Rattle.graph_edits.proofs.NameLemmas.{first_is, second_is, types_end, types_more}
use Rattle.graph_edits.proofs.TypeTokens.{inst, modified}
use Rattle.graph_edits.proofs.sig_names.+names.Goals as goal

pub bad_in_type-returns-in-Some : goal.bad_in_type-returns-in-Some
bad_in_type-returns-in-Some t c =
    let n = nodes_there c.args.rows.now in
    first_is _ _ _ c.in-Some.token (inst n c.args.ty.now c.in-Inst.value c.in-Inst.of c.in-Inst.args c.in-Inst.is) (sym c.bad_type-in-Inst.ensures ∙ c.in-Some.is)

pub bad_in_type-returns-in-Some-bad_type : goal.bad_in_type-returns-in-Some-bad_type
bad_in_type-returns-in-Some-bad_type t c =
    let n = nodes_there c.args.rows.now in
    first_is _ _ _ c.in-Some-bad_type.token (modified n c.args.ty.now c.in-Mod.required c.in-Mod.of c.in-Mod.inner c.in-Mod.is)
    (sym c.bad_type-in-Mod.ensures ∙ c.in-Some-bad_type.is)

pub bad_in_type-returns-in_default : goal.bad_in_type-returns-in_default
bad_in_type-returns-in_default t c =
    let n = nodes_there c.args.rows.now in
    c.bad_in_types.ensures
    ∙ ap (λ (ts : List TypeSig). first_bad_type n (tokens_of_types ts)) c.as_slice.ensures
    ∙ second_is _ _ _ (inst n c.args.ty.now c.in-Inst.value c.in-Inst.of c.in-Inst.args c.in-Inst.is) (sym c.bad_type-in-Inst.ensures ∙ c.in_default.is)

pub bad_in_type-returns-in_default-bad_type : goal.bad_in_type-returns-in_default-bad_type
bad_in_type-returns-in_default-bad_type t c =
    let n = nodes_there c.args.rows.now in
    c.bad_in_type-in-Mod.ensures
    ∙ ap (λ (t : TypeSig). first_bad_type n (tokens_of_type t)) c.get-in-Mod.ensures
    ∙ second_is _ _ _ (modified n c.args.ty.now c.in-Mod.required c.in-Mod.of c.in-Mod.inner c.in-Mod.is)
    (sym c.bad_type-in-Mod.ensures ∙ c.in_default-bad_type.is)

pub bad_in_types-returns-in-Some : goal.bad_in_types-returns-in-Some
bad_in_types-returns-in-Some t c =
    let n = nodes_there c.args.rows.now in
    first_is _ _ _ c.in-Some.token (c.loop-ty.invariant ∙ types_more n c.args.types.now c.loop-ty.ty-index c.ty-item.result c.loop-ty-test.true c.ty-item.is)
    (sym c.bad_in_type.ensures ∙ c.in-Some.is)

pub bad_in_types-loop-ty-preserved : goal.bad_in_types-loop-ty-preserved
bad_in_types-loop-ty-preserved t c =
    let n = nodes_there c.args.rows.now in
    sym (second_is _ _ _ (c.loop-ty.invariant ∙ types_more n c.args.types.now c.loop-ty.ty-index c.ty-item.result c.loop-ty-test.true c.ty-item.is)
    (sym c.bad_in_type.ensures ∙ c.in_default.is))

pub bad_in_types-returns : goal.bad_in_types-returns
bad_in_types-returns t c =
    sym (c.loop-ty.invariant ∙ types_end (nodes_there c.args.rows.now) c.args.types.now c.loop-ty.ty-index c.loop-ty-test.false)

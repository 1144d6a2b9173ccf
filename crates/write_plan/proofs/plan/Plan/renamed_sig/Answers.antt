use Rattle.std.proofs.Common.{◌∙◌, ap, subst}
use Rattle.std.specs.List.{list_all}
use Rattle.sig_tree.specs.Bounds.{IsBoundedSig}
use Rattle.sig_tree.specs.Replaced.{names_type}
use Rattle.write_plan.proofs.SigLemmas.{sig_named}
use Rattle.write_plan.proofs.plan.Plan.renamed_sig.Goals as goal

pub with_tokens-requires-clause-types : goal.with_tokens-requires-clause-types
with_tokens-requires-clause-types c =
    let bounded = subst IsBoundedSig c.tree-tree.ensures.same c.tree-tree.ensures.bounded in
    c.in_ok-new.ensures.types (ap (list_all names_type) (c.as_slice.ensures ∙ c.in_ok-tokens.ensures) ∙ sig_named c.args.sig.now bounded)

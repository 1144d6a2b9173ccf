use Rattle.std.proofs.Common.{◌≡◌, ◌∙◌, ◌<◌, ◌^◌, subst, sym, true}
use Rattle.cil_base.specs.Token.{Token}
use Rattle.sig_tree.specs.Replaced.{names_type}
use Rattle.write_plan.proofs.SigLemmas.{new_named}
use Rattle.write_plan.proofs.plan.Plan.new_token.Goals as goal

pub returns-clause-types : goal.returns-clause-types
returns-clause-types c = λ named.
    let same = c.new_token-new.ensures in
    let small = subst (λ (t : Token). t.rid < 2 ^ 24) (c.new.view_is ∙ same) c.new.invariant in
    subst (λ (t : Token). names_type t ≡ true) (sym same) (new_named c.self.inside.lists c.args.token small named)

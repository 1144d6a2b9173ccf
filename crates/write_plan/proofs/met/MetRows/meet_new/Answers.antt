use Rattle.std.proofs.Common.{◌∙◌, [], ◌∷◌, ◌++◌, ap, cond, sym}
use Rattle.std.specs.List.{list_any}
use Rattle.node_model.specs.Keys.{same_token}
use Rattle.write_plan.proofs.met.MetRows.meet_new.Goals as goal

pub returns-clause-met : goal.returns-clause-met
returns-clause-met c =
    let t = c.args.token in
    c.in_ok-insert.ensures.keys ∙ ap (λ keys. cond (list_any (same_token t) keys) keys (keys ++ t ∷ [])) c.requires.met
    ∙ ap (λ b. cond b c.args.self.now.all (c.args.self.now.all ++ t ∷ [])) c.requires.new ∙ sym c.in_ok-push.ensures.ok

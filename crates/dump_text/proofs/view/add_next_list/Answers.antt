use Rattle.std.proofs.Common.{◌≡◌, ◌∙◌, ap, subst, ◌++◌, List, ℕ, OnOk, append_assoc, codes}
use Rattle.node_model.specs.declared.key.Key.TheVariants.{Linked}
use Rattle.dump_text.specs.ViewTexts.{tokens_text}
use Rattle.dump_text.proofs.view.add_next_list.Goals as goal

pub returns : goal.returns
returns c =
    let list : List ℕ = tokens_text (Linked c.args.token c.args.link) c.args.tokens.now in
    subst (λ t. OnOk c.add_tokens.result (c.add_tokens.new.text ≡ t))
    (ap (λ t. t ++ list) c.in_ok-extend.ensures.ok ∙ append_assoc c.args.text.now (codes "; ") list)
    c.add_tokens.ensures

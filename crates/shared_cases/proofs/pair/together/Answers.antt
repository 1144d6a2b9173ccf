use Rattle.std.proofs.Common.{◌≡◌, ◌++◌, ◌∷◌, [], ap, ◌∙◌, sym, subst}
use Rattle.turn_lock.specs.Passes.{AreAllOf}
use Rattle.turn_lock.proofs.TwoPasses.{two_are_all}
use Rattle.shared_cases.proofs.pair.together.Goals as goal

pub returns : goal.returns
returns c =
    let p = c.args.first in
    let q = c.args.second in
    let whole : c.push-2.new.self ≡ p ∷ q ∷ [] =
    c.in_ok-push-2.ensures.ok ∙ ap (λ xs. xs ++ q ∷ []) (c.in_ok-push.ensures.ok ∙ ap (λ xs. xs ++ p ∷ []) c.new-passes.ensures) in
    subst (AreAllOf c.args.shared.now) (sym whole)
    (two_are_all c.args.shared.now c.requires.callers p q c.requires.first.0 c.requires.second.0 c.requires.first.1 c.requires.second.1)

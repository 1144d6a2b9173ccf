use Rattle.std.proofs.Common.{rules, ◌≡◌, ◌++◌, ◌∷◌, [], List, ℕ, cond, is_ok, subst, sym, ap, ◌∙◌, length}
use mathlib.Core.List.{IsPrefix}
use Rattle.turn_lock.specs.Passes.{MadeBy}
use Rattle.turn_lock.proofs.Turns.{prefix_if, made_if}
use Rattle.turn_lock.proofs.tests.take_turn.Goals as goal

pub leave-requires-clause-later : goal.leave-requires-clause-later
leave-requires-clause-later g c = let seen : List ℕ = c.enter-held.result.seen in let n : ℕ = c.number-number.result in let added = is_ok c.push-made.result in
    let old : c.state_mut.result.now.callers.items ≡ seen = ap (λ s. s.callers.items) c.state_mut.ensures.value ∙ sym c.enter-held.ensures.seen in
    let is : c.push-made.new.self.items ≡ cond added (seen ++ n ∷ []) seen = c.push-made.ensures.items ∙ ap (λ (xs : List ℕ). cond added (xs ++ n ∷ []) xs) old in
    subst (IsPrefix seen) (sym is) (prefix_if added seen n)

pub leave-requires-clause-own : goal.leave-requires-clause-own
leave-requires-clause-own g c = let seen : List ℕ = c.enter-held.result.seen in let n : ℕ = c.number-number.result in let added = is_ok c.push-made.result in
    let old : c.state_mut.result.now.callers.items ≡ seen = ap (λ s. s.callers.items) c.state_mut.ensures.value ∙ sym c.enter-held.ensures.seen in
    let is : c.push-made.new.self.items ≡ cond added (seen ++ n ∷ []) seen = c.push-made.ensures.items ∙ ap (λ (xs : List ℕ). cond added (xs ++ n ∷ []) xs) old in
    let mine : n ≡ c.enter-held.result.number = c.number-number.ensures ∙ sym c.enter-held.ensures.pass.1 in
    subst (MadeBy (λ (e : ℕ). e) c.enter-held.result.number (length seen)) (sym is) (made_if (λ (e : ℕ). e) c.enter-held.result.number added seen n mine)

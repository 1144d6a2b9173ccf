use Rattle.std.proofs.Common.{◌≡◌, sym, ◌∙◌, ap}
use Rattle.resolver.proofs.MachineLemmas.{kept, next_state}
use Rattle.resolver.specs.Machine.{advanced, state_after}
use Rattle.resolver.specs.Questions.{state_next}
use Rattle.resolver.specs.declared.next.Next.TheVariants.{Question}
use Rattle.resolver.proofs.ask.Ask.answered.Goals as goal

pub invariant_of-self : goal.invariant_of-self
invariant_of-self c =
    let a = c.self.inside in
    let asked : Question c.in-Question.at c.in-Question.query ≡ state_next a.state = sym c.in-Question.is ∙ c.in_ok-at.ensures in
    let next = next_state a.start a.transcript a.state c.in-Question.at c.in-Question.query c.args.reply c.self.invariant asked in
    kept (state_after a.start) c.keep.result a.transcript _ a.state _ _ _ c.self.invariant
    (ap (advanced a.state) (c.in_ok-advance-2.ensures ∙ c.in_ok-advance.ensures) ∙ next)
    c.keep.ensures.transcript c.keep.ensures.state c.keep.ensures.same_transcript c.keep.ensures.same_state

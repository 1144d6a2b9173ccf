use Rattle.cecil_top.proofs.QuestionLemmas.{IsAskedTo}
use Rattle.cecil_top.proofs.following.ask_all.Given as goal

-- the inquiry knows what was asked so far
abbrev pub invariant-loop : goal.invariant-loop
invariant-loop g l =
    IsAskedTo l.modules l.actor l.place l.initial.ask.start l.ask l.asked l.initial.passes l.passes

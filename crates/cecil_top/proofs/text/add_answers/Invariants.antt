use Rattle.std.proofs.Common.{◌≡◌, ◌++◌, drop}
use Rattle.cecil_top.specs.RunText.{answer_lines}
use Rattle.cecil_top.proofs.text.add_answers.Given as goal

-- the lines so far, with those to come
abbrev pub invariant-loop-number : goal.invariant-loop-number
invariant-loop-number l =
    l.text ++ answer_lines l.actor l.number (drop l.number l.commands) (drop l.number l.said)
    ≡ l.initial.text ++ answer_lines l.actor 0 l.commands l.said

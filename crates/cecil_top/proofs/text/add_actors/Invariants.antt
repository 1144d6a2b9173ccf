use Rattle.std.proofs.Common.{◌≡◌, ◌++◌, drop}
use Rattle.cecil_top.specs.RunText.{actor_lines}
use Rattle.cecil_top.proofs.text.add_actors.Given as goal

-- the lines so far, with those to come
abbrev pub invariant-loop-number : goal.invariant-loop-number
invariant-loop-number l =
    l.text ++ actor_lines l.number (drop l.number l.actors) ≡ l.initial.text ++ actor_lines 0 l.actors

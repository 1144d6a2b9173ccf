use Rattle.std.proofs.Common.{◌≡◌, ◌++◌, drop}
use Rattle.cecil_top.specs.RunText.{history_texts}
use Rattle.cecil_top.proofs.text.add_histories.Given as goal

-- the lines so far, with those to come
abbrev pub invariant-loop-home : goal.invariant-loop-home
invariant-loop-home l =
    l.text ++ history_texts l.home (drop l.home l.cores) ≡ l.initial.text ++ history_texts 0 l.cores

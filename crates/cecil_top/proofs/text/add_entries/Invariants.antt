use Rattle.std.proofs.Common.{◌≡◌, ◌+◌, ◌++◌, drop}
use Rattle.cecil_top.specs.RunText.{entry_lines}
use Rattle.cecil_top.proofs.text.add_entries.Given as goal

-- the lines so far, with those to come
abbrev pub invariant-loop-at : goal.invariant-loop-at
invariant-loop-at l =
    l.text ++ entry_lines l.home (l.at + 1) (drop l.at l.history) ≡ l.initial.text ++ entry_lines l.home 1 l.history

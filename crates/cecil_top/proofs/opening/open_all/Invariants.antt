use Rattle.std.proofs.Common.{◌≡◌, List, [], drop, length}
use Rattle.job_text.specs.declared.command.Command.{Command}
use Rattle.cecil_top.specs.inner.Opens.{AllAreNew, AreOpened}
use Rattle.cecil_top.proofs.opening.open_all.Given as goal

-- so many cores are shared, and each actor has a pass of each
abbrev pub invariant-loop-at : goal.invariant-loop-at
invariant-loop-at l =
    (l.cores ≡ drop l._at l.initial.cores) × (length l.actors ≡ length l.initial.actors)
    × AreOpened l.initial.cores (length l.initial.actors) l.modules l._at
    × ((given : List (List Command)) → AllAreNew [] given l.initial.actors (length l.initial.actors)
    → AllAreNew l.modules given l.actors (length l.initial.actors))

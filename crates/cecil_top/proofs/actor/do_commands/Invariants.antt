use Rattle.std.proofs.Common.{length}
use Rattle.cecil_top.specs.Acts.{acts_of}
use Rattle.cecil_top.specs.inner.Actors.{AreDoneTo}
use Rattle.cecil_top.specs.inner.Passes.{ExplainsSoFar, HasPasses}
use Rattle.cecil_top.proofs.actor.do_commands.Given as goal

-- so many commands are done, and all that was said is explained
abbrev pub invariant-loop-place : goal.invariant-loop-place
invariant-loop-place g l =
    HasPasses l.modules l.actor l.passes × AreDoneTo (length l.modules) l.given l.commands l.said l.made l.place
    × ExplainsSoFar l.modules l.actor (acts_of l.commands l.said) l.passes

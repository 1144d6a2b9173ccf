use Rattle.std.proofs.Common.{◌≡◌, ◌++◌, take}
use Rattle.std.specs.List.{flat_map}
use Rattle.cecil_top.specs.RunText.{ask_line}
use Rattle.cecil_top.proofs.text.add_asks.Given as goal

abbrev pub invariant-loop-one : goal.invariant-loop-one
invariant-loop-one l = l.text ≡ l.initial.text ++ flat_map (ask_line l.actor l.number) (take l.one-index l.asked)

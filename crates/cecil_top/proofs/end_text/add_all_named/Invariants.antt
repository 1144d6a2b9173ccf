use Rattle.std.proofs.Common.{◌≡◌, ◌++◌, take}
use Rattle.std.specs.List.{flat_map}
use Rattle.cecil_top.specs.EndTexts.{named_text}
use Rattle.cecil_top.proofs.end_text.add_all_named.Given as goal

abbrev pub invariant-loop-named : goal.invariant-loop-named
invariant-loop-named l = l.text ≡ l.initial.text ++ flat_map named_text (take l.named-index l.all)

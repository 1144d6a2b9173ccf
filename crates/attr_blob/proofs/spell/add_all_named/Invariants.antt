use Rattle.std.proofs.Common.{◌≡◌, ◌++◌, take}
use Rattle.attr_blob.specs.Spelled.{spelled_all_named}
use Rattle.attr_blob.proofs.spell.add_all_named.Given as goal

abbrev pub invariant-loop-named : goal.invariant-loop-named
invariant-loop-named l = l.out ≡ l.initial.out ++ spelled_all_named (take l.named-index l.all)

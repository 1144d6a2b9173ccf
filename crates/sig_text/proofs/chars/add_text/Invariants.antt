use Rattle.std.proofs.Common.{◌≡◌, ◌++◌, take}
use Rattle.sig_tree.specs.Printed.{chars}
use Rattle.sig_text.proofs.chars.add_text.Given as goal

abbrev pub invariant-loop-c : goal.invariant-loop-c
invariant-loop-c l = l.out ≡ l.initial.out ++ chars (take l.c-index l.text)

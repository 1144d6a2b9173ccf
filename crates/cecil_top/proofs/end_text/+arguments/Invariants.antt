use Rattle.std.proofs.Common.{◌≡◌, ◌++◌, map, drop}
use Rattle.std.specs.List.{join_with_byte}
use Rattle.cecil_top.specs.EndTexts.{argument_text}
use Rattle.cecil_top.proofs.EndTextLemmas.{in_commas}
use Rattle.cecil_top.proofs.end_text.+arguments.Given as goal

abbrev pub invariant-add_arguments-loop-arg : goal.invariant-add_arguments-loop-arg
invariant-add_arguments-loop-arg l =
    l.initial.text ++ join_with_byte 0x2c (map argument_text l.args)
    ≡ l.text ++ in_commas l.first (map argument_text (drop l.arg-index l.args))

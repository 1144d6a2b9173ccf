use Rattle.std.proofs.Common.{◌≡◌, ◌++◌, take}
use Rattle.std.specs.List.{flat_map}
use Rattle.cecil_inspect.specs.Lines.{row_line}
use Rattle.cecil_inspect.proofs.dump.add_rows.Given as goal

-- the lines so far
abbrev pub invariant-loop-token : goal.invariant-loop-token
invariant-loop-token l = l.text ≡ l.initial.text ++ flat_map (row_line l.image) (take l.token-index l.tokens)

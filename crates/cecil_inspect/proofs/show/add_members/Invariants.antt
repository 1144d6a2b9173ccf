use Rattle.std.proofs.Common.{◌≡◌, ◌++◌, take}
use Rattle.std.specs.List.{flat_map}
use Rattle.cecil_inspect.specs.Lines.{member_line}
use Rattle.cecil_inspect.proofs.show.add_members.Given as goal

-- the lines so far
abbrev pub invariant-loop-table : goal.invariant-loop-table
invariant-loop-table l = l.text ≡ l.initial.text ++ flat_map (member_line l.image l.token) (take l.table-index l.tables)

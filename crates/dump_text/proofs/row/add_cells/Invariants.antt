use Rattle.std.proofs.Common.{◌≡◌, ◌++◌, take}
use Rattle.std.specs.List.{flat_map, enumerate_from}
use Rattle.dump_text.specs.Rows.{named_cell}
use Rattle.dump_text.proofs.row.add_cells.Given as goal

-- the cells so far
abbrev pub invariant-loop-number : goal.invariant-loop-number
invariant-loop-number l = l.text ≡ l.initial.text ++ flat_map (named_cell l.table) (take l.number (enumerate_from 0 l.cells))

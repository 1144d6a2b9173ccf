use Rattle.std.proofs.Common.{◌≡◌, drop}
use Rattle.std.specs.List.{find, flat_map}
use Rattle.write_plan.specs.Named.{cell_tokens}
use Rattle.write_plan.specs.Named.{is_dangling}
use Rattle.write_plan.proofs.named.dangling_in_cells.Given as goal

abbrev pub invariant-loop-cell : goal.invariant-loop-cell
invariant-loop-cell l =
    find (is_dangling l.met.all) (flat_map cell_tokens (drop l.cell-index l.cells)) ≡ find (is_dangling l.met.all) (flat_map cell_tokens l.cells)

use Rattle.std.proofs.Common.{sym, rules}
use Rattle.std.specs.List.{find, flat_map}
use Rattle.write_plan.specs.Named.{cell_tokens}
use Rattle.write_plan.specs.Named.{is_dangling}
use Rattle.write_plan.proofs.ScanLemmas.{flat_step, scan_here, scan_next}
use Rattle.write_plan.proofs.named.dangling_in_cells.Goals as goal

pub returns-in-Some : goal.returns-in-Some
returns-in-Some c =
    scan_here (λ xs. find (is_dangling c.args.met.now.all) (flat_map cell_tokens xs)) (λ x. find (is_dangling c.args.met.now.all) (cell_tokens x)) (flat_step (is_dangling c.args.met.now.all) cell_tokens) c.args.cells.now c.loop-cell.cell-index c.cell-item.result c.in-Some.token (search rules) c.cell-item.is c.loop-cell.invariant (sym c.in-Some.ensures)

pub loop-cell-preserved : goal.loop-cell-preserved
loop-cell-preserved c =
    scan_next (λ xs. find (is_dangling c.args.met.now.all) (flat_map cell_tokens xs)) (λ x. find (is_dangling c.args.met.now.all) (cell_tokens x)) (flat_step (is_dangling c.args.met.now.all) cell_tokens) c.args.cells.now c.loop-cell.cell-index c.cell-item.result (search rules) c.cell-item.is c.loop-cell.invariant (sym c.in_default.ensures)

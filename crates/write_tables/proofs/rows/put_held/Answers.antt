use Rattle.std.proofs.Common.{ℕ, subst}
use Rattle.std.specs.Prelude.{Option, slice_get}
use Rattle.std.specs.Option.{option_copied, unwrap_or}
use Rattle.node_model.specs.declared.cell.Cell.{Cell}
use Rattle.write_tables.proofs.GatherLemmas.{GathersColumn}
use Rattle.write_tables.proofs.rows.put_held.Goals as goal

pub returns : goal.returns
returns c =
    let kind = c.args.column.now.kind in
    subst (λ (x : Option Cell). GathersColumn c.args.plan.now c.args.row x (unwrap_or (slice_get c.args.column.now.numbers c.args.place) 0) c.args.heaps.now c.put_column.new.heaps c.put_column.result kind) c.cell_in-cell.ensures
    (subst (λ (n : ℕ). GathersColumn c.args.plan.now c.args.row (option_copied c.cell_in-cell.result) n c.args.heaps.now c.put_column.new.heaps c.put_column.result kind)
    c.number_at-placed.ensures c.put_column.ensures)

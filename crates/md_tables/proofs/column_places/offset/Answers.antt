use Rattle.std.proofs.Common.{sym, ◌∙◌}
use Rattle.md_tables.proofs.CellLemmas.{offset-take}
use Rattle.md_tables.proofs.column_places.offset.Goals as goal

pub returns-clause-offset : goal.returns-clause-offset
returns-clause-offset c =
    c.width_of_columns.ensures.sum ∙ sym (offset-take c.args.counts.now c.args.table c.args.column c.in-Some.columns.now c.in-Some.ensures.columns)

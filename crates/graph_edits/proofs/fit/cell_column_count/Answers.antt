use Rattle.std.proofs.Common.{ℕ, List, length, sym, ap, ◌∙◌}
use Rattle.std.specs.List.{enumerate_from, filter}
use Rattle.md_schema.specs.Column.{ColumnOf, is_cell_kind}
use Rattle.graph_edits.proofs.FitLemmas.{columns_counted}
use Rattle.graph_edits.proofs.fit.cell_column_count.Goals as goal

pub returns : goal.returns
returns c =
    c.cells_among.ensures
    ∙ sym (columns_counted c.table_columns.result.now 0)
    ∙ ap (λ (cs : List ColumnOf). length (filter (λ (c : ℕ × ColumnOf). is_cell_kind c.1.kind) (enumerate_from 0 cs))) c.table_columns.ensures

-- The columns of the code and those of the standard have their names at the same places.
use Rattle.std.proofs.Common.{List, Option, sym, ap, ◌∙◌}
use Rattle.std.specs.Prelude.{position}
use Rattle.cil_base.specs.Steps.{◌>>=◌}
use Rattle.md_schema.proofs.SchemaLemmas.{position-map}
use Rattle.md_schema.specs.Column.{ColumnOf, seen_column}
use Rattle.job_text.specs.Names.{cell_column_named, is_cell_named}
use Rattle.job_text.proofs.names.cell_column_named.Goals as goal

pub returns-in_err-place : goal.returns-in_err-place
unfolding cell_column_named
returns-in_err-place c =
    c.from_residual-in_err-place.ensures ∙ c.in_err-place.ensures.place
    ∙ sym (position-map seen_column (is_cell_named c.args.name.now) c.in_ok-columns.field-0.now)
    ∙ ap (λ (o : Option (List ColumnOf)). o >>= position (is_cell_named c.args.name.now)) c.in_ok-columns.ensures.columns

pub returns : goal.returns
unfolding cell_column_named
returns c =
    c.in_ok-place.ensures.place
    ∙ sym (position-map seen_column (is_cell_named c.args.name.now) c.in_ok-columns.field-0.now)
    ∙ ap (λ (o : Option (List ColumnOf)). o >>= position (is_cell_named c.args.name.now)) c.in_ok-columns.ensures.columns

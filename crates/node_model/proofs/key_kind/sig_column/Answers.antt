-- The columns of the code and of the standard have their signatures at the same places.
use Rattle.std.proofs.Common.{List, Option, sym, ap, ◌∙◌}
use Rattle.std.specs.List.{position}
use Rattle.std.specs.Option.{option_and_then}
use Rattle.md_schema.specs.Column.{ColumnOf, seen_column}
use Rattle.md_schema.proofs.SchemaLemmas.{position-map}
use Rattle.node_model.specs.KeyKinds.{is_sig_kind}
use Rattle.node_model.proofs.key_kind.sig_column.Goals as goal

pub returns-in_err-place : goal.returns-in_err-place
returns-in_err-place c =
    let found = c.in_ok-columns.field-0.now in
    c.from_residual-in_err-place.ensures ∙ c.in_err-place.ensures.place
    ∙ sym (position-map seen_column (λ (column : ColumnOf). is_sig_kind column.kind) found)
    ∙ ap (λ (o : Option (List ColumnOf)). option_and_then (λ columns. position (λ column. is_sig_kind column.kind) columns) o) c.in_ok-columns.ensures.columns

pub returns : goal.returns
returns c =
    let found = c.in_ok-columns.field-0.now in
    c.in_ok-place.ensures.place
    ∙ sym (position-map seen_column (λ (column : ColumnOf). is_sig_kind column.kind) found)
    ∙ ap (λ (o : Option (List ColumnOf)). option_and_then (λ columns. position (λ column. is_sig_kind column.kind) columns) o) c.in_ok-columns.ensures.columns

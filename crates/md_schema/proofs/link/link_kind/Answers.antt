-- The column of each link stands in its table.
use Rattle.std.proofs.Common.{◌≡◌, Some, None, ap, sym, ◌∙◌}
use Rattle.std.specs.Option.{option_map}
use Rattle.md_schema.specs.Column.{ColumnOf}
use Rattle.md_schema.specs.Entry.{column_of}
use Rattle.md_schema.specs.Link.{link_column_of, link_table_of}
use Rattle.md_schema.specs.declared.column.ColumnKind.{ColumnKind}
use Rattle.md_schema.proofs.LinkLemmas.{link_stands}
use Rattle.md_schema.proofs.link.link_kind.Goals as goal

pub unreachable-requires : goal.unreachable-requires
unreachable-requires c =
    let stands = link_stands c.args.link in
    let table = c.link_column-place.ensures.table in
    let column = c.link_column-place.ensures.column in
    let none : None ≡ column_of (link_table_of c.args.link) (link_column_of c.args.link) =
    c.in_default.ensures ∙ ap (λ t. column_of t c.link_column-place.result.column) table ∙ ap (column_of (link_table_of c.args.link)) column in
    let kind : ColumnOf → ColumnKind = λ column. column.kind in
    let clash : None ≡ Some stands.0 = ap (option_map kind) none ∙ stands.1 in
    cc

pub returns : goal.returns
returns c =
    let table = c.link_column-place.ensures.table in
    let column = c.link_column-place.ensures.column in
    let kind : ColumnOf → ColumnKind = λ column. column.kind in
    sym (ap (option_map kind) (c.in-Some.ensures ∙ ap (λ t. column_of t c.link_column-place.result.column) table ∙ ap (column_of (link_table_of c.args.link)) column))

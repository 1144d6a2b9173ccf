-- The column of the link stands in its table.
use Rattle.std.proofs.Common.{ℕ, subst, sym}
use Rattle.std.specs.Option.{IsSome}
use Rattle.md_schema.specs.Entry.{column_of}
use Rattle.md_schema.specs.Link.{link_table_of}
use Rattle.md_tables.proofs.LinksLemmas.{link_column-stands}
use Rattle.md_tables.proofs.tables.Tables.link_places.Goals as goal

pub column_places-requires-clause-column : goal.column_places-requires-clause-column
column_places-requires-clause-column c =
    let table = c.link_column-place.ensures.table in
    let column = c.link_column-place.ensures.column in
    subst (λ (t : ℕ). IsSome (column_of t c.link_column-place.result.column)) (sym table)
    (subst (λ (k : ℕ). IsSome (column_of (link_table_of c.args.link) k)) (sym column) (link_column-stands c.args.link))

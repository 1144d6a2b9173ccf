use Rattle.std.proofs.Common.{ℕ, codes, subst, sym, ap, ◌∙◌}
use Rattle.std.specs.Option.{IsSome}
use Rattle.md_schema.specs.Cell.{cell_of}
use Rattle.md_schema.specs.Entry.{column_of}
use Rattle.node_model.specs.Streams.{column_named}
use Rattle.node_read.proofs.ColumnLemmas.{resource-offset, resource-offset-there}
use Rattle.node_read.proofs.columns.resource_offset.Goals as goal

pub number_at-requires-clause-column : goal.number_at-requires-clause-column
number_at-requires-clause-column c = subst (λ (t : ℕ). IsSome (column_of t 0)) (sym c.requires.table) resource-offset-there

pub returns : goal.returns
returns c =
    let named = ap (λ (t : ℕ). column_named t (codes "Offset")) c.requires.table ∙ resource-offset in
    c.number_at.ensures ∙ ap (λ (n : ℕ). cell_of c.args.streams.now.tables.now c.args.token.table c.args.token.rid n) (sym named)

use Rattle.std.proofs.Common.{sym, ◌∙◌}
use Rattle.md_schema.specs.declared.column.ColumnKind.TheVariants.{Coded as Choice}
use Rattle.md_tables.proofs.NamedLemmas.{named_once, unnamed, unnamed_row}
use Rattle.md_tables.proofs.link_index.spelled_coded.Goals as goal

pub returns-in_err-number-clause-none : goal.returns-in_err-number-clause-none
returns-in_err-number-clause-none c = rw c.from_residual.ensures (unnamed c.args.kind c.args.token c.in_err-number.ensures)

pub returns-then-names-clause-some : goal.returns-then-names-clause-some
returns-then-names-clause-some c = named_once (Choice c.args.kind) c.in_ok-number.number c.args.token (sym c.names.ensures ∙ c.if-names.true)

pub returns-else-names-clause-none : goal.returns-else-names-clause-none
returns-else-names-clause-none c = unnamed_row c.args.kind c.args.token c.in_ok-number.number c.in_ok-number.ensures (sym c.names.ensures ∙ c.if-names.false)

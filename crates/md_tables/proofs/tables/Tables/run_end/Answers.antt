-- The last row's run ends with the table.
use Rattle.std.proofs.Common.{ℕ, Bool, true, false, ◌≡◌, ◌+◌, ◌==◌, if◌then◌else◌, ap, ◌∙◌, sym, arith}
use Rattle.std.proofs.lemmas.Bool.Decides.{nat_tests}
use Rattle.md_schema.specs.Cell.{cell_of}
use Rattle.md_schema.specs.Runs.{table_row_count, run_end}
use Rattle.md_tables.proofs.CellLemmas.{few_rows}
use Rattle.md_tables.proofs.LinksLemmas.{table_row_count-is}
use Rattle.md_tables.proofs.tables.Tables.run_end.Goals as goal

equal : (a b : ℕ) → a ≡ b → (a == b) ≡ true
equal a b e = grind (arith, nat_tests)

different : (a b : ℕ) → (a ≡ b → ⊥) → (a == b) ≡ false
different a b h = grind (arith, nat_tests)

pub overflow_add-result : goal.overflow_add-result
overflow_add-result c =
    let few = few_rows c.args.stream.now c.args.self.now c.args.table c.requires.opened in
    omega (arith, few, c.rows-then-rid-rows.ensures)

pub returns-then-rid-rows : goal.returns-then-rid-rows
unfolding run_end
returns-then-rid-rows c =
    let stream = c.args.stream.now in
    let head = c.args.self.now in
    let owner = c.rows.ensures ∙ table_row_count-is stream head c.args.owner c.requires.opened in
    let last : (c.args.rid == table_row_count stream c.args.owner) ≡ true = equal c.args.rid (table_row_count stream c.args.owner) (c.if-rid-rows.true ∙ owner) in
    ap (λ n. n + 1) (c.rows-then-rid-rows.ensures ∙ table_row_count-is stream head c.args.table c.requires.opened)
    ∙ sym (ap (λ (b : Bool). if b then table_row_count stream c.args.table + 1 else cell_of stream c.args.owner (c.args.rid + 1) c.args.column) last)

pub returns-else-rid-rows : goal.returns-else-rid-rows
unfolding run_end
returns-else-rid-rows c =
    let stream = c.args.stream.now in
    let head = c.args.self.now in
    let owner = c.rows.ensures ∙ table_row_count-is stream head c.args.owner c.requires.opened in
    let not_last : (c.args.rid == table_row_count stream c.args.owner) ≡ false = different c.args.rid (table_row_count stream c.args.owner) (λ e. c.if-rid-rows.false (e ∙ sym owner)) in
    c.cell.ensures
    ∙ sym (ap (λ (b : Bool). if b then table_row_count stream c.args.table + 1 else cell_of stream c.args.owner (c.args.rid + 1) c.args.column) not_last)

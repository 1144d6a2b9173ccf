use Rattle.std.proofs.Common.{◌≤◌, length, Option, subst, sym, IfSome}
use Rattle.std.proofs.lemmas.List.{length-map}
use Rattle.std.specs.Option.{option_map}
use Rattle.md_schema.specs.Column.{seen_column, seen_columns}
use Rattle.md_schema.specs.Schema.{TableOf}
use Rattle.md_schema.proofs.SchemaLemmas.{few_columns}
use Rattle.md_schema.proofs.table_columns.columns.Goals as goal

pub returns-clause-few : goal.returns-clause-few
returns-clause-few c =
    let found = c.in_ok-entry.field-0.now.columns.now in
    let few : length (seen_columns found) ≤ 9 =
    subst (λ (o : Option TableOf). IfSome (option_map (λ table. table.columns) o) (λ columns. length columns ≤ 9)) (sym c.in_ok-entry.ensures) (few_columns c.args.table) in
    subst (λ n. n ≤ 9) (length-map found seen_column) few

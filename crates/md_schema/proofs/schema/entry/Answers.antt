use Rattle.std.proofs.Common.{Bor, ap, sym, arith, ◌∙◌}
use Rattle.std.specs.Option.{option_map}
use Rattle.md_schema.specs.Entry.{seen_table}
use Rattle.md_schema.specs.Schema.{tables}
use Rattle.md_schema.specs.declared.schema.Table.{Table}
use Rattle.md_schema.proofs.SchemaLemmas.{found-at, found-past, map-copied}
use Rattle.md_schema.proofs.schema.entry.Goals as goal

pub returns-in_err-get : goal.returns-in_err-get
returns-in_err-get c =
    let f = λ (found : Bor Table). seen_table c.args.table found.now in
    let past = found-past c.all_tables.result.now c.args.table tables c.all_tables.ensures (omega (arith, c.in_err-get.ensures.lookup)) in
    ap (option_map f) c.from_residual.ensures ∙ sym past

pub returns : goal.returns
returns c =
    let all = c.all_tables.result.now in
    let looked = c.in_ok-get.ensures.lookup in
    let at = found-at all c.args.table c.in_ok-get.field-0.now tables c.all_tables.ensures looked.3.0 looked.1 in
    map-copied (seen_table c.args.table) c.as_ref.result ∙ ap (option_map (seen_table c.args.table)) c.as_ref.ensures.value ∙ at

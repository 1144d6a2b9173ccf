-- A count that passes the stream passes a whole one too.
use Rattle.std.proofs.Common.{rules, ◌≡◌, true}
use Rattle.md_schema.specs.Header.{is_set}
use Rattle.md_tables.proofs.HeaderLemmas.{cut_count}
use Rattle.md_tables.proofs.header.read_count.Goals as goal

pub returns-then-stream-place-lt4-clause-none : goal.returns-then-stream-place-lt4-clause-none
returns-then-stream-place-lt4-clause-none c whole =
    let set : is_set c.args.valid c.args.table ≡ true = search rules in
    cut_count c.args.stream.now c.args.valid c.args.table c.args.present c.requires.valid c.requires.table c.requires.present set c.if-stream-place-lt4.true whole.counted

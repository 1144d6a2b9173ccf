use Rattle.std.proofs.Common.{sym, subst}
use Rattle.std.proofs.lemmas.Result.{IfOk-weaker}
use Rattle.md_write.specs.TablesRead.{HoldsRows}
use Rattle.md_write.proofs.StreamLemmas.{stream_holds_rows}
use Rattle.md_write.proofs.stream.tables_stream.Goals as goal

pub returns-clause-read : goal.returns-clause-read
returns-clause-read c =
    let heap_sizes = c.args.heap_sizes in
    let tables = c.args.tables.now in
    IfOk-weaker c.lay_stream.result _ _ (λ stream is. subst (HoldsRows heap_sizes tables) (sym is) (stream_holds_rows heap_sizes tables c.requires)) c.lay_stream.ensures

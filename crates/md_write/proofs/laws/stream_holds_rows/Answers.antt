use Rattle.md_write.proofs.StreamLemmas as stream
use Rattle.md_write.proofs.laws.stream_holds_rows.Goals as goal

pub returns : goal.returns
returns c = stream.stream_holds_rows

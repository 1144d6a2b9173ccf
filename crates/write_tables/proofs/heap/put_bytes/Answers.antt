use Rattle.write_tables.proofs.GatherLemmas.{gathers_blob}
use Rattle.write_tables.proofs.heap.put_bytes.Goals as goal

pub returns : goal.returns
returns c =
    gathers_blob c.args.heaps.now c.blob.new.self c.args.blob.now c.in_ok-index.index c.in_ok-number.number c.in_ok-number.ensures
    c.in_ok-index.ensures.ok c.in_ok-index.ensures.index

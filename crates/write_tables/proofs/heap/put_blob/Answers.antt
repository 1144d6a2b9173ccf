use Rattle.std.specs.Option.{option_copied}
use Rattle.node_model.specs.RowTexts.{blob_of_cell}
use Rattle.write_tables.proofs.GatherLemmas.{gathers_same_blob}
use Rattle.write_tables.proofs.heap.put_blob.Goals as goal

pub returns : goal.returns
returns c =
    gathers_same_blob c.args.heaps.now c.put_bytes.new.heaps c.put_bytes.result c.blob_in.result.now (blob_of_cell (option_copied c.args.cell))
    c.blob_in.ensures c.put_bytes.ensures

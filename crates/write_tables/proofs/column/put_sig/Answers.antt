use Rattle.std.proofs.Common.{◌∙◌}
use Rattle.write_tables.specs.RowColumns.{sig_blob}
use Rattle.write_tables.proofs.GatherLemmas.{gathers_same_blob}
use Rattle.write_tables.proofs.column.put_sig.Goals as goal

pub returns : goal.returns
returns c =
    gathers_same_blob c.args.heaps.now c.put_bytes.new.heaps c.put_bytes.result c.as_slice.result.now (sig_blob c.args.plan.now c.args.row)
    (c.as_slice.ensures ∙ c.in_ok-blob.ensures) c.put_bytes.ensures

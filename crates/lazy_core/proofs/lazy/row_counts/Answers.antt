use Rattle.std.proofs.Common.{◌∙◌, arith}
use Rattle.std.proofs.lemmas.List.{length-set}
use Rattle.node_model.specs.Keys.{image_rows}
use Rattle.lazy_core.proofs.CountLemmas.{count_more, counted}
use Rattle.lazy_core.proofs.lazy.row_counts.Goals as goal

pub loop-table-preserved : goal.loop-table-preserved
loop-table-preserved c = record {
  rows = count_more (image_rows c.args.image.now) c.loop-table.rows c.loop-table.table c.rows.result c.rows.ensures (omega (arith, c.loop-table.invariant.long)) c.loop-table.invariant.rows;
  long = length-set c.loop-table.rows c.loop-table.table c.rows.result ∙ c.loop-table.invariant.long;
}

pub returns-clause-rows : goal.returns-clause-rows
returns-clause-rows c =
    counted c.args.image.now c.loop-table.rows c.loop-table.invariant.long (λ table less. c.loop-table.invariant.rows table (omega arith))

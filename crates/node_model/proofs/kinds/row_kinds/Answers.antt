use Rattle.std.proofs.Common.{sym, arith}
use Rattle.node_model.proofs.KindLemmas.{few_kinds, kinds_at, kinds_past}
use Rattle.node_model.proofs.kinds.row_kinds.Goals as goal

pub returns-in-Some-clause-kinds : goal.returns-in-Some-clause-kinds
returns-in-Some-clause-kinds c =
    let looked = c.in-Some.ensures.lookup in
    kinds_at c.kinds_by_table.result.now c.args.table c.in-Some.field-0.now c.kinds_by_table.ensures looked.3.0 looked.1

pub returns-in-Some-clause-few : goal.returns-in-Some-clause-few
returns-in-Some-clause-few c =
    let looked = c.in-Some.ensures.lookup in
    let is = kinds_at c.kinds_by_table.result.now c.args.table c.in-Some.field-0.now c.kinds_by_table.ensures looked.3.0 looked.1 in
    rw is (few_kinds c.args.table)

pub returns-in-None-clause-kinds : goal.returns-in-None-clause-kinds
returns-in-None-clause-kinds c =
    sym (kinds_past c.kinds_by_table.result.now c.args.table c.kinds_by_table.ensures (omega (arith, c.in-None.ensures.lookup)))

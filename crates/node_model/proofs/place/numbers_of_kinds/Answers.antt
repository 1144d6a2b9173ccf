use Rattle.std.proofs.Common.{◌∙◌, arith}
use Rattle.std.proofs.lemmas.List.{length-set}
use Rattle.std.proofs.lemmas.List.Edits.{fill_by_more}
use Rattle.std.proofs.lemmas.List.FromFn.{fill_by_all}
use Rattle.node_model.specs.Places.{number_of_kinds}
use Rattle.node_model.proofs.place.numbers_of_kinds.Goals as goal

pub loop-table-preserved : goal.loop-table-preserved
loop-table-preserved c =
    let long = c.loop-table.invariant.0 in
    let more = fill_by_more number_of_kinds c.loop-table.numbers c.loop-table.table 0 (omega (arith, long, c.loop-table-test.true)) c.loop-table.invariant.1 in
    (length-set c.loop-table.numbers c.loop-table.table c.number_of_kinds.result ∙ long, rw c.number_of_kinds.ensures more)

pub returns : goal.returns
returns c =
    fill_by_all number_of_kinds c.loop-table.numbers 64 0 c.loop-table.invariant.0
    (λ k low. c.loop-table.invariant.1 k (omega (arith, low, c.loop-table-test.false)))

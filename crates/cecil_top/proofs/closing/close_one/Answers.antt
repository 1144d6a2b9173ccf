use Rattle.cecil_top.proofs.EndLemmas.{are_all, is_closed}
use Rattle.cecil_top.proofs.closing.close_one.Goals as goal

pub close-requires : goal.close-requires
close-requires c = are_all c.args.shared c.args.place c.args.actors.now c.in_ok-passes.passes c.requires c.in_ok-passes.ensures.passes

pub returns-clause-core : goal.returns-clause-core
returns-clause-core c =
    is_closed c.args.shared c.args.place c.args.actors.now c.in_ok-passes.passes c.requires c.in_ok-passes.ensures.passes
    c.close.result c.close.ensures.image c.close.ensures.legal c.close.ensures.seen c.close.ensures.own c.close.ensures.callers

use Rattle.std.proofs.Common.{◌∙◌, arith}
use Rattle.cecil_top.proofs.TextLemmas.{entries_next, entries_whole}
use Rattle.cecil_top.proofs.text.add_entries.Goals as goal

pub loop-at-preserved : goal.loop-at-preserved
loop-at-preserved c =
    entries_next c.loop-at.text c.add_entry.new.text c.args.home c.loop-at.at c.args.history.now c.index-history-at.result
    (omega arith) c.index-history-at.is c.in_ok-add_entry.ensures
    ∙ c.loop-at.invariant

pub returns : goal.returns
returns c =
    entries_whole c.loop-at.text _ c.args.home c.loop-at.at c.args.history.now (omega arith) c.loop-at.invariant

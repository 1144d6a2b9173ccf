use Rattle.graph_edits.proofs.SlotLemmas.{filled_begun, filled_still}
use Rattle.graph_edits.proofs.applying.make.Goals as goal

pub write_all-requires : goal.write_all-requires
write_all-requires c =
    let old = c.args.graph.now.slots in
    let new = c.make_rows.new.graph.slots in
    filled_still old new c.args.contents (filled_begun old new c.args.rows.now c.in_ok-make_rows.ensures.slots) c.requires.filled

use Rattle.std.proofs.Common.{sym}
use Rattle.write_plan.specs.Seen.{seen_in}
use Rattle.write_plan.proofs.KeptLemmas.{takes_one}
use Rattle.write_plan.proofs.taking.take_key.Goals as goal

pub returns-in-Ok : goal.returns-in-Ok
returns-in-Ok g c =
    let see = seen_in (g.G.Graph.bytes c.args.graph.now) (g.G.Graph.edits c.args.graph.now) in
    takes_one see c.args.kept.now c.keep.new.self c.args.key.now c.in-Ok.seen c.keep.result (sym c.in-Ok.ensures.seen) c.requires.kept
    c.keep.ensures.kept c.keep.ensures.refused

use Rattle.write_tables.proofs.GatherLemmas.{gathers_user}
use Rattle.write_tables.proofs.heap.put_string.Goals as goal

pub returns : goal.returns
returns c =
    gathers_user c.args.heaps.now c.user.new.self c.args.units.now c.in_ok-index.index c.in_ok-number.number c.in_ok-number.ensures
    c.in_ok-index.ensures.ok c.in_ok-index.ensures.index

use Rattle.write_tables.proofs.GatherLemmas.{gathers_guid}
use Rattle.write_tables.proofs.heap.put_sixteen.Goals as goal

pub returns : goal.returns
returns c =
    gathers_guid c.args.heaps.now c.guid.new.self c.args.bytes c.in_ok-index.index c.in_ok-number.number c.in_ok-number.ensures
    c.in_ok-index.ensures.ok c.in_ok-index.ensures.number

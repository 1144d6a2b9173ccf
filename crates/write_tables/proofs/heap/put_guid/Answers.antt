use Rattle.std.proofs.Common.{sym, subst}
use Rattle.std.specs.Option.{option_copied}
use Rattle.write_tables.specs.Contents.{guid_of_cell}
use Rattle.write_tables.proofs.GatherLemmas.{GathersGuid, gathers_no_guid}
use Rattle.write_tables.proofs.heap.put_guid.Goals as goal

pub returns-in-Some : goal.returns-in-Some
returns-in-Some c = subst (GathersGuid c.args.heaps.now c.put_sixteen.new.heaps c.put_sixteen.result) c.in-Some.ensures c.put_sixteen.ensures

pub returns-in-None : goal.returns-in-None
returns-in-None c = gathers_no_guid c.args.heaps.now (guid_of_cell (option_copied c.args.cell)) (sym c.in-None.ensures)

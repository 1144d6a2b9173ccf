use Rattle.cecil_inspect.proofs.refusal.add_tables.Goals as goal

pub returns-in-UnsupportedTable : goal.returns-in-UnsupportedTable
returns-in-UnsupportedTable c = rw (c.in-UnsupportedTable.is, ← c.from.ensures) c.add_numbered.ensures

pub returns-in-BadHeapSizes : goal.returns-in-BadHeapSizes
returns-in-BadHeapSizes c = rw c.in-BadHeapSizes.is c.add_numbered-in-BadHeapSizes.ensures

pub returns-in-BadTables : goal.returns-in-BadTables
returns-in-BadTables c = rw c.in-BadTables.is c.extend.ensures.ok

use Rattle.cecil_inspect.proofs.refusal.add_pe.Goals as goal

pub returns-in-BadMagic : goal.returns-in-BadMagic
returns-in-BadMagic c = rw c.in-BadMagic.is c.add_numbered.ensures

pub returns-in-BadSections : goal.returns-in-BadSections
returns-in-BadSections c = rw c.in-BadSections.is c.extend-in-BadSections.ensures.ok

pub returns-in-BadStreams : goal.returns-in-BadStreams
returns-in-BadStreams c = rw c.in-BadStreams.is c.extend-in-BadStreams.ensures.ok

pub returns-in-NoTables : goal.returns-in-NoTables
returns-in-NoTables c = rw c.in-NoTables.is c.extend-in-NoTables.ensures.ok

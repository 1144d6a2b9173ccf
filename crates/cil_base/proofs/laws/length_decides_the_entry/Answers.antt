use Rattle.cil_base.proofs.EntryLemmas.{entry-stripped, entry-none}
use Rattle.cil_base.proofs.laws.length_decides_the_entry.Goals as goal

pub returns : goal.returns
returns c = record { found = entry-stripped; none = entry-none }

use Rattle.std.proofs.Common.{ap, subst}
use Rattle.std.specs.Prelude.{OnOk}
use Rattle.md_heaps.specs.LaidHeaps.{HeapEntries}
use Rattle.md_heaps.specs.Pools.{EntriesStay}
use Rattle.md_heaps.proofs.builder.HeapBuilder.text.Goals as goal

pub returns-clause-stays : goal.returns-clause-stays
returns-clause-stays c = subst (λ es. OnOk c.add.result (EntriesStay es c.add.new.self)) (ap (λ (f : HeapEntries). f.texts) c.self.view_is) c.add.ensures.stays

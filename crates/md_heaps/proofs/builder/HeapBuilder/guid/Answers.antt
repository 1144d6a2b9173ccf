use Rattle.std.proofs.Common.{ap, subst}
use Rattle.md_heaps.specs.LaidHeaps.{HeapEntries}
use Rattle.md_heaps.specs.Pools.{EntriesStay}
use Rattle.md_heaps.proofs.builder.HeapBuilder.guid.Goals as goal

pub returns-clause-stays : goal.returns-clause-stays
returns-clause-stays c = subst (λ es. EntriesStay es c.add.new.self) (ap (λ (f : HeapEntries). f.guids) c.self.view_is) c.in_ok-place.ensures.stays

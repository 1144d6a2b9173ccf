use Rattle.std.proofs.Common.{ap, subst, sym, ◌∙◌}
use Rattle.md_heaps.specs.LaidHeaps.{HeapEntries}
use Rattle.md_heaps.specs.Pools.{heap_of_entries}
use Rattle.md_heaps.specs.ReadBack.{BlobsReadBack, GuidsReadBack, TextsReadBack, UsersReadBack}
use Rattle.md_heaps.specs.inner.PoolMap.{AreGuids, BeginsWithZero}
use Rattle.md_heaps.proofs.ReadLemmas as read
use Rattle.md_heaps.proofs.builder.HeapBuilder.finish.Goals as goal

pub returns-clause-texts : goal.returns-clause-texts
returns-clause-texts c =
    let same = ap (λ (f : HeapEntries). f.texts) c.self.view_is in
    let heap = c.in_ok-strings.ensures ∙ ap heap_of_entries same in
    subst (TextsReadBack c.args.self.texts) (sym heap) (read.texts_back c.args.self.texts (subst BeginsWithZero same c.self.invariant.0))

pub returns-clause-users : goal.returns-clause-users
returns-clause-users c =
    let same = ap (λ (f : HeapEntries). f.users) c.self.view_is in
    let heap = c.in_ok-users.ensures ∙ ap heap_of_entries same in
    subst (UsersReadBack c.args.self.users) (sym heap) (read.users_back c.args.self.users)

pub returns-clause-guids : goal.returns-clause-guids
returns-clause-guids c =
    let same = ap (λ (f : HeapEntries). f.guids) c.self.view_is in
    let heap = c.in_ok-guids.ensures ∙ ap heap_of_entries same in
    subst (GuidsReadBack c.args.self.guids) (sym heap) (read.guids_back c.args.self.guids (subst AreGuids same c.self.invariant.1))

pub returns-clause-blobs : goal.returns-clause-blobs
returns-clause-blobs c =
    let same = ap (λ (f : HeapEntries). f.blobs) c.self.view_is in
    let heap = c.in_ok-blobs.ensures ∙ ap heap_of_entries same in
    subst (BlobsReadBack c.args.self.blobs) (sym heap) (read.blobs_back c.args.self.blobs (subst BeginsWithZero same c.self.invariant.2))

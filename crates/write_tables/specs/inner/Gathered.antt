-- What is put into heaps on the way, and the numbers that it has there. No public contract cites these words.
use Rattle.std.specs.Prelude.{◌≡◌, List}
use Rattle.md_heaps.specs.LaidHeaps.{HeapEntries}
use Rattle.md_heaps.specs.Pools.{EntriesStay}
use Rattle.write_tables.specs.Contents.{HeapContent, with_contents}

-- each entry keeps its place
pub record HeapsStay (old new : HeapEntries) : Type 0 where
  pub texts : EntriesStay old.texts new.texts
  pub users : EntriesStay old.users new.users
  pub guids : EntriesStay old.guids new.guids
  pub blobs : EntriesStay old.blobs new.blobs

-- the contents were put in, and the answer is what is said of the heaps, now and after more is put in
pub record Gathers (A : Type 0) (old new : HeapEntries) (contents : List HeapContent) (said : HeapEntries → A) (answer : A)
    : Type 0 where
  pub entries : new ≡ with_contents old contents
  pub stays : HeapsStay old new
  pub says : (later : HeapEntries) → HeapsStay new later → answer ≡ said later

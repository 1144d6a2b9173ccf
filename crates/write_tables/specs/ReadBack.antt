-- Finished heaps from which each content of the entries is read: ECMA-335 II.24.2.3 to II.24.2.5.
use Rattle.md_heaps.specs.LaidHeaps.{HeapEntries}
use Rattle.md_heaps.specs.ReadBack.{BlobsReadBack, GuidsReadBack, TextsReadBack, UsersReadBack}
use Rattle.md_heaps.specs.declared.builder.Heaps.{Heaps}

pub record HeapsReadBack (entries : HeapEntries) (heaps : Heaps) : Type 0 where
  pub texts : TextsReadBack entries.texts heaps.strings
  pub users : UsersReadBack entries.users heaps.users
  pub guids : GuidsReadBack entries.guids heaps.guids
  pub blobs : BlobsReadBack entries.blobs heaps.blobs

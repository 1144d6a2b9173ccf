-- Worked values, so that a wrong place or count in a definition does not check: ECMA-335 II.24.2.3 to II.24.2.5.
use Rattle.std.proofs.Common.{◌≡◌, [], ◌∷◌, replicate, ◌++◌, Some, None, refl}
use Rattle.cil_base.specs.Number.{spelled_number, strip_number}
use Rattle.cil_base.specs.Heaps.{entry}
use Rattle.md_heaps.specs.declared.guid.GuidAt.TheVariants.{Is, Missing}
use Rattle.md_heaps.specs.Entries.{text, blob, guid}
use Rattle.md_heaps.specs.LaidHeaps.{first_entries, laid_heaps, user_entry, with_text}
use Rattle.md_heaps.specs.Pools.{heap_of_entries}

pub text-after_its_index : text (0 ∷ 97 ∷ 98 ∷ 0 ∷ 99 ∷ []) 2 ≡ Some (98 ∷ [])
unfolding text
text-after_its_index = refl

pub text-without_end : text (0 ∷ 97 ∷ 98 ∷ 0 ∷ 99 ∷ []) 4 ≡ None
unfolding text
text-without_end = refl

pub blob-two_bytes : blob (0 ∷ 2 ∷ 97 ∷ 98 ∷ 99 ∷ []) 1 ≡ Some (97 ∷ 98 ∷ [])
unfolding blob entry strip_number
blob-two_bytes = refl

pub blob-0 : blob (9 ∷ []) 0 ≡ Some []
unfolding blob
blob-0 = refl

pub guid-second : guid (replicate 16 1 ++ replicate 16 2) 2 ≡ Is (replicate 16 2)
unfolding guid
guid-second = refl

pub guid-missing : guid (replicate 31 1) 2 ≡ Missing
unfolding guid
guid-missing = refl

-- the user strings `'`, `a` and the empty one
pub user-apostrophe : user_entry (0x27 ∷ []) ≡ 3 ∷ 0x27 ∷ 0 ∷ 1 ∷ []
unfolding user_entry spelled_number
user-apostrophe = refl

pub user-letter : user_entry (0x61 ∷ []) ≡ 3 ∷ 0x61 ∷ 0 ∷ 0 ∷ []
unfolding user_entry spelled_number
user-letter = refl

pub user-empty : user_entry [] ≡ 1 ∷ 0 ∷ []
unfolding user_entry spelled_number
user-empty = refl

pub user-high_byte : user_entry (0x100 ∷ 0x80 ∷ []) ≡ 5 ∷ 0 ∷ 1 ∷ 0x80 ∷ 0 ∷ 1 ∷ []
unfolding user_entry spelled_number
user-high_byte = refl

-- the heap of the text `ab`, padded
pub heap-padded : (laid_heaps (with_text first_entries (97 ∷ 98 ∷ []))).strings ≡ 0 ∷ 97 ∷ 98 ∷ 0 ∷ []
heap-padded = refl

pub heap-padded_by_three : heap_of_entries ((0 ∷ []) ∷ []) ≡ 0 ∷ 0 ∷ 0 ∷ 0 ∷ []
heap-padded_by_three = refl

pub text-used_twice : with_text (with_text first_entries (97 ∷ [])) (97 ∷ []) ≡ with_text first_entries (97 ∷ [])
text-used_twice = refl

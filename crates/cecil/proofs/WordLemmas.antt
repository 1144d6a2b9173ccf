-- The words after the first.
use Rattle.std.proofs.Common.{◌≡◌, refl, List, [], ◌++◌, Option, Some, None, drop, option_to_list}

pub without_first : {A : Type 0} (first : Option A) (all left words : List A) → words ≡ [] → all ≡ option_to_list first ++ left → (first ≡ None → left ≡ [])
    → words ++ left ≡ drop 1 all
without_first None all left words none split end = rw (none, split, end refl) refl
without_first (Some x) all left words none split end = rw (none, split) refl

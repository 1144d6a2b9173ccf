-- How an edit of a body ends.
use Rattle.std.specs.Prelude.{◌≡◌, Option, Some, None, Result, Ok, Err}
use Rattle.il_code.specs.declared.il_refusal.IlRefusal.{IlRefusal}
use Rattle.il_edit.specs.declared.fail.IlFail.{IlFail}
use Rattle.il_edit.specs.declared.fail.IlFail.TheVariants as fail

-- an edit that takes no memory is refused where this is a refusal, and by that one
abbrev pub EditRefuses : {A : Type 0} → Result A IlRefusal → Option IlRefusal → Type 0
EditRefuses (Ok done) found = found ≡ None
EditRefuses (Err e) found = found ≡ Some e

-- so is one that takes memory, which may be wanting where nothing is refused
abbrev pub EditFails : {A : Type 0} → Result A IlFail → Option IlRefusal → Type 0
EditFails (Ok done) found = found ≡ None
EditFails (Err (fail.Refused e)) found = found ≡ Some e
EditFails (Err fail.NoMemory) found = found ≡ None

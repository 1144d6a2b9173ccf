-- What an outlet's text and its files are after a write.
use Rattle.std.specs.Prelude.{◌≡◌, ℕ, ◌≤◌, ◌++◌, ◌∷◌, [], List, Option, Some, None, Result, Ok, Err, fold, length}
use Rattle.std.specs.Prelude.{if◌then◌else◌, nat_eq, take}
use Rattle.std.specs.Cmp.Lexicographic.{pointwise}
use Rattle.cil_base.specs.declared.no_memory.NoMemory.{NoMemory}
use Rattle.cil_outside.specs.declared.outlet.Sent.{Sent}
use Rattle.cil_outside.specs.declared.outlet.Sent.TheVariants.{Done, Failed}
use Rattle.cil_outside.specs.declared.puts.PutFile.{PutFile}

-- the text before, the text after, and the bytes that were to be added, where the outlet tells its text
abbrev pub OutletSends : Option (List ℕ) → Option (List ℕ) → List ℕ → Result Sent NoMemory → Type 0
OutletSends None _ _ _ = Unit {0}
OutletSends (Some old) new bytes (Ok Done) = new ≡ Some (old ++ bytes)
OutletSends (Some old) new bytes (Ok Failed) = (n : ℕ) × (n ≤ length bytes) × (new ≡ Some (old ++ take n bytes))
OutletSends (Some old) new _ (Err _) = new ≡ Some old

-- a file that is put, by its name and its bytes
abbrev pub put_of : List ℕ → List ℕ → PutFile
put_of name bytes = record { name = name; bytes = Some bytes }

-- the same of a put that failed: what the file then holds is not told
abbrev pub untold : PutFile → PutFile
untold put = record put { bytes = None }

-- the puts before, the puts after, and the file that was to be put, where the outlet tells what was put, in order
abbrev pub OutletPuts : Option (List PutFile) → Option (List PutFile) → PutFile → Result Sent NoMemory → Type 0
OutletPuts None _ _ _ = Unit {0}
OutletPuts (Some old) new put (Ok Done) = new ≡ Some (old ++ put ∷ [])
OutletPuts (Some old) new put (Ok Failed) = new ≡ Some (old ++ untold put ∷ [])
OutletPuts (Some old) new _ (Err _) = new ≡ Some old

-- the content of the file of a name once there is one put more
abbrev pub content_then : List ℕ → Option (List ℕ) → PutFile → Option (List ℕ)
content_then name content put = if pointwise nat_eq put.name name then put.bytes else content

-- the content of the file of a name: that of its last put; none where there was no put of it, or the last one failed
abbrev pub put_content : List PutFile → List ℕ → Option (List ℕ)
put_content puts name = fold (content_then name) None puts

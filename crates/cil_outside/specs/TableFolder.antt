-- The state of a folder in memory whose calls may fail.
use Rattle.std.specs.Prelude.{◌≡◌, ℕ, ◌+◌, ◌-◌, ◌^◌, List, Bool, true, false, Result, Ok, Err, min, nat_eq}
use Rattle.std.specs.List.{list_any}
use Rattle.cil_outside.specs.declared.files.NamedFile.{NamedFile}
use Rattle.cil_base.specs.declared.no_memory.NoMemory.{NoMemory}
use Rattle.cil_outside.specs.declared.folder.Got.{Got}
use Rattle.cil_outside.specs.declared.folder.Got.TheVariants.{Failed}
use Rattle.cil_outside.specs.declared.table_folder.TableFolder.{TableFolder}

-- before any call
abbrev pub fresh_folder : List NamedFile → List ℕ → TableFolder
fresh_folder files failing = record { files = files; failing = failing; calls = 0; faults = 0 }

abbrev pub folder_files : TableFolder → List NamedFile
folder_files folder = folder.files

-- the number of calls that failed
abbrev pub folder_faults : TableFolder → ℕ
folder_faults folder = folder.faults

-- whether the call now to be made is one of those that fail
abbrev pub folder_fails : TableFolder → Bool
folder_fails folder = list_any (nat_eq folder.calls) folder.failing

-- one more, up to the end of the type
abbrev pub next_count : ℕ → ℕ
next_count n = min (n + 1) (2 ^ 64 - 1)

-- after one call, with this number of faults
abbrev pub folder_called : TableFolder → ℕ → TableFolder
folder_called folder faults = record folder { calls = next_count folder.calls; faults = faults }

-- a call fails exactly where its number is one of those that fail, and only then is a fault counted
abbrev pub FolderCounts : TableFolder → TableFolder → Result Got NoMemory → Type 0
FolderCounts old new (Ok Failed) = (folder_fails old ≡ true) × (new ≡ folder_called old (next_count old.faults))
FolderCounts old new (Ok _) = (folder_fails old ≡ false) × (new ≡ folder_called old old.faults)
FolderCounts old new (Err _) = (folder_fails old ≡ false) × (new ≡ folder_called old old.faults)

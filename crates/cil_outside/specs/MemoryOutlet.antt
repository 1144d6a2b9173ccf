-- The state of an outlet in memory whose calls may fail.
use Rattle.std.specs.Prelude.{◌≡◌, ℕ, ◌/◌, ◌++◌, ◌∷◌, List, [], Bool, true, false, Result, Ok, Err, length, nat_eq}
use Rattle.std.specs.Prelude.{take}
use Rattle.std.specs.List.{list_any}
use Rattle.cil_base.specs.declared.no_memory.NoMemory.{NoMemory}
use Rattle.cil_outside.specs.declared.memory_outlet.MemoryOutlet.{MemoryOutlet}
use Rattle.cil_outside.specs.declared.outlet.Sent.{Sent}
use Rattle.cil_outside.specs.declared.outlet.Sent.TheVariants.{Done, Failed}
use Rattle.cil_outside.specs.declared.puts.PutFile.{PutFile}
use Rattle.cil_outside.specs.Outlet.{untold}
use Rattle.cil_outside.specs.TableFolder.{next_count}

-- before any call
abbrev pub fresh_outlet : List ℕ → MemoryOutlet
fresh_outlet failing = record { text = []; puts = []; failing = failing; calls = 0; faults = 0 }

abbrev pub outlet_text : MemoryOutlet → List ℕ
outlet_text outlet = outlet.text

abbrev pub outlet_puts : MemoryOutlet → List PutFile
outlet_puts outlet = outlet.puts

-- the number of calls that failed
abbrev pub outlet_faults : MemoryOutlet → ℕ
outlet_faults outlet = outlet.faults

-- whether the call now to be made is one of those that fail
abbrev pub outlet_fails : MemoryOutlet → Bool
outlet_fails outlet = list_any (nat_eq outlet.calls) outlet.failing

-- one call more
abbrev pub outlet_called : MemoryOutlet → MemoryOutlet
outlet_called outlet = record outlet { calls = next_count outlet.calls }

-- one fault more
abbrev pub outlet_failed : MemoryOutlet → MemoryOutlet
outlet_failed outlet = record outlet { faults = next_count outlet.faults }

abbrev pub with_more : MemoryOutlet → List ℕ → MemoryOutlet
with_more outlet bytes = record outlet { text = outlet.text ++ bytes }

abbrev pub with_put : MemoryOutlet → PutFile → MemoryOutlet
with_put outlet put = record outlet { puts = outlet.puts ++ put ∷ [] }

-- a call takes all bytes, or, where it is one of those that fail, the first half of them and counts the fault
abbrev pub OutletTakes : MemoryOutlet → MemoryOutlet → List ℕ → Result Sent NoMemory → Type 0
OutletTakes old new bytes (Ok Done) = (outlet_fails old ≡ false) × (new ≡ with_more (outlet_called old) bytes)
OutletTakes old new bytes (Ok Failed) =
    (outlet_fails old ≡ true) × (new ≡ outlet_failed (with_more (outlet_called old) (take (length bytes / 2) bytes)))
OutletTakes old new _ (Err _) = new ≡ outlet_called old

-- the same of a file that is put: where the call fails, the file of this name has no content, and the fault is counted
abbrev pub OutletKeeps : MemoryOutlet → MemoryOutlet → PutFile → Result Sent NoMemory → Type 0
OutletKeeps old new put (Ok Done) = (outlet_fails old ≡ false) × (new ≡ with_put (outlet_called old) put)
OutletKeeps old new put (Ok Failed) =
    (outlet_fails old ≡ true) × (new ≡ outlet_failed (with_put (outlet_called old) (untold put)))
OutletKeeps old new _ (Err _) = new ≡ outlet_called old

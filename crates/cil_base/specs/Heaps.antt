-- Entries of heaps, by their lengths: ECMA-335 II.24.2.4.
use Rattle.std.specs.Prelude.{ℕ, zero, suc, ◌-◌, ◌%◌, List, length, take, drop, nat_le, if◌then◌else◌}
use Rattle.std.specs.Prelude.{Option, Some, None, option_map}
use Rattle.std.specs.Option.{option_or}
use Rattle.cil_base.specs.Number.{strip_number}
use Rattle.cil_base.specs.Steps.{◌>>=◌}

-- the first so many bytes, where there are as many
abbrev pub first_bytes : ℕ → List ℕ → Option (List ℕ)
first_bytes len s = if nat_le len (length s) then Some (take len s) else None

-- the content of an entry of that length at the front of the bytes: its length in any form, and as many bytes
abbrev pub heap_entry_of : ℕ → List ℕ → Option (List ℕ)
heap_entry_of len s = strip_number len s >>= first_bytes len

-- the content of the entry of a length below the bound
abbrev pub entry_below : ℕ → List ℕ → Option (List ℕ)
entry_below zero s = None
entry_below (suc len) s = option_or (heap_entry_of len s) (entry_below len s)

-- the content of the entry at the front of the bytes, of whatever length: it is shorter than they are
unfoldable pub entry : List ℕ → Option (List ℕ)
entry s = entry_below (length s) s

-- a length without its low bit
abbrev pub even : ℕ → ℕ
even len = len - len % 2

-- the UTF-16 bytes of the entry at an index of #US: all of its bytes but the one after the last whole unit
unfoldable pub units : List ℕ → ℕ → Option (List ℕ)
units heap index = option_map (λ content. take (even (length content)) content) (entry (drop index heap))

-- The places of a code's instructions, all together, by which bodies are read and written: ECMA-335 III.1.7.2.
use Rattle.std.specs.Prelude.{◌<◌, ℕ, List, length, get_or}
use Rattle.il_code.specs.declared.instr.Instr.{Instr}
use Rattle.il_code.specs.Numbering.{places}

-- where each instruction stands and where the last one ends, and how many instructions there are
pub record CodePlaces : Type 0 where
  pub starts : List ℕ
  pub count : ℕ

-- the place of the instruction with a number, 0 past the last place
abbrev pub instr_place : List ℕ → ℕ → ℕ
instr_place ps t = get_or ps t 0

-- each place is below those after it
abbrev pub Rising : List ℕ → Type 0
Rising ps = (i j : ℕ) → i < j → j < length ps → get_or ps i 0 < get_or ps j 0

-- the places of the instructions of a code
abbrev pub code_places : List Instr → CodePlaces
code_places code = record { starts = places code; count = length code }

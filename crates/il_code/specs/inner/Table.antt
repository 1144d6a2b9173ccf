-- The table of instructions by places: the code's own words. No public contract cites them.
use Rattle.std.specs.Prelude.{◌+◌, ◌-◌, ℕ, List, Option, map, nat_lt, if◌then◌else◌}
use Rattle.std.specs.List.{range_with_len}
use Rattle.il_code.specs.declared.table.InstrRow.{InstrRow}
use Rattle.il_code.specs.Instructions.{Instruction, instruction}

-- a row, as an instruction
abbrev pub row_seen : InstrRow → Instruction
row_seen row = (row.code, row.name.now, row.kind)

-- the code at a place: those of one byte stand first
abbrev pub code_of : ℕ → ℕ
code_of place = if nat_lt place 0x100 then place else 0xFE00 + (place - 0x100)

-- the instructions at the places, up to the last of two bytes
abbrev pub table_rows : List (Option Instruction)
table_rows = map (λ place. instruction (code_of place)) (range_with_len 0 287)

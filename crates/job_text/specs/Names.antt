-- Tables, columns, links and instructions by their names: ECMA-335 II.22 and III.
use Rattle.std.specs.Prelude.{ℕ, zero, suc, ◌+◌, ◌-◌, ◌&&◌, List, Bool, false, Option, Some, None, bytes_eq, find, nat_lt}
use Rattle.std.specs.Prelude.{if◌then◌else◌, option_map, position}
use Rattle.std.specs.Option.{option_map_or}
use Rattle.cil_base.specs.Steps.{◌>>=◌}
use Rattle.il_code.specs.Instructions.{instr_name}
use Rattle.md_schema.specs.Column.{ColumnOf, is_cell_kind}
use Rattle.md_schema.specs.Entry.{columns_of, table_name_of}
use Rattle.md_schema.specs.Link.{all_links, link_name_of}
use Rattle.md_schema.specs.declared.link.Link.{Link}

-- the first of so many numbers, from n on, that passes
unfoldable pub first_from : (ℕ → Bool) → ℕ → ℕ → Option ℕ
first_from p zero n = None
first_from p (suc count) n = if p n then Some n else first_from p count (n + 1)

abbrev pub is_called : List ℕ → Option (List ℕ) → Bool
is_called text name = option_map_or (λ n. bytes_eq n text) name false

-- the table of that name, of which the last has the number 0x2c
unfoldable pub table_named : List ℕ → Option ℕ
table_named text = first_from (λ number. is_called text (table_name_of number)) 0x2d 0

-- the link of that name
unfoldable pub link_named : List ℕ → Option Link
link_named text = find (λ link. bytes_eq (link_name_of link) text) all_links

-- the number of the table's column of that name, which is a cell
abbrev pub is_cell_named : List ℕ → ColumnOf → Bool
is_cell_named text column = bytes_eq column.name text && is_cell_kind column.kind

unfoldable pub cell_column_named : ℕ → List ℕ → Option ℕ
cell_column_named table text = columns_of table >>= position (is_cell_named text)

-- the codes of one byte, and then those of two, of which the last is 0xfe1e
abbrev pub place_code : ℕ → ℕ
place_code place = if nat_lt place 0x100 then place else 0xfe00 + (place - 0x100)

-- the code of the instruction of that name
unfoldable pub code_named : List ℕ → Option ℕ
code_named text = option_map place_code (first_from (λ place. is_called text (instr_name (place_code place))) 0x11f 0)

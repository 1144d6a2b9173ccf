-- The index of the links that an image may keep.
use Rattle.std.specs.Prelude.{◌≡◌, ℕ, List, Option, Some}
use Rattle.md_tables.specs.LinkIndex.{IndexesLinks}
use Rattle.md_tables.specs.declared.link_row.LinkRow.{LinkRow}

-- where there is an index, it is one of the links of the stream
abbrev pub IndexesAny : List ℕ → Option (List (List LinkRow)) → Type 0
IndexesAny stream links = (index : List (List LinkRow)) → links ≡ Some index → IndexesLinks stream index

-- Small plans, worked out by hand, so that a wrong order, place or number in a definition does not check.
use Rattle.std.specs.Prelude.{◌≡◌, refl, ℕ, false, List, [], ◌∷◌, ◌++◌, codes, replicate, slice_set, slice_get, Some}
use Rattle.cil_base.specs.Number.{spelled_number}
use Rattle.cil_base.specs.Token.{Token, root}
use Rattle.il_code.specs.declared.instr.Instr.{Instr}
use Rattle.il_code.specs.declared.operand.Operand.TheVariants as operands
use Rattle.md_heaps.specs.LaidHeaps.{blob_entry, laid_heaps, user_entry}
use Rattle.md_schema.specs.Schema.{tables}
use Rattle.node_model.specs.declared.cell.Cell.{Cell}
use Rattle.node_model.specs.declared.cell.Cell.TheVariants as cells
use Rattle.node_model.specs.declared.key.Key.{Key}
use Rattle.node_model.specs.declared.key.Key.TheVariants.{Row, Sig, Owned, Body}
use Rattle.node_model.specs.declared.value.BodyValue.TheVariants.{Il}
use Rattle.node_model.specs.declared.value.Value.{Value}
use Rattle.node_model.specs.declared.value.Value.TheVariants as values
use Rattle.sig_tree.specs.declared.tree.SigTree.TheVariants as sorts
use Rattle.write_plan.specs.Planned.{Planned}
use Rattle.write_tables.specs.Contents.{rows_contents, table_range, user_contents, written_entries}
use Rattle.write_tables.specs.UserTokens.{string_tokens}
use Rattle.write_tables.specs.WrittenRows.{written_rows}
use Rattle.write_tables.specs.declared.placed.Placed.{Placed}

abbrev row_of : ℕ → ℕ → Token
row_of table rid = record { table = table; rid = rid }

abbrev cells_of : Token → List Cell → Key × Value
cells_of t cs = (Row t, values.Row (record { token = t; cells = cs }))

abbrev run_of : Token → ℕ → List Token → Key × Value
run_of owner table ts = (Owned owner table, values.Tokens ts)

abbrev guid : List ℕ
guid = 0x33 ∷ 0x22 ∷ 0x11 ∷ 0x00 ∷ 0x55 ∷ 0x44 ∷ 0x77 ∷ 0x66 ∷ 0x88 ∷ 0x99 ∷ 0xAA ∷ 0xBB ∷ 0xCC ∷ 0xDD ∷ 0xEE ∷ 0xFF ∷ []

abbrev module_cells : Key × Value
module_cells =
    cells_of (row_of 0x00 1)
    (cells.Num 0 ∷ cells.Text (codes "small.dll") ∷ cells.Guid guid ∷ cells.NoGuid ∷ cells.NoGuid ∷ [])

abbrev type_cells : ℕ → ℕ → List ℕ → List ℕ → Key × Value
type_cells rid flags name space =
    cells_of (row_of 0x02 rid) (cells.Num flags ∷ cells.Text name ∷ cells.Text space ∷ cells.NoRef ∷ [])

-- the lists of tables 00, 02, 04, 06, 11 and 29
abbrev lists_of : List Token → List Token → List Token → List Token → List Token → List Token → List (List Token)
lists_of modules types fields methods sigs nested =
    slice_set (slice_set (slice_set (slice_set (slice_set (slice_set (replicate 256 []) 0x00 modules) 0x02 types) 0x04 fields)
    0x06 methods) 0x11 sigs) 0x29 nested

-- an image of a module and its first type alone
abbrev small : Planned
small = record {
  lists = lists_of (row_of 0x00 1 ∷ []) (row_of 0x02 1 ∷ []) [] [] [] [];
  entries = module_cells ∷ type_cells 1 0 (codes "<Module>") [] ∷ run_of (row_of 0x02 1) 0x04 [] ∷ run_of (row_of 0x02 1) 0x06 [] ∷ [];
}

abbrev nothing_placed : Placed
nothing_placed = record { bodies = []; field_bytes = []; resources = [] }

small_rows : slice_get (written_rows small nothing_placed) 0x00 ≡ Some ((0 ∷ 1 ∷ 1 ∷ 0 ∷ 0 ∷ []) ∷ [])
unfolding written_rows written_entries rows_contents table_range user_contents tables
small_rows = refl

small_types : slice_get (written_rows small nothing_placed) 0x02 ≡ Some ((0 ∷ 11 ∷ 0 ∷ 0 ∷ 1 ∷ 1 ∷ []) ∷ [])
unfolding written_rows written_entries rows_contents table_range user_contents tables
small_types = refl

small_strings : (laid_heaps (written_entries small)).strings ≡ 0 ∷ (codes "small.dll" ++ 0 ∷ (codes "<Module>" ++ 0 ∷ []))
unfolding written_entries rows_contents table_range user_contents tables
small_strings = refl

small_guids : (laid_heaps (written_entries small)).guids ≡ guid
unfolding written_entries rows_contents table_range user_contents tables
small_guids = refl

-- the second of four types was removed, so the third and fourth are written second and third. The last stands in the one
-- before, which has a method that loads the text a twice
abbrev outer : Token
outer = row_of 0x02 3

abbrev inner : Token
inner = row_of 0x02 4

abbrev method : Token
method = row_of 0x06 5

abbrev code : List Instr
code =
    record { op = 0x72; operand = operands.Text (0x61 ∷ []) } ∷ record { op = 0x26; operand = operands.None }
    ∷ record { op = 0x72; operand = operands.Text (0x61 ∷ []) } ∷ record { op = 0x26; operand = operands.None }
    ∷ record { op = 0x2a; operand = operands.None } ∷ []

abbrev woven : Planned
woven = record {
  lists =
      lists_of (row_of 0x00 1 ∷ []) (row_of 0x02 1 ∷ outer ∷ inner ∷ []) [] (method ∷ []) (row_of 0x11 1 ∷ []) (row_of 0x29 2 ∷ []);
  entries =
      module_cells
      ∷ type_cells 1 0 (codes "<Module>") [] ∷ run_of (row_of 0x02 1) 0x04 [] ∷ run_of (row_of 0x02 1) 0x06 []
      ∷ type_cells 3 1 (codes "Outer") (codes "N") ∷ run_of outer 0x04 [] ∷ run_of outer 0x06 (method ∷ [])
      ∷ type_cells 4 2 (codes "Inner") [] ∷ run_of inner 0x04 [] ∷ run_of inner 0x06 []
      ∷ cells_of (row_of 0x11 1) [] ∷ (Sig (row_of 0x11 1), values.Sig (sorts.Locals []))
      ∷ cells_of (row_of 0x29 2) (cells.Ref inner ∷ cells.Ref outer ∷ [])
      ∷ cells_of method (cells.Num 0 ∷ cells.Num 22 ∷ cells.Text (codes "Go") ∷ []) ∷ run_of method 0x08 []
      ∷ (
        Body method,
        values.Body (Il (record {
          max_stack = 8;
          init_locals = false;
          locals = root;
          code = code;
          handlers = [];
        })),
      ) ∷ [];
}

abbrev one_body : Placed
one_body = record { bodies = 0x2048 ∷ []; field_bytes = []; resources = [] }

-- the method is that of the second type, and the runs of the third start behind it
woven_types : slice_get (written_rows woven one_body) 0x02
    ≡ Some ((0 ∷ 11 ∷ 0 ∷ 0 ∷ 1 ∷ 1 ∷ []) ∷ (1 ∷ 20 ∷ 26 ∷ 0 ∷ 1 ∷ 1 ∷ []) ∷ (2 ∷ 28 ∷ 0 ∷ 0 ∷ 1 ∷ 2 ∷ []) ∷ [])
unfolding written_rows written_entries rows_contents table_range user_contents tables blob_entry spelled_number
woven_types = refl

woven_methods : slice_get (written_rows woven one_body) 0x06 ≡ Some ((0x2048 ∷ 0 ∷ 22 ∷ 34 ∷ 0 ∷ 1 ∷ []) ∷ [])
unfolding written_rows written_entries rows_contents table_range user_contents tables blob_entry spelled_number
woven_methods = refl

woven_signatures : slice_get (written_rows woven one_body) 0x11 ≡ Some ((1 ∷ []) ∷ [])
unfolding written_rows written_entries rows_contents table_range user_contents tables blob_entry spelled_number
woven_signatures = refl

-- tokens by their new numbers
woven_nesting : slice_get (written_rows woven one_body) 0x29 ≡ Some ((3 ∷ 2 ∷ []) ∷ [])
unfolding written_rows written_entries rows_contents table_range user_contents tables blob_entry spelled_number
woven_nesting = refl

woven_blobs : (laid_heaps (written_entries woven)).blobs ≡ 0 ∷ 2 ∷ 7 ∷ 0 ∷ []
unfolding written_entries rows_contents table_range user_contents tables blob_entry spelled_number
woven_blobs = refl

-- the text has one entry, and one token
woven_users : (laid_heaps (written_entries woven)).users ≡ 0 ∷ 3 ∷ 0x61 ∷ 0 ∷ 0 ∷ 0 ∷ 0 ∷ 0 ∷ []
unfolding written_entries rows_contents table_range user_contents tables blob_entry spelled_number user_entry
woven_users = refl

woven_tokens : string_tokens woven ≡ (0x70000001 ∷ 0x70000001 ∷ []) ∷ []
unfolding string_tokens written_entries rows_contents table_range user_contents tables blob_entry spelled_number user_entry
woven_tokens = refl

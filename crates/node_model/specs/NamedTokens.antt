-- The tokens that an edit names, each with the tables that its place allows: ECMA-335 II.22, II.23.2, II.25.3.3.2,
-- II.25.4.
use Rattle.std.specs.Prelude.{ℕ, Bool, false, List, [], ◌∷◌, ◌++◌, map, ◌==◌, ◌||◌, is_some, if◌then◌else◌}
use Rattle.std.specs.List.{flat_map}
use Rattle.cil_base.specs.Token.{Token, root}
use Rattle.il_code.specs.declared.handler.Handler.{Handler}
use Rattle.il_code.specs.declared.handler.HandlerKind.{HandlerKind}
use Rattle.il_code.specs.declared.handler.HandlerKind.TheVariants.{Typed}
use Rattle.il_code.specs.declared.instr.Instr.{Instr}
use Rattle.il_code.specs.declared.operand.Operand.{Operand}
use Rattle.il_code.specs.declared.operand.Operand.TheVariants.{Tok}
use Rattle.md_schema.specs.Entry.{columns_of}
use Rattle.md_schema.specs.Reference.{may_name_of}
use Rattle.md_schema.specs.Tables.{file, method_def, stand_alone_sig}
use Rattle.md_schema.specs.declared.coded_kind.CodedKind.TheVariants.{TypeDefOrRef}
use Rattle.md_schema.specs.declared.column.ColumnKind.TheVariants.{Coded}
use Rattle.sig_tree.specs.Printed.{tokens}
use Rattle.sig_tree.specs.declared.tree.SigTree.{SigTree}
use Rattle.node_model.specs.KeyKinds.{is_root_token}
use Rattle.node_model.specs.PlacedCells.{PlacedCell, edit_cells}
use Rattle.node_model.specs.RowCells.{is_link_column}
use Rattle.node_model.specs.declared.cell.Cell.{Cell}
use Rattle.node_model.specs.declared.cell.Cell.TheVariants.{Ref, NoRef}
use Rattle.node_model.specs.declared.edit.Edit.{Edit}
use Rattle.node_model.specs.declared.edit.Edit.TheVariants as edits
use Rattle.node_model.specs.declared.edit.OptSig.{OptSig}
use Rattle.node_model.specs.declared.edit.OptSig.TheVariants as sigs
use Rattle.node_model.specs.declared.value.BodyValue.{BodyValue}
use Rattle.node_model.specs.declared.value.BodyValue.TheVariants.{Il}

pub record NamedToken : Type 0 where
  pub allows : ℕ → Bool
  pub token : Token

abbrev pub name_in : (ℕ → Bool) → Token → NamedToken
name_in allows t = record { allows = allows; token = t }

-- a null link names the root, which no link column allows; any other null cell names nothing
abbrev pub cell_names : PlacedCell → Cell → List NamedToken
cell_names c (Ref t) = name_in (may_name_of c.kind) t ∷ []
cell_names c NoRef = if is_link_column c.table c.column then name_in (λ table. false) root ∷ [] else []
cell_names c _ = []

abbrev pub cells_name : List PlacedCell → List NamedToken
cells_name cells = flat_map (λ c. cell_names c c.cell) cells

-- types, in the order in which they are printed
abbrev pub sig_names : SigTree → List NamedToken
sig_names sig = map (name_in (may_name_of (Coded TypeDefOrRef))) (tokens sig)

abbrev pub opt_sig_names : OptSig → List NamedToken
opt_sig_names sigs.None = []
opt_sig_names (sigs.Is sig) = sig_names sig

-- the root stands for no locals, and names nothing
abbrev pub locals_name : Token → List NamedToken
locals_name t = if is_root_token t then [] else name_in (λ table. table == stand_alone_sig) t ∷ []

-- the root stands for no entry point
abbrev pub entry_names : Token → List NamedToken
entry_names t = if is_root_token t then [] else name_in (λ table. (table == method_def) || (table == file)) t ∷ []

abbrev pub is_table : ℕ → Bool
is_table table = is_some (columns_of table)

abbrev pub operand_names : Operand → List NamedToken
operand_names (Tok t) = name_in is_table t ∷ []
operand_names _ = []

abbrev pub handler_kind_names : HandlerKind → List NamedToken
handler_kind_names (Typed t) = name_in is_table t ∷ []
handler_kind_names _ = []

-- the locals of a body, its instructions, then its handlers
abbrev pub body_names : BodyValue → List NamedToken
body_names (Il body) =
    locals_name body.locals ++ flat_map (λ (x : Instr). operand_names x.operand) body.code
    ++ flat_map (λ (h : Handler). handler_kind_names h.kind) body.handlers
body_names _ = []

-- the cells first, then the signature
abbrev pub edit_names : Edit → List NamedToken
edit_names (edits.Set t column cell) = cells_name (edit_cells (edits.Set t column cell))
edit_names (edits.Add table cells sig) = cells_name (edit_cells (edits.Add table cells sig)) ++ opt_sig_names sig
edit_names (edits.Insert owner table at cells sig) =
    cells_name (edit_cells (edits.Insert owner table at cells sig)) ++ opt_sig_names sig
edit_names (edits.SetSig t sig) = sig_names sig
edit_names (edits.SetBody t body) = body_names body
edit_names (edits.SetEntry t) = entry_names t
edit_names (edits.IlInsert t at instr) = operand_names instr.operand
edit_names (edits.IlReplace t at instr) = operand_names instr.operand
edit_names (edits.IlHead t max_stack init_locals locals) = locals_name locals
edit_names (edits.AddHandler t handler) = handler_kind_names handler.kind
edit_names _ = []

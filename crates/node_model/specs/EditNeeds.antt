-- The keys that an edit's own words name: ECMA-335 II.22.
use Rattle.std.specs.Prelude.{List, [], ◌∷◌, ◌==◌, if◌then◌else◌}
use Rattle.cil_base.specs.Token.{Token}
use Rattle.md_schema.specs.Tables.{nested_class}
use Rattle.node_model.specs.RowLists.{added_lists, list_key}
use Rattle.node_model.specs.declared.edit.Edit.{Edit}
use Rattle.node_model.specs.declared.edit.Edit.TheVariants as edits
use Rattle.node_model.specs.declared.key.Key.{Key}
use Rattle.node_model.specs.declared.key.Key.TheVariants.{Row, Sig, Owned, Body, Data, Resource, Facts}

-- the owner's list, and before it the NestedClass row, which alone names its second list
abbrev pub remove_needs : Token → Token → List Key
remove_needs owner t =
    if t.table == nested_class then Row t ∷ list_key owner t.table ∷ [] else list_key owner t.table ∷ []

-- all that the edit looks at, in order, but for the second list of a NestedClass row that is removed
abbrev pub edit_needs : Edit → List Key
edit_needs (edits.Set t column cell) = Row t ∷ []
edit_needs (edits.SetSig t sig) = Sig t ∷ []
edit_needs (edits.SetBody t body) = Body t ∷ []
edit_needs (edits.SetData t bytes) = Data t ∷ []
edit_needs (edits.SetResource t value) = Resource t ∷ []
edit_needs (edits.SetEntry t) = Facts ∷ []
edit_needs (edits.Add table cells sig) = added_lists table cells
edit_needs (edits.Insert owner table at cells sig) = Owned owner table ∷ []
edit_needs (edits.Remove owner t) = remove_needs owner t
edit_needs (edits.IlInsert t at instr) = Body t ∷ []
edit_needs (edits.IlRemove t at) = Body t ∷ []
edit_needs (edits.IlReplace t at instr) = Body t ∷ []
edit_needs (edits.IlHead t max_stack init_locals locals) = Body t ∷ []
edit_needs (edits.AddHandler t handler) = Body t ∷ []
edit_needs (edits.RemoveHandler t at) = Body t ∷ []

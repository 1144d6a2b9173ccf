-- What the types of the code say of the bytes of a file and of an edit, where the numbers and lists of a definition do not.
use Rattle.std.specs.Prelude.{ℕ, ◌≡◌, ◌<◌, ◌^◌, List, length}
use Rattle.std.specs.List.{AllByRecursion}
use Rattle.sig_tree.specs.Bounds.{IsBoundedSig}
use Rattle.node_model.specs.declared.cell.Cell.{Cell}
use Rattle.node_model.specs.declared.cell.Cell.TheVariants.{Guid}
use Rattle.node_model.specs.declared.edit.Edit.{Edit}
use Rattle.node_model.specs.declared.edit.Edit.TheVariants as edits
use Rattle.node_model.specs.declared.edit.OptSig.{OptSig}
use Rattle.node_model.specs.declared.edit.OptSig.TheVariants as sigs
use Rattle.node_model.specs.declared.value.ResourceValue.{ResourceValue}
use Rattle.node_model.specs.declared.value.ResourceValue.TheVariants.{Elsewhere}

-- each item is a byte
abbrev pub AreBytes : List ℕ → Type 0
AreBytes bytes = AllByRecursion (λ byte. byte < 2 ^ 8) bytes

-- a GUID has sixteen bytes
abbrev pub CellOfType : Cell → Type 0
CellOfType (Guid bytes) = length bytes ≡ 16
CellOfType _ = Unit {0}

-- a signature can be spelled
abbrev pub OptSigOfType : OptSig → Type 0
OptSigOfType (sigs.Is sig) = IsBoundedSig sig
OptSigOfType sigs.None = Unit {0}

-- an offset has four bytes
abbrev pub ResourceOfType : ResourceValue → Type 0
ResourceOfType (Elsewhere offset) = offset < 2 ^ 32
ResourceOfType _ = Unit {0}

-- so it is with each part of an edit
abbrev pub EditOfTypes : Edit → Type 0
EditOfTypes (edits.Set t column cell) = CellOfType cell
EditOfTypes (edits.SetSig t sig) = IsBoundedSig sig
EditOfTypes (edits.SetResource t value) = ResourceOfType value
EditOfTypes (edits.Add table cells sig) = AllByRecursion CellOfType cells × OptSigOfType sig
EditOfTypes (edits.Insert owner table at cells sig) = AllByRecursion CellOfType cells × OptSigOfType sig
EditOfTypes _ = Unit {0}

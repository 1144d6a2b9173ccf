-- What a signature holds: ECMA-335 II.23.2, and of which sort it is, by the clause of each table in II.22.
use Rattle.std.specs.Prelude.{ℕ, Bool, List, [], ◌∷◌, Option, Some, None, ◌==◌, if◌then◌else◌}
use Rattle.std.specs.List.{list_any}
use Rattle.cil_base.specs.Steps.{◌>>=◌}
use Rattle.cil_base.specs.Token.{Token}
use Rattle.md_heaps.specs.Entries.{blob}
use Rattle.md_schema.specs.Cell.{cell_of}
use Rattle.md_schema.specs.Tables.{field, member_ref, method_def, method_spec, property, stand_alone_sig, type_spec}
use Rattle.sig_tree.specs.TreeAt.{tree_at}
use Rattle.sig_tree.specs.declared.tree.SigTree.{SigTree}
use Rattle.sig_tree.specs.declared.tree.SigTree.TheVariants as sorts
use Rattle.node_model.specs.KeyKinds.{sig_column_of}
use Rattle.node_model.specs.Streams.{ImageStreams}
use Rattle.node_model.specs.declared.key.Key.TheVariants.{Sig}
use Rattle.node_model.specs.declared.slot.FaultKind.TheVariants.{BadSignature}
use Rattle.node_model.specs.declared.slot.Slot.{Slot}
use Rattle.node_model.specs.declared.slot.Slot.TheVariants as slots
use Rattle.node_model.specs.declared.value.Value.TheVariants as values

-- the tables that have signatures of a sort
abbrev pub tables_of_sort : SigTree → List ℕ
tables_of_sort (sorts.Method m) = method_def ∷ member_ref ∷ stand_alone_sig ∷ []
tables_of_sort (sorts.Field t) = field ∷ member_ref ∷ stand_alone_sig ∷ []
tables_of_sort (sorts.Locals ts) = stand_alone_sig ∷ []
tables_of_sort (sorts.Property this t params) = property ∷ []
tables_of_sort (sorts.Inst args) = method_spec ∷ []
tables_of_sort (sorts.Plain t) = type_spec ∷ []

abbrev pub sort_fits : ℕ → SigTree → Bool
sort_fits t sig = list_any (λ n. n == t) (tables_of_sort sig)

abbrev pub if_sort_fits : ℕ → SigTree → Option SigTree
if_sort_fits t sig = if sort_fits t sig then Some sig else None

-- the signature of a row: that of TypeSpec is a type alone
unfoldable pub sig_of : ImageStreams → Token → Option SigTree
sig_of s t =
    sig_column_of t.table >>= λ column. blob s.blobs (cell_of s.tables t.table t.rid column)
    >>= λ bytes. tree_at (t.table == type_spec) bytes >>= λ sig. if_sort_fits t.table sig

abbrev pub sig_slot : Token → Option SigTree → Slot
sig_slot t (Some sig) = slots.Value (values.Sig sig)
sig_slot t None = slots.Fault (record { key = Sig t; kind = BadSignature; column = 0 })

unfoldable pub read_sig : ImageStreams → Token → Slot
read_sig s t = sig_slot t (sig_of s t)

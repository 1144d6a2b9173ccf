-- How the answer to an edit is printed: that it is done, with the token of the row that it made, or the refusal with
-- its number, its name and what it tells.
use Rattle.std.specs.Prelude.{ℕ, List, [], ◌∷◌, ◌++◌, codes, Option, Some, None}
use Rattle.std.specs.Fmt.{decimal}
use Rattle.cil_base.specs.Token.{Token}
use Rattle.graph_edits.specs.declared.applied.Outcome.{Outcome}
use Rattle.graph_edits.specs.declared.applied.Outcome.TheVariants.{Done, Refused}
use Rattle.node_model.specs.EditRefusals.{edit_refusal_number}
use Rattle.node_model.specs.declared.edit_refusal.EditRefusal.{EditRefusal}
use Rattle.node_model.specs.declared.edit_refusal.EditRefusal.TheVariants as refusals
use Rattle.sig_tree.specs.Printed.{own_text}
use Rattle.dump_text.specs.Faults.{placed_fault}

abbrev pub edit_refusal_name : EditRefusal → List ℕ
edit_refusal_name (refusals.Absent t) = codes "Absent"
edit_refusal_name (refusals.Removed t) = codes "Removed"
edit_refusal_name (refusals.BadColumn n) = codes "BadColumn"
edit_refusal_name (refusals.NumberTooWide value limit) = codes "NumberTooWide"
edit_refusal_name (refusals.BadText place) = codes "BadText"
edit_refusal_name (refusals.BadRef t) = codes "BadRef"
edit_refusal_name (refusals.TableFull n) = codes "TableFull"
edit_refusal_name (refusals.Reached fault) = codes "Reached"
edit_refusal_name (refusals.PlaceBeyond at n) = codes "PlaceBeyond"
edit_refusal_name (refusals.NotThere t) = codes "NotThere"
edit_refusal_name (refusals.BadCode i) = codes "BadCode"
edit_refusal_name (refusals.BadHandler i) = codes "BadHandler"

abbrev pub two_numbers : ℕ → ℕ → List ℕ
two_numbers a b = decimal a ++ 0x2c ∷ decimal b

-- what stands in the brackets
abbrev pub edit_refusal_told : EditRefusal → List ℕ
edit_refusal_told (refusals.Absent t) = own_text t
edit_refusal_told (refusals.Removed t) = own_text t
edit_refusal_told (refusals.BadColumn n) = decimal n
edit_refusal_told (refusals.NumberTooWide value limit) = two_numbers value limit
edit_refusal_told (refusals.BadText place) = decimal place
edit_refusal_told (refusals.BadRef t) = own_text t
edit_refusal_told (refusals.TableFull n) = decimal n
edit_refusal_told (refusals.Reached fault) = placed_fault fault
edit_refusal_told (refusals.PlaceBeyond at n) = two_numbers at n
edit_refusal_told (refusals.NotThere t) = own_text t
edit_refusal_told (refusals.BadCode i) = decimal i
edit_refusal_told (refusals.BadHandler i) = decimal i

abbrev pub edit_refusal_text : EditRefusal → List ℕ
edit_refusal_text r =
    codes "refused " ++ decimal (edit_refusal_number r) ++ 0x20 ∷ edit_refusal_name r ++ 0x28 ∷ edit_refusal_told r
    ++ 0x29 ∷ []

abbrev pub done_text : Option Token → List ℕ
done_text None = codes "done"
done_text (Some t) = codes "done " ++ own_text t

unfoldable pub outcome_text : Outcome → List ℕ
outcome_text (Done made) = done_text made
outcome_text (Refused r) = edit_refusal_text r

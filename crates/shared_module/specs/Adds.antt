-- What a call adds to a history for its caller, from what the caller had seen of it to what it has seen.
use Rattle.std.specs.Prelude.{◌≡◌, ℕ, ◌≤◌, List, length, take, slice_get, Some}
use mathlib.Core.List.{IsPrefix}
use Rattle.node_model.specs.declared.edit.Edit.{Edit as EditOf}
use Rattle.node_model.specs.declared.entry.By.{By}
use Rattle.node_model.specs.declared.entry.Entry.{Entry}
use Rattle.node_model.specs.declared.entry.Entry.TheVariants.{Fill, Edit}
use Rattle.node_model.specs.declared.entry.Why.{Why}
use Rattle.node_model.specs.declared.entry.Why.TheVariants as whys
use Rattle.node_model.specs.declared.query.Query.{Query}
use Rattle.lazy_core.specs.History.{entry_caller}
use Rattle.lazy_core.specs.Steps.{tried}
use Rattle.lazy_core.specs.declared.wanted.Tried.TheVariants as tries

-- What was seen stays, and each further entry of the caller is as is said by the entries before it. Of entries of other
-- callers nothing is said.
pub record Adds (caller : ℕ) (IsSo : List Entry → Entry → Type 0) (before after : List Entry) : Type 0 where
  pub later : IsPrefix before after
  pub own :
      (i : ℕ) (e : Entry) → length before ≤ i → slice_get after i ≡ Some e → entry_caller e ≡ caller
      → IsSo (take i after) e

-- a command of a caller, and one of its steps
abbrev pub by_of : ℕ → ℕ → ℕ → By
by_of caller command step = record { caller = caller; command = command; step = step }

-- a fill by this command and step, that was not wanted before so many entries, and whose reason is as is said by the
-- entries up to where it was wanted
abbrev pub IsFillFor : By → ℕ → (List Entry → Why → Type 0) → List Entry → Entry → Type 0
IsFillFor by from IsReason h (Fill other point why key) = (other ≡ by) × (from ≤ point) × IsReason (take point h) why
IsFillFor by from IsReason h (Edit other es) = ⊥

-- the caller's further entries are fills for a reason, each wanted in the course of the call
abbrev pub AddsFills : By → (List Entry → Why → Type 0) → List Entry → List Entry → Type 0
AddsFills by IsReason before after = Adds by.caller (IsFillFor by (length before) IsReason) before after

-- the reason is this query
abbrev pub IsForQuery : Query → List Entry → Why → Type 0
IsForQuery q h (whys.Query p) = p ≡ q
IsForQuery q h (whys.Keys ks) = ⊥

-- the reason is the keys that this edit looks at, up to the first that was not filled
abbrev pub IsForEdit : List ℕ → EditOf → List Entry → Why → Type 0
IsForEdit b e h (whys.Query q) = ⊥
IsForEdit b e h (whys.Keys ks) = tried b h e ≡ tries.Need ks

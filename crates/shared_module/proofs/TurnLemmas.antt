-- What single turns do.
use Rattle.std.proofs.Common.{◌≡◌, refl, sym, ◌∙◌, ap, subst, ℕ, ◌≤◌, ◌-◌, Bool, true, false, List, [], ◌∷◌, ◌++◌, Result, Ok, Err, IfOk, OnErr, OnOk, length, take, arith, if◌then◌else◌}
use mathlib.Core.List.{IsPrefix}
use Rattle.std.proofs.lemmas.List.{length-append}
use Rattle.std.proofs.Math.Seq.{take-append_seam}
use Rattle.cil_base.specs.declared.no_memory.NoMemory.{NoMemory}
use Rattle.turn_lock.specs.Views.{own}
use Rattle.node_model.specs.declared.edit.Edit.{Edit as EditOf}
use Rattle.node_model.specs.declared.entry.By.{By}
use Rattle.node_model.specs.declared.entry.Entry.{Entry}
use Rattle.node_model.specs.declared.entry.Entry.TheVariants.{Fill, Edit}
use Rattle.lazy_core.specs.History.{entry_caller, filled}
use Rattle.lazy_core.specs.Steps.{history_after, history_tried, tried}
use Rattle.lazy_core.specs.declared.wanted.Tried.{Tried}
use Rattle.lazy_core.specs.declared.wanted.Tried.TheVariants.{Done, Refused, Need}
use Rattle.lazy_core.specs.declared.wanted.Wanted.{Wanted}
use Rattle.shared_module.specs.Adds.{Adds}
use Rattle.shared_module.specs.Answers.{but_last}
use Rattle.shared_module.specs.inner.Turns.{AddsNothing, IsFillOf, TryTurn}
use Rattle.shared_module.proofs.AddsLemmas.{MayGrow, adds_grown, adds_none}
use Rattle.shared_module.proofs.PrefixLemmas.{same_front}

abbrev pub fill_of : Wanted → Entry
fill_of w = Fill w.by w.point w.why w.key

-- a history after what was wanted was filled, or memory was wanting
pub grows_filled : (r : Result (Unit {0}) NoMemory) (b : List ℕ) (h new : List Entry) (w : Wanted)
    → OnOk r (new ≡ history_after b h w) → OnErr r (new ≡ h) → MayGrow (fill_of w) h new
grows_filled (Ok x) b h new w done kept = by_filled (filled b h w.key) done
  where
    by_filled : (t : Bool) → new ≡ (if t then h else h ++ fill_of w ∷ []) → MayGrow (fill_of w) h new
    by_filled true is = record { more = false; is = is }
    by_filled false is = record { more = true; is = is }
grows_filled (Err x) b h new w done kept = record { more = false; is = kept }

pub adds_filled : (k : ℕ) (seen h new : List Entry) (w : Wanted) → IsPrefix seen h → own entry_caller k h ≡ own entry_caller k seen → w.point ≤ length seen
    → MayGrow (fill_of w) h new → Adds k (IsFillOf w seen) seen new
adds_filled k seen h new w p same early g =
    adds_grown (fill_of w) h new g k (IsFillOf w seen) seen p same (refl, same_front seen h w.point p early)

abbrev pub edit_of : By → EditOf → Entry
edit_of by e = Edit by (e ∷ [])

-- a history after an edit was tried
pub grows_tried : (r : Result Tried NoMemory) (h new : List Entry) (by : By) (e : EditOf)
    → IfOk r (λ t. new ≡ history_tried by e h t) → OnErr r (new ≡ h) → MayGrow (edit_of by e) h new
grows_tried (Ok (Done made)) h new by e done kept = record { more = true; is = done }
grows_tried (Ok (Refused x)) h new by e done kept = record { more = false; is = done }
grows_tried (Ok (Need ks)) h new by e done kept = record { more = false; is = done }
grows_tried (Err x) h new by e done kept = record { more = false; is = kept }

last_off : (h : List Entry) (x : Entry) → but_last (h ++ x ∷ []) ≡ h
last_off h x =
    let shorter : length (h ++ x ∷ []) - 1 ≡ length h = omega (arith, length-append h (x ∷ [])) in
    ap (λ n. take n (h ++ x ∷ [])) shorter ∙ take-append_seam h (x ∷ [])

module _ (b : List ℕ) (by : By) (e : EditOf) (seen h : List Entry) (p : IsPrefix seen h) (same : own entry_caller by.caller h ≡ own entry_caller by.caller seen) where
  nothing_at : (new : List Entry) → new ≡ h → AddsNothing by.caller seen new
  nothing_at new is = subst (AddsNothing by.caller seen) (sym is) (adds_none by.caller (λ t x. ⊥) seen h p same)

  pub try_turned : (r : Result Tried NoMemory) (new : List Entry) → IfOk r (λ t. t ≡ tried b h e) → IfOk r (λ t. new ≡ history_tried by e h t)
      → OnErr r (new ≡ h) → TryTurn b by e seen new r
  try_turned (Ok (Done made)) new said done kept =
      let front : but_last new ≡ h = ap but_last done ∙ last_off h (Edit by (e ∷ [])) in (
        record { front = nothing_at (but_last new) front; last = done ∙ ap (λ l. l ++ Edit by (e ∷ []) ∷ []) (sym front) },
        ap (λ l. tried b l e) front ∙ sym said,
      )
  try_turned (Ok (Refused x)) new said done kept = (nothing_at new done, ap (λ l. tried b l e) done ∙ sym said)
  try_turned (Ok (Need ks)) new said done kept = (nothing_at new done, ap (λ l. tried b l e) done ∙ sym said)
  try_turned (Err x) new said done kept = nothing_at new kept

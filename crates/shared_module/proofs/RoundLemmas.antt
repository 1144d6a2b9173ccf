-- What rounds ask for, and what those of an edit add up to.
use Rattle.std.proofs.Common.{◌≡◌, refl, sym, subst, List, ℕ, length, Option, Result, Ok, Err}
use Rattle.cil_base.specs.Token.{Token}
use Rattle.cil_base.specs.declared.no_memory.NoMemory.{NoMemory}
use Rattle.graph_edits.specs.declared.applied.Outcome.TheVariants as outcomes
use Rattle.node_model.specs.declared.edit.Edit.{Edit as EditOf}
use Rattle.node_model.specs.declared.edit_refusal.EditRefusal.{EditRefusal}
use Rattle.node_model.specs.declared.entry.By.{By}
use Rattle.node_model.specs.declared.entry.Entry.{Entry}
use Rattle.node_model.specs.declared.entry.Why.{Why}
use Rattle.node_model.specs.declared.key.Key.{Key}
use Rattle.lazy_core.specs.Legal.{WasWanted}
use Rattle.lazy_core.specs.Steps.{tried}
use Rattle.lazy_core.specs.declared.wanted.Tried.TheVariants.{Done, Refused}
use Rattle.lazy_core.specs.declared.wanted.Wanted.{Wanted}
use Rattle.lazy_core.proofs.SaidLemmas.{done_is, refused_is}
use Rattle.shared_module.specs.Adds.{AddsFills, IsForEdit}
use Rattle.shared_module.specs.Answers.{before_done, but_last}
use Rattle.shared_module.specs.declared.edit.Edited.{Edited}
use Rattle.shared_module.specs.inner.Turns.{AddsDone, AddsNothing, EditEnds}
use Rattle.shared_module.proofs.AddsLemmas.{fills_then, no_fills}

-- what is wanted at the end of a history may be published
pub wanted_so : (b : List ℕ) (h : List Entry) (by : By) (point : ℕ) (why : Why) (key : Key) (w : Wanted) → point ≡ length h
    → w ≡ record { by = by; point = point; why = why; key = key } → WasWanted b h (length h) why key → WasWanted b h w.point w.why w.key
wanted_so b h by point why key w at is wanted =
    subst (λ (v : Wanted). WasWanted b h v.point v.why v.key) (sym is) (subst (λ n. WasWanted b h n why key) (sym at) wanted)

module _ (b : List ℕ) (by : By) (e : EditOf) where
  pub ends_done : (seen h : List Entry) (made : Option Token) → AddsDone by e seen h → tried b (but_last h) e ≡ Done made
      → EditEnds b by e seen h (Ok (record { at = length h; outcome = outcomes.Done made }))
  ends_done seen h made turn done =
      let said = done_is b (but_last h) e made done in
      record {
        adds = no_fills by (IsForEdit b e) seen (but_last h) turn.front;
        done = turn.last;
        answer = record { at = refl; said = said.0; reached = said.1 };
      }

  pub ends_refused : (seen h : List Entry) (r : EditRefusal) → AddsNothing by.caller seen h → tried b h e ≡ Refused r
      → EditEnds b by e seen h (Ok (record { at = length h; outcome = outcomes.Refused r }))
  ends_refused seen h r turn refused =
      let said = refused_is b h e r refused in
      record {
        adds = no_fills by (IsForEdit b e) seen h turn;
        done = tt;
        answer = record { at = refl; said = said.0; reached = said.1 };
      }

  pub ends_without : (seen h : List Entry) (x : NoMemory) → AddsFills by (IsForEdit b e) seen h → EditEnds b by e seen h (Err x)
  ends_without seen h x fills = record { adds = fills; done = tt; answer = tt }

  pub ends_after : (seen h g : List Entry) (r : Result Edited NoMemory) → AddsFills by (IsForEdit b e) seen h → EditEnds b by e h g r → EditEnds b by e seen g r
  ends_after seen h g r fills end = record {
    adds = fills_then by (IsForEdit b e) seen h (before_done g r) fills end.adds;
    done = end.done;
    answer = end.answer;
  }

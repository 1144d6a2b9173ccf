-- Steps leave a legal history.
use Rattle.std.proofs.Common.{◌≡◌, refl, ℕ, Bool, true, false, List, [], ◌∷◌, ◌++◌, Option, Some, None, if◌then◌else◌}
use Rattle.std.specs.List.{fold}
use Rattle.node_model.specs.declared.edit.Edit.{Edit}
use Rattle.node_model.specs.declared.entry.By.{By}
use Rattle.node_model.specs.declared.entry.Entry.{Entry}
use Rattle.node_model.specs.declared.entry.Entry.TheVariants as entries
use Rattle.node_model.specs.declared.entry.Entry.TheVariants.{Fill}
use Rattle.lazy_core.specs.History.{filled}
use Rattle.lazy_core.specs.Legal.{Legal}
use Rattle.lazy_core.specs.Run.{Course, after, publish_history, start, wanted_by}
use Rattle.lazy_core.specs.RunLaws.{RunsStayLegal}
use Rattle.lazy_core.specs.Steps.{history_tried, tried}
use Rattle.lazy_core.specs.Wants.{AllMayPublish, MayPublish}
use Rattle.lazy_core.specs.declared.step.Step.{Step}
use Rattle.lazy_core.specs.declared.step.Step.TheVariants as steps
use Rattle.lazy_core.specs.declared.wanted.Tried.{Tried}
use Rattle.lazy_core.specs.declared.wanted.Tried.TheVariants as tries
use Rattle.lazy_core.specs.declared.wanted.Wanted.{Wanted}
use Rattle.lazy_core.proofs.GrowLemmas.{legal_more}
use Rattle.lazy_core.proofs.RunLemmas.{all_step, may_publish}
use Rattle.lazy_core.proofs.TryLemmas.{may_edit}

legal_published : (b : List ℕ) (h : List Entry) (o : Option Wanted) → Legal b h → MayPublish b h o → Legal b (publish_history b h o)
legal_published b h None legal may = legal
legal_published b h (Some w) legal may = by_cases (filled b h w.key) refl
  where
    by_cases : (x : Bool) → filled b h w.key ≡ x → Legal b (if x then h else h ++ Fill w.by w.point w.why w.key ∷ [])
    by_cases true e = legal
    by_cases false e = legal_more b [] h (Fill w.by w.point w.why w.key) legal (may, e)

legal_tried : (b : List ℕ) (h : List Entry) (by : By) (e : Edit) → Legal b h → Legal b (history_tried by e h (tried b h e))
legal_tried b h by e legal = by_answer (tried b h e) refl
  where
    by_answer : (t : Tried) → tried b h e ≡ t → Legal b (history_tried by e h t)
    by_answer (tries.Done made) is = legal_more b [] h (entries.Edit by (e ∷ [])) legal (may_edit b h e made is)
    by_answer (tries.Refused r) is = legal
    by_answer (tries.Need ks) is = legal

legal_step : (b : List ℕ) (c : Course) (x : Step) → Legal b c.history → AllMayPublish b c.history c.wants → Legal b (after b c x).history
unfolding after
legal_step b c (steps.Peek by q) legal all = legal
legal_step b c (steps.TryEdit by e) legal all = legal_tried b c.history by e legal
legal_step b c (steps.Publish of) legal all = legal_published b c.history (wanted_by c.wants of) legal (may_publish b c.history c.wants of all)

legal_steps : (b : List ℕ) (c : Course) (xs : List Step) → Legal b c.history → AllMayPublish b c.history c.wants → Legal b (fold (after b) c xs).history
legal_steps b c [] legal all = legal
legal_steps b c (x ∷ xs) legal all = legal_steps b (after b c x) xs (legal_step b c x legal all) (all_step b c x all)

pub stay_legal : RunsStayLegal
stay_legal b h xs legal = legal_steps b (start h) xs legal tt

-- Steps by any callers, one after the other, by the bytes of the image and the history before them.
use Rattle.std.specs.Prelude.{ℕ, length, List, [], ◌∷◌, ◌++◌, Option, Some, None, option_map, slice_get, unwrap_or}
use Rattle.std.specs.List.{fold}
use Rattle.node_model.specs.declared.entry.By.{By}
use Rattle.node_model.specs.declared.entry.Entry.{Entry}
use Rattle.node_model.specs.declared.entry.Why.TheVariants as whys
use Rattle.node_model.specs.declared.key.Key.{Key}
use Rattle.node_model.specs.declared.query.Query.{Query}
use Rattle.lazy_core.specs.Steps.{history_after, history_tried, last_key, peeked, published, tried}
use Rattle.lazy_core.specs.declared.step.Step.{Step}
use Rattle.lazy_core.specs.declared.step.Step.TheVariants as steps
use Rattle.lazy_core.specs.declared.step.StepAnswer.{StepAnswer}
use Rattle.lazy_core.specs.declared.step.StepAnswer.TheVariants as answers
use Rattle.graph_query.specs.declared.answering.Peek.{Peek}
use Rattle.graph_query.specs.declared.answering.Peek.TheVariants.{Ready, Need}
use Rattle.lazy_core.specs.declared.wanted.Tried.{Tried}
use Rattle.lazy_core.specs.declared.wanted.Tried.TheVariants as tries
use Rattle.lazy_core.specs.declared.wanted.Wanted.{Wanted}

-- what was done so far: the history, and of each step its answer and what it left wanted
pub record Course : Type 0 where
  pub history : List Entry
  pub answers : List StepAnswer
  pub wants : List (Option Wanted)

-- a key that is needed for a query is wanted for it, at the history as it stands
abbrev pub query_want : By → Query → List Entry → Key → Wanted
query_want by q h k = record { by = by; point = length h; why = whys.Query q; key = k }

-- a caller that is told to need a key for a query wants it
abbrev pub want_of : By → Query → List Entry → Peek → Option Wanted
want_of by q h (Need k) = Some (query_want by q h k)
want_of by q h (Ready reply) = None

abbrev pub want_for : By → List Entry → List Key → Key → Wanted
want_for by h ks k = record { by = by; point = length h; why = whys.Keys ks; key = k }

-- one that is told to need keys for an edit wants the last of them, for all of them
abbrev pub want_of_try : By → List Entry → Tried → Option Wanted
want_of_try by h (tries.Need ks) = option_map (want_for by h ks) (last_key ks)
want_of_try by h (tries.Done made) = None
want_of_try by h (tries.Refused r) = None

-- what the step of a number left wanted; none where it is no earlier one, or needed no key
abbrev pub wanted_by : List (Option Wanted) → ℕ → Option Wanted
wanted_by wants n = unwrap_or (slice_get wants n) None

-- what is wanted is published, and Skipped comes where nothing is
abbrev pub publish_answer : List ℕ → List Entry → Option Wanted → StepAnswer
publish_answer b h (Some w) = answers.Published (published b h w)
publish_answer b h None = answers.Skipped

abbrev pub publish_history : List ℕ → List Entry → Option Wanted → List Entry
publish_history b h (Some w) = history_after b h w
publish_history b h None = h

-- what a step answers, the history after it, and what it leaves wanted, by the history and the wants before it
abbrev pub answered : List ℕ → List Entry → List (Option Wanted) → Step → StepAnswer
answered b h wants (steps.Peek by query) = answers.Peek (peeked b h query)
answered b h wants (steps.TryEdit by e) = answers.Tried (tried b h e)
answered b h wants (steps.Publish of) = publish_answer b h (wanted_by wants of)

abbrev pub history_then : List ℕ → List Entry → List (Option Wanted) → Step → List Entry
history_then b h wants (steps.Peek by query) = h
history_then b h wants (steps.TryEdit by e) = history_tried by e h (tried b h e)
history_then b h wants (steps.Publish of) = publish_history b h (wanted_by wants of)

abbrev pub want_then : List ℕ → List Entry → Step → Option Wanted
want_then b h (steps.Peek by query) = want_of by query h (peeked b h query)
want_then b h (steps.TryEdit by e) = want_of_try by h (tried b h e)
want_then b h (steps.Publish of) = None

-- one step of the core
unfoldable pub after : List ℕ → Course → Step → Course
after b c x = record {
  history = history_then b c.history c.wants x;
  answers = c.answers ++ answered b c.history c.wants x ∷ [];
  wants = c.wants ++ want_then b c.history x ∷ [];
}

abbrev pub start : List Entry → Course
start h = record { history = h; answers = []; wants = [] }

-- the steps, in order, from a history on
abbrev pub run : List ℕ → List Entry → List Step → Course
run b h xs = fold (after b) (start h) xs

-- What follows of the steps alone: which answer stands where.
use Rattle.std.specs.Prelude.{◌≡◌, ◌↔◌, ℕ, Bool, true, false, List, take, Option, Some, None, slice_get}
use Rattle.node_model.specs.declared.entry.Entry.{Entry}
use Rattle.lazy_core.specs.Legal.{Legal}
use Rattle.lazy_core.specs.Run.{answered, run, want_then}
use Rattle.lazy_core.specs.declared.step.Step.{Step}
use Rattle.lazy_core.specs.declared.step.Step.TheVariants as steps
use Rattle.lazy_core.specs.declared.step.StepAnswer.{StepAnswer}
use Rattle.lazy_core.specs.declared.step.StepAnswer.TheVariants as answers
use Rattle.graph_query.specs.declared.answering.Peek.TheVariants.{Ready, Need}
use Rattle.lazy_core.specs.declared.wanted.Tried.TheVariants as tries

-- the answer is that a key is needed, or keys
abbrev pub is_need : StepAnswer → Bool
is_need (answers.Peek (Need key)) = true
is_need (answers.Peek (Ready reply)) = false
is_need (answers.Tried (tries.Need keys)) = true
is_need (answers.Tried (tries.Done made)) = false
is_need (answers.Tried (tries.Refused r)) = false
is_need (answers.Published published) = false
is_need answers.Skipped = false

-- there is such an answer
abbrev pub is_needed : Option StepAnswer → Bool
is_needed (Some answer) = is_need answer
is_needed None = false

-- the answer in the place of a step is that of the core after the steps before it
abbrev pub EachIsAnswered : Type 0
EachIsAnswered =
    (b : List ℕ) (h : List Entry) (xs : List Step) (n : ℕ) (x : Step) → slice_get xs n ≡ Some x
    → slice_get (run b h xs).answers n ≡ Some (answered b (run b h (take n xs)).history (run b h (take n xs)).wants x)

-- what a step leaves wanted stands in the place of the step, by the history after the steps before it
abbrev pub EachWantStands : Type 0
EachWantStands =
    (b : List ℕ) (h : List Entry) (xs : List Step) (n : ℕ) (x : Step) → slice_get xs n ≡ Some x
    → slice_get (run b h xs).wants n ≡ Some (want_then b (run b h (take n xs)).history x)

-- a Publish is skipped exactly where the step of its number is no earlier one, or was not answered that a key is needed
abbrev pub SkippedExactly : Type 0
SkippedExactly =
    (b : List ℕ) (h : List Entry) (xs : List Step) (n of : ℕ) → slice_get xs n ≡ Some (steps.Publish of)
    → (slice_get (run b h xs).answers n ≡ Some answers.Skipped)
    ↔ (is_needed (slice_get (take n (run b h xs).answers) of) ≡ false)

-- from a legal history on, the steps leave a legal one
abbrev pub RunsStayLegal : Type 0
RunsStayLegal = (b : List ℕ) (h : List Entry) (xs : List Step) → Legal b h → Legal b (run b h xs).history

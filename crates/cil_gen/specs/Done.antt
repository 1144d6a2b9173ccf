-- Each of the edits is done in its place.
use Rattle.std.specs.Prelude.{◌≡◌, ℕ, ◌≤◌, [], ◌∷◌, take, slice_get, Some, Ok}
use Rattle.node_model.specs.EditAnswers.{edit_answer, edit_reach}
use Rattle.node_model.specs.Graph.{graph_of}
use Rattle.cil_gen.specs.GenEdits.{GenStep, gen_edits, gen_steps}
use Rattle.cil_gen.specs.SmallImage.{small_image}

-- over the small image, after those before it, each edit is done, and makes the row that was counted on
abbrev pub EachIsDone : Type 0
EachIsDone =
    (n place : ℕ) (step : GenStep) → n ≤ 10000 → slice_get (gen_steps n) place ≡ Some step
    → edit_answer (graph_of small_image (take place (gen_edits n))) step.edit ≡ Ok step.made

-- and looks at the one key that was counted on
abbrev pub EachLooksAtOne : Type 0
EachLooksAtOne =
    (n place : ℕ) (step : GenStep) → n ≤ 10000 → slice_get (gen_steps n) place ≡ Some step
    → edit_reach (graph_of small_image (take place (gen_edits n))) step.edit ≡ step.key ∷ []

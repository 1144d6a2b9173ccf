-- What is answered to an edit, and what the graph then stands for; and which keys then have a slot.
use Rattle.std.proofs.Common.{◌≡◌, refl, sym, ◌∙◌, ap, subst, ℕ, true, List, Option, Some, None, Result, Ok, Err, is_some}
use Rattle.std.specs.Prelude.{◌&&◌, ◌||◌, IfOk, OnOk}
use Rattle.std.specs.Map.{lookup}
use Rattle.std.specs.Option.{option_or}
use Rattle.node_model.specs.Changes.{Changing, begun}
use Rattle.node_model.specs.EditRefusals.{early_refusal}
use Rattle.node_model.specs.EditWalks.{edit_walk}
use Rattle.node_model.specs.Graph.{graph_of}
use Rattle.node_model.specs.KeyKinds.{has_kind}
use Rattle.node_model.specs.Keys.{same_key, token_of_key}
use Rattle.node_model.specs.Walk.{looked, said}
use Rattle.node_model.specs.declared.change.RowChange.{RowChange}
use Rattle.node_model.specs.declared.change.RowChange.TheVariants.{Stays, Made, Gone}
use Rattle.node_model.specs.declared.edit.Edit.{Edit}
use Rattle.node_model.specs.declared.edit_refusal.EditRefusal.{EditRefusal}
use Rattle.node_model.specs.declared.key.Key.{Key}
use Rattle.node_model.specs.declared.walk.Halt.{Halt}
use Rattle.node_model.specs.declared.walk.Halt.TheVariants.{Lacks, Faulty}
use Rattle.node_model.proofs.FreshLemmas.{begun_some}
use Rattle.node_model.proofs.RowLemmas.{is_made}
use Rattle.node_model.proofs.StepLemmas.{found_has, sound_change}
use Rattle.graph_edits.specs.Applying.{applied, applied_by, change_by, change_made}
use Rattle.graph_edits.specs.Graphs.{Follows, IsKept, nodes_in, slots_in}
use Rattle.graph_edits.specs.Stands.{SlotsAreThoseBefore, Stands, answer_over, edits_then, is_of_made}
use Rattle.graph_edits.specs.declared.applied.Applied.{Applied}
use Rattle.graph_edits.specs.declared.graph.EditGraph.{EditGraph}
use Rattle.graph_edits.proofs.MeetLemmas.{meets}
use Rattle.graph_edits.proofs.NextLemmas.{came_made, done, kept}

-- the answer, if there is one, is that over whatever the graph stands for
pub answers_meet : {E : Type 0} (old : EditGraph) (e : Edit) (r : Result Applied E) → IfOk r (λ a. a ≡ applied (nodes_in old) (slots_in old) e)
    → IfOk r (λ a. (b : List ℕ) (j : List Edit) → Stands b j old → a ≡ answer_over (graph_of b j) old e)
answers_meet old e (Ok a) is = λ b j stands. is ∙ meets b j old e stands
answers_meet old e (Err x) is = tt

-- what the graph stands for after an answer
after_answer : (old new : EditGraph) (e : Edit) → Follows old (change_made (nodes_in old) (slots_in old) e) new
    → (b : List ℕ) (j : List Edit) → Stands b j old → Stands b (edits_then j e (applied (nodes_in old) (slots_in old) e)) new
unfolding applied change_made
after_answer old new e follows b j stands =
    by_said (early_refusal (nodes_in old) e) (said (slots_in old) (edit_walk (nodes_in old) e)) refl refl follows
  where
    stays : IsKept old new → Stands b j new
    stays same = kept b j old new stands same.shape same.rows same.nodes same.slots

    by_said : (o : Option EditRefusal) (s : Result Changing Halt) → early_refusal (nodes_in old) e ≡ o → said (slots_in old) (edit_walk (nodes_in old) e) ≡ s
        → Follows old (change_by o s) new
        → Stands b (edits_then j e (applied_by o s (looked (slots_in old) (edit_walk (nodes_in old) e)))) new
    by_said None (Ok (Ok change)) i l made = done b j old new e change stands (rw (i, l) refl) made
    by_said None (Ok (Err r)) i l same = stays same
    by_said None (Err (Faulty fault)) i l same = stays same
    by_said None (Err (Lacks k)) i l same = stays same
    by_said (Some r) s i l same = stays same

pub answers_stand : {E : Type 0} (old new : EditGraph) (e : Edit) (r : Result Applied E) → IfOk r (λ a. a ≡ applied (nodes_in old) (slots_in old) e)
    → OnOk r (Follows old (change_made (nodes_in old) (slots_in old) e) new)
    → IfOk r (λ a. (b : List ℕ) (j : List Edit) → Stands b j old → Stands b (edits_then j e a) new)
answers_stand old new e (Ok a) is follows =
    λ b j stands. subst (λ (x : Applied). Stands b (edits_then j e x) new) (sym is) (after_answer old new e follows b j stands)
answers_stand old new e (Err x) is follows = tt

-- of a key's new content, the slot that it had, and what it begins with
some_or : {A : Type 0} (w o f : Option A) → (is_some w ≡ true → is_some o ≡ true) → is_some (option_or w (option_or o f)) ≡ (is_some o || is_some f)
some_or (Some x) o f had = rw (had refl) refl
some_or None (Some y) f had = refl
some_or None None f had = refl

of_made : (rows : RowChange) (k : Key) → (is_made rows (token_of_key k) && has_kind k) ≡ is_of_made rows k
of_made Stays k = refl
of_made (Made row sig) k = refl
of_made (Gone t) k = refl

pub slots_before : SlotsAreThoseBefore
slots_before old new e change k is made =
    let came = came_made (nodes_in old) (slots_in old) e change is in
    let sound = sound_change (nodes_in old) (slots_in old) e change came.early came.says in
    ap is_some (made.slots k)
    ∙ some_or (lookup (same_key k) change.contents) (slots_in old k) (begun change.rows k) (λ s. found_has (λ q. is_some (slots_in old q)) change.contents k sound.have s)
    ∙ ap (λ x. is_some (slots_in old k) || x) (begun_some (nodes_in old) change.rows k sound.rows ∙ of_made change.rows k)

-- What edits say over the slots that a graph has is what they say over the whole graph.
use Rattle.std.proofs.Common.{◌≡◌, refl, ◌∙◌, ap, ℕ, Bool, List, [], ◌∷◌, Option, Some, None, Result, Ok, Err, if◌then◌else◌, is_some, find}
use Rattle.node_model.specs.Changes.{Changing}
use Rattle.node_model.specs.EditAnswers.{answer_by, edit_reach, unless_early_refused}
use Rattle.node_model.specs.EditRefusals.{early_refusal}
use Rattle.node_model.specs.EditWalks.{edit_walk}
use Rattle.node_model.specs.Graph.{Graph, changing_by, edit_changing, graph_of}
use Rattle.node_model.specs.Replies.{all_slots}
use Rattle.node_model.specs.Walk.{Walk, looked, said}
use Rattle.node_model.specs.declared.edit.Edit.{Edit}
use Rattle.node_model.specs.declared.edit_refusal.EditRefusal.{EditRefusal}
use Rattle.node_model.specs.declared.key.Key.{Key}
use Rattle.node_model.specs.declared.slot.Slot.{Slot}
use Rattle.node_model.specs.declared.walk.Halt.{Halt}
use Rattle.node_model.specs.declared.walk.Halt.TheVariants.{Lacks, Faulty}
use Rattle.node_model.proofs.HeldLemmas.{graph_never_lacks}
use Rattle.node_model.proofs.WalkLemmas.{Partial, first_lacking, looked_through, through, until}
use Rattle.graph_edits.specs.Applying.{applied, applied_by}
use Rattle.graph_edits.specs.Graphs.{slots_in}
use Rattle.graph_edits.specs.Stands.{EditsMeetTheGraph, Stands, answer_given, is_lacking, need_or, up_to}
use Rattle.graph_edits.specs.declared.graph.EditGraph.{EditGraph}

-- the slots of a graph are those of some keys, and say what each of these holds
pub partial : (b : List ℕ) (j : List Edit) (g : EditGraph) → Stands b j g → Partial (λ k. is_some (slots_in g k)) (graph_of b j).held (slots_in g)
partial b j g stands k = by_slot (slots_in g k) (λ s is. stands.graph.slot k s is)
  where
    by_slot : (o : Option Slot) → ((s : Slot) → o ≡ Some s → s ≡ (graph_of b j).held k) → o ≡ (if is_some o then Some ((graph_of b j).held k) else None)
    by_slot (Some s) is = ap Some (is s refl)
    by_slot None is = refl

up_to_is : (test : Key → Bool) (ks : List Key) → through test ks ≡ up_to test ks
up_to_is test [] = refl
up_to_is test (k ∷ ks) = ap (λ js. k ∷ (if test k then [] else js)) (up_to_is test ks)

-- what is answered by what was said over the whole graph, which lacks nothing
answer_said : (s : Result Changing Halt) (keys : List Key) → ((x : Key) → s ≡ Err (Lacks x) → ⊥) → applied_by None s keys ≡ answer_given (answer_by (changing_by None s))
answer_said (Ok (Ok change)) keys never = refl
answer_said (Ok (Err r)) keys never = refl
answer_said (Err (Faulty fault)) keys never = refl
answer_said (Err (Lacks x)) keys never = absurd (never x refl)

pub meets : EditsMeetTheGraph
unfolding applied edit_reach edit_changing
meets b j g e stands = ap (λ n. applied n (slots_in g) e) stands.graph.nodes ∙ by_early (early_refusal G.nodes e)
  where
    G : Graph
    G = graph_of b j

    w : Walk Changing
    w = edit_walk G.nodes e

    by_found : (o : Option Key) (s : Result Changing Halt) (keys : List Key) → ((x : Key) → s ≡ Err (Lacks x) → ⊥)
        → applied_by None (until o s) keys ≡ need_or o keys (answer_given (answer_by (changing_by None s)))
    by_found (Some k) s keys never = refl
    by_found None s keys never = answer_said s keys never

    by_early : (o : Option EditRefusal) → applied_by o (said (slots_in g) w) (looked (slots_in g) w)
        ≡ need_or (find (is_lacking g) (unless_early_refused o (looked (all_slots G) w))) (up_to (is_lacking g) (unless_early_refused o (looked (all_slots G) w)))
        (answer_given (answer_by (changing_by o (said (all_slots G) w))))
    by_early (Some r) = refl
    by_early None =
        ap (λ s. applied_by None s (looked (slots_in g) w)) (first_lacking (λ k. is_some (slots_in g k)) G.held (slots_in g) (partial b j g stands) w)
        ∙ ap (λ ks. applied_by None (until (find (is_lacking g) (looked (all_slots G) w)) (said (all_slots G) w)) ks)
        (looked_through (λ k. is_some (slots_in g k)) G.held (slots_in g) (partial b j g stands) w ∙ up_to_is (is_lacking g) (looked (all_slots G) w))
        ∙ by_found (find (is_lacking g) (looked (all_slots G) w)) (said (all_slots G) w) (up_to (is_lacking g) (looked (all_slots G) w)) (graph_never_lacks b j w)

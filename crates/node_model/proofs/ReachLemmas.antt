-- The keys that an edit reaches: they end with the first fault, and each is there.
use Rattle.std.proofs.Common.{◌≡◌, refl, ap, Bool, true, false, List, [], ◌∷◌, Option, Some, None, Result, Ok, Err, if◌then◌else◌}
use Rattle.std.specs.List.{list_all}
use Rattle.node_model.specs.EditAnswers.{edit_reach, is_seen_fault, unless_early_refused, up_to_fault}
use Rattle.node_model.specs.EditRefusals.{early_refusal}
use Rattle.node_model.specs.EditWalks.{edit_walk}
use Rattle.node_model.specs.Graph.{Graph}
use Rattle.node_model.specs.Look.{key_status, look, look_at}
use Rattle.node_model.specs.Replies.{all_slots}
use Rattle.node_model.specs.Walk.{Content, Walk, Gives, Asks, looked, part, then_looked}
use Rattle.node_model.specs.declared.edit.Edit.{Edit}
use Rattle.node_model.specs.declared.edit_refusal.EditRefusal.{EditRefusal}
use Rattle.node_model.specs.declared.key.Key.{Key}
use Rattle.node_model.specs.declared.look.Look.TheVariants as looks
use Rattle.node_model.specs.declared.nodes.RowStatus.{RowStatus}
use Rattle.node_model.specs.declared.nodes.RowStatus.TheVariants.{Absent, Removed, Live}
use Rattle.node_model.specs.declared.slot.Slot.{Slot}
use Rattle.node_model.specs.declared.slot.Slot.TheVariants as slots
use Rattle.node_model.specs.declared.walk.Halt.{Halt}
use Rattle.node_model.proofs.KnownEdits.{edit_known}
use Rattle.node_model.proofs.KnownLemmas.{known_looked, knows}
use Rattle.node_model.proofs.WalkLemmas.{part_fault, through}

-- what a walk looks at ends with the first fault
looked_to_fault : {R : Type 0} (g : Graph) (w : Walk R) → up_to_fault g (looked (all_slots g) w) ≡ looked (all_slots g) w
looked_to_fault g (Gives r) = refl
looked_to_fault g (Asks k f) = ap (λ ks. k ∷ ks) (by_status (λ v. looked_to_fault g (f v)) (key_status g.nodes k) (g.held k) refl)
  where
    by_part : ((v : Content k) → up_to_fault g (looked (all_slots g) (f v)) ≡ looked (all_slots g) (f v)) → (s : Result (Content k) Halt) → up_to_fault g (then_looked s (λ v. looked (all_slots g) (f v))) ≡ then_looked s (λ v. looked (all_slots g) (f v))
    by_part rest (Ok v) = rest v
    by_part rest (Err h) = refl

    by_slot : ((v : Content k) → up_to_fault g (looked (all_slots g) (f v)) ≡ looked (all_slots g) (f v)) → (s : Slot) → (if is_seen_fault (looks.Slot s) then [] else up_to_fault g (then_looked (part k (Some s)) (λ v. looked (all_slots g) (f v))))
        ≡ then_looked (part k (Some s)) (λ v. looked (all_slots g) (f v))
    by_slot rest (slots.Value v) = by_part rest (part k (Some (slots.Value v)))
    by_slot rest (slots.Fault x) = rw (part_fault k x) refl

    by_status : ((v : Content k) → up_to_fault g (looked (all_slots g) (f v)) ≡ looked (all_slots g) (f v)) → (status : RowStatus) (s : Slot) → g.held k ≡ s → (if is_seen_fault (look_at status g k) then [] else up_to_fault g (then_looked (part k (Some s)) (λ v. looked (all_slots g) (f v))))
        ≡ then_looked (part k (Some s)) (λ v. looked (all_slots g) (f v))
    by_status rest Live s is = rw is (by_slot rest s)
    by_status rest Absent s is = by_part rest (part k (Some s))
    by_status rest Removed s is = by_part rest (part k (Some s))

pub reach_to_fault : (g : Graph) (e : Edit) → up_to_fault g (edit_reach g e) ≡ edit_reach g e
unfolding edit_reach
reach_to_fault g e = by_early (early_refusal g.nodes e)
  where
    by_early : (o : Option EditRefusal) → up_to_fault g (unless_early_refused o (looked (all_slots g) (edit_walk g.nodes e))) ≡ unless_early_refused o (looked (all_slots g) (edit_walk g.nodes e))
    by_early (Some r) = refl
    by_early None = looked_to_fault g (edit_walk g.nodes e)

tail_is : (k : Key) (ks js : List Key) → k ∷ ks ≡ k ∷ js → ks ≡ js
tail_is k ks js e = cc

-- so do the first of these keys
pub through_to_fault : (g : Graph) (test : Key → Bool) (ks : List Key) → up_to_fault g ks ≡ ks → up_to_fault g (through test ks) ≡ through test ks
through_to_fault g test [] e = refl
through_to_fault g test (k ∷ ks) e =
    ap (λ js. k ∷ js) (by_tests (is_seen_fault (look g k)) (test k) (tail_is k (if is_seen_fault (look g k) then [] else up_to_fault g ks) ks e) (through_to_fault g test ks))
  where
    by_tests : (x y : Bool) → (if x then [] else up_to_fault g ks) ≡ ks → (up_to_fault g ks ≡ ks → up_to_fault g (through test ks) ≡ through test ks)
        → (if x then [] else up_to_fault g (if y then [] else through test ks)) ≡ (if y then [] else through test ks)
    by_tests true true e more = refl
    by_tests true false e more = ap (through test) e
    by_tests false true e more = refl
    by_tests false false e more = more e

-- each key that is reached is there, and its table has its kind
pub reach_known : (g : Graph) (e : Edit) → list_all (knows g.nodes) (edit_reach g e) ≡ true
unfolding edit_reach
reach_known g e = by_early (early_refusal g.nodes e) refl
  where
    by_early : (o : Option EditRefusal) → early_refusal g.nodes e ≡ o → list_all (knows g.nodes) (unless_early_refused o (looked (all_slots g) (edit_walk g.nodes e))) ≡ true
    by_early (Some r) is = refl
    by_early None is = known_looked g.nodes (all_slots g) (edit_walk g.nodes e) (edit_known g.nodes e is)

-- What keys hold after edits: values of their kinds, or the faults that the file has.
use Rattle.std.proofs.Common.{◌≡◌, refl, sym, ◌∙◌, ap, subst, ℕ, Bool, true, false, List, [], ◌∷◌, Option, Some, None, Result, Ok, Err}
use Rattle.std.specs.Option.{option_or, unwrap_or}
use Rattle.std.specs.List.{fold}
use Rattle.std.specs.Map.{lookup}
use Rattle.std.specs.Result.{is_ok}
use Rattle.node_model.specs.Changes.{Changing, begun, changed_slot}
use Rattle.node_model.specs.Graph.{Graph, edit_changing, edited, graph_of, untouched}
use Rattle.node_model.specs.Immediate.{read}
use Rattle.node_model.specs.Keys.{same_key}
use Rattle.node_model.specs.Replies.{all_slots}
use Rattle.node_model.specs.Walk.{Walk, part, said}
use Rattle.node_model.specs.declared.change.Change.{Change}
use Rattle.node_model.specs.declared.edit.Edit.{Edit}
use Rattle.node_model.specs.declared.key.Key.{Key}
use Rattle.node_model.specs.declared.slot.Fault.{Fault}
use Rattle.node_model.specs.declared.slot.Slot.{Slot}
use Rattle.node_model.specs.declared.slot.Slot.TheVariants as slots
use Rattle.node_model.specs.declared.walk.Halt.{Halt}
use Rattle.node_model.specs.declared.walk.Halt.TheVariants.{Lacks, Faulty}
use Rattle.node_model.proofs.FreshLemmas.{begun_fit}
use Rattle.node_model.proofs.ReadLemmas.{is_whole, own_read}
use Rattle.node_model.proofs.StepLemmas.{came_of, edited_is, edited_refused, found_fits, sound_reach}
use Rattle.node_model.proofs.WalkLemmas.{never_lacks, part_fault}

-- a property of each key's slot, which each value of a key's kind has
abbrev Holding : (Key → Slot → Type 0) → Type 0
Holding Q = (k : Key) (s : Slot) → is_ok (part k (Some s)) ≡ true → Q k s

changed_has : (Q : Key → Slot → Type 0) → Holding Q → (change : Change) (k : Key) (s : Slot) → Q k s
    → ((x : Slot) → lookup (same_key k) change.contents ≡ Some x → is_ok (part k (Some x)) ≡ true) → Q k (unwrap_or (changed_slot change k) s)
unfolding changed_slot
changed_has Q values change k s have fits = by_slots (lookup (same_key k) change.contents) (begun change.rows k) refl refl
  where
    by_slots : (o p : Option Slot) → lookup (same_key k) change.contents ≡ o → begun change.rows k ≡ p → Q k (unwrap_or (option_or o p) s)
    by_slots (Some x) p i j = values k x (fits x i)
    by_slots None (Some x) i j = values k x (begun_fit change.rows k x j)
    by_slots None None i j = have

edit_has : (Q : Key → Slot → Type 0) → Holding Q → (g : Graph) (e : Edit) → ((k : Key) → Q k (g.held k)) → (k : Key) → Q k ((edited g e).held k)
edit_has Q values g e have k = by_changing (edit_changing g e) refl
  where
    by_changing : (c : Changing) → edit_changing g e ≡ c → Q k ((edited g e).held k)
    by_changing (Err r) is = subst (λ (x : Graph). Q k (x.held k)) (sym (edited_refused g e r is)) (have k)
    by_changing (Ok change) is =
        let sound = sound_reach g e change (came_of g e change is) in
        subst (λ (x : Graph). Q k (x.held k)) (sym (edited_is g e change is))
        (changed_has Q values change k (g.held k) (have k) (λ x found. found_fits change.contents k x sound.fit found))

-- what holds of each key's slot, and of each value of a key's kind, holds after edits
edits_have : (Q : Key → Slot → Type 0) → Holding Q → (g : Graph) (es : List Edit) → ((k : Key) → Q k (g.held k)) → (k : Key) → Q k ((fold edited g es).held k)
edits_have Q values g [] have k = have k
edits_have Q values g (e ∷ es) have k = edits_have Q values (edited g e) es (edit_has Q values g e have) k

ok_is_whole : {A : Type 0} (s : Result A Halt) → is_ok s ≡ true → is_whole s ≡ true
ok_is_whole (Ok a) e = refl
ok_is_whole (Err h) e = absurd cc

whole_is : {A : Type 0} (s : Result A Halt) (x : Key) → is_whole s ≡ true → s ≡ Err (Lacks x) → ⊥
whole_is (Ok a) x e is = cc
whole_is (Err (Faulty fault)) x e is = cc
whole_is (Err (Lacks k)) x e is = cc

-- no key holds a value of another kind
pub whole : (b : List ℕ) (j : List Edit) (k x : Key) → part k (Some ((graph_of b j).held k)) ≡ Err (Lacks x) → ⊥
whole b j k x =
    whole_is (part k (Some ((graph_of b j).held k))) x
    (edits_have (λ k s. is_whole (part k (Some s)) ≡ true) (λ k s ok. ok_is_whole (part k (Some s)) ok) (untouched b) j (λ k. (own_read b k).fits) k)

-- nothing is lacking of the graph itself
pub graph_never_lacks : {R : Type 0} (b : List ℕ) (j : List Edit) (w : Walk R) (x : Key) → said (all_slots (graph_of b j)) w ≡ Err (Lacks x) → ⊥
graph_never_lacks b j w x = never_lacks (graph_of b j).held (whole b j) w x

-- a fault is the file's, and names its key
pub faults_of_file : (b : List ℕ) (j : List Edit) (k : Key) (f : Fault) → (graph_of b j).held k ≡ slots.Fault f → (read b k ≡ slots.Fault f) × (f.key ≡ k)
faults_of_file b j k f e = (file, (own_read b k).named f file)
  where
    clash : (x : Bool) → x ≡ true → x ≡ false → ⊥
    clash x t f = cc

    no_value : (k : Key) (s : Slot) → is_ok (part k (Some s)) ≡ true → s ≡ slots.Fault f → read b k ≡ slots.Fault f
    no_value k s ok e = absurd (clash (is_ok (part k (Some s))) ok (ap (λ x. is_ok (part k (Some x))) e ∙ ap is_ok (part_fault k f)))

    file : read b k ≡ slots.Fault f
    file = edits_have (λ k s. s ≡ slots.Fault f → read b k ≡ slots.Fault f) no_value (untouched b) j (λ k e. e) k e

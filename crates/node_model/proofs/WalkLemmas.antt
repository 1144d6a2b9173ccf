-- What a walk says over some of the slots, by what it says over all.
use Rattle.std.proofs.Common.{◌≡◌, refl, ap, Bool, true, false, cond, if◌then◌else◌, not, List, [], ◌∷◌, Option, Some, None, Result, Ok, Err, find, is_some, subst}
use Rattle.std.specs.Prelude.{◌&&◌}
use Rattle.std.specs.List.{list_all}
use Rattle.node_model.specs.Walk.{Content, Walk, Gives, Asks, part, then_said, said, then_looked, looked}
use Rattle.node_model.specs.declared.walk.Halt.{Halt}
use Rattle.node_model.specs.declared.walk.Halt.TheVariants.{Lacks, Faulty}
use Rattle.node_model.specs.declared.key.Key.{Key}
use Rattle.node_model.specs.declared.key.Key.TheVariants.{Row, Sig, Owned, Linked, Body, Data, Resource, Facts}
use Rattle.node_model.specs.declared.slot.Fault.{Fault}
use Rattle.node_model.specs.declared.slot.Slot.{Slot}
use Rattle.node_model.specs.declared.slot.Slot.TheVariants as slots

-- the key that is lacking, if one is, else what was said
abbrev pub until : {R : Type 0} → Option Key → Result R Halt → Result R Halt
until (Some k) r = Err (Lacks k)
until None r = r

-- the keys up to the first that passes the test, that one included
abbrev pub through : (Key → Bool) → List Key → List Key
through test [] = []
through test (k ∷ ks) = k ∷ (if test k then [] else through test ks)

pub lacks : (k : Key) → part k None ≡ Err (Lacks k)
lacks (Row t) = refl
lacks (Sig t) = refl
lacks (Owned t n) = refl
lacks (Linked t l) = refl
lacks (Body t) = refl
lacks (Data t) = refl
lacks (Resource t) = refl
lacks Facts = refl

pub part_fault : (k : Key) (f : Fault) → part k (Some (slots.Fault f)) ≡ Err (Faulty f)
part_fault (Row t) f = refl
part_fault (Sig t) f = refl
part_fault (Owned t n) f = refl
part_fault (Linked t l) f = refl
part_fault (Body t) f = refl
part_fault (Data t) f = refl
part_fault (Resource t) f = refl
part_fault Facts f = refl

-- the slots are those of some of the keys, and say what each of these holds
abbrev pub Partial : (Key → Bool) → (Key → Slot) → (Key → Option Slot) → Type 0
Partial full g p = (k : Key) → p k ≡ (if full k then Some (g k) else None)

pub first_lacking : {R : Type 0} (full : Key → Bool) (g : Key → Slot) (p : Key → Option Slot) → Partial full g p → (w : Walk R)
    → said p w ≡ until (find (λ k. not (full k)) (looked (λ k. Some (g k)) w)) (said (λ k. Some (g k)) w)
first_lacking full g p is (Gives r) = refl
first_lacking full g p is (Asks k f) = rw (is k) (by_full (λ v. first_lacking full g p is (f v)) (full k))
  where
    by_part : ((v : Content k) → said p (f v) ≡ until (find (λ k. not (full k)) (looked (λ k. Some (g k)) (f v))) (said (λ k. Some (g k)) (f v))) → (s : Result (Content k) Halt)
        → then_said s (λ v. said p (f v)) ≡ until (find (λ k. not (full k)) (then_looked s (λ v. looked (λ k. Some (g k)) (f v)))) (then_said s (λ v. said (λ k. Some (g k)) (f v)))
    by_part rest (Ok v) = rest v
    by_part rest (Err e) = refl

    by_full : ((v : Content k) → said p (f v) ≡ until (find (λ k. not (full k)) (looked (λ k. Some (g k)) (f v))) (said (λ k. Some (g k)) (f v))) → (x : Bool)
        → then_said (part k (if x then Some (g k) else None)) (λ v. said p (f v))
        ≡ until (cond (not x) (Some k) (find (λ k. not (full k)) (then_looked (part k (Some (g k))) (λ v. looked (λ k. Some (g k)) (f v)))))
        (then_said (part k (Some (g k))) (λ v. said (λ k. Some (g k)) (f v)))
    by_full rest true = by_part rest (part k (Some (g k)))
    by_full rest false = rw (lacks k) refl

pub looked_through : {R : Type 0} (full : Key → Bool) (g : Key → Slot) (p : Key → Option Slot) → Partial full g p → (w : Walk R)
    → looked p w ≡ through (λ k. not (full k)) (looked (λ k. Some (g k)) w)
looked_through full g p is (Gives r) = refl
looked_through full g p is (Asks k f) = rw (is k) (ap (λ ks. k ∷ ks) (by_full (λ v. looked_through full g p is (f v)) (full k)))
  where
    by_part : ((v : Content k) → looked p (f v) ≡ through (λ k. not (full k)) (looked (λ k. Some (g k)) (f v))) → (s : Result (Content k) Halt)
        → then_looked s (λ v. looked p (f v)) ≡ through (λ k. not (full k)) (then_looked s (λ v. looked (λ k. Some (g k)) (f v)))
    by_part rest (Ok v) = rest v
    by_part rest (Err e) = refl

    by_full : ((v : Content k) → looked p (f v) ≡ through (λ k. not (full k)) (looked (λ k. Some (g k)) (f v))) → (x : Bool)
        → then_looked (part k (if x then Some (g k) else None)) (λ v. looked p (f v))
        ≡ (if (not x) then [] else through (λ k. not (full k)) (then_looked (part k (Some (g k))) (λ v. looked (λ k. Some (g k)) (f v))))
    by_full rest true = by_part rest (part k (Some (g k)))
    by_full rest false = rw (lacks k) refl

-- where something is said, each key that was looked at has a slot
pub said_full : {R : Type 0} (p : Key → Option Slot) (w : Walk R) (r : R) → said p w ≡ Ok r → list_all (λ k. is_some (p k)) (looked p w) ≡ true
said_full p (Gives x) r e = refl
said_full p (Asks k f) r e = by_slot (p k) e (λ v. said_full p (f v) r)
  where
    lacking : Err (Lacks k) ≡ Ok r → ⊥
    lacking e = cc

    by_part : (s : Result (Content k) Halt) → then_said s (λ v. said p (f v)) ≡ Ok r → ((v : Content k) → said p (f v) ≡ Ok r → list_all (λ k. is_some (p k)) (looked p (f v)) ≡ true)
        → list_all (λ k. is_some (p k)) (then_looked s (λ v. looked p (f v))) ≡ true
    by_part (Ok v) e rest = rest v e
    by_part (Err h) e rest = absurd cc

    by_slot : (o : Option Slot) → then_said (part k o) (λ v. said p (f v)) ≡ Ok r → ((v : Content k) → said p (f v) ≡ Ok r → list_all (λ k. is_some (p k)) (looked p (f v)) ≡ true)
        → (is_some o && list_all (λ k. is_some (p k)) (then_looked (part k o) (λ v. looked p (f v)))) ≡ true
    by_slot (Some s) e rest = by_part (part k (Some s)) e rest
    by_slot None e rest = absurd (lacking (subst (λ s. then_said s (λ v. said p (f v)) ≡ Ok r) (lacks k) e))

-- nothing is lacking where each slot is of its key's kind: a walk says something, or ends with a fault
pub never_lacks : {R : Type 0} (g : Key → Slot) → ((k x : Key) → part k (Some (g k)) ≡ Err (Lacks x) → ⊥) → (w : Walk R) (x : Key)
    → said (λ k. Some (g k)) w ≡ Err (Lacks x) → ⊥
never_lacks g whole (Gives r) x e = cc
never_lacks g whole (Asks k f) x e = by_part (part k (Some (g k))) (whole k x) e (λ v. never_lacks g whole (f v) x)
  where
    by_part : (s : Result (Content k) Halt) → (s ≡ Err (Lacks x) → ⊥) → then_said s (λ v. said (λ k. Some (g k)) (f v)) ≡ Err (Lacks x)
        → ((v : Content k) → said (λ k. Some (g k)) (f v) ≡ Err (Lacks x) → ⊥) → ⊥
    by_part (Ok v) whole e rest = rest v e
    by_part (Err h) whole e rest =
        let same : h ≡ Lacks x = cc in
        whole (ap Err same)

-- Looking at keys, one after the other, where the next may depend on what the last one held; and then saying something.
-- One walk is read in several ways: what it says, which keys it looked at, and at which key it stops for want of a
-- slot.
use Rattle.std.specs.Prelude.{ℕ, List, [], ◌∷◌, Option, Some, Result, Ok, Err}
use Rattle.cil_base.specs.Token.{Token}
use Rattle.pe_image.specs.declared.facts.Facts.{Facts as FactsOf}
use Rattle.sig_tree.specs.declared.tree.SigTree.{SigTree}
use Rattle.node_model.specs.declared.key.Key.{Key}
use Rattle.node_model.specs.declared.key.Key.TheVariants.{Row, Sig, Owned, Linked, Body, Data, Resource, Facts}
use Rattle.node_model.specs.declared.slot.Slot.{Slot}
use Rattle.node_model.specs.declared.slot.Slot.TheVariants as slots
use Rattle.node_model.specs.declared.value.BodyValue.{BodyValue}
use Rattle.node_model.specs.declared.value.ResourceValue.{ResourceValue}
use Rattle.node_model.specs.declared.value.RowValue.{RowValue}
use Rattle.node_model.specs.declared.value.Value.TheVariants as values
use Rattle.node_model.specs.declared.walk.Halt.{Halt}
use Rattle.node_model.specs.declared.walk.Halt.TheVariants.{Lacks, Faulty}

-- what a key holds where it is not at fault
abbrev pub Content : Key → Type 0
Content (Row t) = RowValue
Content (Sig t) = SigTree
Content (Owned t n) = List Token
Content (Linked t l) = List Token
Content (Body t) = BodyValue
Content (Data t) = List ℕ
Content (Resource t) = ResourceValue
Content Facts = FactsOf

-- what a slot says of its key; a slot of another kind counts as none
abbrev pub part : (k : Key) → Option Slot → Result (Content k) Halt
part (Row t) (Some (slots.Value (values.Row row))) = Ok row
part (Sig t) (Some (slots.Value (values.Sig sig))) = Ok sig
part (Owned t n) (Some (slots.Value (values.Tokens tokens))) = Ok tokens
part (Linked t l) (Some (slots.Value (values.Tokens tokens))) = Ok tokens
part (Body t) (Some (slots.Value (values.Body body))) = Ok body
part (Data t) (Some (slots.Value (values.Data bytes))) = Ok bytes
part (Resource t) (Some (slots.Value (values.Resource value))) = Ok value
part Facts (Some (slots.Value (values.Facts facts))) = Ok facts
part k (Some (slots.Fault fault)) = Err (Faulty fault)
part k _ = Err (Lacks k)

pub data Walk (R : Type 0) : Type 0 where
  Gives : R → Walk R
  Asks : (k : Key) → (Content k → Walk R) → Walk R

abbrev pub then_said : {A R : Type 0} → Result A Halt → (A → Result R Halt) → Result R Halt
then_said (Ok a) f = f a
then_said (Err e) f = Err e

-- what is said, by the slots that there are
abbrev pub said : {R : Type 0} → (Key → Option Slot) → Walk R → Result R Halt
said p (Gives r) = Ok r
said p (Asks k f) = then_said (part k (p k)) (λ v. said p (f v))

abbrev pub then_looked : {A : Type 0} → Result A Halt → (A → List Key) → List Key
then_looked (Ok a) f = f a
then_looked (Err e) f = []

-- the keys that are looked at, up to the first that ends it, that one included
abbrev pub looked : {R : Type 0} → (Key → Option Slot) → Walk R → List Key
looked p (Gives r) = []
looked p (Asks k f) = k ∷ then_looked (part k (p k)) (λ v. looked p (f v))

-- one walk, and then another by what it gave
abbrev pub then_walk : {A R : Type 0} → Walk A → (A → Walk R) → Walk R
then_walk (Gives a) f = f a
then_walk (Asks k g) f = Asks k (λ v. then_walk (g v) f)

-- a walk for each of these, one after the other, with what they gave
abbrev pub each_walk : {A R : Type 0} → (A → Walk R) → List A → Walk (List R)
each_walk f [] = Gives []
each_walk f (x ∷ xs) = then_walk (f x) (λ r. then_walk (each_walk f xs) (λ rs. Gives (r ∷ rs)))

-- What a query looks at does not go by the number of keys that were filled.
use Rattle.std.proofs.Common.{◌≡◌, refl, ℕ, Option}
use Rattle.node_model.specs.Nodes.{Nodes}
use Rattle.node_model.specs.Questions.{query_walk}
use Rattle.node_model.specs.Walk.{looked}
use Rattle.node_model.specs.declared.key.Key.{Key}
use Rattle.node_model.specs.declared.query.Query.{Query}
use Rattle.node_model.specs.declared.query.Query.TheVariants.{Row, Sig, Members, Links, Body, Data, Resource, Facts}
use Rattle.node_model.specs.declared.query.Query.TheVariants.{Name, TypeInfo, Method, FindType, FindMember, Filled}
use Rattle.node_model.specs.declared.slot.Slot.{Slot}

pub looked_same : (n : Nodes) (p : Key → Option Slot) (fills : ℕ) (q : Query) → looked p (query_walk n 0 q) ≡ looked p (query_walk n fills q)
unfolding query_walk
looked_same n p fills (Row t) = refl
looked_same n p fills (Sig t) = refl
looked_same n p fills (Members t table) = refl
looked_same n p fills (Links t l) = refl
looked_same n p fills (Body t) = refl
looked_same n p fills (Data t) = refl
looked_same n p fills (Resource t) = refl
looked_same n p fills Facts = refl
looked_same n p fills (Name t) = refl
looked_same n p fills (TypeInfo t) = refl
looked_same n p fills (Method t) = refl
looked_same n p fills (FindType namespace name) = refl
looked_same n p fills (FindMember of table name sig) = refl
looked_same n p fills Filled = refl

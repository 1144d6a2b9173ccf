-- How a `List` stores its items, so that a type may hold itself through one. Its fields are one `Vec`, its value the list of items.
use mathlib.Core.Path.{◌≡◌, refl, sym}
use mathlib.Core.List.{List, []}
use mathlib.Core.Former.{Former, this, list, via, children}
use base.Stored.{code_map}
use denote.RattleType.{RattleType}
use denote.HoleLaws.{Alike}
use denote.HolePlaces.{Recodes, struct_places, laid}
use denote.Hole.Carrier.{listed, list-listed}
use denote.Hole.Fix.{over}
use denote.Param.Weighed.{Weighed, w_list}
use denote.Model.Placed.{view_places}
use Rattle.std.specs.formers.vec.Vec as vec
use Rattle.std.specs.declared.alloc.Global.{Global}
use Rattle.std.specs.contracts.alloc.Global as global
use Rattle.std.specs.contracts.impls.GlobalAllocator.TheImpl.{ghosts}
use Rattle.cil_base.specs.declared.list.List.TheInside.{Inside}
use Rattle.cil_base.specs.declared.list.List.TheView.{view, invariant}
use Rattle.cil_base.specs.contracts.list.List as outer
use Rattle.cil_base.specs.contracts.list.List.TheInside as inner

-- a value is a list of what its items are
abbrev pub the_former : Former {0} → Former {0}
the_former item = list item

abbrev pub the_weighed : {item : Former {0}} → Weighed item → Weighed (the_former item)
the_weighed weighed = w_list weighed

pub the_empty : List ⊥
the_empty = []

abbrev pub the_items : (X : Type 0) → List X → List X
the_items X items = items

pub the_items_listed : (X : Type 0) (items : List X) → listed _ (children (the_former this) X items) ≡ the_items X items
the_items_listed X items = list-listed X items

-- the fields hold what the vector holds
abbrev stored : Former {0}
stored =
    via (vec.the_former this Global) Inside (λ X fields. fields.items) (λ X vector. record { items = vector })
    (λ X fields. refl) (λ X vector. refl)

module _ (From To : RattleType) (f : From.Denot → To.Denot) where
  -- the fields at both item types lie alike where the items do
  fields_alike : Alike From To f → Alike (inner.the_row From) (inner.the_row To) (stored.map From.Denot To.Denot f)
  fields_alike alike =
      struct_places (inner.the_type From) (inner.the_type To) (vec.mapped f, tt) _ (λ d. refl) refl
      (laid _ _ _ (vec.the_places global.the_row ghosts From To f alike), tt)

  pub the_places : Alike From To f → Alike (outer.the_row From) (outer.the_row To) ((the_former this).map From.Denot To.Denot f)
  the_places alike =
      view_places stored (list this) view (λ X Y k u. refl) (λ X u. refl) From.Denot To.Denot f
      (outer.the_row From).coded (outer.the_row To).coded (invariant From.Denot) (invariant To.Denot)
      (λ u p q. refl) (λ u p q. refl) (λ u e. tt) (λ u e. tt)
      (over (inner.the_row From)) (over (inner.the_row To)) (fields_alike alike)

  pub the_codes_placed : Recodes From To f → Recodes (outer.the_row From) (outer.the_row To) ((the_former this).map From.Denot To.Denot f)
  the_codes_placed recodes items = sym (code_map From.coded.code To.coded.code f (λ x. sym (recodes x)) items)

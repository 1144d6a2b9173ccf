-- How a `Boxed` stores its one value, so that a type may hold itself through one. Its value is the value in the box.
use mathlib.Core.Path.{refl}
use mathlib.Core.Former.{Former, this, const, pair, via}
use base.Stored.{gnil}
use base.Fml.{ftrue}
use denote.RattleType.{RattleType}
use denote.Memory.{part_of}
use denote.RawPtr.{Ptr}
use denote.Sharing.{nothing}
use denote.HoleLaws.{Alike}
use denote.HolePlaces.{Recodes, struct_places, laid, one_value}
use denote.Hole.Fix.{over}
use denote.Param.Weighed.{Weighed}
use denote.Model.Placed.{view_places}
use Rattle.std.specs.declared.boxed.Box.{Box}
use Rattle.std.specs.contracts.boxed.Box as std_box
use Rattle.std.specs.declared.alloc.Global.{Global}
use Rattle.std.specs.contracts.alloc.Global as global
use Rattle.std.specs.contracts.impls.GlobalAllocator.TheImpl.{ghosts}
use Rattle.cil_base.specs.declared.boxed.Boxed.TheInside.{Inside}
use Rattle.cil_base.specs.declared.boxed.Boxed.TheView.{view, invariant}
use Rattle.cil_base.specs.contracts.boxed.Boxed as outer
use Rattle.cil_base.specs.contracts.boxed.Boxed.TheInside as inner

-- a value is just what it holds
abbrev pub the_former : Former {0} → Former {0}
the_former held = held

abbrev pub the_weighed : {held : Former {0}} → Weighed held → Weighed (the_former held)
the_weighed weighed = weighed

-- the fields are a pointer, an allocator and the value
abbrev stored : Former {0}
stored =
    via (pair (const (Ptr × Global)) this) Inside (λ X fields. ((fields.value.ptr, fields.value.alloc), fields.value.value))
    (λ X parts. record { value = record { ptr = parts.0.0; alloc = parts.0.1; value = parts.1 } })
    (λ X fields. refl) (λ X parts. refl)

-- the same box round another value
abbrev holding : {X Y : Type 0} → Box X Global → Y → Box Y Global
holding box y = record { ptr = box.ptr; alloc = box.alloc; value = y }

abbrev box_of : RattleType → RattleType
box_of R = std_box.the_row R global.the_row ghosts

module _ (From To : RattleType) (f : From.Denot → To.Denot) where
  boxes_alike : Alike From To f → Alike (box_of From) (box_of To) (λ box. holding box (f box.value))
  unfolding part_of
  boxes_alike alike = record {
    mir_same = λ i. (box_of (one_value From (alike.mir_same i) (λ _. ftrue) (λ _ _. nothing) gnil)).mir;
    own_same = λ box i. (box_of (one_value From (alike.mir_same i) (alike.own_same box.value i) (alike.shr_same box.value i) gnil)).own_val (holding box tt);
    shr_same = λ box i. (box_of (one_value From (alike.mir_same i) (alike.own_same box.value i) (alike.shr_same box.value i) gnil)).shr_at (holding box tt);
  }

  pub the_places : Alike From To f → Alike (outer.the_row From) (outer.the_row To) ((the_former this).map From.Denot To.Denot f)
  the_places alike =
      view_places stored this view (λ X Y k u. refl) (λ X u. refl) From.Denot To.Denot f
      (outer.the_row From).coded (outer.the_row To).coded (invariant From.Denot) (invariant To.Denot)
      (λ u p q. refl) (λ u p q. refl) (λ u e. tt) (λ u e. tt)
      (over (inner.the_row From)) (over (inner.the_row To))
      (struct_places (inner.the_type From) (inner.the_type To) ((λ box. holding box (f box.value)), tt) _ (λ d. refl) refl (laid _ _ _ (boxes_alike alike), tt))

  pub the_codes_placed : Recodes From To f → Recodes (outer.the_row From) (outer.the_row To) ((the_former this).map From.Denot To.Denot f)
  the_codes_placed recodes value = recodes value

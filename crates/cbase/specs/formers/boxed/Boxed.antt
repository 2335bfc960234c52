-- How a `Boxed` holds its value, for types that lead back to themselves through one: it is the value, and its
-- shape says nothing.
use mathlib.Core.Path.{refl}
use mathlib.Core.Former.{Former, this, const, pair, via}
use base.Stored.{gnil}
use base.Fml.{ftrue}
use denote.RattleType.{RattleType}
use denote.Memory.{part_of}
use denote.RawPtr.{Ptr}
use denote.Sharing.{nothing}
use denote.HoleLaws.{Alike}
use denote.HolePlaces.{Recodes, struct_places, laid, one_value}
use denote.Hole.Fix.{over}
use denote.Param.Weighed.{Weighed}
use denote.Model.Placed.{view_places}
use Rattle.std.specs.declared.alloc.Global.{Global}
use Rattle.std.specs.declared.boxed.Box.{Box}
use Rattle.std.specs.contracts.alloc.Global as heap
use Rattle.std.specs.contracts.boxed.Box as box
use Rattle.std.specs.contracts.impls.GlobalAllocator.TheImpl.{ghosts}
use Rattle.cbase.specs.declared.boxed.Boxed.TheInside.{Inside}
use Rattle.cbase.specs.declared.boxed.Boxed.TheView.{view, invariant}
use Rattle.cbase.specs.contracts.boxed.Boxed as outer
use Rattle.cbase.specs.contracts.boxed.Boxed.TheInside as fields

-- the value is whatever stands in the hole
abbrev pub the_former : Former {0} → Former {0}
the_former former = former

abbrev pub the_weighed : {former : Former {0}} → Weighed former → Weighed (the_former former)
the_weighed weighed = weighed

-- the one field, a box: a pointer with its allocator, and the value
abbrev box_former : Former {0}
box_former = via (pair (const (Ptr × Global)) this) Inside (λ Item inside. ((inside.inner.ptr, inside.inner.alloc), inside.inner.value))
    (λ Item parts. record { inner = record { ptr = parts.0.0; alloc = parts.0.1; value = parts.1 } }) (λ Item inside. refl) (λ Item parts. refl)

abbrev replaced : {Old New : Type 0} → Box Old Global → New → Box New Global
replaced boxed value = record { ptr = boxed.ptr; alloc = boxed.alloc; value = value }

abbrev box_of : RattleType → RattleType
box_of Item = box.the_row Item heap.the_row ghosts

module _ (From To : RattleType) (along : From.Denot → To.Denot) where
  box_places : Alike From To along → Alike (box_of From) (box_of To) (λ boxed. replaced boxed (along boxed.value))
  unfolding part_of
  box_places alike = record {
    mir_same = λ i. (box_of (one_value From (alike.mir_same i) (λ _. ftrue) (λ _ _. nothing) gnil)).mir;
    own_same = λ boxed i. (box_of (one_value From (alike.mir_same i) (alike.own_same boxed.value i) (alike.shr_same boxed.value i) gnil)).own_val (replaced boxed tt);
    shr_same = λ boxed i. (box_of (one_value From (alike.mir_same i) (alike.own_same boxed.value i) (alike.shr_same boxed.value i) gnil)).shr_at (replaced boxed tt);
  }

  pub the_places : Alike From To along → Alike (outer.the_row From) (outer.the_row To) ((the_former this).map From.Denot To.Denot along)
  the_places alike = view_places box_former this view (λ X Y k u. refl) (λ X u. refl) From.Denot To.Denot along
      (outer.the_row From).coded (outer.the_row To).coded (invariant From.Denot) (invariant To.Denot)
      (λ u p q. refl) (λ u p q. refl) (λ u e. tt) (λ u e. tt) (over (fields.the_row From)) (over (fields.the_row To))
      (struct_places (fields.the_type From) (fields.the_type To) ((λ boxed. replaced boxed (along boxed.value)), tt) _ (λ d. refl) refl (laid _ _ _ (box_places alike), tt))

  pub the_codes_placed : Recodes From To along → Recodes (outer.the_row From) (outer.the_row To) ((the_former this).map From.Denot To.Denot along)
  the_codes_placed recodes item = recodes item

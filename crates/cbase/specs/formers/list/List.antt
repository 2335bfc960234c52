-- How a `List` holds its items, for types that lead back to themselves through one: it is the list of
-- them, and its shape is their number alone.
use mathlib.Core.Path.{◌≡◌, refl, sym}
use mathlib.Core.List.{List, []}
use mathlib.Core.Former.{Former, this, list, via, children}
use base.Stored.{code_map}
use denote.RattleType.{RattleType}
use denote.HoleLaws.{Alike}
use denote.HolePlaces.{Recodes, struct_places, laid}
use denote.Hole.Carrier.{listed, list-listed}
use denote.Hole.Fix.{over}
use denote.Param.Weighed.{Weighed, w_list}
use denote.Model.Placed.{view_places}
use Rattle.std.specs.declared.alloc.Global.{Global}
use Rattle.std.specs.formers.vec.Vec as vec
use Rattle.std.specs.contracts.alloc.Global as heap
use Rattle.std.specs.contracts.impls.GlobalAllocator.TheImpl.{ghosts}
use Rattle.cbase.specs.declared.list.List.TheInside.{Inside}
use Rattle.cbase.specs.declared.list.List.TheView.{view, invariant}
use Rattle.cbase.specs.contracts.list.List as outer
use Rattle.cbase.specs.contracts.list.List.TheInside as fields

-- the items are a list of whatever stands in the hole
abbrev pub the_former : Former {0} → Former {0}
the_former former = list former

abbrev pub the_weighed : {former : Former {0}} → Weighed former → Weighed (the_former former)
the_weighed weighed = w_list weighed

-- the empty list needs no item
pub the_empty : List ⊥
the_empty = []

abbrev pub the_items : (Item : Type 0) → List Item → List Item
the_items Item items = items

pub the_items_listed : (Item : Type 0) (items : List Item) → listed _ (children (the_former this) Item items) ≡ the_items Item items
the_items_listed Item items = list-listed Item items

-- the one field, a vector, as a former
abbrev vector_former : Former {0}
vector_former = via (vec.the_former this Global) Inside (λ Item inside. inside.items) (λ Item vector. record { items = vector }) (λ Item inside. refl) (λ Item vector. refl)

module _ (From To : RattleType) (along : From.Denot → To.Denot) where
  pub the_places : Alike From To along → Alike (outer.the_row From) (outer.the_row To) ((the_former this).map From.Denot To.Denot along)
  the_places alike = view_places vector_former (list this) view (λ X Y k u. refl) (λ X u. refl) From.Denot To.Denot along
      (outer.the_row From).coded (outer.the_row To).coded (invariant From.Denot) (invariant To.Denot)
      (λ u p q. refl) (λ u p q. refl) (λ u e. tt) (λ u e. tt) (over (fields.the_row From)) (over (fields.the_row To))
      (struct_places (fields.the_type From) (fields.the_type To) (vec.mapped along, tt) _ (λ d. refl) refl (laid _ _ _ (vec.the_places heap.the_row ghosts From To along alike), tt))

  pub the_codes_placed : Recodes From To along → Recodes (outer.the_row From) (outer.the_row To) ((the_former this).map From.Denot To.Denot along)
  the_codes_placed recodes items = sym (code_map From.coded.code To.coded.code along (λ item. sym (recodes item)) items)

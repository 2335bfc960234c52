-- Two neighbours are of one size, and their links lie inside.
use Rattle.std.proofs.Common.{◌≡◌, ℕ, ◌+◌, ◌<◌, ◌≤◌, Bool, true, false, ◌&&◌, ◌||◌, not, length, nat_eq, nat_le, nat_lt, Option, Some, refl, sym, ◌∙◌, ap, subst, eqb-true, leb-true, ltb-true}
use Rattle.bytes_core.specs.Release.{is_heap}
use Rattle.fold.specs.declared.fold.Fold.{Fold}
use Rattle.graph.specs.declared.object.Object.{Object}
use Rattle.graph.specs.declared.parts.KeyedObject.{KeyedObject}
use Rattle.graph.specs.declared.parts.Parts.{Parts}
use Rattle.graph.specs.Maps.{object_at}
use Rattle.graph.specs.Nodes.{node_of}
use Rattle.graph.specs.WellFormed.{has_class_a_byte}
use Rattle.graph.specs.Whole.{IsGraph}
use Rattle.graph.proofs.Found.{found-all}
use Rattle.graph.proofs.Tests.{and_left, and_right}
use Rattle.fold.specs.Foldable.{are_linked, is_inside, may_be_neighbours, are_neighbours, neighbours_at, has_neighbours}
use Rattle.fold.specs.Holders.{is_one_free}
use Rattle.fold.specs.Linked.{has_places, is_list}
use Rattle.fold.specs.Standing.{others, are_met}

pub either_true : (a b : Bool) → (not a || b) ≡ true → a ≡ true → b ≡ true
either_true true b is yes' = is
either_true false b is yes' = absurd (let e : false ≡ true = yes' in false-true e)
  where
    false-true : false ≡ true → ⊥
    false-true same = subst (λ (b : Bool). elim b as (λ (x : Bool). Type 0) [ true ↦ ⊥ | false ↦ Unit {0} ]) same tt

-- what is asked of two objects that are neighbours
module _ (parts : Parts) (fold : Fold) (one other : Object) (are : are_neighbours parts fold one other ≡ true) where
  of_list : may_be_neighbours fold one other ≡ true
  of_list = and_left (may_be_neighbours fold one other) _ are

  behind_differ : (is_list fold one && (is_list fold other && (nat_eq one.size other.size && is_inside fold one.size))) ≡ true
  behind_differ = and_right (not (nat_eq fold.first fold.second)) _ of_list

  pub differ : nat_eq fold.first fold.second ≡ false
  differ = turned (nat_eq fold.first fold.second) (and_left (not (nat_eq fold.first fold.second)) _ of_list)
    where
      turned : (b : Bool) → not b ≡ true → b ≡ false
      turned true is = sym is
      turned false is = refl

  pub first_list : is_list fold one ≡ true
  first_list = and_left (is_list fold one) _ behind_differ

  behind_first : (is_list fold other && (nat_eq one.size other.size && is_inside fold one.size)) ≡ true
  behind_first = and_right (is_list fold one) _ behind_differ

  pub second_list : is_list fold other ≡ true
  second_list = and_left (is_list fold other) _ behind_first

  behind_second : (nat_eq one.size other.size && is_inside fold one.size) ≡ true
  behind_second = and_right (is_list fold other) _ behind_first

  pub sizes : one.size ≡ other.size
  sizes = eqb-true _ _ (and_left (nat_eq one.size other.size) _ behind_second)

  pub inside : is_inside fold one.size ≡ true
  inside = and_right (nat_eq one.size other.size) _ behind_second

  behind_head : (nat_le (fold.next + 8) one.size && (not fold.twofold || nat_le (fold.prev + 8) one.size)) ≡ true
  behind_head = and_right (nat_lt fold.head one.size) _ inside

  pub head_inside : fold.head < one.size
  head_inside = ltb-true _ _ (and_left (nat_lt fold.head one.size) _ inside)

  pub next_inside : fold.next + 8 ≤ one.size
  next_inside = leb-true _ _ (and_left (nat_le (fold.next + 8) one.size) _ behind_head)

  pub prev_inside : fold.twofold ≡ true → fold.prev + 8 ≤ one.size
  prev_inside twofold = leb-true _ _ (either_true fold.twofold (nat_le (fold.prev + 8) one.size) (and_right (nat_le (fold.next + 8) one.size) _ behind_head) twofold)

  rest : (are_linked parts fold one other && (are_met parts fold (others fold (node_of one).edges) (others fold (node_of other).edges) && is_one_free parts fold one other)) ≡ true
  rest = and_right (may_be_neighbours fold one other) _ are

  pub linked : are_linked parts fold one other ≡ true
  linked = and_left (are_linked parts fold one other) _ rest

  pub met : are_met parts fold (others fold (node_of one).edges) (others fold (node_of other).edges) ≡ true
  met = and_left (are_met parts fold (others fold (node_of one).edges) (others fold (node_of other).edges)) (is_one_free parts fold one other)
      (and_right (are_linked parts fold one other) _ rest)

  pub one_live : one.live ≡ true
  one_live = and_left one.live _ first_list

  pub other_live : other.live ≡ true
  other_live = and_left other.live _ second_list

  pub one_heap : is_heap one.kind ≡ true
  one_heap = and_left (is_heap one.kind) _ (and_right one.live _ first_list)

  pub other_heap : is_heap other.kind ≡ true
  other_heap = and_left (is_heap other.kind) _ (and_right other.live _ second_list)

  pub one_places : has_places fold one.shape ≡ true
  one_places = and_right (is_heap one.kind) (has_places fold one.shape) (and_right one.live _ first_list)

  pub other_places : has_places fold other.shape ≡ true
  other_places = and_right (is_heap other.kind) (has_places fold other.shape) (and_right other.live _ second_list)

pub plane_long : (parts : Parts) → IsGraph parts → (key : ℕ) (object : Object) → object_at parts.objects key ≡ Some object → object.live ≡ true → length (node_of object).plane ≡ object.size
plane_long parts graph key object stands live =
    eqb-true _ _
    (either_true object.live (nat_eq (length (node_of object).plane) object.size)
    (found-all (λ (entry : KeyedObject). entry.key) (λ entry. entry.object) has_class_a_byte parts.objects key object graph.well_formed.planes_are_as_long stands) live)

module _ (parts : Parts) (graph : IsGraph parts) (fold : Fold) (one other : Object) (first : object_at parts.objects fold.first ≡ Some one) (second : object_at parts.objects fold.second ≡ Some other)
    (are : are_neighbours parts fold one other ≡ true) where
  pub one_long : length (node_of one).plane ≡ one.size
  one_long = plane_long parts graph fold.first one first (one_live parts fold one other are)

  pub other_long : length (node_of other).plane ≡ one.size
  other_long = plane_long parts graph fold.second other second (other_live parts fold one other are) ∙ sym (sizes parts fold one other are)

  pub planes_same : length (node_of one).plane ≡ length (node_of other).plane
  planes_same = one_long ∙ sym other_long

  pub next_room : fold.next + 8 ≤ length (node_of one).plane
  next_room = subst (λ (n : ℕ). fold.next + 8 ≤ n) (sym one_long) (next_inside parts fold one other are)

  pub prev_room : fold.twofold ≡ true → fold.prev + 8 ≤ length (node_of one).plane
  prev_room twofold = subst (λ (n : ℕ). fold.prev + 8 ≤ n) (sym one_long) (prev_inside parts fold one other are twofold)

pub neighbours_there : (parts : Parts) (fold : Fold) (one other : Object) → object_at parts.objects fold.first ≡ Some one → object_at parts.objects fold.second ≡ Some other → has_neighbours parts fold ≡ true →
    are_neighbours parts fold one other ≡ true
neighbours_there parts fold one other first second has =
    sym (ap (λ (o : Option Object). neighbours_at parts fold o (object_at parts.objects fold.second)) first ∙ ap (neighbours_at parts fold (Some one)) second) ∙ has

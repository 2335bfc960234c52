-- Two neighbours that are there, and what is folded of them.
use Rattle.std.proofs.Common.{◌≡◌, ℕ, true, ◌&&◌, ◌||◌, not, ◌∷◌, length, Option, None, Some, refl, sym, ◌∙◌, ap, subst}
use Rattle.std.specs.Prelude.{is_some}
use Rattle.std.proofs.lemmas.Bool.{false≢true}
use Rattle.fold.specs.declared.fold.Fold.{Fold}
use Rattle.graph.specs.declared.object.Object.{Object}
use Rattle.graph.specs.declared.parts.Parts.{Parts}
use Rattle.graph.specs.Maps.{object_at}
use Rattle.graph.specs.WellFormed.{HasAscendingKeys}
use Rattle.graph.specs.Whole.{IsGraph}
use Rattle.graph.proofs.Tests.{and_left, and_right}
use Rattle.fold.specs.Foldable.{link_passes, are_neighbours, neighbours_at, has_neighbours}
use Rattle.graph.specs.declared.value.Value.TheVariants.{Const}
use Rattle.graph.specs.Nodes.{node_of}
use Rattle.fold.specs.Standing.{others}
use Rattle.fold.specs.Folded.{own_addresses, joined_object, stands_in, folded_by, folded_links, folded_two, folded}
use Rattle.fold.specs.Linked.{onward, backward, leads_on, leads_back}
use Rattle.fold.proofs.Ascending.{objects_ascend, values_ascend}
use Rattle.fold.proofs.Rooms.{either_true, linked}

pub record IsCase (parts : Parts) (fold : Fold) : Type 0 where
  pub one : Object
  pub other : Object
  pub next_value : ℕ
  pub prev_value : ℕ
  pub first : object_at parts.objects fold.first ≡ Some one
  pub second : object_at parts.objects fold.second ≡ Some other
  pub are : are_neighbours parts fold one other ≡ true
  pub onward_is : onward (length parts.values) fold other ≡ Some next_value
  pub backward_is : backward (length parts.values) fold one ≡ Some prev_value
  -- the links between the two
  pub on : link_passes parts (leads_on fold.second fold.head) (onward (length parts.values) fold one) ≡ true
  pub back : fold.twofold ≡ true → link_passes parts (leads_back fold.first fold.back) (backward (length parts.values) fold other) ≡ true

some_of : {A : Type 0} (found : Option A) → is_some found ≡ true → (item : A) × (found ≡ Some item)
some_of None is = absurd (false≢true is)
some_of (Some item) is = (item, refl)

pub case_of : (parts : Parts) (fold : Fold) → has_neighbours parts fold ≡ true → IsCase parts fold
case_of parts fold has = by_found (object_at parts.objects fold.first) refl (object_at parts.objects fold.second) refl has
  where
    by_found : (a : Option Object) → object_at parts.objects fold.first ≡ a → (b : Option Object) → object_at parts.objects fold.second ≡ b → neighbours_at parts fold a b ≡ true → IsCase parts fold
    by_found None first b second is = absurd (false≢true is)
    by_found (Some one) first None second is = absurd (false≢true is)
    by_found (Some one) first (Some other) second is =
        let all = linked parts fold one other is in
        let on = and_left (link_passes parts (leads_on fold.second fold.head) (onward (length parts.values) fold one)) _ all in
        let rest = and_right (link_passes parts (leads_on fold.second fold.head) (onward (length parts.values) fold one)) _ all in
        let ends = and_right (not fold.twofold || link_passes parts (leads_back fold.first fold.back) (backward (length parts.values) fold other))
        (is_some (onward (length parts.values) fold other) && is_some (backward (length parts.values) fold one)) rest in
        let next = some_of (onward (length parts.values) fold other) (and_left (is_some (onward (length parts.values) fold other)) (is_some (backward (length parts.values) fold one)) ends) in
        let prev = some_of (backward (length parts.values) fold one) (and_right (is_some (onward (length parts.values) fold other)) (is_some (backward (length parts.values) fold one)) ends) in
        record {
          one = one;
          other = other;
          next_value = next.0;
          prev_value = prev.0;
          first = first;
          second = second;
          are = is;
          onward_is = next.1;
          backward_is = prev.1;
          on = on;
          back = either_true fold.twofold (link_passes parts (leads_back fold.first fold.back) (backward (length parts.values) fold other))
              (and_left (not fold.twofold || link_passes parts (leads_back fold.first fold.back) (backward (length parts.values) fold other)) _ rest);
        }

pub folded_is : (parts : Parts) (fold : Fold) (case : IsCase parts fold) → folded fold parts ≡ folded_by parts fold case.one case.other case.next_value case.prev_value
folded_is parts fold case =
    ap (λ (o : Option Object). folded_two parts fold o (object_at parts.objects fold.second)) case.first
    ∙ ap (folded_two parts fold (Some case.one)) case.second
    ∙ ap (λ (o : Option ℕ). folded_links parts fold case.one case.other o (backward (length parts.values) fold case.one)) case.onward_is
    ∙ ap (folded_links parts fold case.one case.other (Some case.next_value)) case.backward_is

pub folded_ascends : (parts : Parts) → IsGraph parts → (fold : Fold) → has_neighbours parts fold ≡ true → HasAscendingKeys (folded fold parts)
folded_ascends parts graph fold has =
    let case = case_of parts fold has in
    subst (λ (p : Parts). HasAscendingKeys p) (sym (folded_is parts fold case))
    (record {
      objects = objects_ascend parts graph fold (joined_object parts fold case.one case.other case.next_value case.prev_value);
      values = values_ascend parts graph fold (Const 0 8 ∷ own_addresses fold.first (stands_in parts fold case.other) (others fold (node_of case.one).edges));
    })

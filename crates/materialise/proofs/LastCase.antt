-- What stands at keys in the graph in which the last node of a segment is a region.
use Rattle.std.proofs.Common.{◌≡◌, ◌≢◌, ℕ, zero, suc, ◌+◌, ◌-◌, Bool, false, List, [], ◌∷◌, ◌++◌, map, length, nat_eq, ℤ, pos, Option, None, Some, refl, sym, ◌∙◌, ap, eq-eqb, arith}
use Rattle.std.specs.Prelude.{option_map, slice_get, if◌then◌else◌}
use Rattle.std.specs.Option.{option_and_then, option_map_or}
use Rattle.std.proofs.lemmas.Bool.{false≢true}
use Rattle.std.proofs.lemmas.List.{length-map}
use Rattle.std.proofs.lemmas.Option.{none-some}
use Rattle.graph.specs.declared.edges.HasValue.{HasValue}
use Rattle.graph.specs.declared.object.Links.{Links}
use Rattle.graph.specs.declared.object.Object.{Object}
use Rattle.graph.specs.declared.template.Node.{Node}
use Rattle.graph.specs.declared.value.Target.TheVariants.{Region, Last, Each}
use Rattle.graph.specs.declared.value.Value.{Value}
use Rattle.graph.specs.declared.value.Value.TheVariants.{Address}
use Rattle.graph.specs.declared.parts.KeyedObject.{KeyedObject}
use Rattle.graph.specs.declared.parts.KeyedValue.{KeyedValue}
use Rattle.graph.specs.declared.parts.Parts.{Parts}
use Rattle.graph.specs.Maps.{object_at, value_at}
use Rattle.graph.specs.Nodes.{links_in}
use Rattle.graph.specs.Renaming.{place_among, values_from}
use Rattle.graph.specs.Whole.{IsGraph}
use Rattle.graph.proofs.Found.{IsSome-holds, found-changed}
use Rattle.graph.proofs.Rows.{get-behind}
use Rattle.changes.specs.Parts.{replaced}
use Rattle.changes.proofs.Appended.{found_before, found_last, found_else}
use Rattle.changes.proofs.Objects.{replaced-here, replaced-other}
use Rattle.materialise.specs.SplitFirst.{own_values, own_keys, at_region, alone_key, with_link, alone, link_value, node_region}
use Rattle.materialise.specs.SplitLast.{last_value, split_last_by, split_last}
use Rattle.materialise.proofs.FirstCase.{segment, IsSplit, object, object_next, region_differs, value_free, alone_own}
use Rattle.materialise.proofs.FirstKeys.{found_front, found_behind, value_from, all_found, all_behind}
use Rattle.materialise.proofs.FirstOwn.{own_among, regions_all}

module _ (parts : Parts) (graph : IsGraph parts) (key : ℕ) (split : IsSplit parts key) where
  abbrev whole : Object
  whole = object parts graph key split

  abbrev region : ℕ
  region = length parts.objects

  -- the key of the address of the last node of the rest
  abbrev owned : ℕ
  owned = length parts.values + length (own_values key parts)

  abbrev pub after : Parts
  after = split_last_by parts key whole split.links

  abbrev pub change : Value → Value
  change = last_value region key

  pub after_is : split_last key parts ≡ after
  after_is = ap (λ (o : Option Object). option_map_or (λ object. option_map_or (split_last_by parts key object) (option_and_then (λ (object : Object). links_in object.shape) o) parts) o parts) split.stands

  -- The new region, and the rest.

  abbrev pub prev_edge : HasValue
  prev_edge = record { at = split.links.prev; size = 8; value = owned }

  abbrev pub next_edge : HasValue
  next_edge = record { at = split.links.next; size = 8; value = split.links.next_value }

  abbrev pub linked_node : Node
  linked_node = with_link (Address key (pos split.links.back) Last) prev_edge (alone key parts split.node)

  abbrev pub new_node : Node
  new_node = with_link (change (link_value parts split.links.next_value)) next_edge linked_node

  abbrev pub new_object : Object
  new_object = node_region whole new_node

  abbrev pub rest_links : Links
  rest_links = record split.links { least = split.links.least - 1; next_value = owned + 1 }

  abbrev pub rest_object : Object
  rest_object = record split.base { shape = segment rest_links split.node }

  -- Objects.

  differs : region ≢ key
  differs = region_differs parts graph key split

  abbrev last : KeyedObject
  last = record { key = region; object = new_object }

  pub object_rest : object_at after.objects key ≡ Some rest_object
  object_rest =
      let here = replaced-here key rest_object parts.objects (IsSome-holds _ _ split.stands) in
      found_before (λ (entry : KeyedObject). entry.key) (λ entry. entry.object) (map (replaced key rest_object) parts.objects) last key (IsSome-holds _ _ here) ∙ here

  pub object_new : object_at after.objects region ≡ Some new_object
  object_new =
      found_last (λ (entry : KeyedObject). entry.key) (λ entry. entry.object) (map (replaced key rest_object) parts.objects) last region (replaced-other key rest_object parts.objects region differs ∙ object_next parts graph key split)
      ∙ ap (λ (b : Bool). if b then Some new_object else None) (eq-eqb region region refl)

  pub object_other : (at : ℕ) → nat_eq at key ≡ false → nat_eq at region ≡ false → object_at after.objects at ≡ object_at parts.objects at
  object_other at one other =
      found_else (λ (entry : KeyedObject). entry.key) (λ entry. entry.object) (map (replaced key rest_object) parts.objects) last at (λ same. false≢true (sym other ∙ eq-eqb at region same))
      ∙ replaced-other key rest_object parts.objects at (λ same. false≢true (sym one ∙ eq-eqb at key same))

  -- Values.

  abbrev regions : List Value
  regions = map (λ (entry : KeyedValue). at_region region entry.value) (own_values key parts)

  abbrev others : List Value
  others = Address key (pos split.links.back) Last ∷ Address region (pos split.links.head) Region ∷ []

  abbrev new_values : List Value
  new_values = regions ++ others

  abbrev changed : KeyedValue → KeyedValue
  changed entry = record { key = entry.key; value = change entry.value }

  changed_at : (at : ℕ) → value_at (map changed parts.values) at ≡ option_map change (value_at parts.values at)
  changed_at at = found-changed (λ (entry : KeyedValue). entry.key) (λ entry. entry.value) (λ (entry : KeyedValue). entry.key) (λ entry. entry.value) changed change (λ entry. refl) (λ entry. refl) parts.values at

  pub value_was : (at : ℕ) (value : Value) → value_at parts.values at ≡ Some value → value_at after.values at ≡ Some (change value)
  value_was at value is =
      found_front (λ (entry : KeyedValue). entry.key) (λ entry. entry.value) (map changed parts.values) (values_from (length parts.values) new_values) at (change value) (changed_at at ∙ ap (option_map change) is)

  value_new : (at : ℕ) → value_at parts.values at ≡ None → value_at after.values at ≡ value_at (values_from (length parts.values) new_values) at
  value_new at none = found_behind (λ (entry : KeyedValue). entry.key) (λ entry. entry.value) (map changed parts.values) (values_from (length parts.values) new_values) at (changed_at at ∙ ap (option_map change) none)

  value_more : (more : ℕ) → value_at after.values (length parts.values + more) ≡ slice_get new_values more
  value_more more = value_new (length parts.values + more) (value_free parts graph key split more) ∙ value_from (length parts.values) new_values more

  long_regions : length regions ≡ length (own_values key parts)
  long_regions = length-map (own_values key parts) (λ (entry : KeyedValue). at_region region entry.value)

  pub owned_is : value_at after.values owned ≡ Some (Address key (pos split.links.back) Last)
  owned_is =
      value_more (length (own_values key parts))
      ∙ ap (slice_get new_values) (let e = long_regions in let same : length (own_values key parts) ≡ length regions + 0 = omega arith in same)
      ∙ get-behind regions others 0

  pub after_there : value_at after.values (owned + 1) ≡ Some (Address region (pos split.links.head) Region)
  after_there =
      ap (value_at after.values) (let e : owned + 1 ≡ length parts.values + (length (own_values key parts) + 1) = omega arith in e)
      ∙ value_more (length (own_values key parts) + 1)
      ∙ ap (slice_get new_values) (let e = long_regions in let same : length (own_values key parts) + 1 ≡ length regions + 1 = omega arith in same)
      ∙ get-behind regions others 1

  -- what holds of the new values
  pub new_all : (P : Value → Type 0) → ((offset : ℤ) → P (Address region offset Region)) → P (Address key (pos split.links.back) Last) → (at : ℕ) (value : Value) →
      value_at parts.values at ≡ None → value_at after.values at ≡ Some value → P value
  new_all P each last at value none is =
      all_found P (length parts.values) new_values at value
      (all_behind P regions others (regions_all region key P each parts.values) (last, (each (pos split.links.head), tt)))
      (sym (value_new at none) ∙ is)

  -- Own addresses.

  pub alone_is : (at : ℕ) (offset : ℤ) → value_at parts.values at ≡ Some (Address key offset Each) → value_at after.values (alone_key key parts at) ≡ Some (Address region offset Region)
  alone_is at offset is =
      let among = (own_among region key parts.values at offset is).1 in
      ap (value_at after.values) (alone_own parts graph key split at offset is) ∙ value_more (place_among (own_keys key parts) at) ∙ at_front regions others (place_among (own_keys key parts) at) (Address region offset Region) among
    where
      at_front : (xs ys : List Value) (place : ℕ) (value : Value) → slice_get xs place ≡ Some value → slice_get (xs ++ ys) place ≡ Some value
      at_front [] ys place value is = absurd (none-some value is)
      at_front (x ∷ xs) ys zero value is = is
      at_front (x ∷ xs) ys (suc place) value is = at_front xs ys place value is

-- A segment, and what stands at keys in the graph in which its first node is a region.
use Rattle.std.proofs.Common.{◌≡◌, ◌≢◌, ℕ, zero, suc, ◌+◌, ◌-◌, Bool, true, false, List, [], ◌∷◌, ◌++◌, map, length, nat_eq, ℤ, pos, Option, None, Some, refl, sym, ◌∙◌, ap, eq-eqb, arith}
use Rattle.std.specs.Prelude.{is_some, option_map, slice_get, if◌then◌else◌}
use Rattle.std.specs.Option.{option_and_then, option_map_or}
use Rattle.std.proofs.lemmas.Bool.{false≢true, ne_eqb}
use Rattle.std.proofs.lemmas.Option.{none-some}
use Rattle.std.proofs.lemmas.List.{length-map}
use Rattle.graph.specs.declared.edges.HasValue.{HasValue}
use Rattle.graph.specs.declared.object.Links.{Links}
use Rattle.graph.specs.declared.object.Object.{Object}
use Rattle.graph.specs.declared.object.Shape.{Shape}
use Rattle.graph.specs.declared.object.Shape.TheVariants.{Region as RegionShape, Segment}
use Rattle.graph.specs.declared.template.Node.{Node}
use Rattle.graph.specs.declared.value.Target.TheVariants.{Region, First, Each}
use Rattle.graph.specs.declared.value.Value.{Value}
use Rattle.graph.specs.declared.value.Value.TheVariants.{Address}
use Rattle.graph.specs.declared.parts.KeyedObject.{KeyedObject}
use Rattle.graph.specs.declared.parts.KeyedValue.{KeyedValue}
use Rattle.graph.specs.declared.parts.Parts.{Parts}
use Rattle.graph.specs.Maps.{object_at, value_at}
use Rattle.graph.specs.Nodes.{links_in}
use Rattle.graph.specs.Renaming.{place_among, values_from}
use Rattle.graph.specs.Whole.{IsGraph}
use Rattle.graph.proofs.Found.{IsSome-holds, found-changed}
use Rattle.graph.proofs.Rows.{get-behind}
use Rattle.changes.specs.Parts.{replaced}
use Rattle.changes.proofs.Appended.{found_before, found_last, found_else, found_next, found_within}
use Rattle.changes.proofs.Objects.{replaced-here, replaced-other}
use Rattle.materialise.specs.SplitFirst.{is_own, own_values, own_keys, at_region, alone_key, with_link, with_link_if, alone, link_value, node_region, first_value, split_first_by, split_first}
use Rattle.materialise.specs.WithOne.{is_segment}
use Rattle.materialise.proofs.FirstKeys.{found_front, found_behind, value_from, AllOf, all_found, all_behind}
use Rattle.materialise.proofs.FirstOwn.{own_among, own_absent, regions_all}

abbrev pub segment : Links → Node → Shape
segment links node = Segment links.twofold links.head links.next links.prev links.back links.least links.next_value links.prev_value node

-- a segment with these links and this node stands at the key
pub record IsSplit (parts : Parts) (key : ℕ) : Type 0 where
  pub base : Object
  pub links : Links
  pub node : Node
  pub stands : object_at parts.objects key ≡ Some (record base { shape = segment links node })

pub is_split : (parts : Parts) (key : ℕ) → is_segment parts key ≡ true → IsSplit parts key
is_split parts key is = by_object (object_at parts.objects key) refl is
  where
    by_shape : (object : Object) → object_at parts.objects key ≡ Some object → (shape : Shape) → object.shape ≡ shape → is_some (links_in shape) ≡ true → IsSplit parts key
    by_shape object stands RegionShape shape_is is = absurd (false≢true is)
    by_shape object stands (Segment twofold head next prev back least next_value prev_value node) shape_is is = record {
      base = object;
      links = record { twofold = twofold; head = head; next = next; prev = prev; back = back; least = least; next_value = next_value; prev_value = prev_value };
      node = node;
      stands = stands ∙ ap (λ (s : Shape). Some (record object { shape = s })) shape_is;
    }

    by_object : (found : Option Object) → object_at parts.objects key ≡ found → is_some (option_and_then (λ (object : Object). links_in object.shape) found) ≡ true → IsSplit parts key
    by_object None stands is = absurd (false≢true is)
    by_object (Some object) stands is = by_shape object stands object.shape refl is

module _ (parts : Parts) (graph : IsGraph parts) (key : ℕ) (split : IsSplit parts key) where
  abbrev pub object : Object
  object = record split.base { shape = segment split.links split.node }

  abbrev pub region : ℕ
  region = length parts.objects

  -- the key of the address of the first node of the rest
  abbrev pub owned : ℕ
  owned = length parts.values + length (own_values key parts)

  abbrev pub after : Parts
  after = split_first_by parts key object split.links

  abbrev pub change : Value → Value
  change = first_value region key

  pub after_is : split_first key parts ≡ after
  after_is = ap (λ (o : Option Object). option_map_or (λ object. option_map_or (split_first_by parts key object) (option_and_then (λ (object : Object). links_in object.shape) o) parts) o parts) split.stands

  -- The new region, and the rest.

  abbrev pub next_edge : HasValue
  next_edge = record { at = split.links.next; size = 8; value = owned }

  abbrev pub prev_edge : HasValue
  prev_edge = record { at = split.links.prev; size = 8; value = split.links.prev_value }

  abbrev pub linked_node : Node
  linked_node = with_link (Address key (pos split.links.head) First) next_edge (alone key parts split.node)

  abbrev pub new_node : Node
  new_node = with_link_if split.links.twofold (change (link_value parts split.links.prev_value)) prev_edge linked_node

  abbrev pub new_object : Object
  new_object = node_region object new_node

  abbrev pub rest_links : Links
  rest_links = record split.links { least = split.links.least - 1; prev_value = if split.links.twofold then owned + 1 else split.links.prev_value }

  abbrev pub rest_object : Object
  rest_object = record split.base { shape = segment rest_links split.node }

  -- Objects.

  pub object_next : object_at parts.objects region ≡ None
  object_next = found_next (λ (entry : KeyedObject). entry.key) (λ entry. entry.object) parts.objects graph.keys.objects

  pub there_other : (at : ℕ) (found : Object) → object_at parts.objects at ≡ Some found → nat_eq at region ≡ false
  there_other at found stands = ne_eqb at region (λ same. none-some found (sym object_next ∙ ap (object_at parts.objects) (sym same) ∙ stands))

  pub key_other : nat_eq key region ≡ false
  key_other = there_other key object split.stands

  pub region_differs : region ≢ key
  region_differs same = false≢true (sym key_other ∙ eq-eqb key region (sym same))

  pub region_other : nat_eq region key ≡ false
  region_other = ne_eqb region key region_differs

  abbrev last : KeyedObject
  last = record { key = region; object = new_object }

  pub object_rest : object_at after.objects key ≡ Some rest_object
  object_rest =
      let here = replaced-here key rest_object parts.objects (IsSome-holds _ _ split.stands) in
      found_before (λ (entry : KeyedObject). entry.key) (λ entry. entry.object) (map (replaced key rest_object) parts.objects) last key (IsSome-holds _ _ here) ∙ here

  pub object_new : object_at after.objects region ≡ Some new_object
  object_new =
      found_last (λ (entry : KeyedObject). entry.key) (λ entry. entry.object) (map (replaced key rest_object) parts.objects) last region (replaced-other key rest_object parts.objects region region_differs ∙ object_next)
      ∙ ap (λ (b : Bool). if b then Some new_object else None) (eq-eqb region region refl)

  pub object_other : (at : ℕ) → nat_eq at key ≡ false → nat_eq at region ≡ false → object_at after.objects at ≡ object_at parts.objects at
  object_other at one other =
      found_else (λ (entry : KeyedObject). entry.key) (λ entry. entry.object) (map (replaced key rest_object) parts.objects) last at (λ same. false≢true (sym other ∙ eq-eqb at region same))
      ∙ replaced-other key rest_object parts.objects at (λ same. false≢true (sym one ∙ eq-eqb at key same))

  -- Values.

  abbrev pub new_values : List Value
  new_values = map (λ (entry : KeyedValue). at_region region entry.value) (own_values key parts) ++ Address key (pos split.links.head) First ∷ (if split.links.twofold then Address region (pos split.links.back) Region ∷ [] else [])

  abbrev changed : KeyedValue → KeyedValue
  changed entry = record { key = entry.key; value = change entry.value }

  changed_at : (at : ℕ) → value_at (map changed parts.values) at ≡ option_map change (value_at parts.values at)
  changed_at at = found-changed (λ (entry : KeyedValue). entry.key) (λ entry. entry.value) (λ (entry : KeyedValue). entry.key) (λ entry. entry.value) changed change (λ entry. refl) (λ entry. refl) parts.values at

  pub value_was : (at : ℕ) (value : Value) → value_at parts.values at ≡ Some value → value_at after.values at ≡ Some (change value)
  value_was at value is =
      found_front (λ (entry : KeyedValue). entry.key) (λ entry. entry.value) (map changed parts.values) (values_from (length parts.values) new_values) at (change value) (changed_at at ∙ ap (option_map change) is)

  pub value_new : (at : ℕ) → value_at parts.values at ≡ None → value_at after.values at ≡ value_at (values_from (length parts.values) new_values) at
  value_new at none = found_behind (λ (entry : KeyedValue). entry.key) (λ entry. entry.value) (map changed parts.values) (values_from (length parts.values) new_values) at (changed_at at ∙ ap (option_map change) none)

  -- keys behind all others are free
  pub value_free : (more : ℕ) → value_at parts.values (length parts.values + more) ≡ None
  value_free more = by_found (value_at parts.values (length parts.values + more)) refl
    where
      by_found : (found : Option Value) → value_at parts.values (length parts.values + more) ≡ found → value_at parts.values (length parts.values + more) ≡ None
      by_found None is = is
      by_found (Some value) is =
          let within = found_within (λ (entry : KeyedValue). entry.key) (λ entry. entry.value) parts.values graph.keys.values (length parts.values + more) (IsSome-holds _ _ is) in absurd (omega arith)

  value_more : (more : ℕ) → value_at after.values (length parts.values + more) ≡ slice_get new_values more
  value_more more = value_new (length parts.values + more) (value_free more) ∙ value_from (length parts.values) new_values more

  abbrev regions : List Value
  regions = map (λ (entry : KeyedValue). at_region region entry.value) (own_values key parts)

  long_regions : length regions ≡ length (own_values key parts)
  long_regions = length-map (own_values key parts) (λ (entry : KeyedValue). at_region region entry.value)

  pub owned_free : value_at parts.values owned ≡ None
  owned_free = value_free (length (own_values key parts))

  pub owned_is : value_at after.values owned ≡ Some (Address key (pos split.links.head) First)
  owned_is =
      value_more (length (own_values key parts))
      ∙ ap (slice_get new_values) (let e = long_regions in let same : length (own_values key parts) ≡ length regions + 0 = omega arith in same)
      ∙ get-behind regions (Address key (pos split.links.head) First ∷ (if split.links.twofold then Address region (pos split.links.back) Region ∷ [] else [])) 0

  pub before_free : value_at parts.values (owned + 1) ≡ None
  before_free = ap (value_at parts.values) (let e : owned + 1 ≡ length parts.values + (length (own_values key parts) + 1) = omega arith in e) ∙ value_free (length (own_values key parts) + 1)

  pub before_is : split.links.twofold ≡ true → value_at after.values (owned + 1) ≡ Some (Address region (pos split.links.back) Region)
  before_is twofold =
      ap (value_at after.values) (let e : owned + 1 ≡ length parts.values + (length (own_values key parts) + 1) = omega arith in e)
      ∙ value_more (length (own_values key parts) + 1)
      ∙ ap (slice_get new_values) (let e = long_regions in let same : length (own_values key parts) + 1 ≡ length regions + 1 = omega arith in same)
      ∙ get-behind regions (Address key (pos split.links.head) First ∷ (if split.links.twofold then Address region (pos split.links.back) Region ∷ [] else [])) 1
      ∙ ap (λ (b : Bool). slice_get (if b then Address region (pos split.links.back) Region ∷ [] else []) 0) twofold

  -- what holds of the new values
  pub new_all : (P : Value → Type 0) → ((offset : ℤ) → P (Address region offset Region)) → P (Address key (pos split.links.head) First) → (at : ℕ) (value : Value) →
      value_at parts.values at ≡ None → value_at after.values at ≡ Some value → P value
  new_all P each first at value none is =
      all_found P (length parts.values) new_values at value
      (all_behind P regions (Address key (pos split.links.head) First ∷ (if split.links.twofold then Address region (pos split.links.back) Region ∷ [] else [])) (regions_all region key P each parts.values)
      (first, by_way split.links.twofold))
      (sym (value_new at none) ∙ is)
    where
      by_way : (b : Bool) → AllOf P (if b then Address region (pos split.links.back) Region ∷ [] else [])
      by_way true = (each (pos split.links.back), tt)
      by_way false = tt

  -- Own addresses.

  pub alone_plain : (at : ℕ) (value : Value) → value_at parts.values at ≡ Some value → is_own key value ≡ false → alone_key key parts at ≡ at
  alone_plain at value is plain =
      ap (λ (b : Bool). if b then length parts.values + place_among (own_keys key parts) at else at)
      (own_absent region key 0 parts.values at value (λ place entry stands. let e : entry.key ≡ place = graph.keys.values place entry stands in let same : entry.key ≡ 0 + place = omega arith in same) is plain)

  pub alone_own : (at : ℕ) (offset : ℤ) → value_at parts.values at ≡ Some (Address key offset Each) → alone_key key parts at ≡ length parts.values + place_among (own_keys key parts) at
  alone_own at offset is = ap (λ (b : Bool). if b then length parts.values + place_among (own_keys key parts) at else at) (own_among region key parts.values at offset is).0

  pub alone_free : (at : ℕ) (offset : ℤ) → value_at parts.values at ≡ Some (Address key offset Each) → value_at parts.values (alone_key key parts at) ≡ None
  alone_free at offset is = ap (value_at parts.values) (alone_own at offset is) ∙ value_free (place_among (own_keys key parts) at)

  pub alone_is : (at : ℕ) (offset : ℤ) → value_at parts.values at ≡ Some (Address key offset Each) → value_at after.values (alone_key key parts at) ≡ Some (Address region offset Region)
  alone_is at offset is =
      let among = (own_among region key parts.values at offset is).1 in
      ap (value_at after.values) (alone_own at offset is) ∙ value_more (place_among (own_keys key parts) at) ∙ at_front regions _ (place_among (own_keys key parts) at) (Address region offset Region) among
    where
      at_front : (xs ys : List Value) (place : ℕ) (value : Value) → slice_get xs place ≡ Some value → slice_get (xs ++ ys) place ≡ Some value
      at_front [] ys place value is = absurd (none-some value is)
      at_front (x ∷ xs) ys zero value is = is
      at_front (x ∷ xs) ys (suc place) value is = at_front xs ys place value is

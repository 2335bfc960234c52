-- Room for the links of the region that the first node of a segment becomes.
use Rattle.std.proofs.Common.{◌≡◌, ℕ, ◌+◌, ◌≤◌, true, List, [], ◌∷◌, ◌++◌, map, length, Some, sym, ◌∙◌, subst, ap, leb-true}
use Rattle.graph.specs.declared.object.Links.{Links}
use Rattle.graph.specs.declared.object.Object.{Object}
use Rattle.graph.specs.declared.template.Node.{Node}
use Rattle.graph.specs.declared.parts.KeyedObject.{KeyedObject}
use Rattle.graph.specs.declared.parts.KeyedValue.{KeyedValue}
use Rattle.graph.specs.declared.parts.Parts.{Parts}
use Rattle.graph.specs.Maps.{object_at}
use Rattle.graph.specs.Nodes.{links_in, node_of}
use Rattle.graph.specs.WellFormed.{lies_in}
use Rattle.graph.specs.Whole.{IsGraph}
use Rattle.materialise.specs.SplitFirst.{own_values, first_value, link_value, node_region, split_first_by}
use Rattle.materialise.specs.Splitting.{rest_entry, alone_node, linked_node, first_node_of}
use Rattle.materialise.proofs.Planes.{filled-length}
use Rattle.materialise.proofs.SplitThere.{IsSegmentAt}
use Rattle.materialise.proofs.SplitRegion.{links_inside, template_long, on_next, on_back}
use Rattle.materialise.proofs.SplitSteps.{rest_replaced}

pub next_room : (parts : Parts) (key : ℕ) (object : Object) (links : Links) → IsGraph parts → object_at parts.objects key ≡ Some object → links_in object.shape ≡ Some links → links.next + 8 ≤ length (node_of object).plane
next_room parts key object links graph stands linked =
    let at : IsSegmentAt parts key = record { object = object; links = links; stands = stands; linked = linked } in
    subst (λ (n : ℕ). links.next + 8 ≤ n) (sym (template_long parts graph key at)) (leb-true _ _ (on_next parts graph key at (lies_in object.size) (links_inside parts graph key at)))

pub back_room : (parts : Parts) (key : ℕ) (object : Object) (links : Links) → IsGraph parts → object_at parts.objects key ≡ Some object → links_in object.shape ≡ Some links → links.twofold ≡ true → links.prev + 8 ≤ length (node_of object).plane
back_room parts key object links graph stands linked twofold =
    let at : IsSegmentAt parts key = record { object = object; links = links; stands = stands; linked = linked } in
    subst (λ (n : ℕ). links.prev + 8 ≤ n) (sym (template_long parts graph key at)) (leb-true _ _ (on_back parts graph key at (lies_in object.size) twofold (links_inside parts graph key at)))

-- the link to the rest leaves the plane as long as it was
pub linked_room : (key owned : ℕ) (links : Links) (node : Node) → links.next + 8 ≤ length node.plane → length (linked_node key owned links node).plane ≡ length node.plane
linked_room key owned links node room = filled-length node.plane links.next 8 2 room

-- The objects of the graph that is split.

module _ (parts : Parts) (key : ℕ) (object : Object) (links : Links) where
  abbrev region_of : List KeyedValue → ℕ → ℕ → KeyedObject
  region_of own region from =
      record { key = region; object = node_region object (first_node_of key (from + length own) links (first_value region key (link_value parts links.prev_value)) (alone_node own from (node_of object))) }

  abbrev made : List KeyedValue → ℕ → ℕ → List KeyedObject → List KeyedObject
  made own region from objects = map (rest_entry key (from + length own + 1)) objects ++ region_of own region from ∷ []

  pub objects_are : IsGraph parts → object_at parts.objects key ≡ Some object → (own : List KeyedValue) (region from : ℕ) (objects kept : List KeyedObject) (new : Object) →
      own ≡ own_values key parts → region ≡ length parts.objects → from ≡ length parts.values → objects ≡ parts.objects → kept ≡ map (rest_entry key (from + length own + 1)) objects → new ≡ (region_of own region from).object →
      kept ++ (let e : KeyedObject = record { key = region; object = new } in e) ∷ [] ≡ (split_first_by parts key object links).objects
  objects_are graph stands own region from objects kept new own_is region_is from_is objects_is kept_is new_is =
      ap (λ (k : List KeyedObject). k ++ (let e : KeyedObject = record { key = region; object = new } in e) ∷ []) kept_is
      ∙ ap (λ (o : Object). map (rest_entry key (from + length own + 1)) objects ++ (let e : KeyedObject = record { key = region; object = o } in e) ∷ []) new_is
      ∙ ap (λ (o : List KeyedValue). made o region from objects) own_is
      ∙ ap (λ (r : ℕ). made (own_values key parts) r from objects) region_is
      ∙ ap (λ (f : ℕ). made (own_values key parts) (length parts.objects) f objects) from_is
      ∙ ap (λ (os : List KeyedObject). made (own_values key parts) (length parts.objects) (length parts.values) os) objects_is
      ∙ ap (λ (os : List KeyedObject). os ++ region_of (own_values key parts) (length parts.objects) (length parts.values) ∷ []) (rest_replaced parts graph key (length parts.values + length (own_values key parts) + 1) object stands)

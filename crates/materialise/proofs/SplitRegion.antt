-- The region that the first node of a segment becomes.
use Rattle.std.proofs.Common.{◌≡◌, ℕ, ◌+◌, Bool, true, false, not, ◌||◌, ◌&&◌, List, [], ◌∷◌, map, length, take, drop, nat_eq, nat_le, pos, Option, Some, refl, sym, ◌∙◌, ap, subst, eqb-true}
use Rattle.std.specs.Prelude.{is_some, if◌then◌else◌}
use Rattle.std.specs.List.{list_all}
use Rattle.std.specs.Option.{option_map_or}
use Rattle.std.proofs.lemmas.List.Folds.{list_all-map}
use Rattle.std.proofs.lemmas.Option.{same_Some, none-some}
use Rattle.bytes_core.specs.Release.{is_heap}
use Rattle.graph.specs.declared.edges.HasValue.{HasValue}
use Rattle.graph.specs.declared.object.Links.{Links}
use Rattle.graph.specs.declared.object.Object.{Object}
use Rattle.graph.specs.declared.object.Shape.{Shape}
use Rattle.graph.specs.declared.object.Shape.TheVariants.{Region as RegionShape, Segment}
use Rattle.graph.specs.declared.template.Node.{Node}
use Rattle.graph.specs.declared.value.Target.TheVariants.{First}
use Rattle.graph.specs.declared.value.Value.{Value}
use Rattle.graph.specs.declared.value.Value.TheVariants.{Any, Address}
use Rattle.graph.specs.declared.parts.KeyedObject.{KeyedObject}
use Rattle.graph.specs.declared.parts.Parts.{Parts}
use Rattle.graph.specs.Maps.{object_at, value_at}
use Rattle.graph.specs.Nodes.{is_region, links_in, node_of, back_edges, link_edges}
use Rattle.graph.specs.Sizes.{value_size, value_class, is_zero}
use Rattle.graph.specs.WellFormed.{IsWellFormed, passes_at, has_value, may_stand_in, has_class_a_byte, says_nothing, is_segment_storage, lies_in, lies_before, are_in_order, edge_has_size, edge_has_class, share_no_byte, is_outward}
use Rattle.graph.specs.Whole.{IsGraph}
use Rattle.graph.proofs.Found.{Holds-some}
use Rattle.graph.proofs.Sent.{passes-some}
use Rattle.graph.proofs.Tests.{and_left, and_right, and_both, list_all-implies}
use Rattle.materialise.specs.SplitFirst.{alone_key, with_link_if}
use Rattle.materialise.proofs.SplitEdges.{IsNodeFit, all_linked, link_fit}
use Rattle.materialise.proofs.SplitThere.{IsSegmentAt, region, owned, become, prev_link, bare_node, next_node, new_node, later, value_there, first_there, alone_of, alone_there}
use Rattle.materialise.proofs.SplitValues.{alone_blind, alone_stands, link_stands, link_size}

-- what all objects pass, the one with a key does
pub each_at : (test : ℕ → Object → Bool) (key : ℕ) (object : Object) (entries : List KeyedObject) → list_all (λ (entry : KeyedObject). test entry.key entry.object) entries ≡ true → object_at entries key ≡ Some object → test key object ≡ true
each_at test key object [] all stands = absurd (none-some object stands)
each_at test key object (first ∷ rest) all stands =
    by_key (nat_eq first.key key) refl stands (λ there. each_at test key object rest (and_right (test first.key first.object) (list_all (λ (entry : KeyedObject). test entry.key entry.object) rest) all) there)
  where
    by_key : (b : Bool) → nat_eq first.key key ≡ b → (if b then Some first.object else object_at rest key) ≡ Some object → (object_at rest key ≡ Some object → test key object ≡ true) → test key object ≡ true
    by_key true is same onward =
        ap (λ (k : ℕ). test k object) (sym (eqb-true _ _ is)) ∙ ap (test first.key) (sym (same_Some _ _ same)) ∙ and_left (test first.key first.object) (list_all (λ (entry : KeyedObject). test entry.key entry.object) rest) all
    by_key false is same onward = onward same

-- the places of links, by the links
pub edges_by_links : (shape : Shape) (links : Links) → links_in shape ≡ Some links → link_edges shape ≡ record { at = links.next; size = 8; value = links.next_value } ∷ back_edges links.twofold links.prev links.prev_value
edges_by_links RegionShape links linked = absurd (none-some links linked)
edges_by_links (Segment twofold head next prev back least next_value prev_value node) links linked =
    ap (λ (l : Links). (let e : HasValue = record { at = l.next; size = 8; value = l.next_value } in e) ∷ back_edges l.twofold l.prev l.prev_value) (same_Some _ _ linked)

module _ (parts : Parts) (graph : IsGraph parts) (key : ℕ) (at : IsSegmentAt parts key) where
  form : IsWellFormed parts
  form = graph.well_formed

  -- What is known of the segment.

  pub at_key : (test : ℕ → Object → Bool) → list_all (λ (entry : KeyedObject). test entry.key entry.object) parts.objects ≡ true → test key at.object ≡ true
  at_key test all = each_at test key at.object parts.objects all at.stands

  pub segment_stored : is_segment_storage at.object ≡ true
  segment_stored = by_shape at.object.shape at.linked (at_key (λ k object. is_region object.shape || is_segment_storage object) form.segments_are_allocated)
    where
      by_shape : (shape : Shape) → links_in shape ≡ Some at.links → (is_region shape || is_segment_storage at.object) ≡ true → is_segment_storage at.object ≡ true
      by_shape RegionShape linked holds = absurd (none-some at.links linked)
      by_shape (Segment twofold head next prev back least next_value prev_value node) linked holds = holds

  pub segment_lives : at.object.live ≡ true
  segment_lives = and_left at.object.live (is_heap at.object.kind && says_nothing at.object.edges at.object.plane) segment_stored

  pub segment_heap : is_heap at.object.kind ≡ true
  segment_heap = and_left (is_heap at.object.kind) (says_nothing at.object.edges at.object.plane) (and_right at.object.live (is_heap at.object.kind && says_nothing at.object.edges at.object.plane) segment_stored)

  abbrev template : Node
  template = node_of at.object

  pub template_long : length template.plane ≡ at.object.size
  template_long = eqb-true _ _ (sym (ap (λ (b : Bool). not b || nat_eq (length template.plane) at.object.size) segment_lives) ∙ at_key (λ k object. has_class_a_byte object) form.planes_are_as_long)

  abbrev next_link : HasValue
  next_link = record { at = at.links.next; size = 8; value = owned parts graph key at }

  abbrev back_link : HasValue
  back_link = record { at = at.links.prev; size = 8; value = at.links.prev_value }

  abbrev old_next : HasValue
  old_next = record { at = at.links.next; size = 8; value = at.links.next_value }

  -- what is asked of links
  pub on_links : (test : List HasValue → Bool) → test (link_edges at.object.shape) ≡ true → test (old_next ∷ back_edges at.links.twofold at.links.prev at.links.prev_value) ≡ true
  on_links test is = ap test (sym (edges_by_links at.object.shape at.links at.linked)) ∙ is

  pub on_next : (test : HasValue → Bool) → list_all test (link_edges at.object.shape) ≡ true → test old_next ≡ true
  on_next test all = and_left (test old_next) (list_all test (back_edges at.links.twofold at.links.prev at.links.prev_value)) (on_links (list_all test) all)

  pub on_back : (test : HasValue → Bool) → at.links.twofold ≡ true → list_all test (link_edges at.object.shape) ≡ true → test back_link ≡ true
  on_back test twofold all =
      and_left (test back_link) true
      (ap (λ (b : Bool). list_all test (back_edges b at.links.prev at.links.prev_value)) (sym twofold)
      ∙ and_right (test old_next) (list_all test (back_edges at.links.twofold at.links.prev at.links.prev_value)) (on_links (list_all test) all))

  next_before : at.links.twofold ≡ true → lies_before old_next back_link ≡ true
  next_before twofold =
      and_left (lies_before old_next back_link) true
      (ap (λ (b : Bool). list_all (lies_before old_next) (back_edges b at.links.prev at.links.prev_value)) (sym twofold)
      ∙ and_left (list_all (lies_before old_next) (back_edges at.links.twofold at.links.prev at.links.prev_value)) (are_in_order (back_edges at.links.twofold at.links.prev at.links.prev_value))
      (on_links are_in_order (at_key (λ k object. are_in_order (link_edges object.shape)) form.links_are_in_order)))

  links_apart : list_all (λ link. list_all (share_no_byte link) template.edges) (link_edges at.object.shape) ≡ true
  links_apart = at_key (λ k object. list_all (λ link. list_all (share_no_byte link) (node_of object).edges) (link_edges object.shape)) form.links_have_no_edge

  pub links_inside : list_all (lies_in at.object.size) (link_edges at.object.shape) ≡ true
  links_inside = at_key (λ k object. list_all (lies_in object.size) (link_edges object.shape)) form.links_lie_inside

  -- The node alone.

  abbrev on_edge : HasValue → HasValue
  on_edge edge = record edge { value = alone_key key parts edge.value }

  alone_all : (test other : HasValue → Bool) → ((edge : HasValue) → test edge ≡ true → other (on_edge edge) ≡ true) → list_all test template.edges ≡ true → list_all other (bare_node parts graph key at).edges ≡ true
  alone_all test other implies all = list_all-map other on_edge template.edges ∙ list_all-implies test (λ edge. other (on_edge edge)) implies template.edges all

  alone_passes : (test other : Value → Bool) → ((value : Value) → test value ≡ true → other (alone_of parts graph key at value) ≡ true) → (k : ℕ) → passes_at parts test k ≡ true → passes_at (later parts graph key at) other (alone_key key parts k) ≡ true
  alone_passes test other implies k passes =
      let found = Holds-some (value_at parts.values k) (passes-some test (value_at parts.values k) passes) in
      ap (λ (o : Option Value). option_map_or other o false) (alone_there parts graph key at k found.item found.is)
      ∙ implies found.item (subst (λ (o : Option Value). option_map_or test o false ≡ true) found.is passes)

  alone_has : (k : ℕ) → has_value parts k ≡ true → has_value (later parts graph key at) (alone_key key parts k) ≡ true
  alone_has k has = let found = Holds-some (value_at parts.values k) has in ap is_some (alone_there parts graph key at k found.item found.is)

  order_alone : (edges : List HasValue) → are_in_order edges ≡ true → are_in_order (map {B = HasValue} on_edge edges) ≡ true
  order_alone [] order = refl
  order_alone (edge ∷ rest) order =
      and_both (list_all (lies_before (on_edge edge)) (map {B = HasValue} on_edge rest)) (are_in_order (map {B = HasValue} on_edge rest))
      (list_all-map (lies_before (on_edge edge)) on_edge rest ∙ and_left (list_all (lies_before edge) rest) (are_in_order rest) order)
      (order_alone rest (and_right (list_all (lies_before edge) rest) (are_in_order rest) order))

  bare_fit : IsNodeFit (later parts graph key at) (region parts graph key at) at.object.size (bare_node parts graph key at)
  bare_fit = record {
    holds = alone_all (λ edge. has_value parts edge.value) (λ edge. has_value (later parts graph key at) edge.value) (λ edge. alone_has edge.value)
        (at_key (λ k object. list_all (λ edge. has_value parts edge.value) (node_of object).edges) form.edges_hold_values);
    homes = alone_all (λ edge. passes_at parts (may_stand_in key) edge.value) (λ edge. passes_at (later parts graph key at) (may_stand_in (region parts graph key at)) edge.value)
        (λ edge. alone_passes (may_stand_in key) (may_stand_in (region parts graph key at)) (alone_stands (region parts graph key at) key) edge.value)
        (at_key (λ k object. list_all (λ edge. passes_at parts (may_stand_in k) edge.value) (node_of object).edges) form.edges_are_at_home);
    long = template_long;
    inside = alone_all (lies_in at.object.size) (lies_in at.object.size) (λ edge is. is) (at_key (λ k object. list_all (lies_in object.size) (node_of object).edges) form.edges_lie_inside);
    order = order_alone template.edges (at_key (λ k object. are_in_order (node_of object).edges) form.edges_are_in_order);
    sizes = alone_all (edge_has_size parts) (edge_has_size (later parts graph key at))
        (λ edge. alone_passes (λ value. nat_eq (value_size value) edge.size) (λ value. nat_eq (value_size value) edge.size)
        (λ value is. ap (λ (n : ℕ). nat_eq n edge.size) (alone_blind (region parts graph key at) key value_size (λ object other offset at target to. refl) value) ∙ is) edge.value)
        (at_key (λ k object. list_all (edge_has_size parts) (node_of object).edges) form.edges_have_their_sizes);
    classes = alone_all (edge_has_class parts template.plane) (edge_has_class (later parts graph key at) template.plane)
        (λ edge. alone_passes (λ value. list_all (nat_eq (value_class value)) (take edge.size (drop edge.at template.plane))) (λ value. list_all (nat_eq (value_class value)) (take edge.size (drop edge.at template.plane)))
        (λ value is. ap (λ (n : ℕ). list_all (nat_eq n) (take edge.size (drop edge.at template.plane))) (alone_blind (region parts graph key at) key value_class (λ object other offset at target to. refl) value) ∙ is) edge.value)
        (at_key (λ k object. list_all (edge_has_class parts (node_of object).plane) (node_of object).edges) form.edges_have_their_classes);
    nonzero = alone_all (λ edge. passes_at parts (λ value. not (is_zero value)) edge.value) (λ edge. passes_at (later parts graph key at) (λ value. not (is_zero value)) edge.value)
        (λ edge. alone_passes (λ value. not (is_zero value)) (λ value. not (is_zero value))
        (λ value is. ap not (alone_blind (region parts graph key at) key is_zero (λ object other offset at target to. refl) value) ∙ is) edge.value)
        (at_key (λ k object. list_all (λ edge. passes_at parts (λ value. not (is_zero value)) edge.value) (node_of object).edges) form.edges_are_not_zero);
  }

  -- With its links.

  apart_alone : (link : HasValue) → list_all (share_no_byte link) template.edges ≡ true → list_all (share_no_byte link) (bare_node parts graph key at).edges ≡ true
  apart_alone link apart = alone_all (share_no_byte link) (share_no_byte link) (λ edge is. is) apart

  next_apart : list_all (share_no_byte next_link) (bare_node parts graph key at).edges ≡ true
  next_apart = apart_alone next_link (on_next (λ link. list_all (share_no_byte link) template.edges) links_apart)

  next_inside : lies_in at.object.size next_link ≡ true
  next_inside = on_next (lies_in at.object.size) links_inside

  next_fit : IsNodeFit (later parts graph key at) (region parts graph key at) at.object.size (next_node parts graph key at)
  next_fit = link_fit (later parts graph key at) (region parts graph key at) at.object.size (bare_node parts graph key at) bare_fit (Address key (pos at.links.head) First) next_link
      (first_there parts graph key at) refl next_inside next_apart refl

  back_apart : at.links.twofold ≡ true → list_all (share_no_byte back_link) (next_node parts graph key at).edges ≡ true
  back_apart twofold =
      all_linked (later parts graph key at) (region parts graph key at) at.object.size (bare_node parts graph key at) bare_fit (Address key (pos at.links.head) First) next_link
      (first_there parts graph key at) refl next_inside next_apart refl (share_no_byte back_link)
      (or_second (nat_le (at.links.prev + 8) at.links.next) (nat_le (at.links.next + 8) at.links.prev) (next_before twofold))
      (apart_alone back_link (on_back (λ link. list_all (share_no_byte link) template.edges) twofold links_apart))
    where
      or_second : (a b : Bool) → b ≡ true → (a || b) ≡ true
      or_second true b is = refl
      or_second false b is = is

  pub before_outward : at.links.twofold ≡ true → passes_at parts is_outward at.links.prev_value ≡ true
  before_outward twofold = on_back (λ link. passes_at parts is_outward link.value) twofold (at_key (λ k object. list_all (λ link. passes_at parts is_outward link.value) (link_edges object.shape)) form.links_lead_on)

  pub new_fit : IsNodeFit (later parts graph key at) (region parts graph key at) at.object.size (new_node parts graph key at)
  new_fit = by_way at.links.twofold refl
    where
      by_way : (b : Bool) → at.links.twofold ≡ b →
          IsNodeFit (later parts graph key at) (region parts graph key at) at.object.size
          (with_link_if b (prev_link parts graph key at) back_link (next_node parts graph key at))
      by_way false is = next_fit
      by_way true twofold =
          let found = Holds-some (value_at parts.values at.links.prev_value) (passes-some is_outward (value_at parts.values at.links.prev_value) (before_outward twofold)) in
          let outward : is_outward found.item ≡ true = subst (λ (o : Option Value). option_map_or is_outward o false ≡ true) found.is (before_outward twofold) in
          let same : prev_link parts graph key at ≡ become parts graph key at found.item = ap (λ (o : Option Value). become parts graph key at (option_map_or (λ value. value) o Any)) found.is in
          link_fit (later parts graph key at) (region parts graph key at) at.object.size (next_node parts graph key at) next_fit (prev_link parts graph key at) back_link
          (value_there parts graph key at at.links.prev_value found.item found.is ∙ ap Some (sym same))
          (ap value_size same ∙ link_size (region parts graph key at) key found.item outward)
          (on_back (lies_in at.object.size) twofold links_inside)
          (back_apart twofold)
          (ap (may_stand_in (region parts graph key at)) same ∙ link_stands (region parts graph key at) key (region parts graph key at) found.item outward)

-- The region that the last node of a segment becomes.
use Rattle.std.proofs.Common.{◌≡◌, ℕ, ◌+◌, Bool, true, false, not, ◌||◌, List, [], ◌∷◌, map, take, drop, nat_eq, nat_le, pos, Option, Some, refl, sym, ◌∙◌, ap, subst}
use Rattle.std.specs.Prelude.{is_some}
use Rattle.std.specs.List.{list_all}
use Rattle.std.specs.Option.{option_map_or}
use Rattle.std.proofs.lemmas.List.Folds.{list_all-map}
use Rattle.std.proofs.lemmas.Bool.{false≢true}
use Rattle.graph.specs.declared.edges.HasValue.{HasValue}
use Rattle.graph.specs.declared.template.Node.{Node}
use Rattle.graph.specs.declared.value.Target.TheVariants.{Last}
use Rattle.graph.specs.declared.value.Value.{Value}
use Rattle.graph.specs.declared.value.Value.TheVariants.{Any, Address}
use Rattle.graph.specs.declared.parts.Parts.{Parts}
use Rattle.graph.specs.Maps.{value_at}
use Rattle.graph.specs.Nodes.{node_of, back_edges, link_edges}
use Rattle.graph.specs.Sizes.{value_size, value_class, is_zero}
use Rattle.graph.specs.WellFormed.{IsWellFormed, passes_at, has_value, may_stand_in, lies_in, lies_before, are_in_order, edge_has_size, edge_has_class, share_no_byte, is_outward}
use Rattle.graph.specs.Whole.{IsGraph}
use Rattle.graph.proofs.Found.{Holds-some}
use Rattle.graph.proofs.Sent.{passes-some}
use Rattle.graph.proofs.Tests.{and_left, and_right, and_both, list_all-implies}
use Rattle.materialise.specs.SplitFirst.{alone_key}
use Rattle.materialise.proofs.SplitEdges.{IsNodeFit, all_linked, link_fit}
use Rattle.materialise.proofs.FinalThere.{region, owned, become, next_link, bare_node, back_node, new_node, later, value_there, last_there, alone_of, alone_there}
use Rattle.materialise.proofs.FinalValues.{alone_blind, alone_stands, link_stands, link_size}
use Rattle.materialise.proofs.SplitRegion.{at_key, template_long, on_links, on_next, on_back, links_inside}
use Rattle.materialise.proofs.SplitThere.{IsSegmentAt}

module _ (parts : Parts) (graph : IsGraph parts) (key : ℕ) (at : IsSegmentAt parts key) (twofold : at.links.twofold ≡ true) where
  form : IsWellFormed parts
  form = graph.well_formed

  abbrev after : Parts
  after = later parts graph key at

  abbrev place : ℕ
  place = region parts graph key at

  abbrev template : Node
  template = node_of at.object

  abbrev back_link : HasValue
  back_link = record { at = at.links.prev; size = 8; value = owned parts graph key at }

  abbrev old_back : HasValue
  old_back = record { at = at.links.prev; size = 8; value = at.links.prev_value }

  abbrev old_next : HasValue
  old_next = record { at = at.links.next; size = 8; value = at.links.next_value }

  next_before : lies_before old_next old_back ≡ true
  next_before =
      and_left (lies_before old_next old_back) true
      (ap (λ (b : Bool). list_all (lies_before old_next) (back_edges b at.links.prev at.links.prev_value)) (sym twofold)
      ∙ and_left (list_all (lies_before old_next) (back_edges at.links.twofold at.links.prev at.links.prev_value)) (are_in_order (back_edges at.links.twofold at.links.prev at.links.prev_value))
      (on_links parts graph key at are_in_order (at_key parts graph key at (λ k object. are_in_order (link_edges object.shape)) form.links_are_in_order)))

  links_apart : list_all (λ link. list_all (share_no_byte link) template.edges) (link_edges at.object.shape) ≡ true
  links_apart = at_key parts graph key at (λ k object. list_all (λ link. list_all (share_no_byte link) (node_of object).edges) (link_edges object.shape)) form.links_have_no_edge

  -- The node alone.

  abbrev on_edge : HasValue → HasValue
  on_edge edge = record edge { value = alone_key key parts edge.value }

  alone_all : (test other : HasValue → Bool) → ((edge : HasValue) → test edge ≡ true → other (on_edge edge) ≡ true) → list_all test template.edges ≡ true → list_all other (bare_node parts graph key at).edges ≡ true
  alone_all test other implies all = list_all-map other on_edge template.edges ∙ list_all-implies test (λ edge. other (on_edge edge)) implies template.edges all

  alone_passes : (test other : Value → Bool) → ((value : Value) → test value ≡ true → other (alone_of parts graph key at value) ≡ true) → (k : ℕ) → passes_at parts test k ≡ true → passes_at after other (alone_key key parts k) ≡ true
  alone_passes test other implies k passes =
      let found = Holds-some (value_at parts.values k) (passes-some test (value_at parts.values k) passes) in
      ap (λ (o : Option Value). option_map_or other o false) (alone_there parts graph key at k found.item found.is)
      ∙ implies found.item (subst (λ (o : Option Value). option_map_or test o false ≡ true) found.is passes)

  alone_has : (k : ℕ) → has_value parts k ≡ true → has_value after (alone_key key parts k) ≡ true
  alone_has k has = let found = Holds-some (value_at parts.values k) has in ap is_some (alone_there parts graph key at k found.item found.is)

  order_alone : (edges : List HasValue) → are_in_order edges ≡ true → are_in_order (map {B = HasValue} on_edge edges) ≡ true
  order_alone [] order = refl
  order_alone (edge ∷ rest) order =
      and_both (list_all (lies_before (on_edge edge)) (map {B = HasValue} on_edge rest)) (are_in_order (map {B = HasValue} on_edge rest))
      (list_all-map (lies_before (on_edge edge)) on_edge rest ∙ and_left (list_all (lies_before edge) rest) (are_in_order rest) order)
      (order_alone rest (and_right (list_all (lies_before edge) rest) (are_in_order rest) order))

  bare_fit : IsNodeFit after place at.object.size (bare_node parts graph key at)
  bare_fit = record {
    holds = alone_all (λ edge. has_value parts edge.value) (λ edge. has_value after edge.value) (λ edge. alone_has edge.value)
        (at_key parts graph key at (λ k object. list_all (λ edge. has_value parts edge.value) (node_of object).edges) form.edges_hold_values);
    homes = alone_all (λ edge. passes_at parts (may_stand_in key) edge.value) (λ edge. passes_at after (may_stand_in place) edge.value)
        (λ edge. alone_passes (may_stand_in key) (may_stand_in place) (alone_stands place key) edge.value)
        (at_key parts graph key at (λ k object. list_all (λ edge. passes_at parts (may_stand_in k) edge.value) (node_of object).edges) form.edges_are_at_home);
    long = template_long parts graph key at;
    inside = alone_all (lies_in at.object.size) (lies_in at.object.size) (λ edge is. is) (at_key parts graph key at (λ k object. list_all (lies_in object.size) (node_of object).edges) form.edges_lie_inside);
    order = order_alone template.edges (at_key parts graph key at (λ k object. are_in_order (node_of object).edges) form.edges_are_in_order);
    sizes = alone_all (edge_has_size parts) (edge_has_size after)
        (λ edge. alone_passes (λ value. nat_eq (value_size value) edge.size) (λ value. nat_eq (value_size value) edge.size)
        (λ value is. ap (λ (n : ℕ). nat_eq n edge.size) (alone_blind place key value_size (λ object other offset at target to. refl) value) ∙ is) edge.value)
        (at_key parts graph key at (λ k object. list_all (edge_has_size parts) (node_of object).edges) form.edges_have_their_sizes);
    classes = alone_all (edge_has_class parts template.plane) (edge_has_class after template.plane)
        (λ edge. alone_passes (λ value. list_all (nat_eq (value_class value)) (take edge.size (drop edge.at template.plane))) (λ value. list_all (nat_eq (value_class value)) (take edge.size (drop edge.at template.plane)))
        (λ value is. ap (λ (n : ℕ). list_all (nat_eq n) (take edge.size (drop edge.at template.plane))) (alone_blind place key value_class (λ object other offset at target to. refl) value) ∙ is) edge.value)
        (at_key parts graph key at (λ k object. list_all (edge_has_class parts (node_of object).plane) (node_of object).edges) form.edges_have_their_classes);
    nonzero = alone_all (λ edge. passes_at parts (λ value. not (is_zero value)) edge.value) (λ edge. passes_at after (λ value. not (is_zero value)) edge.value)
        (λ edge. alone_passes (λ value. not (is_zero value)) (λ value. not (is_zero value))
        (λ value is. ap not (alone_blind place key is_zero (λ object other offset at target to. refl) value) ∙ is) edge.value)
        (at_key parts graph key at (λ k object. list_all (λ edge. passes_at parts (λ value. not (is_zero value)) edge.value) (node_of object).edges) form.edges_are_not_zero);
  }

  -- With its links.

  apart_alone : (link : HasValue) → list_all (share_no_byte link) template.edges ≡ true → list_all (share_no_byte link) (bare_node parts graph key at).edges ≡ true
  apart_alone link apart = alone_all (share_no_byte link) (share_no_byte link) (λ edge is. is) apart

  back_apart : list_all (share_no_byte back_link) (bare_node parts graph key at).edges ≡ true
  back_apart = apart_alone back_link (on_back parts graph key at (λ link. list_all (share_no_byte link) template.edges) twofold links_apart)

  back_inside : lies_in at.object.size back_link ≡ true
  back_inside = on_back parts graph key at (lies_in at.object.size) twofold (links_inside parts graph key at)

  back_fit : IsNodeFit after place at.object.size (back_node parts graph key at)
  back_fit = link_fit after place at.object.size (bare_node parts graph key at) bare_fit (Address key (pos at.links.back) Last) back_link
      (last_there parts graph key at) refl back_inside back_apart refl

  next_apart : list_all (share_no_byte old_next) (back_node parts graph key at).edges ≡ true
  next_apart =
      all_linked after place at.object.size (bare_node parts graph key at) bare_fit (Address key (pos at.links.back) Last) back_link
      (last_there parts graph key at) refl back_inside back_apart refl (share_no_byte old_next)
      (or_first (nat_le (at.links.next + 8) at.links.prev) (nat_le (at.links.prev + 8) at.links.next) next_before)
      (apart_alone old_next (on_next parts graph key at (λ link. list_all (share_no_byte link) template.edges) links_apart))
    where
      or_first : (a b : Bool) → a ≡ true → (a || b) ≡ true
      or_first true b is = refl
      or_first false b is = absurd (false≢true is)

  behind_outward : passes_at parts is_outward at.links.next_value ≡ true
  behind_outward = on_next parts graph key at (λ link. passes_at parts is_outward link.value) (at_key parts graph key at (λ k object. list_all (λ link. passes_at parts is_outward link.value) (link_edges object.shape)) form.links_lead_on)

  pub new_fit : IsNodeFit after place at.object.size (new_node parts graph key at)
  new_fit =
      let found = Holds-some (value_at parts.values at.links.next_value) (passes-some is_outward (value_at parts.values at.links.next_value) behind_outward) in
      let outward : is_outward found.item ≡ true = subst (λ (o : Option Value). option_map_or is_outward o false ≡ true) found.is behind_outward in
      let same : next_link parts graph key at ≡ become parts graph key at found.item = ap (λ (o : Option Value). become parts graph key at (option_map_or (λ value. value) o Any)) found.is in
      link_fit after place at.object.size (back_node parts graph key at) back_fit (next_link parts graph key at) old_next
      (value_there parts graph key at at.links.next_value found.item found.is ∙ ap Some (sym same))
      (ap value_size same ∙ link_size place key found.item outward)
      (on_next parts graph key at (lies_in at.object.size) (links_inside parts graph key at))
      next_apart
      (ap (may_stand_in place) same ∙ link_stands place key place found.item outward)

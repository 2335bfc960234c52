-- What a well-formed graph names is there.
use Rattle.std.proofs.Common.{◌≡◌, ℕ, suc, zero, Bool, true, false, ◌&&◌, ◌||◌, not, List, [], ◌∷◌, Option, Some, nat_eq, refl, sym, ◌∙◌, ap, subst}
use Rattle.std.specs.Prelude.{IsSome, slice_get, ℤ}
use Rattle.std.specs.List.{list_all}
use Rattle.std.specs.Option.{option_map_or}
use Rattle.std.proofs.lemmas.Bool.{false≢true}
use Rattle.std.proofs.lemmas.Option.{same_Some, none-some}
use Rattle.bytes_core.specs.Release.{is_heap}
use Rattle.graph.specs.declared.edges.HasValue.{HasValue}
use Rattle.graph.specs.declared.object.Object.{Object}
use Rattle.graph.specs.declared.object.Shape.{Shape}
use Rattle.graph.specs.declared.object.Shape.TheVariants.{Region, Segment}
use Rattle.graph.specs.declared.value.Target.{Target}
use Rattle.graph.specs.declared.value.Value.{Value}
use Rattle.graph.specs.declared.value.Value.TheVariants.{Address}
use Rattle.graph.specs.declared.parts.KeyedObject.{KeyedObject}
use Rattle.graph.specs.declared.parts.KeyedValue.{KeyedValue}
use Rattle.graph.specs.declared.parts.Named.{Named}
use Rattle.graph.specs.declared.parts.Held.{Held}
use Rattle.graph.specs.declared.parts.Pair.{Pair}
use Rattle.graph.specs.declared.parts.Parts.{Parts}
use Rattle.graph.specs.Maps.{object_at, value_at}
use Rattle.graph.specs.Nodes.{is_region, own_node, node_in, node_of, back_edges, link_edges, links_in}
use Rattle.graph.specs.WellFormed.{IsWellFormed, has_value, passes_at, may_be_held, is_outward, is_null, back_fits, target_fits, leads_to_object, is_storage, says_nothing, is_segment_storage, is_unequal_pair, may_be_unequal}
use Rattle.graph.specs.Closed.{OnEdges, OnEnds, OnNamed, IsClosed}
use Rattle.graph.specs.Meaning.{maps_of}
use Rattle.graph.proofs.Tests.{and_left, and_right}
use Rattle.graph.proofs.Found.{Holds-some, found-all}
use Rattle.graph.proofs.Sent.{passes-some}

-- items at a place
pub passes-at : {X : Type 0} (test : X → Bool) (items : List X) (place : ℕ) (item : X) → slice_get items place ≡ Some item → list_all test items ≡ true → test item ≡ true
passes-at test [] place item is all = absurd (none-some item is)
passes-at test (first ∷ rest) zero item is all = subst (λ one. test one ≡ true) (same_Some first item is) (and_left (test first) (list_all test rest) all)
passes-at test (first ∷ rest) (suc place) item is all = passes-at test rest place item is (and_right (test first) (list_all test rest) all)

-- an object that is no region says nothing of its own bytes
pub says_nothing-edges : (edges : List HasValue) (plane : List ℕ) → says_nothing edges plane ≡ true → edges ≡ []
says_nothing-edges [] plane says = refl
says_nothing-edges (edge ∷ edges) plane says = absurd (false≢true says)

pub says_nothing-plane : (edges : List HasValue) (plane : List ℕ) → says_nothing edges plane ≡ true → plane ≡ []
says_nothing-plane [] [] says = refl
says_nothing-plane [] (class ∷ plane) says = absurd (false≢true says)
says_nothing-plane (edge ∷ edges) plane says = absurd (false≢true says)

module _ (parts : Parts) (well_formed : IsWellFormed parts) where
  abbrev IsThere : ℕ → Type 0
  IsThere key = IsSome (value_at parts.values key)

  edges_there : (edges : List HasValue) → list_all (λ (edge : HasValue). has_value parts edge.value) edges ≡ true → OnEdges IsThere edges
  edges_there [] all = tt
  edges_there (edge ∷ rest) all =
      (and_left (has_value parts edge.value) (list_all (λ (edge : HasValue). has_value parts edge.value) rest) all, edges_there rest (and_right (has_value parts edge.value) (list_all (λ (edge : HasValue). has_value parts edge.value) rest) all))

  -- the ends of a segment
  prev_there : (twofold : Bool) (size head next prev back least next_value prev_value : ℕ) →
      list_all (λ (link : HasValue). passes_at parts is_outward link.value) (back_edges twofold prev prev_value) ≡ true →
      back_fits parts size (Some (record { twofold = twofold; head = head; next = next; prev = prev; back = back; least = least; next_value = next_value; prev_value = prev_value })) ≡ true → IsThere prev_value
  prev_there true size head next prev back least next_value prev_value links fits =
      passes-some is_outward (value_at parts.values prev_value) (and_left (passes_at parts is_outward prev_value) true links)
  prev_there false size head next prev back least next_value prev_value links fits =
      passes-some is_null (value_at parts.values prev_value)
      (and_right (nat_eq back 0) (passes_at parts is_null prev_value) (and_right (nat_eq prev 0) (nat_eq back 0 && passes_at parts is_null prev_value) fits))

  ends_there : (shape : Shape) (size : ℕ) → list_all (λ (link : HasValue). passes_at parts is_outward link.value) (link_edges shape) ≡ true → back_fits parts size (links_in shape) ≡ true → OnEnds IsThere shape
  ends_there Region size links fits = tt
  ends_there (Segment twofold head next prev back least next_value prev_value node) size links fits = (
    passes-some is_outward (value_at parts.values next_value) (and_left (passes_at parts is_outward next_value) (list_all (λ (link : HasValue). passes_at parts is_outward link.value) (back_edges twofold prev prev_value)) links),
    prev_there twofold size head next prev back least next_value prev_value
        (and_right (passes_at parts is_outward next_value) (list_all (λ (link : HasValue). passes_at parts is_outward link.value) (back_edges twofold prev prev_value)) links) fits,
  )

  pub named_there : (key : ℕ) (object : Object) → object_at parts.objects key ≡ Some object → OnNamed IsThere object.shape (own_node object)
  named_there key object stands = (
    edges_there (node_of object).edges
        (found-all (λ (entry : KeyedObject). entry.key) (λ entry. entry.object) (λ object. list_all (λ (edge : HasValue). has_value parts edge.value) (node_of object).edges) parts.objects key object
        well_formed.edges_hold_values stands),
    ends_there object.shape object.size
        (found-all (λ (entry : KeyedObject). entry.key) (λ entry. entry.object) (λ object. list_all (λ (link : HasValue). passes_at parts is_outward link.value) (link_edges object.shape)) parts.objects key object
        well_formed.links_lead_on stands)
        (found-all (λ (entry : KeyedObject). entry.key) (λ entry. entry.object) (λ object. back_fits parts object.size (links_in object.shape)) parts.objects key object well_formed.links_back_fit stands),
  )

  -- a segment has no edges of its own
  pub segment_edges : (key : ℕ) (object : Object) → object_at parts.objects key ≡ Some object → is_region object.shape ≡ false → object.edges ≡ []
  segment_edges key object stands other =
      let stored = found-all (λ (entry : KeyedObject). entry.key) (λ entry. entry.object) (λ object. is_region object.shape || is_segment_storage object) parts.objects key object well_formed.segments_are_allocated stands in
      let storage : is_segment_storage object ≡ true = sym (ap (λ (b : Bool). b || is_segment_storage object) other) ∙ stored in
      says_nothing-edges object.edges object.plane
      (and_right (is_heap object.kind) (says_nothing object.edges object.plane) (and_right object.live (is_heap object.kind && says_nothing object.edges object.plane) storage))

  -- the own edges of an object, of which a segment has none
  pub own_edges_there : (key : ℕ) (object : Object) → object_at parts.objects key ≡ Some object → OnEdges IsThere object.edges
  own_edges_there key object stands =
      by_shape object.shape (named_there key object stands).0
      (found-all (λ (entry : KeyedObject). entry.key) (λ entry. entry.object) (λ object. is_region object.shape || is_segment_storage object) parts.objects key object well_formed.segments_are_allocated stands)
    where
      by_shape : (shape : Shape) → OnEdges IsThere (node_in shape (own_node object)).edges → (is_region shape || is_segment_storage object) ≡ true → OnEdges IsThere object.edges
      by_shape Region all stored = all
      by_shape (Segment twofold head next prev back least next_value prev_value node) all stored =
          let none : object.edges ≡ [] = says_nothing-edges object.edges object.plane
          (and_right (is_heap object.kind) (says_nothing object.edges object.plane) (and_right object.live (is_heap object.kind && says_nothing object.edges object.plane) stored)) in
          subst (λ (edges : List HasValue). OnEdges IsThere edges) (sym none) tt

  pub object_of_address : (key object : ℕ) (offset : ℤ) (target : Target) → value_at parts.values key ≡ Some (Address object offset target) → IsSome (object_at parts.objects object)
  object_of_address key object offset target stands =
      passes-some (λ found. target_fits target found.shape) (object_at parts.objects object)
      (found-all (λ (entry : KeyedValue). entry.key) (λ entry. entry.value) (leads_to_object parts) parts.values key (Address object offset target) well_formed.addresses_lead_to_objects stands)

  pub pair_there : (pair : Pair) → is_unequal_pair parts pair ≡ true → IsThere pair.left × IsThere pair.right
  pair_there pair unequal =
      let both = and_right (not (nat_eq pair.left pair.right)) (passes_at parts (λ one. passes_at parts (may_be_unequal one) pair.right) pair.left) unequal in
      let left = passes-some (λ one. passes_at parts (may_be_unequal one) pair.right) (value_at parts.values pair.left) both in
      let held = Holds-some (value_at parts.values pair.left) left in
      let right = subst (λ (o : Option Value). option_map_or (λ one. passes_at parts (may_be_unequal one) pair.right) o false ≡ true) held.is both in
      (left, passes-some (may_be_unequal held.item) (value_at parts.values pair.right) right)

  pub closed_of : IsClosed (maps_of parts)
  closed_of = record {
    objects = named_there;
    addresses = object_of_address;
    variables = λ variable key stands. passes-some is_storage (object_at parts.objects key)
        (found-all (λ (named : Named). named.variable) (λ named. named.object) (λ key. option_map_or is_storage (object_at parts.objects key) false) parts.variables variable key well_formed.variables_have_storage stands);
    registers = λ register key stands. passes-some may_be_held (value_at parts.values key)
        (found-all (λ (held : Held). held.register) (λ held. held.value) (passes_at parts may_be_held) parts.registers register key well_formed.registers_hold_values stands);
    ports = λ place key stands. passes-some may_be_held (value_at parts.values key) (passes-at (passes_at parts may_be_held) parts.ports place key stands well_formed.ports_are_values);
    unequal = λ place pair stands. pair_there pair (passes-at (is_unequal_pair parts) parts.unequal place pair stands well_formed.pairs_may_be_unequal);
  }

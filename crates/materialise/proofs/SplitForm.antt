-- A graph in which the first node of a segment is a region is well formed.
use Rattle.std.proofs.Common.{◌≡◌, ℕ, ◌+◌, Bool, true, false, not, ◌||◌, ◌&&◌, List, [], ◌∷◌, map, length, take, drop, nat_eq, nat_le, nat_lt, pos, Option, None, Some, refl, sym, ◌∙◌, ap, subst, eqb-true, eq-eqb}
use Rattle.std.specs.Prelude.{is_some, if◌then◌else◌}
use Rattle.std.specs.List.{list_all}
use Rattle.std.specs.Option.{option_map_or}
use Rattle.std.proofs.lemmas.Bool.{false≢true}
use Rattle.std.proofs.lemmas.List.Folds.{list_all-map}
use Rattle.std.proofs.lemmas.Option.{same_Some, none-some}
use Rattle.bytes_core.specs.Release.{is_heap}
use Rattle.graph.specs.declared.edges.HasValue.{HasValue}
use Rattle.graph.specs.declared.object.Links.{Links}
use Rattle.graph.specs.declared.object.Object.{Object}
use Rattle.graph.specs.declared.object.Shape.{Shape}
use Rattle.graph.specs.declared.object.Shape.TheVariants.{Region as RegionShape, Segment}
use Rattle.graph.specs.declared.template.Node.{Node}
use Rattle.graph.specs.declared.value.Target.{Target}
use Rattle.graph.specs.declared.value.Target.TheVariants.{Region, First, Last, Each}
use Rattle.graph.specs.declared.value.Value.{Value}
use Rattle.graph.specs.declared.value.Value.TheVariants.{Const, Number, Any, Address}
use Rattle.graph.specs.declared.parts.Held.{Held}
use Rattle.graph.specs.declared.parts.KeyedObject.{KeyedObject}
use Rattle.graph.specs.declared.parts.KeyedValue.{KeyedValue}
use Rattle.graph.specs.declared.parts.Named.{Named}
use Rattle.graph.specs.declared.parts.Pair.{Pair}
use Rattle.graph.specs.declared.parts.Parts.{Parts}
use Rattle.graph.specs.Maps.{object_at, value_at}
use Rattle.graph.specs.Nodes.{is_region, links_in, own_node, node_in, node_of, back_edges, link_edges}
use Rattle.graph.specs.Renaming.{values_from}
use Rattle.graph.specs.Sizes.{value_size, value_class, is_sized, is_zero, is_number, is_constant}
use Rattle.graph.specs.WellFormed.{IsWellFormed, passes_at, has_value, may_stand_in, may_be_held, target_fits, leads_to_object, is_storage, has_class_a_byte, says_nothing, is_segment_storage, lies_in, are_in_order, edge_has_size, edge_has_class, share_no_byte, link_is_any, is_outward, is_null, back_fits, are_numbers, may_be_unequal, is_unequal_pair}
use Rattle.graph.specs.Whole.{IsGraph}
use Rattle.graph.proofs.Found.{Holds-some}
use Rattle.graph.proofs.Sent.{passes-some}
use Rattle.graph.proofs.Tests.{and_left, and_right, and_both, list_all-implies}
use Rattle.changes.specs.Parts.{replaced}
use Rattle.changes.proofs.KeptForm.{all_replaced}
use Rattle.changes.proofs.RangeForm.{all_append, all_kept}
use Rattle.materialise.specs.SplitFirst.{own_values, at_region, rest_behind, first_target}
use Rattle.materialise.proofs.SplitEdges.{IsNodeFit}
use Rattle.materialise.proofs.SplitRanks.{ends_now}
use Rattle.materialise.proofs.SplitRegion.{at_key, segment_lives, segment_heap, new_fit}
use Rattle.materialise.proofs.SplitRows.{values_from_all}
use Rattle.materialise.proofs.SplitThere.{IsSegmentAt, region, owned, become, rest, new_node, new_region, fresh, later, value_there, back_there, rest_there, region_there, object_still}
use Rattle.materialise.proofs.SplitValues.{become_blind, region_blind, become_outward, become_held, become_stands, become_null}

-- The rest of the segment.

module _ (before : ℕ) where
  pub rest_node : (shape : Shape) (own : Node) → node_in (rest_behind before shape) own ≡ node_in shape own
  rest_node RegionShape own = refl
  rest_node (Segment twofold head next prev back least next_value prev_value node) own = refl

  pub rest_region : (shape : Shape) → is_region (rest_behind before shape) ≡ is_region shape
  rest_region RegionShape = refl
  rest_region (Segment twofold head next prev back least next_value prev_value node) = refl

  pub rest_target : (target : Target) (shape : Shape) → target_fits target (rest_behind before shape) ≡ target_fits target shape
  rest_target Region RegionShape = refl
  rest_target First RegionShape = refl
  rest_target Last RegionShape = refl
  rest_target Each RegionShape = refl
  rest_target Region (Segment twofold head next prev back least next_value prev_value node) = refl
  rest_target First (Segment twofold head next prev back least next_value prev_value node) = refl
  rest_target Last (Segment twofold head next prev back least next_value prev_value node) = refl
  rest_target Each (Segment twofold head next prev back least next_value prev_value node) = refl

  -- tests of places alone
  pub rest_places : (test : List HasValue → Bool) → ((at other : ℕ) (next_value prev_value : ℕ) → test ((let e : HasValue = record { at = at; size = 8; value = next_value } in e) ∷ back_edges true other prev_value) ≡ test ((let e : HasValue = record { at = at; size = 8; value = next_value } in e) ∷ back_edges true other before)) →
      (shape : Shape) → test (link_edges (rest_behind before shape)) ≡ test (link_edges shape)
  rest_places test blind RegionShape = refl
  rest_places test blind (Segment true head next prev back least next_value prev_value node) = sym (blind next prev next_value prev_value)
  rest_places test blind (Segment false head next prev back least next_value prev_value node) = refl

module _ (parts : Parts) (graph : IsGraph parts) (key : ℕ) (at : IsSegmentAt parts key) where
  form : IsWellFormed parts
  form = graph.well_formed

  abbrev after : Parts
  after = later parts graph key at

  abbrev left : Object
  left = rest parts graph key at

  abbrev new : Object
  new = new_region parts graph key at

  abbrev place : ℕ
  place = region parts graph key at

  abbrev turn : Value → Value
  turn value = become parts graph key at value

  abbrev before : ℕ
  before = owned parts graph key at + 1

  -- Tests of values.

  pub passes_now : (test other : Value → Bool) → ((value : Value) → test value ≡ true → other (turn value) ≡ true) → (k : ℕ) → passes_at parts test k ≡ true → passes_at after other k ≡ true
  passes_now test other implies k passes =
      let found = Holds-some (value_at parts.values k) (passes-some test (value_at parts.values k) passes) in
      ap (λ (o : Option Value). option_map_or other o false) (value_there parts graph key at k found.item found.is)
      ∙ implies found.item (subst (λ (o : Option Value). option_map_or test o false ≡ true) found.is passes)

  -- a test that does not tell addresses apart
  blind_now : (test : Value → Bool) → ((object other : ℕ) (offset at : _) (target to : Target) → test (Address object offset target) ≡ test (Address other at to)) → (k : ℕ) → passes_at parts test k ≡ true → passes_at after test k ≡ true
  blind_now test blind = passes_now test test (λ value is. become_blind place key test blind value ∙ is)

  has_now : (k : ℕ) → has_value parts k ≡ true → has_value after k ≡ true
  has_now k has = let found = Holds-some (value_at parts.values k) has in ap is_some (value_there parts graph key at k found.item found.is)

  -- Tests of objects.

  pub all_now : (one other : ℕ → Object → Bool) → ((k : ℕ) (object : Object) → one k object ≡ true → other k object ≡ true) → other key left ≡ true → other place new ≡ true →
      list_all (λ (entry : KeyedObject). one entry.key entry.object) parts.objects ≡ true → list_all (λ (entry : KeyedObject). other entry.key entry.object) after.objects ≡ true
  all_now one other implies here more all =
      all_append (λ (entry : KeyedObject). other entry.key entry.object) (map (replaced key left) parts.objects) (record { key = place; object = new } ∷ [])
      (all_replaced other key left parts.objects here
      (list_all-implies (λ (entry : KeyedObject). one entry.key entry.object) (λ (entry : KeyedObject). other entry.key entry.object) (λ entry. implies entry.key entry.object) parts.objects all))
      (and_both (other place new) true more refl)

  -- tests of edges: the rest has those of the segment
  edges_now : (one other : ℕ → HasValue → Bool) → ((k : ℕ) (edge : HasValue) → one k edge ≡ true → other k edge ≡ true) → list_all (other place) (new_node parts graph key at).edges ≡ true →
      list_all (λ (entry : KeyedObject). list_all (one entry.key) (node_of entry.object).edges) parts.objects ≡ true → list_all (λ (entry : KeyedObject). list_all (other entry.key) (node_of entry.object).edges) after.objects ≡ true
  edges_now one other implies more all =
      all_now (λ k object. list_all (one k) (node_of object).edges) (λ k object. list_all (other k) (node_of object).edges) (λ k object. list_all-implies (one k) (other k) (implies k) (node_of object).edges)
      (ap (λ (node : Node). list_all (other key) node.edges) (rest_node before at.object.shape (own_node at.object))
      ∙ list_all-implies (one key) (other key) (implies key) (node_of at.object).edges (at_key parts graph key at (λ k object. list_all (one k) (node_of object).edges) all))
      more all

  -- tests of objects that see places alone
  same_now : (test : ℕ → Object → Bool) → test key left ≡ test key at.object → test place new ≡ true → list_all (λ (entry : KeyedObject). test entry.key entry.object) parts.objects ≡ true →
      list_all (λ (entry : KeyedObject). test entry.key entry.object) after.objects ≡ true
  same_now test same more all = all_now test test (λ k object is. is) (same ∙ at_key parts graph key at test all) more all

  on_rest : (P : Node → Type 0) → P (node_of at.object) → P (node_of left)
  on_rest P has = subst P (sym (rest_node before at.object.shape (own_node at.object))) has

  -- Addresses.

  target_hit : (target : Target) (offset : _) → target_fits target at.object.shape ≡ true → leads_to_object after (first_target place key target offset) ≡ true
  target_hit Region offset fits = absurd (false≢true (sym (no_region at.object.shape at.linked) ∙ fits))
    where
      no_region : (shape : Shape) → links_in shape ≡ Some at.links → target_fits Region shape ≡ false
      no_region RegionShape linked = absurd (none-some at.links linked)
      no_region (Segment twofold head next prev back least next_value prev_value node) linked = refl
  target_hit First offset fits = ap (λ (o : Option Object). option_map_or (λ found. target_fits Region found.shape) o false) (region_there parts graph key at)
  target_hit Last offset fits =
      ap (λ (o : Option Object). option_map_or (λ found. target_fits Last found.shape) o false) (rest_there parts graph key at) ∙ rest_target before Last at.object.shape ∙ fits
  target_hit Each offset fits =
      ap (λ (o : Option Object). option_map_or (λ found. target_fits Each found.shape) o false) (rest_there parts graph key at) ∙ rest_target before Each at.object.shape ∙ fits

  leads_now : (value : Value) → leads_to_object parts value ≡ true → leads_to_object after (turn value) ≡ true
  leads_now (Const number size) leads = refl
  leads_now (Number size) leads = refl
  leads_now Any leads = refl
  leads_now (Address object offset target) leads = by_key (nat_eq object key) refl
    where
      by_key : (b : Bool) → nat_eq object key ≡ b → leads_to_object after (if b then first_target place key target offset else Address object offset target) ≡ true
      by_key true hit =
          target_hit target offset
          (sym (ap (λ (o : Option Object). option_map_or (λ found. target_fits target found.shape) o false) (ap (object_at parts.objects) (eqb-true _ _ hit) ∙ at.stands)) ∙ leads)
      by_key false miss =
          let found = Holds-some (object_at parts.objects object) (passes-some (λ found. target_fits target found.shape) (object_at parts.objects object) leads) in
          ap (λ (o : Option Object). option_map_or (λ found. target_fits target found.shape) o false) (object_still parts graph key at object found.item miss found.is ∙ sym found.is) ∙ leads

  leads_region : (offset : _) → leads_to_object after (Address place offset Region) ≡ true
  leads_region offset = ap (λ (o : Option Object). option_map_or (λ found. target_fits Region found.shape) o false) (region_there parts graph key at)

  leads_own : (value : Value) → leads_to_object after (at_region place value) ≡ true
  leads_own (Const number size) = refl
  leads_own (Number size) = refl
  leads_own Any = refl
  leads_own (Address object offset target) = leads_region offset

  leads_first : (offset : _) → leads_to_object after (Address key offset First) ≡ true
  leads_first offset =
      ap (λ (o : Option Object). option_map_or (λ found. target_fits First found.shape) o false) (rest_there parts graph key at) ∙ rest_target before First at.object.shape ∙ a_segment at.object.shape at.linked
    where
      a_segment : (shape : Shape) → links_in shape ≡ Some at.links → target_fits First shape ≡ true
      a_segment RegionShape linked = absurd (none-some at.links linked)
      a_segment (Segment twofold head next prev back least next_value prev_value node) linked = refl

  -- what the values more pass
  fresh_all : (test : Value → Bool) → list_all (λ (entry : KeyedValue). test (at_region place entry.value)) (own_values key parts) ≡ true → test (Address key (pos at.links.head) First) ≡ true → test (Address place (pos at.links.back) Region) ≡ true →
      list_all test (fresh parts graph key at) ≡ true
  fresh_all test owns first back =
      all_append test (map (λ entry. at_region place entry.value) (own_values key parts)) (Address key (pos at.links.head) First ∷ (if at.links.twofold then Address place (pos at.links.back) Region ∷ [] else []))
      (list_all-map test (λ (entry : KeyedValue). at_region place entry.value) (own_values key parts) ∙ owns)
      (and_both (test (Address key (pos at.links.head) First)) (list_all test (if at.links.twofold then Address place (pos at.links.back) Region ∷ [] else [])) first (by_way at.links.twofold))
    where
      by_way : (b : Bool) → list_all test (if b then Address place (pos at.links.back) Region ∷ [] else []) ≡ true
      by_way true = and_both (test (Address place (pos at.links.back) Region)) true back refl
      by_way false = refl

  values_all : (one other : Value → Bool) → ((value : Value) → one value ≡ true → other (turn value) ≡ true) → list_all other (fresh parts graph key at) ≡ true →
      list_all (λ (entry : KeyedValue). one entry.value) parts.values ≡ true → list_all (λ (entry : KeyedValue). other entry.value) after.values ≡ true
  values_all one other implies more all =
      all_append (λ (entry : KeyedValue). other entry.value) (map {B = KeyedValue} (λ entry. record { key = entry.key; value = turn entry.value }) parts.values) (values_from (length parts.values) (fresh parts graph key at))
      (list_all-map (λ (entry : KeyedValue). other entry.value) (λ (entry : KeyedValue). let e : KeyedValue = record { key = entry.key; value = turn entry.value } in e) parts.values
      ∙ list_all-implies (λ (entry : KeyedValue). one entry.value) (λ entry. other (turn entry.value)) (λ entry. implies entry.value) parts.values all)
      (values_from_all other (length parts.values) (fresh parts graph key at) more)

  leads_all : list_all (λ (entry : KeyedValue). leads_to_object after entry.value) after.values ≡ true
  leads_all = values_all (leads_to_object parts) (leads_to_object after) leads_now
      (fresh_all (leads_to_object after) (each_own (own_values key parts)) (leads_first (pos at.links.head)) (leads_region (pos at.links.back))) form.addresses_lead_to_objects
    where
      each_own : (entries : List KeyedValue) → list_all (λ (entry : KeyedValue). leads_to_object after (at_region place entry.value)) entries ≡ true
      each_own [] = refl
      each_own (entry ∷ entries) = and_both (leads_to_object after (at_region place entry.value)) (list_all (λ (entry : KeyedValue). leads_to_object after (at_region place entry.value)) entries) (leads_own entry.value) (each_own entries)

  sized_all : list_all (λ (entry : KeyedValue). is_sized entry.value) after.values ≡ true
  sized_all = values_all is_sized is_sized (λ value is. become_blind place key is_sized (λ object other offset at target to. refl) value ∙ is)
      (fresh_all is_sized
      (all_kept (λ (entry : KeyedValue). _) (λ (entry : KeyedValue). is_sized entry.value) (λ (entry : KeyedValue). is_sized (at_region place entry.value))
      (λ entry kept is. region_blind place key is_sized (λ object other offset at target to. refl) entry.value ∙ is) parts.values form.values_are_sized) refl refl) form.values_are_sized

  -- Storage.

  stored_now : (k : ℕ) → option_map_or is_storage (object_at parts.objects k) false ≡ true → option_map_or is_storage (object_at after.objects k) false ≡ true
  stored_now k stored =
      let found = Holds-some (object_at parts.objects k) (passes-some is_storage (object_at parts.objects k) stored) in
      ap (λ (o : Option Object). option_map_or is_storage o false) (object_still parts graph key at k found.item (by_key (nat_eq k key) refl) found.is ∙ sym found.is) ∙ stored
    where
      by_key : (b : Bool) → nat_eq k key ≡ b → nat_eq k key ≡ false
      by_key false other = other
      by_key true same =
          absurd (false≢true (sym (ap not (segment_heap parts graph key at)) ∙ and_right at.object.live (not (is_heap at.object.kind))
          (sym (ap (λ (o : Option Object). option_map_or is_storage o false) (ap (object_at parts.objects) (eqb-true _ _ same) ∙ at.stands)) ∙ stored)))

  -- Links of the rest.

  leads_on : list_all (λ link. passes_at after is_outward link.value) (link_edges left.shape) ≡ true
  leads_on = by_shape at.object.shape at.linked (at_key parts graph key at (λ k object. list_all (λ link. passes_at parts is_outward link.value) (link_edges object.shape)) form.links_lead_on)
    where
      outward_now : (k : ℕ) → passes_at parts is_outward k ≡ true → passes_at after is_outward k ≡ true
      outward_now = passes_now is_outward is_outward (λ value is. become_outward place key value ∙ is)

      by_way : (b : Bool) (next next_value prev prev_value : ℕ) → at.links.twofold ≡ b →
          (passes_at parts is_outward next_value && list_all (λ (link : HasValue). passes_at parts is_outward link.value) (back_edges b prev prev_value)) ≡ true →
          (passes_at after is_outward next_value && list_all (λ (link : HasValue). passes_at after is_outward link.value) (back_edges b prev (if b then before else prev_value))) ≡ true
      by_way true next next_value prev prev_value twofold all =
          and_both (passes_at after is_outward next_value) (passes_at after is_outward before && true)
          (outward_now next_value (and_left (passes_at parts is_outward next_value) (list_all (λ (link : HasValue). passes_at parts is_outward link.value) (back_edges true prev prev_value)) all))
          (and_both (passes_at after is_outward before) true (ap (λ (o : Option Value). option_map_or is_outward o false) (back_there parts graph key at twofold)) refl)
      by_way false next next_value prev prev_value twofold all =
          and_both (passes_at after is_outward next_value) true
          (outward_now next_value (and_left (passes_at parts is_outward next_value) true all)) refl

      by_shape : (shape : Shape) → links_in shape ≡ Some at.links → list_all (λ link. passes_at parts is_outward link.value) (link_edges shape) ≡ true →
          list_all (λ link. passes_at after is_outward link.value) (link_edges (rest_behind before shape)) ≡ true
      by_shape RegionShape linked all = absurd (none-some at.links linked)
      by_shape (Segment twofold head next prev back least next_value prev_value node) linked all =
          by_way twofold next next_value prev prev_value (ap (λ (l : Links). l.twofold) (sym (same_Some _ _ linked))) all

  back_still : (size : ℕ) (found : Option Links) → back_fits parts size found ≡ true → back_fits after size found ≡ true
  back_still size None is = refl
  back_still size (Some links) is = by_way links.twofold is
    where
      by_way : (b : Bool) → (if b then nat_lt links.back size else (nat_eq links.prev 0 && (nat_eq links.back 0 && passes_at parts is_null links.prev_value))) ≡ true →
          (if b then nat_lt links.back size else (nat_eq links.prev 0 && (nat_eq links.back 0 && passes_at after is_null links.prev_value))) ≡ true
      by_way true is = is
      by_way false is =
          let more = and_right (nat_eq links.prev 0) (nat_eq links.back 0 && passes_at parts is_null links.prev_value) is in
          and_both (nat_eq links.prev 0) (nat_eq links.back 0 && passes_at after is_null links.prev_value) (and_left (nat_eq links.prev 0) (nat_eq links.back 0 && passes_at parts is_null links.prev_value) is)
          (and_both (nat_eq links.back 0) (passes_at after is_null links.prev_value) (and_left (nat_eq links.back 0) (passes_at parts is_null links.prev_value) more)
          (passes_now is_null is_null (become_null place key) links.prev_value (and_right (nat_eq links.back 0) (passes_at parts is_null links.prev_value) more)))

  back_rest : back_fits after at.object.size (links_in left.shape) ≡ true
  back_rest = by_shape at.object.shape (at_key parts graph key at (λ k object. back_fits parts object.size (links_in object.shape)) form.links_back_fit)
    where
      by_shape : (shape : Shape) → back_fits parts at.object.size (links_in shape) ≡ true → back_fits after at.object.size (links_in (rest_behind before shape)) ≡ true
      by_shape RegionShape is = refl
      by_shape (Segment true head next prev back least next_value prev_value node) is = is
      by_shape (Segment false head next prev back least next_value prev_value node) is = back_still at.object.size (links_in (Segment false head next prev back least next_value prev_value node)) is

  -- Pairs.

  unequal_now : (pair : Pair) → is_unequal_pair parts pair ≡ true → is_unequal_pair after pair ≡ true
  unequal_now pair is =
      and_both (not (nat_eq pair.left pair.right)) (passes_at after (λ one. passes_at after (may_be_unequal one) pair.right) pair.left)
      (and_left (not (nat_eq pair.left pair.right)) (passes_at parts (λ one. passes_at parts (may_be_unequal one) pair.right) pair.left) is)
      (passes_now (λ one. passes_at parts (may_be_unequal one) pair.right) (λ one. passes_at after (may_be_unequal one) pair.right)
      (λ one. by_right one) pair.left (and_right (not (nat_eq pair.left pair.right)) (passes_at parts (λ one. passes_at parts (may_be_unequal one) pair.right) pair.left) is))
    where
      numbers_same : (one other : Value) (size : ℕ) → are_numbers (turn one) (turn other) size ≡ are_numbers one other size
      numbers_same one other size =
          ap (λ (b : Bool). b && is_number (turn other) size) (become_blind place key (λ value. is_number value size) (λ object other offset at target to. refl) one)
          ∙ ap (λ (b : Bool). is_number one size && b) (become_blind place key (λ value. is_number value size) (λ object other offset at target to. refl) other)

      may_same : (one other : Value) → may_be_unequal (turn one) (turn other) ≡ may_be_unequal one other
      may_same one other =
          ap (λ (b : Bool). (b || are_numbers (turn one) (turn other) 8) && not (is_constant (turn one) && is_constant (turn other))) (numbers_same one other 4)
          ∙ ap (λ (b : Bool). (are_numbers one other 4 || b) && not (is_constant (turn one) && is_constant (turn other))) (numbers_same one other 8)
          ∙ ap (λ (b : Bool). (are_numbers one other 4 || are_numbers one other 8) && not (b && is_constant (turn other))) (become_blind place key is_constant (λ object other offset at target to. refl) one)
          ∙ ap (λ (b : Bool). (are_numbers one other 4 || are_numbers one other 8) && not (is_constant one && b)) (become_blind place key is_constant (λ object other offset at target to. refl) other)

      by_right : (one : Value) → passes_at parts (may_be_unequal one) pair.right ≡ true → passes_at after (may_be_unequal (turn one)) pair.right ≡ true
      by_right one passes = passes_now (may_be_unequal one) (may_be_unequal (turn one)) (λ other may. may_same one other ∙ may) pair.right passes

  -- Objects, tested one by one.

  new_fits : IsNodeFit after place at.object.size (new_node parts graph key at)
  new_fits = new_fit parts graph key at

  long_left : has_class_a_byte left ≡ has_class_a_byte at.object
  long_left = ap (λ (node : Node). not at.object.live || nat_eq (length node.plane) at.object.size) (rest_node before at.object.shape (own_node at.object))

  long_new : has_class_a_byte new ≡ true
  long_new = ap (λ (b : Bool). not b || nat_eq (length (new_node parts graph key at).plane) at.object.size) (segment_lives parts graph key at) ∙ eq-eqb _ _ new_fits.long

  bare_left : (left.live || (is_region left.shape && says_nothing left.edges left.plane)) ≡ (at.object.live || (is_region at.object.shape && says_nothing at.object.edges at.object.plane))
  bare_left = ap (λ (b : Bool). at.object.live || (b && says_nothing at.object.edges at.object.plane)) (rest_region before at.object.shape)

  stored_left : (is_region left.shape || is_segment_storage left) ≡ (is_region at.object.shape || is_segment_storage at.object)
  stored_left = ap (λ (b : Bool). b || is_segment_storage at.object) (rest_region before at.object.shape)

  left_edges : (test : List HasValue → Bool) → test (node_of left).edges ≡ test (node_of at.object).edges
  left_edges test = ap (λ (node : Node). test node.edges) (rest_node before at.object.shape (own_node at.object))

  left_links : (test : List HasValue → Bool) →
      ((next other : ℕ) (next_value prev_value : ℕ) → test ((let e : HasValue = record { at = next; size = 8; value = next_value } in e) ∷ back_edges true other prev_value) ≡ test ((let e : HasValue = record { at = next; size = 8; value = next_value } in e) ∷ back_edges true other before)) →
      test (link_edges left.shape) ≡ test (link_edges at.object.shape)
  left_links test blind = rest_places before test blind at.object.shape

  pub form_now : IsWellFormed after
  form_now = record {
    edges_hold_values = edges_now (λ k edge. has_value parts edge.value) (λ k edge. has_value after edge.value) (λ k edge. has_now edge.value) new_fits.holds form.edges_hold_values;
    edges_are_at_home = edges_now (λ k edge. passes_at parts (may_stand_in k) edge.value) (λ k edge. passes_at after (may_stand_in k) edge.value)
        (λ k edge. passes_now (may_stand_in k) (may_stand_in k) (become_stands place key k) edge.value) new_fits.homes form.edges_are_at_home;
    registers_hold_values = list_all-implies (λ (held : Held). passes_at parts may_be_held held.value) (λ held. passes_at after may_be_held held.value) (λ held. held_now held.value) parts.registers form.registers_hold_values;
    ports_are_values = list_all-implies (passes_at parts may_be_held) (passes_at after may_be_held) held_now parts.ports form.ports_are_values;
    addresses_lead_to_objects = leads_all;
    variables_have_storage = list_all-implies (λ (named : Named). option_map_or is_storage (object_at parts.objects named.object) false) (λ named. option_map_or is_storage (object_at after.objects named.object) false)
        (λ named. stored_now named.object) parts.variables form.variables_have_storage;
    storage_is_distinct = form.storage_is_distinct;
    variables_ascend = form.variables_ascend;
    registers_ascend = form.registers_ascend;
    objects_are_small = same_now (λ k object. nat_le object.size 65536) refl (at_key parts graph key at (λ k object. nat_le object.size 65536) form.objects_are_small) form.objects_are_small;
    planes_are_as_long = same_now (λ k object. has_class_a_byte object) long_left long_new form.planes_are_as_long;
    dead_objects_are_bare = same_now (λ k object. object.live || (is_region object.shape && says_nothing object.edges object.plane)) bare_left
        (ap (λ (b : Bool). b || (true && says_nothing (new_node parts graph key at).edges (new_node parts graph key at).plane)) (segment_lives parts graph key at)) form.dead_objects_are_bare;
    segments_are_allocated = same_now (λ k object. is_region object.shape || is_segment_storage object) stored_left refl form.segments_are_allocated;
    edges_lie_inside = same_now (λ k object. list_all (lies_in object.size) (node_of object).edges) (left_edges (list_all (lies_in at.object.size))) new_fits.inside form.edges_lie_inside;
    edges_are_in_order = same_now (λ k object. are_in_order (node_of object).edges) (left_edges are_in_order) new_fits.order form.edges_are_in_order;
    edges_have_their_sizes = edges_now (λ k. edge_has_size parts) (λ k. edge_has_size after) (λ k edge. blind_now (λ value. nat_eq (value_size value) edge.size) (λ object other offset at target to. refl) edge.value) new_fits.sizes form.edges_have_their_sizes;
    edges_have_their_classes = all_now (λ k object. list_all (edge_has_class parts (node_of object).plane) (node_of object).edges) (λ k object. list_all (edge_has_class after (node_of object).plane) (node_of object).edges)
        (λ k object. list_all-implies (edge_has_class parts (node_of object).plane) (edge_has_class after (node_of object).plane) (λ edge. class_now (node_of object).plane edge) (node_of object).edges)
        (on_rest (λ node. list_all (edge_has_class after node.plane) node.edges ≡ true)
        (list_all-implies (edge_has_class parts (node_of at.object).plane) (edge_has_class after (node_of at.object).plane) (λ edge. class_now (node_of at.object).plane edge) (node_of at.object).edges
        (at_key parts graph key at (λ k object. list_all (edge_has_class parts (node_of object).plane) (node_of object).edges) form.edges_have_their_classes)))
        new_fits.classes form.edges_have_their_classes;
    edges_are_not_zero = edges_now (λ k edge. passes_at parts (λ value. not (is_zero value)) edge.value) (λ k edge. passes_at after (λ value. not (is_zero value)) edge.value)
        (λ k edge. blind_now (λ value. not (is_zero value)) (λ object other offset at target to. refl) edge.value) new_fits.nonzero form.edges_are_not_zero;
    links_lie_inside = same_now (λ k object. list_all (lies_in object.size) (link_edges object.shape)) (left_links (list_all (lies_in at.object.size)) (λ next other next_value prev_value. refl)) refl form.links_lie_inside;
    links_are_in_order = same_now (λ k object. are_in_order (link_edges object.shape)) (left_links are_in_order (λ next other next_value prev_value. refl)) refl form.links_are_in_order;
    links_have_no_edge = same_now (λ k object. list_all (λ link. list_all (share_no_byte link) (node_of object).edges) (link_edges object.shape))
        (ap (λ (node : Node). list_all (λ link. list_all (share_no_byte link) node.edges) (link_edges left.shape)) (rest_node before at.object.shape (own_node at.object))
        ∙ left_links (list_all (λ link. list_all (share_no_byte link) (node_of at.object).edges)) (λ next other next_value prev_value. refl)) refl form.links_have_no_edge;
    links_may_be_pointers = same_now (λ k object. list_all (link_is_any (node_of object).plane) (link_edges object.shape))
        (ap (λ (node : Node). list_all (link_is_any node.plane) (link_edges left.shape)) (rest_node before at.object.shape (own_node at.object))
        ∙ left_links (list_all (link_is_any (node_of at.object).plane)) (λ next other next_value prev_value. refl)) refl form.links_may_be_pointers;
    links_lead_on = all_now (λ k object. list_all (λ link. passes_at parts is_outward link.value) (link_edges object.shape)) (λ k object. list_all (λ link. passes_at after is_outward link.value) (link_edges object.shape))
        (λ k object. list_all-implies (λ link. passes_at parts is_outward link.value) (λ link. passes_at after is_outward link.value) (λ link. passes_now is_outward is_outward (λ value is. become_outward place key value ∙ is) link.value) (link_edges object.shape))
        leads_on refl form.links_lead_on;
    links_back_fit = all_now (λ k object. back_fits parts object.size (links_in object.shape)) (λ k object. back_fits after object.size (links_in object.shape)) (λ k object. back_still object.size (links_in object.shape)) back_rest refl form.links_back_fit;
    comes_to_an_end = ends_now parts graph key at;
    values_are_sized = sized_all;
    pairs_may_be_unequal = list_all-implies (is_unequal_pair parts) (is_unequal_pair after) unequal_now parts.unequal form.pairs_may_be_unequal;
    pairs_are_different = form.pairs_are_different;
  }
    where
      held_now : (k : ℕ) → passes_at parts may_be_held k ≡ true → passes_at after may_be_held k ≡ true
      held_now = passes_now may_be_held may_be_held (λ value is. become_held place key value ∙ is)

      class_now : (plane : List ℕ) (edge : HasValue) → edge_has_class parts plane edge ≡ true → edge_has_class after plane edge ≡ true
      class_now plane edge = blind_now (λ value. list_all (nat_eq (value_class value)) (take edge.size (drop edge.at plane))) (λ object other offset at target to. refl) edge.value

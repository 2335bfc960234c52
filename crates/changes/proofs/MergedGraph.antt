-- All points of a graph hold where one number stands in place of another.
use Rattle.std.proofs.Common.{◌≡◌, ℕ, zero, suc, ◌+◌, ◌^◌, ◌<◌, ◌≤◌, Bool, true, false, ◌||◌, ◌&&◌, not, List, [], ◌∷◌, map, length, take, drop, get_or, nat_eq, nat_le, nat_lt, Option, None, Some, refl, sym, ◌∙◌, ap, subst, eqb-true, leb-true, ltb-true, lt-ltb, arith}
use Rattle.std.specs.Prelude.{is_some, option_map, slice_get, if◌then◌else◌}
use Rattle.std.specs.List.{fold, list_all}
use Rattle.std.specs.Option.{option_map_or}
use Rattle.std.proofs.lemmas.Bool.{false≢true}
use Rattle.std.proofs.lemmas.List.{length-map}
use Rattle.std.proofs.lemmas.List.Folds.{list_all-map}
use Rattle.std.proofs.lemmas.Option.{same_Some, none-some, slice_get-map}
use Rattle.bytes_core.specs.Release.{is_heap}
use Rattle.graph.specs.declared.edges.HasValue.{HasValue}
use Rattle.graph.specs.declared.object.Links.{Links}
use Rattle.graph.specs.declared.object.Object.{Object}
use Rattle.graph.specs.declared.object.Shape.{Shape}
use Rattle.graph.specs.declared.object.Shape.TheVariants.{Region as RegionShape, Segment}
use Rattle.graph.specs.declared.template.Node.{Node}
use Rattle.graph.specs.declared.value.Value.{Value}
use Rattle.graph.specs.declared.value.Value.TheVariants.{Const, Number, Any, Address}
use Rattle.graph.specs.declared.parts.Held.{Held}
use Rattle.graph.specs.declared.parts.KeyedObject.{KeyedObject}
use Rattle.graph.specs.declared.parts.KeyedValue.{KeyedValue}
use Rattle.graph.specs.declared.parts.Named.{Named}
use Rattle.graph.specs.declared.parts.Parts.{Parts}
use Rattle.graph.specs.Maps.{object_at, value_at}
use Rattle.graph.specs.Nodes.{is_region, links_in, own_node, node_of, link_edges}
use Rattle.graph.specs.Sizes.{value_size, value_class, is_zero, is_number}
use Rattle.graph.specs.WellFormed.{IsWellFormed, are_ascending, passes_at, has_value, may_stand_in, may_be_held, target_fits, leads_to_object, is_storage, has_class_a_byte, says_nothing, is_segment_storage, lies_in, are_in_order, edge_has_size, edge_has_class, share_no_byte, link_is_any, is_outward, back_fits, nodes_of, nodes}
use Rattle.graph.specs.Whole.{IsGraph}
use Rattle.graph.proofs.Found.{found-changed}
use Rattle.graph.proofs.Tests.{and_left, and_right, and_both, list_all-implies}
use Rattle.changes.proofs.KeptForm.{all_same}
use Rattle.changes.proofs.RangeForm.{all_kept}
use Rattle.changes.specs.Fitting.{object_fits}
use Rattle.changes.specs.Merging.{merged_key, merged_edge, merged_edges, merged_plane, merged_node, merged_shape, merged_object, merged_entry, merged_held, merged}
use Rattle.changes.specs.Merging.{MayMerge}
use Rattle.changes.proofs.Cleared.{spares}
use Rattle.changes.proofs.MergedForm.{all_and, or_weaker, links_same, links_in_same, region_same, nodes_same, target_same, node_same, nothing_same, order_merged, edges_merged, spared_all, links_spared, graph_fits, node_fits, long_same, range_same}
use Rattle.changes.proofs.MergedPairs.{merged_different, merged_unequal, merged_few}

not_true : (b : Bool) → not b ≡ true → b ≡ false
not_true true is = absurd (false≢true is)
not_true false is = refl

-- what a test that does not tell a constant from another number says of the one that goes, it says of the one that is kept
value_like : (test : Value → Bool) (size : ℕ) (value : Value) → is_number value size ≡ true → ((n : ℕ) → test (Const n size) ≡ test (Number size)) → test value ≡ test (Number size)
value_like test size (Const n s) is same = ap (λ (k : ℕ). test (Const n k)) (eqb-true _ _ is) ∙ same n
value_like test size (Number s) is same = ap (λ (k : ℕ). test (Number k)) (eqb-true _ _ is)
value_like test size Any is same = absurd (false≢true is)
value_like test size (Address object offset target) is same = absurd (false≢true is)

module _ (parts : Parts) (graph : IsGraph parts) (kept gone : ℕ) (may : MayMerge parts kept gone) where
  abbrev pub after : Parts
  after = merged kept gone parts

  abbrev pub zero_kept : Bool
  zero_kept = passes_at parts is_zero kept

  form : IsWellFormed parts
  form = graph.well_formed

  -- a value that is there
  pub passes_merged : (test : Value → Bool) → ((n : ℕ) → test (Const n may.size) ≡ test (Number may.size)) → (key : ℕ) → passes_at parts test key ≡ true → passes_at parts test (merged_key kept gone key) ≡ true
  passes_merged test same key passes = by_key (nat_eq key gone) refl
    where
      by_key : (b : Bool) → nat_eq key gone ≡ b → passes_at parts test (if b then kept else key) ≡ true
      by_key false is = passes
      by_key true is =
          ap (λ (o : Option Value). option_map_or test o false) may.kept_is ∙ value_like test may.size may.value may.kept_number same
          ∙ sym (ap (λ (o : Option Value). option_map_or test o false) (ap (value_at parts.values) (eqb-true _ _ is) ∙ may.gone_is)) ∙ passes

  has_merged : (key : ℕ) → has_value parts key ≡ true → has_value parts (merged_key kept gone key) ≡ true
  has_merged key has = by_key (nat_eq key gone)
    where
      by_key : (b : Bool) → has_value parts (if b then kept else key) ≡ true
      by_key false = has
      by_key true = ap is_some may.kept_is

  nonzero_merged : (z : Bool) → zero_kept ≡ z → z ≡ false → (key : ℕ) → passes_at parts (λ value. not (is_zero value)) key ≡ true → passes_at parts (λ value. not (is_zero value)) (merged_key kept gone key) ≡ true
  nonzero_merged z is false_is key passes = by_key (nat_eq key gone)
    where
      by_key : (b : Bool) → passes_at parts (λ value. not (is_zero value)) (if b then kept else key) ≡ true
      by_key false = passes
      by_key true =
          ap (λ (o : Option Value). option_map_or (λ value. not (is_zero value)) o false) may.kept_is
          ∙ ap not (sym (ap (λ (o : Option Value). option_map_or is_zero o false) may.kept_is) ∙ is ∙ false_is)

  -- what stands at a key
  pub object_merged : (at : ℕ) → object_at after.objects at ≡ option_map (merged_object zero_kept kept gone) (object_at parts.objects at)
  object_merged at =
      found-changed (λ (entry : KeyedObject). entry.key) (λ entry. entry.object) (λ (entry : KeyedObject). entry.key) (λ entry. entry.object) (merged_entry zero_kept kept gone) (merged_object zero_kept kept gone)
      (λ entry. refl) (λ entry. refl) parts.objects at

  test_merged : (test : Object → Bool) → ((object : Object) → test (merged_object zero_kept kept gone object) ≡ test object) → (at : ℕ) →
      option_map_or test (object_at after.objects at) false ≡ option_map_or test (object_at parts.objects at) false
  test_merged test same at = ap (λ (o : Option Object). option_map_or test o false) (object_merged at) ∙ by_found (object_at parts.objects at)
    where
      by_found : (found : Option Object) → option_map_or test (option_map (merged_object zero_kept kept gone) found) false ≡ option_map_or test found false
      by_found None = refl
      by_found (Some object) = same object

  -- tests of objects
  all_objects : (one other : ℕ → Object → Bool) → ((key : ℕ) (object : Object) → one key object ≡ true → other key (merged_object zero_kept kept gone object) ≡ true) →
      list_all (λ (entry : KeyedObject). one entry.key entry.object) parts.objects ≡ true → list_all (λ (entry : KeyedObject). other entry.key entry.object) after.objects ≡ true
  all_objects one other implies all =
      list_all-map (λ (entry : KeyedObject). other entry.key entry.object) (merged_entry zero_kept kept gone) parts.objects
      ∙ list_all-implies (λ (entry : KeyedObject). one entry.key entry.object) (λ entry. other entry.key (merged_object zero_kept kept gone entry.object)) (λ entry has. implies entry.key entry.object has) parts.objects all

  on_node : (object : Object) (P : Node → Type 0) → P (merged_node zero_kept kept gone (node_of object)) → P (node_of (merged_object zero_kept kept gone object))
  on_node object P has = subst P (sym (node_same zero_kept kept gone object.shape (own_node object))) has

  -- tests of edges
  all_edges : (test : ℕ → Object → HasValue → Bool) → ((key : ℕ) (object : Object) (edge : HasValue) → test key object edge ≡ true → test key (merged_object zero_kept kept gone object) (merged_edge kept gone edge) ≡ true) →
      ((key : ℕ) (object : Object) (edge : HasValue) → test key object edge ≡ true → test key (merged_object zero_kept kept gone object) edge ≡ true) →
      list_all (λ (entry : KeyedObject). list_all (test entry.key entry.object) (node_of entry.object).edges) parts.objects ≡ true →
      list_all (λ (entry : KeyedObject). list_all (test entry.key entry.object) (node_of entry.object).edges) after.objects ≡ true
  all_edges test changed stays all =
      all_objects (λ key object. list_all (test key object) (node_of object).edges) (λ key object. list_all (test key object) (node_of object).edges)
      (λ key object has. on_node object (λ node. list_all (test key (merged_object zero_kept kept gone object)) node.edges ≡ true)
      (edges_merged zero_kept kept gone (test key object) (test key (merged_object zero_kept kept gone object)) (changed key object) (λ edge differ. stays key object edge) (node_of object).edges has)) all

  -- Points of which several are asked at once.

  all_fit : list_all (λ (entry : KeyedObject). object_fits entry.object) parts.objects ≡ true
  all_fit = graph_fits parts graph

  long_merged : (object : Object) → object_fits object ≡ true → has_class_a_byte object ≡ true → has_class_a_byte (merged_object zero_kept kept gone object) ≡ true
  long_merged object fits long = on_node object (λ node. (not object.live || nat_eq (length node.plane) object.size) ≡ true)
      (ap (λ (n : ℕ). not object.live || nat_eq n object.size) (long_same zero_kept gone (node_of object) (node_fits object fits)) ∙ long)

  class_test : (plane : List ℕ) (edge : HasValue) (one : List ℕ) → take edge.size (drop edge.at plane) ≡ one → edge_has_class parts plane edge ≡ passes_at parts (λ value. list_all (nat_eq (value_class value)) one) edge.value
  class_test plane edge one is = ap (λ (range : List ℕ). passes_at parts (λ value. list_all (nat_eq (value_class value)) range) edge.value) is

  classes_merged : (object : Object) → object_fits object ≡ true → are_in_order (node_of object).edges ≡ true → list_all (edge_has_class parts (node_of object).plane) (node_of object).edges ≡ true →
      list_all (edge_has_class parts (node_of (merged_object zero_kept kept gone object)).plane) (node_of (merged_object zero_kept kept gone object)).edges ≡ true
  classes_merged object fits order classes = on_node object (λ node. list_all (edge_has_class parts node.plane) node.edges ≡ true) (by_zero zero_kept)
    where
      by_zero : (z : Bool) → list_all (edge_has_class parts (merged_plane z gone (node_of object).edges (node_of object).plane)) (merged_edges z kept gone (node_of object).edges) ≡ true
      by_zero false = edges_merged false kept gone (edge_has_class parts (node_of object).plane) (edge_has_class parts (node_of object).plane)
          (λ edge has. passes_merged (λ value. list_all (nat_eq (value_class value)) (take edge.size (drop edge.at (node_of object).plane))) (λ n. refl) edge.value has) (λ edge differ has. has) (node_of object).edges classes
      by_zero true = all_kept (λ edge. not (nat_eq edge.value gone))
          (λ edge. edge_has_class parts (node_of object).plane edge && (lies_in (length (node_of object).plane) edge && (nat_eq edge.value gone || list_all (spares gone edge.at edge.size) (node_of object).edges)))
          (edge_has_class parts (merged_plane true gone (node_of object).edges (node_of object).plane))
          (λ edge is all. stays edge (not_true (nat_eq edge.value gone) is) all) (node_of object).edges
          (all_and (edge_has_class parts (node_of object).plane) (λ edge. lies_in (length (node_of object).plane) edge && (nat_eq edge.value gone || list_all (spares gone edge.at edge.size) (node_of object).edges)) (node_of object).edges classes
          (all_and (lies_in (length (node_of object).plane)) (λ edge. nat_eq edge.value gone || list_all (spares gone edge.at edge.size) (node_of object).edges) (node_of object).edges (node_fits object fits)
          (spared_all gone (node_of object).edges order)))
        where
          spare : (edge : HasValue) → nat_eq edge.value gone ≡ false → (nat_eq edge.value gone || list_all (spares gone edge.at edge.size) (node_of object).edges) ≡ true → list_all (spares gone edge.at edge.size) (node_of object).edges ≡ true
          spare edge differ any = sym (ap (λ (b : Bool). b || list_all (spares gone edge.at edge.size) (node_of object).edges) differ) ∙ any

          stays : (edge : HasValue) → nat_eq edge.value gone ≡ false →
              (edge_has_class parts (node_of object).plane edge && (lies_in (length (node_of object).plane) edge && (nat_eq edge.value gone || list_all (spares gone edge.at edge.size) (node_of object).edges))) ≡ true →
              edge_has_class parts (merged_plane true gone (node_of object).edges (node_of object).plane) edge ≡ true
          stays edge differ all =
              let rest = and_right (edge_has_class parts (node_of object).plane edge) (lies_in (length (node_of object).plane) edge && (nat_eq edge.value gone || list_all (spares gone edge.at edge.size) (node_of object).edges)) all in
              class_test (merged_plane true gone (node_of object).edges (node_of object).plane) edge (take edge.size (drop edge.at (node_of object).plane))
              (range_same true gone (node_of object) edge.at edge.size (node_fits object fits)
              (leb-true _ _ (and_left (lies_in (length (node_of object).plane) edge) (nat_eq edge.value gone || list_all (spares gone edge.at edge.size) (node_of object).edges) rest))
              (spare edge differ (and_right (lies_in (length (node_of object).plane) edge) (nat_eq edge.value gone || list_all (spares gone edge.at edge.size) (node_of object).edges) rest)))
              ∙ and_left (edge_has_class parts (node_of object).plane edge) (lies_in (length (node_of object).plane) edge && (nat_eq edge.value gone || list_all (spares gone edge.at edge.size) (node_of object).edges)) all

  links_any : (object : Object) → object_fits object ≡ true → has_class_a_byte object ≡ true → (is_region object.shape || is_segment_storage object) ≡ true → list_all (lies_in object.size) (link_edges object.shape) ≡ true →
      list_all (λ link. list_all (share_no_byte link) (node_of object).edges) (link_edges object.shape) ≡ true → list_all (link_is_any (node_of object).plane) (link_edges object.shape) ≡ true →
      list_all (link_is_any (node_of (merged_object zero_kept kept gone object)).plane) (link_edges (merged_shape zero_kept kept gone object.shape)) ≡ true
  links_any object fits long stored inside apart any =
      ap (list_all (link_is_any (node_of (merged_object zero_kept kept gone object)).plane)) (links_same zero_kept kept gone object.shape)
      ∙ on_node object (λ node. list_all (link_is_any node.plane) (link_edges object.shape) ≡ true) (by_shape object.shape refl)
    where
      by_shape : (shape : Shape) → object.shape ≡ shape → list_all (link_is_any (merged_node zero_kept kept gone (node_of object)).plane) (link_edges object.shape) ≡ true
      by_shape RegionShape is = ap (λ (s : Shape). list_all (link_is_any (merged_node zero_kept kept gone (node_of object)).plane) (link_edges s)) is
      by_shape (Segment twofold head next prev back least next_value prev_value node) is =
          let live = and_left object.live (is_heap object.kind && says_nothing object.edges object.plane) (sym (ap (λ (s : Shape). is_region s || is_segment_storage object) is) ∙ stored) in
          let size : length (node_of object).plane ≡ object.size = eqb-true _ _ (sym (ap (λ (b : Bool). not b || nat_eq (length (node_of object).plane) object.size) live) ∙ long) in
          list_all-implies (λ link. link_is_any (node_of object).plane link && (lies_in object.size link && list_all (share_no_byte link) (node_of object).edges)) (link_is_any (merged_node zero_kept kept gone (node_of object)).plane)
          (λ link all.
          let rest = and_right (link_is_any (node_of object).plane link) (lies_in object.size link && list_all (share_no_byte link) (node_of object).edges) all in
          ap (list_all (nat_eq 2)) (range_same zero_kept gone (node_of object) link.at link.size (node_fits object fits)
          (subst (λ (n : ℕ). link.at + link.size ≤ n) (sym size) (leb-true _ _ (and_left (lies_in object.size link) (list_all (share_no_byte link) (node_of object).edges) rest)))
          (links_spared gone link (node_of object).edges (and_right (lies_in object.size link) (list_all (share_no_byte link) (node_of object).edges) rest)))
          ∙ and_left (link_is_any (node_of object).plane link) (lies_in object.size link && list_all (share_no_byte link) (node_of object).edges) all)
          (link_edges object.shape)
          (all_and (link_is_any (node_of object).plane) (λ link. lies_in object.size link && list_all (share_no_byte link) (node_of object).edges) (link_edges object.shape) any
          (all_and (lies_in object.size) (λ link. list_all (share_no_byte link) (node_of object).edges) (link_edges object.shape) inside apart))

  -- Registers.

  registers_same : (registers : List Held) → map (λ (held : Held). held.register) (map (merged_held kept gone) registers) ≡ map (λ (held : Held). held.register) registers
  registers_same [] = refl
  registers_same (first ∷ rest) = ap (λ (ns : List ℕ). first.register ∷ ns) (registers_same rest)

  -- Segments.

  was_linked : (key : ℕ) (object : Object) (links : Links) → object_at after.objects key ≡ Some object → links_in object.shape ≡ Some links → (old : Object) × (object_at parts.objects key ≡ Some old) × (links_in old.shape ≡ Some links)
  was_linked key object links stands linked = by_found (object_at parts.objects key) refl (sym (object_merged key) ∙ stands)
    where
      by_found : (found : Option Object) → object_at parts.objects key ≡ found → option_map (merged_object zero_kept kept gone) found ≡ Some object → (old : Object) × (object_at parts.objects key ≡ Some old) × (links_in old.shape ≡ Some links)
      by_found None is none = absurd (none-some object none)
      by_found (Some old) is same = (old, is, sym (links_in_same zero_kept kept gone old.shape) ∙ ap (λ (o : Object). links_in o.shape) (same_Some _ _ same) ∙ linked)

  leads_still : (value : Value) → leads_to_object after value ≡ leads_to_object parts value
  leads_still (Const number size) = refl
  leads_still (Number size) = refl
  leads_still Any = refl
  leads_still (Address at offset target) = test_merged (λ found. target_fits target found.shape) (λ object. target_same zero_kept kept gone target object.shape) at

  back_still : (size : ℕ) (found : Option Links) → back_fits after size found ≡ back_fits parts size found
  back_still size None = refl
  back_still size (Some links) = refl

  form_merged : IsWellFormed after
  form_merged = record {
    edges_hold_values = all_edges (λ key object edge. has_value parts edge.value) (λ key object edge has. has_merged edge.value has) (λ key object edge has. has) form.edges_hold_values;
    edges_are_at_home = all_edges (λ key object edge. passes_at parts (may_stand_in key) edge.value) (λ key object edge has. passes_merged (may_stand_in key) (λ n. refl) edge.value has) (λ key object edge has. has) form.edges_are_at_home;
    registers_hold_values = list_all-map (λ (held : Held). passes_at parts may_be_held held.value) (merged_held kept gone) parts.registers
        ∙ list_all-implies (λ (held : Held). passes_at parts may_be_held held.value) (λ held. passes_at parts may_be_held (merged_key kept gone held.value)) (λ held has. passes_merged may_be_held (λ n. refl) held.value has) parts.registers form.registers_hold_values;
    ports_are_values = list_all-map (passes_at parts may_be_held) (merged_key kept gone) parts.ports
        ∙ list_all-implies (passes_at parts may_be_held) (λ port. passes_at parts may_be_held (merged_key kept gone port)) (λ port has. passes_merged may_be_held (λ n. refl) port has) parts.ports form.ports_are_values;
    addresses_lead_to_objects = all_same (λ (entry : KeyedValue). leads_to_object parts entry.value) (λ entry. leads_to_object after entry.value) (λ entry. leads_still entry.value) parts.values form.addresses_lead_to_objects;
    variables_have_storage = all_same (λ (named : Named). option_map_or is_storage (object_at parts.objects named.object) false) (λ named. option_map_or is_storage (object_at after.objects named.object) false)
        (λ named. test_merged is_storage (λ object. refl) named.object) parts.variables form.variables_have_storage;
    storage_is_distinct = form.storage_is_distinct;
    variables_ascend = form.variables_ascend;
    registers_ascend = ap are_ascending (registers_same parts.registers) ∙ form.registers_ascend;
    objects_are_small = all_objects (λ key object. nat_le object.size 65536) (λ key object. nat_le object.size 65536) (λ key object has. has) form.objects_are_small;
    planes_are_as_long = all_objects (λ key object. object_fits object && has_class_a_byte object) (λ key object. has_class_a_byte object)
        (λ key object both. long_merged object (and_left (object_fits object) (has_class_a_byte object) both) (and_right (object_fits object) (has_class_a_byte object) both))
        (all_and (λ (entry : KeyedObject). object_fits entry.object) (λ entry. has_class_a_byte entry.object) parts.objects all_fit form.planes_are_as_long);
    dead_objects_are_bare = all_objects (λ key object. object.live || (is_region object.shape && says_nothing object.edges object.plane)) (λ key object. object.live || (is_region object.shape && says_nothing object.edges object.plane))
        (λ key object. or_weaker object.live (is_region object.shape && says_nothing object.edges object.plane)
        (is_region (merged_shape zero_kept kept gone object.shape) && says_nothing (merged_edges zero_kept kept gone object.edges) (merged_plane zero_kept gone object.edges object.plane))
        (λ both. and_both (is_region (merged_shape zero_kept kept gone object.shape)) (says_nothing (merged_edges zero_kept kept gone object.edges) (merged_plane zero_kept gone object.edges object.plane))
        (region_same zero_kept kept gone object.shape ∙ and_left (is_region object.shape) (says_nothing object.edges object.plane) both)
        (nothing_same zero_kept kept gone object.edges object.plane (and_right (is_region object.shape) (says_nothing object.edges object.plane) both)))) form.dead_objects_are_bare;
    segments_are_allocated = all_objects (λ key object. is_region object.shape || is_segment_storage object) (λ key object. is_region object.shape || is_segment_storage object)
        (λ key object has. ap (λ (b : Bool). b || is_segment_storage (merged_object zero_kept kept gone object)) (region_same zero_kept kept gone object.shape)
        ∙ or_weaker (is_region object.shape) (is_segment_storage object) (is_segment_storage (merged_object zero_kept kept gone object))
        (λ stored. and_both object.live (is_heap object.kind && says_nothing (merged_edges zero_kept kept gone object.edges) (merged_plane zero_kept gone object.edges object.plane))
        (and_left object.live (is_heap object.kind && says_nothing object.edges object.plane) stored)
        (and_both (is_heap object.kind) (says_nothing (merged_edges zero_kept kept gone object.edges) (merged_plane zero_kept gone object.edges object.plane))
        (and_left (is_heap object.kind) (says_nothing object.edges object.plane) (and_right object.live (is_heap object.kind && says_nothing object.edges object.plane) stored))
        (nothing_same zero_kept kept gone object.edges object.plane (and_right (is_heap object.kind) (says_nothing object.edges object.plane) (and_right object.live (is_heap object.kind && says_nothing object.edges object.plane) stored))))) has) form.segments_are_allocated;
    edges_lie_inside = all_edges (λ key object edge. lies_in object.size edge) (λ key object edge has. has) (λ key object edge has. has) form.edges_lie_inside;
    edges_are_in_order = all_objects (λ key object. are_in_order (node_of object).edges) (λ key object. are_in_order (node_of object).edges)
        (λ key object has. on_node object (λ node. are_in_order node.edges ≡ true) (order_merged zero_kept kept gone (node_of object).edges has)) form.edges_are_in_order;
    edges_have_their_sizes = all_edges (λ key object edge. edge_has_size parts edge) (λ key object edge has. passes_merged (λ value. nat_eq (value_size value) edge.size) (λ n. refl) edge.value has) (λ key object edge has. has) form.edges_have_their_sizes;
    edges_have_their_classes = all_objects (λ key object. object_fits object && (are_in_order (node_of object).edges && list_all (edge_has_class parts (node_of object).plane) (node_of object).edges))
        (λ key object. list_all (edge_has_class parts (node_of object).plane) (node_of object).edges)
        (λ key object all.
        let rest = and_right (object_fits object) (are_in_order (node_of object).edges && list_all (edge_has_class parts (node_of object).plane) (node_of object).edges) all in
        classes_merged object (and_left (object_fits object) (are_in_order (node_of object).edges && list_all (edge_has_class parts (node_of object).plane) (node_of object).edges) all)
        (and_left (are_in_order (node_of object).edges) (list_all (edge_has_class parts (node_of object).plane) (node_of object).edges) rest)
        (and_right (are_in_order (node_of object).edges) (list_all (edge_has_class parts (node_of object).plane) (node_of object).edges) rest))
        (all_and (λ (entry : KeyedObject). object_fits entry.object) (λ entry. are_in_order (node_of entry.object).edges && list_all (edge_has_class parts (node_of entry.object).plane) (node_of entry.object).edges) parts.objects all_fit
        (all_and (λ (entry : KeyedObject). are_in_order (node_of entry.object).edges) (λ entry. list_all (edge_has_class parts (node_of entry.object).plane) (node_of entry.object).edges) parts.objects form.edges_are_in_order form.edges_have_their_classes));
    edges_are_not_zero = all_objects (λ key object. list_all (λ edge. passes_at parts (λ value. not (is_zero value)) edge.value) (node_of object).edges) (λ key object. list_all (λ edge. passes_at parts (λ value. not (is_zero value)) edge.value) (node_of object).edges)
        (λ key object has. on_node object (λ node. list_all (λ edge. passes_at parts (λ value. not (is_zero value)) edge.value) node.edges ≡ true) (not_zero (node_of object).edges has zero_kept refl)) form.edges_are_not_zero;
    links_lie_inside = all_objects (λ key object. list_all (lies_in object.size) (link_edges object.shape)) (λ key object. list_all (lies_in object.size) (link_edges object.shape))
        (λ key object has. ap (list_all (lies_in object.size)) (links_same zero_kept kept gone object.shape) ∙ has) form.links_lie_inside;
    links_are_in_order = all_objects (λ key object. are_in_order (link_edges object.shape)) (λ key object. are_in_order (link_edges object.shape))
        (λ key object has. ap are_in_order (links_same zero_kept kept gone object.shape) ∙ has) form.links_are_in_order;
    links_have_no_edge = all_objects (λ key object. list_all (λ link. list_all (share_no_byte link) (node_of object).edges) (link_edges object.shape)) (λ key object. list_all (λ link. list_all (share_no_byte link) (node_of object).edges) (link_edges object.shape))
        (λ key object has. ap (list_all (λ link. list_all (share_no_byte link) (node_of (merged_object zero_kept kept gone object)).edges)) (links_same zero_kept kept gone object.shape)
        ∙ on_node object (λ node. list_all (λ link. list_all (share_no_byte link) node.edges) (link_edges object.shape) ≡ true)
        (list_all-implies (λ link. list_all (share_no_byte link) (node_of object).edges) (λ link. list_all (share_no_byte link) (merged_edges zero_kept kept gone (node_of object).edges))
        (λ link. edges_merged zero_kept kept gone (share_no_byte link) (share_no_byte link) (λ edge has. has) (λ edge differ has. has) (node_of object).edges) (link_edges object.shape) has)) form.links_have_no_edge;
    links_may_be_pointers = all_objects
        (λ key object. object_fits object && (has_class_a_byte object && ((is_region object.shape || is_segment_storage object)
        && (list_all (lies_in object.size) (link_edges object.shape) && (list_all (λ link. list_all (share_no_byte link) (node_of object).edges) (link_edges object.shape) && list_all (link_is_any (node_of object).plane) (link_edges object.shape))))))
        (λ key object. list_all (link_is_any (node_of object).plane) (link_edges object.shape))
        (λ key object all. pointers object all)
        (all_and (λ (entry : KeyedObject). object_fits entry.object) (λ entry. has_class_a_byte entry.object && ((is_region entry.object.shape || is_segment_storage entry.object)
        && (list_all (lies_in entry.object.size) (link_edges entry.object.shape) && (list_all (λ link. list_all (share_no_byte link) (node_of entry.object).edges) (link_edges entry.object.shape) && list_all (link_is_any (node_of entry.object).plane) (link_edges entry.object.shape))))) parts.objects all_fit
        (all_and (λ (entry : KeyedObject). has_class_a_byte entry.object) (λ entry. (is_region entry.object.shape || is_segment_storage entry.object)
        && (list_all (lies_in entry.object.size) (link_edges entry.object.shape) && (list_all (λ link. list_all (share_no_byte link) (node_of entry.object).edges) (link_edges entry.object.shape) && list_all (link_is_any (node_of entry.object).plane) (link_edges entry.object.shape)))) parts.objects form.planes_are_as_long
        (all_and (λ (entry : KeyedObject). is_region entry.object.shape || is_segment_storage entry.object) (λ entry. list_all (lies_in entry.object.size) (link_edges entry.object.shape)
        && (list_all (λ link. list_all (share_no_byte link) (node_of entry.object).edges) (link_edges entry.object.shape) && list_all (link_is_any (node_of entry.object).plane) (link_edges entry.object.shape))) parts.objects form.segments_are_allocated
        (all_and (λ (entry : KeyedObject). list_all (lies_in entry.object.size) (link_edges entry.object.shape)) (λ entry. list_all (λ link. list_all (share_no_byte link) (node_of entry.object).edges) (link_edges entry.object.shape)
        && list_all (link_is_any (node_of entry.object).plane) (link_edges entry.object.shape)) parts.objects form.links_lie_inside
        (all_and (λ (entry : KeyedObject). list_all (λ link. list_all (share_no_byte link) (node_of entry.object).edges) (link_edges entry.object.shape)) (λ entry. list_all (link_is_any (node_of entry.object).plane) (link_edges entry.object.shape)) parts.objects form.links_have_no_edge form.links_may_be_pointers)))));
    links_lead_on = all_objects (λ key object. list_all (λ link. passes_at parts is_outward link.value) (link_edges object.shape)) (λ key object. list_all (λ link. passes_at parts is_outward link.value) (link_edges object.shape))
        (λ key object has. ap (list_all (λ link. passes_at parts is_outward link.value)) (links_same zero_kept kept gone object.shape) ∙ has) form.links_lead_on;
    links_back_fit = all_objects (λ key object. back_fits parts object.size (links_in object.shape)) (λ key object. back_fits after object.size (links_in object.shape))
        (λ key object has. back_still object.size (links_in (merged_shape zero_kept kept gone object.shape)) ∙ ap (back_fits parts object.size) (links_in_same zero_kept kept gone object.shape) ∙ has) form.links_back_fit;
    comes_to_an_end = record {
      ranks = form.comes_to_an_end.ranks;
      next = λ key object links stands linked least. let was = was_linked key object links stands linked in form.comes_to_an_end.next key was.0 links was.1 was.2 least;
      prev = λ key object links stands linked least. let was = was_linked key object links stands linked in form.comes_to_an_end.prev key was.0 links was.1 was.2 least;
    };
    values_are_sized = form.values_are_sized;
    pairs_may_be_unequal = merged_unequal parts kept gone parts.unequal form.pairs_may_be_unequal;
    pairs_are_different = merged_different parts kept gone parts.unequal form.pairs_are_different;
  }
    where
      not_zero : (edges : List HasValue) → list_all (λ edge. passes_at parts (λ value. not (is_zero value)) edge.value) edges ≡ true → (z : Bool) → zero_kept ≡ z →
          list_all (λ edge. passes_at parts (λ value. not (is_zero value)) edge.value) (merged_edges z kept gone edges) ≡ true
      not_zero edges all true is = all_kept (λ edge. not (nat_eq edge.value gone)) (λ edge. passes_at parts (λ value. not (is_zero value)) edge.value) (λ edge. passes_at parts (λ value. not (is_zero value)) edge.value) (λ edge differ has. has) edges all
      not_zero edges all false is = edges_merged false kept gone (λ edge. passes_at parts (λ value. not (is_zero value)) edge.value) (λ edge. passes_at parts (λ value. not (is_zero value)) edge.value)
          (λ edge has. nonzero_merged false is refl edge.value has) (λ edge differ has. has) edges all

      pointers : (object : Object) → (object_fits object && (has_class_a_byte object && ((is_region object.shape || is_segment_storage object)
          && (list_all (lies_in object.size) (link_edges object.shape) && (list_all (λ link. list_all (share_no_byte link) (node_of object).edges) (link_edges object.shape) && list_all (link_is_any (node_of object).plane) (link_edges object.shape)))))) ≡ true →
          list_all (link_is_any (node_of (merged_object zero_kept kept gone object)).plane) (link_edges (merged_shape zero_kept kept gone object.shape)) ≡ true
      pointers object all =
          let a = and_right (object_fits object) _ all in
          let b = and_right (has_class_a_byte object) _ a in
          let c = and_right (is_region object.shape || is_segment_storage object) _ b in
          let d = and_right (list_all (lies_in object.size) (link_edges object.shape)) _ c in
          links_any object (and_left (object_fits object) _ all) (and_left (has_class_a_byte object) _ a) (and_left (is_region object.shape || is_segment_storage object) _ b)
          (and_left (list_all (lies_in object.size) (link_edges object.shape)) _ c)
          (and_left (list_all (λ link. list_all (share_no_byte link) (node_of object).edges) (link_edges object.shape)) _ d)
          (and_right (list_all (λ link. list_all (share_no_byte link) (node_of object).edges) (link_edges object.shape)) _ d)

  -- Limits and keys.

  fold_same : (entries : List KeyedObject) (a : ℕ) → fold (λ count (entry : KeyedObject). count + nodes_of entry.object.shape) a (map (merged_entry zero_kept kept gone) entries) ≡ fold (λ count (entry : KeyedObject). count + nodes_of entry.object.shape) a entries
  fold_same [] a = refl
  fold_same (first ∷ rest) a =
      ap (λ (n : ℕ). fold (λ count (entry : KeyedObject). count + nodes_of entry.object.shape) (a + n) (map (merged_entry zero_kept kept gone) rest)) (nodes_same zero_kept kept gone first.object.shape)
      ∙ fold_same rest (a + nodes_of first.object.shape)

  key_at : (entries : List KeyedObject) (i : ℕ) (d : KeyedObject) → i < length entries → (get_or entries i d).key ≡ (get_or (map (merged_entry zero_kept kept gone) entries) i d).key
  key_at [] i d inside = absurd (omega arith)
  key_at (first ∷ rest) zero d inside = refl
  key_at (first ∷ rest) (suc i) d inside = key_at rest i d (omega arith)

  places_kept : (place : ℕ) (entry : KeyedObject) → slice_get after.objects place ≡ Some entry → entry.key ≡ place
  places_kept place entry stands = by_found (slice_get parts.objects place) refl (sym (slice_get-map (merged_entry zero_kept kept gone) parts.objects place) ∙ stands)
    where
      by_found : (found : Option KeyedObject) → slice_get parts.objects place ≡ found → option_map (merged_entry zero_kept kept gone) found ≡ Some entry → entry.key ≡ place
      by_found None is none = absurd (none-some entry none)
      by_found (Some first) is same = ap (λ (e : KeyedObject). e.key) (sym (same_Some _ _ same)) ∙ graph.keys.objects place first is

  pub graph_merged : IsGraph after
  graph_merged = record {
    well_formed = form_merged;
    within_limits = and_both (nat_lt (nodes after) (2 ^ 30)) (nat_lt (length after.unequal) (2 ^ 30))
        (ap (λ (n : ℕ). nat_lt n (2 ^ 30)) (fold_same parts.objects 0) ∙ and_left (nat_lt (nodes parts) (2 ^ 30)) (nat_lt (length parts.unequal) (2 ^ 30)) graph.within_limits)
        (lt-ltb _ _ (let few = merged_few parts kept gone parts.unequal in let below = ltb-true _ _ (and_right (nat_lt (nodes parts) (2 ^ 30)) (nat_lt (length parts.unequal) (2 ^ 30)) graph.within_limits) in omega arith));
    ascending = record {
      objects = λ i j d before within.
          let long = length-map parts.objects (merged_entry zero_kept kept gone) in
          subst (λ (n : ℕ). n < (get_or after.objects j d).key) (key_at parts.objects i d (omega arith))
          (subst (λ (n : ℕ). (get_or parts.objects i d).key < n) (key_at parts.objects j d (omega arith)) (graph.ascending.objects i j d before (omega arith)));
      values = graph.ascending.values;
    };
    keys = record { objects = places_kept; values = graph.keys.values };
  }

-- A graph without a segment that may have no nodes is well formed, and within the limits.
use Rattle.std.proofs.Common.{◌≡◌, ℕ, zero, suc, Bool, true, false, ◌||◌, ◌&&◌, not, cond, List, [], ◌∷◌, map, length, take, drop, replicate, nat_eq, Option, None, Some, refl, sym, ◌∙◌, ap, subst, eq-eqb, eqb-true}
use Rattle.std.specs.Prelude.{is_some, option_map, if◌then◌else◌}
use Rattle.std.specs.List.{filter, list_all}
use Rattle.std.specs.Option.{option_map_or}
use Rattle.std.proofs.lemmas.Bool.{false≢true}
use Rattle.bytes_core.specs.Release.{is_heap}
use Rattle.graph.specs.declared.edges.HasValue.{HasValue}
use Rattle.graph.specs.declared.object.Object.{Object}
use Rattle.graph.specs.declared.object.Shape.{Shape}
use Rattle.graph.specs.declared.object.Shape.TheVariants.{Region as RegionShape, Segment}
use Rattle.graph.specs.declared.template.Node.{Node}
use Rattle.graph.specs.declared.value.Target.{Target}
use Rattle.graph.specs.declared.value.Target.TheVariants.{Region, First, Last, Each}
use Rattle.graph.specs.declared.value.Value.{Value}
use Rattle.graph.specs.declared.value.Value.TheVariants.{Const, Number, Any, Address}
use Rattle.graph.specs.declared.parts.KeyedObject.{KeyedObject}
use Rattle.graph.specs.declared.parts.Parts.{Parts}
use Rattle.graph.specs.Large.{leads_to}
use Rattle.graph.specs.Maps.{value_at}
use Rattle.graph.specs.Nodes.{is_region, links_in, own_node, node_in, node_of, link_edges}
use Rattle.graph.specs.Sizes.{value_class, is_zero}
use Rattle.graph.specs.WellFormed.{IsWellFormed, passes_at, has_value, may_be_held, target_fits, leads_to_object, has_class_a_byte, says_nothing, is_segment_storage, lies_in, lies_before, are_in_order, edge_has_class, is_outward, is_null, nodes_of}
use Rattle.graph.specs.Whole.{IsGraph}
use Rattle.graph.proofs.Found.{Holds-some}
use Rattle.graph.proofs.Sent.{passes-some}
use Rattle.graph.proofs.Tests.{and_left, and_right, and_both}
use Rattle.changes.specs.Ranges.{class_for}
use Rattle.changes.proofs.RangeForm.{all_kept}
use Rattle.materialise.specs.Beyond.{emptied_value}
use Rattle.materialise.specs.Dropped.{edges_now, plane_now, node_now, shape_now, object_now, entry_now}
use Rattle.materialise.proofs.Emptiable.{MayBeEmpty}
use Rattle.materialise.proofs.Case.{all_both, now, after, value_there, now_is, leads_at}
use Rattle.materialise.proofs.Emptied.{emptied_same, emptied_outward, emptied_held}
use Rattle.materialise.proofs.Planes.{AllEdges, plane_long, plane_under}

-- Shapes and edges.

module _ (now : ℕ → Value) where
  pub links_same : (shape : Shape) → link_edges (shape_now now shape) ≡ link_edges shape
  links_same RegionShape = refl
  links_same (Segment twofold head next prev back least next_value prev_value node) = refl

  pub links_in_same : (shape : Shape) → links_in (shape_now now shape) ≡ links_in shape
  links_in_same RegionShape = refl
  links_in_same (Segment twofold head next prev back least next_value prev_value node) = refl

  pub region_same : (shape : Shape) → is_region (shape_now now shape) ≡ is_region shape
  region_same RegionShape = refl
  region_same (Segment twofold head next prev back least next_value prev_value node) = refl

  pub nodes_same : (shape : Shape) → nodes_of (shape_now now shape) ≡ nodes_of shape
  nodes_same RegionShape = refl
  nodes_same (Segment twofold head next prev back least next_value prev_value node) = refl

  pub target_same : (target : Target) (shape : Shape) → target_fits target (shape_now now shape) ≡ target_fits target shape
  target_same Region RegionShape = refl
  target_same First RegionShape = refl
  target_same Last RegionShape = refl
  target_same Each RegionShape = refl
  target_same Region (Segment twofold head next prev back least next_value prev_value node) = refl
  target_same First (Segment twofold head next prev back least next_value prev_value node) = refl
  target_same Last (Segment twofold head next prev back least next_value prev_value node) = refl
  target_same Each (Segment twofold head next prev back least next_value prev_value node) = refl

  node_same : (shape : Shape) (own : Node) → node_in (shape_now now shape) (node_now now own) ≡ node_now now (node_in shape own)
  node_same RegionShape own = refl
  node_same (Segment twofold head next prev back least next_value prev_value node) own = refl

  pub on_node : (object : Object) (P : Node → Type 0) → P (node_now now (node_of object)) → P (node_of (object_now now object))
  on_node object P has = subst P (sym (node_same object.shape (own_node object))) has

  nothing_same : (edges : List HasValue) (plane : List ℕ) → says_nothing edges plane ≡ true → says_nothing (edges_now now edges) (plane_now now edges plane) ≡ true
  nothing_same [] [] is = refl
  nothing_same [] (class ∷ plane) is = absurd (false≢true is)
  nothing_same (edge ∷ edges) plane is = absurd (false≢true is)

  pub order_kept : (p : HasValue → Bool) (edges : List HasValue) → are_in_order edges ≡ true → are_in_order (filter p edges) ≡ true
  order_kept p [] order = refl
  order_kept p (edge ∷ rest) order = by_test (p edge) (order_kept p rest (and_right (list_all (lies_before edge) rest) (are_in_order rest) order))
    where
      by_test : (b : Bool) → are_in_order (filter p rest) ≡ true → are_in_order (if b then edge ∷ filter p rest else filter p rest) ≡ true
      by_test true later = and_both (list_all (lies_before edge) (filter p rest)) (are_in_order (filter p rest))
          (all_kept p (lies_before edge) (lies_before edge) (λ other is before. before) rest (and_left (list_all (lies_before edge) rest) (are_in_order rest) order)) later
      by_test false later = later

or_weaker : (a b c : Bool) → (b ≡ true → c ≡ true) → (a || b) ≡ true → (a || c) ≡ true
or_weaker true b c implies either = refl
or_weaker false b c implies either = implies either

not_true : (b : Bool) → not b ≡ true → b ≡ false
not_true true is = absurd (false≢true is)
not_true false is = refl

pub all_replicate : (class size : ℕ) → list_all (nat_eq class) (replicate size class) ≡ true
all_replicate class zero = refl
all_replicate class (suc size) = and_both (nat_eq class class) (list_all (nat_eq class) (replicate size class)) (eq-eqb class class refl) (all_replicate class size)

-- what is asked of the edges and the plane of an object
abbrev pub is_fine : Object → Bool
is_fine object =
    has_class_a_byte object
    && (list_all (lies_in object.size) (node_of object).edges
    && (are_in_order (node_of object).edges && ((object.live || (is_region object.shape && says_nothing object.edges object.plane)) && (is_region object.shape || is_segment_storage object))))

pub record IsFine (object : Object) : Type 0 where
  pub long : has_class_a_byte object ≡ true
  pub inside : list_all (lies_in object.size) (node_of object).edges ≡ true
  pub order : are_in_order (node_of object).edges ≡ true
  pub bare : (object.live || (is_region object.shape && says_nothing object.edges object.plane)) ≡ true
  pub stored : (is_region object.shape || is_segment_storage object) ≡ true

pub fine_of : (object : Object) → is_fine object ≡ true → IsFine object
fine_of object all =
    let a = and_right (has_class_a_byte object) _ all in
    let b = and_right (list_all (lies_in object.size) (node_of object).edges) _ a in
    let c = and_right (are_in_order (node_of object).edges) _ b in record {
      long = and_left (has_class_a_byte object) _ all;
      inside = and_left (list_all (lies_in object.size) (node_of object).edges) _ a;
      order = and_left (are_in_order (node_of object).edges) _ b;
      bare = and_left (object.live || (is_region object.shape && says_nothing object.edges object.plane)) (is_region object.shape || is_segment_storage object) c;
      stored = and_right (object.live || (is_region object.shape && says_nothing object.edges object.plane)) (is_region object.shape || is_segment_storage object) c;
    }

pub all_fine : (parts : Parts) → IsWellFormed parts → list_all (λ (entry : KeyedObject). is_fine entry.object) parts.objects ≡ true
all_fine parts form =
    all_both (λ (entry : KeyedObject). has_class_a_byte entry.object) _ parts.objects form.planes_are_as_long
    (all_both (λ (entry : KeyedObject). list_all (lies_in entry.object.size) (node_of entry.object).edges) _ parts.objects form.edges_lie_inside
    (all_both (λ (entry : KeyedObject). are_in_order (node_of entry.object).edges) _ parts.objects form.edges_are_in_order
    (all_both (λ (entry : KeyedObject). entry.object.live || (is_region entry.object.shape && says_nothing entry.object.edges entry.object.plane)) (λ (entry : KeyedObject). is_region entry.object.shape || is_segment_storage entry.object) parts.objects
    form.dead_objects_are_bare form.segments_are_allocated)))

-- a live object has a plane of its length, and a dead one has no edges
pub fine_long : (object : Object) → IsFine object → object.live ≡ true → length (node_of object).plane ≡ object.size
fine_long object fine live = eqb-true _ _ (sym (ap (λ (b : Bool). not b || nat_eq (length (node_of object).plane) object.size) live) ∙ fine.long)

dead_bare : (object : Object) → IsFine object → object.live ≡ false → (node_of object).edges ≡ []
dead_bare object fine dead = by_shape object.shape (sym (ap (λ (b : Bool). b || (is_region object.shape && says_nothing object.edges object.plane)) dead) ∙ fine.bare)
  where
    no_edges : (edges : List HasValue) (plane : List ℕ) → says_nothing edges plane ≡ true → edges ≡ []
    no_edges [] plane is = refl
    no_edges (edge ∷ edges) plane is = absurd (false≢true is)

    by_shape : (shape : Shape) → (is_region shape && says_nothing object.edges object.plane) ≡ true → (node_in shape (own_node object)).edges ≡ []
    by_shape RegionShape both = no_edges object.edges object.plane both
    by_shape (Segment twofold head next prev back least next_value prev_value node) both = absurd (false≢true both)

module _ (parts : Parts) (graph : IsGraph parts) (key : ℕ) (may : MayBeEmpty parts key) where
  form : IsWellFormed parts
  form = graph.well_formed

  abbrev pub become : Value → Value
  become value = emptied_value parts key may.links value

  abbrev pub nows : ℕ → Value
  nows = now parts graph.well_formed key may

  abbrev pub behind : Parts
  behind = after parts graph.well_formed key may

  -- Tests of values.

  pub passes_now : (test other : Value → Bool) → ((value : Value) → leads_to_object parts value ≡ true → test value ≡ true → other (become value) ≡ true) → (at : ℕ) → passes_at parts test at ≡ true → passes_at behind other at ≡ true
  passes_now test other implies at passes =
      let found = Holds-some (value_at parts.values at) (passes-some test (value_at parts.values at) passes) in
      ap (λ (o : Option Value). option_map_or other o false) (value_there parts graph.well_formed key may at ∙ ap (option_map become) found.is)
      ∙ implies found.item (leads_at parts graph.well_formed key may at found.item found.is) (subst (λ (o : Option Value). option_map_or test o false ≡ true) found.is passes)

  pub has_now : (at : ℕ) → has_value parts at ≡ true → has_value behind at ≡ true
  has_now at has = ap is_some (value_there parts graph.well_formed key may at) ∙ by_found (value_at parts.values at) has
    where
      by_found : (found : Option Value) → is_some found ≡ true → is_some (option_map become found) ≡ true
      by_found None is = is
      by_found (Some value) is = refl

  pub now_passes : (test : Value → Bool) (at : ℕ) → has_value parts at ≡ true → passes_at behind test at ≡ test (nows at)
  now_passes test at has =
      let found = Holds-some (value_at parts.values at) has in
      ap (λ (o : Option Value). option_map_or test o false) (value_there parts graph.well_formed key may at ∙ ap (option_map become) found.is)
      ∙ sym (ap test (now_is parts graph.well_formed key may at found.item found.is))

  null_clear : (value : Value) → is_null value ≡ true → leads_to key value ≡ false
  null_clear (Const number size) is = refl
  null_clear (Number size) is = refl
  null_clear Any is = refl
  null_clear (Address object offset target) is = absurd (false≢true is)

  pub null_now : (at : ℕ) → passes_at parts is_null at ≡ true → passes_at behind is_null at ≡ true
  null_now at passes = passes_now is_null is_null (λ value leads is. ap is_null (emptied_same parts graph.well_formed key may value (null_clear value is)) ∙ is) at passes

  pub outward_now : (at : ℕ) → passes_at parts is_outward at ≡ true → passes_at behind is_outward at ≡ true
  outward_now at passes = passes_now is_outward is_outward (λ value leads is. emptied_outward parts graph.well_formed key may value is) at passes

  pub held_now : (at : ℕ) → passes_at parts may_be_held at ≡ true → passes_at behind may_be_held at ≡ true
  held_now at passes = passes_now may_be_held may_be_held (λ value leads is. emptied_held parts graph.well_formed key may value is) at passes

  -- Tests of objects.

  pub all_objects : (one other : ℕ → Object → Bool) → ((at : ℕ) (object : Object) → one at object ≡ true → other at (object_now nows object) ≡ true) →
      list_all (λ (entry : KeyedObject). one entry.key entry.object) parts.objects ≡ true → list_all (λ (entry : KeyedObject). other entry.key entry.object) behind.objects ≡ true
  all_objects one other implies all = go parts.objects all
    where
      go : (entries : List KeyedObject) → list_all (λ (entry : KeyedObject). one entry.key entry.object) entries ≡ true →
          list_all (λ (entry : KeyedObject). other entry.key entry.object) (filter (λ entry. not (nat_eq entry.key key)) (map (entry_now nows) entries)) ≡ true
      go [] all = refl
      go (first ∷ rest) all =
          by_key (nat_eq first.key key) (implies first.key first.object (and_left (one first.key first.object) (list_all (λ (entry : KeyedObject). one entry.key entry.object) rest) all))
          (go rest (and_right (one first.key first.object) (list_all (λ (entry : KeyedObject). one entry.key entry.object) rest) all))
        where
          by_key : (b : Bool) → other first.key (object_now nows first.object) ≡ true →
              list_all (λ (entry : KeyedObject). other entry.key entry.object) (filter (λ entry. not (nat_eq entry.key key)) (map (entry_now nows) rest)) ≡ true →
              list_all (λ (entry : KeyedObject). other entry.key entry.object)
              (cond (not b) (entry_now nows first ∷ filter (λ entry. not (nat_eq entry.key key)) (map (entry_now nows) rest)) (filter (λ entry. not (nat_eq entry.key key)) (map (entry_now nows) rest))) ≡ true
          by_key true here later = later
          by_key false here later =
              and_both (other first.key (object_now nows first.object)) (list_all (λ (entry : KeyedObject). other entry.key entry.object) (filter (λ entry. not (nat_eq entry.key key)) (map (entry_now nows) rest))) here later

  -- tests of edges, of those that stay
  pub every_edge : (one other : ℕ → Object → HasValue → Bool) → ((at : ℕ) (object : Object) (edge : HasValue) → not (is_zero (nows edge.value)) ≡ true → one at object edge ≡ true → other at (object_now nows object) edge ≡ true) →
      list_all (λ (entry : KeyedObject). list_all (one entry.key entry.object) (node_of entry.object).edges) parts.objects ≡ true →
      list_all (λ (entry : KeyedObject). list_all (other entry.key entry.object) (node_of entry.object).edges) behind.objects ≡ true
  every_edge one other implies all =
      all_objects (λ at object. list_all (one at object) (node_of object).edges) (λ at object. list_all (other at object) (node_of object).edges)
      (λ at object has. on_node nows object (λ node. list_all (other at (object_now nows object)) node.edges ≡ true)
      (all_kept (λ edge. not (is_zero (nows edge.value))) (one at object) (other at (object_now nows object)) (λ edge stays is. implies at object edge stays is) (node_of object).edges has)) all

  pub fine_objects : (other : ℕ → Object → Bool) → ((at : ℕ) (object : Object) → IsFine object → other at (object_now nows object) ≡ true) → list_all (λ (entry : KeyedObject). other entry.key entry.object) behind.objects ≡ true
  fine_objects other implies = all_objects (λ at object. is_fine object) other (λ at object is. implies at object (fine_of object is)) (all_fine parts form)

  -- Points of which several are asked at once.

  pub long_now : (object : Object) → IsFine object → has_class_a_byte (object_now nows object) ≡ true
  long_now object fine = on_node nows object (λ node. (not object.live || nat_eq (length node.plane) object.size) ≡ true) (by_life object.live refl)
    where
      by_life : (b : Bool) → object.live ≡ b → (not object.live || nat_eq (length (node_now nows (node_of object)).plane) object.size) ≡ true
      by_life true live = or_right (not object.live) (nat_eq (length (node_now nows (node_of object)).plane) object.size)
          (eq-eqb _ _ (plane_long nows object.size (node_of object).edges (node_of object).plane (fine_long object fine live) fine.inside))
        where
          or_right : (a b : Bool) → b ≡ true → (a || b) ≡ true
          or_right true b is = refl
          or_right false b is = is
      by_life false dead = ap (λ (b : Bool). not b || nat_eq (length (node_now nows (node_of object)).plane) object.size) dead

  pub bare_now : (object : Object) → IsFine object → (object.live || (is_region (shape_now nows object.shape) && says_nothing (edges_now nows object.edges) (plane_now nows object.edges object.plane))) ≡ true
  bare_now object fine =
      or_weaker object.live (is_region object.shape && says_nothing object.edges object.plane) (is_region (shape_now nows object.shape) && says_nothing (edges_now nows object.edges) (plane_now nows object.edges object.plane))
      (λ both. and_both (is_region (shape_now nows object.shape)) (says_nothing (edges_now nows object.edges) (plane_now nows object.edges object.plane))
      (region_same nows object.shape ∙ and_left (is_region object.shape) (says_nothing object.edges object.plane) both)
      (nothing_same nows object.edges object.plane (and_right (is_region object.shape) (says_nothing object.edges object.plane) both))) fine.bare

  pub stored_now : (object : Object) → IsFine object → (is_region (shape_now nows object.shape) || is_segment_storage (object_now nows object)) ≡ true
  stored_now object fine =
      ap (λ (b : Bool). b || is_segment_storage (object_now nows object)) (region_same nows object.shape)
      ∙ or_weaker (is_region object.shape) (is_segment_storage object) (is_segment_storage (object_now nows object))
      (λ stored. and_both object.live (is_heap object.kind && says_nothing (edges_now nows object.edges) (plane_now nows object.edges object.plane))
      (and_left object.live (is_heap object.kind && says_nothing object.edges object.plane) stored)
      (and_both (is_heap object.kind) (says_nothing (edges_now nows object.edges) (plane_now nows object.edges object.plane))
      (and_left (is_heap object.kind) (says_nothing object.edges object.plane) (and_right object.live (is_heap object.kind && says_nothing object.edges object.plane) stored))
      (nothing_same nows object.edges object.plane (and_right (is_heap object.kind) (says_nothing object.edges object.plane) (and_right object.live (is_heap object.kind && says_nothing object.edges object.plane) stored))))) fine.stored

  pub classes_now : (object : Object) → IsFine object → list_all (λ edge. has_value parts edge.value) (node_of object).edges ≡ true →
      list_all (edge_has_class behind (node_of (object_now nows object)).plane) (node_of (object_now nows object)).edges ≡ true
  classes_now object fine has = on_node nows object (λ node. list_all (edge_has_class behind node.plane) node.edges ≡ true) (by_life object.live refl)
    where
      go : (edges : List HasValue) (plane : List ℕ) → AllEdges (λ edge. take edge.size (drop edge.at plane) ≡ replicate edge.size (class_for (nows edge.value))) edges → list_all (λ edge. has_value parts edge.value) edges ≡ true →
          list_all (edge_has_class behind plane) (edges_now nows edges) ≡ true
      go [] plane under has = refl
      go (edge ∷ rest) plane under has = by_zero (is_zero (nows edge.value)) refl (go rest plane under.1 (and_right (has_value parts edge.value) (list_all (λ edge. has_value parts edge.value) rest) has))
        where
          by_zero : (b : Bool) → is_zero (nows edge.value) ≡ b → list_all (edge_has_class behind plane) (edges_now nows rest) ≡ true →
              list_all (edge_has_class behind plane) (if not b then edge ∷ edges_now nows rest else edges_now nows rest) ≡ true
          by_zero true is later = later
          by_zero false is later = and_both (edge_has_class behind plane edge) (list_all (edge_has_class behind plane) (edges_now nows rest))
              (now_passes (λ value. list_all (nat_eq (value_class value)) (take edge.size (drop edge.at plane))) edge.value (and_left (has_value parts edge.value) (list_all (λ edge. has_value parts edge.value) rest) has)
              ∙ ap (list_all (nat_eq (value_class (nows edge.value)))) (under.0 ∙ ap (λ (b : Bool). replicate edge.size (if b then 0 else value_class (nows edge.value))) is)
              ∙ all_replicate (value_class (nows edge.value)) edge.size) later

      by_life : (b : Bool) → object.live ≡ b → list_all (edge_has_class behind (plane_now nows (node_of object).edges (node_of object).plane)) (edges_now nows (node_of object).edges) ≡ true
      by_life true live = go (node_of object).edges (plane_now nows (node_of object).edges (node_of object).plane)
          (plane_under nows object.size (node_of object).edges (node_of object).plane (fine_long object fine live) fine.inside fine.order) has
      by_life false dead = ap (λ (edges : List HasValue). list_all (edge_has_class behind (plane_now nows (node_of object).edges (node_of object).plane)) (edges_now nows edges)) (dead_bare object fine dead)

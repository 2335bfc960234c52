-- A graph in which one number stands in place of another is a graph.
use Rattle.std.proofs.Common.{◌≡◌, ℕ, ◌+◌, ◌≤◌, Bool, true, false, ◌||◌, ◌&&◌, not, List, [], ◌∷◌, map, length, take, drop, nat_eq, nat_le, refl, sym, ◌∙◌, ap, eqb-true}
use Rattle.std.specs.Prelude.{if◌then◌else◌}
use Rattle.std.specs.List.{filter, list_all}
use Rattle.std.proofs.lemmas.Bool.{false≢true}
use Rattle.std.proofs.lemmas.List.Folds.{list_all-map}
use Rattle.bytes_core.specs.Release.{is_heap}
use Rattle.graph.specs.declared.edges.HasValue.{HasValue}
use Rattle.graph.specs.declared.object.Object.{Object}
use Rattle.graph.specs.declared.object.Shape.{Shape}
use Rattle.graph.specs.declared.object.Shape.TheVariants.{Region as RegionShape, Segment}
use Rattle.graph.specs.declared.template.Node.{Node}
use Rattle.graph.specs.declared.value.Target.{Target}
use Rattle.graph.specs.declared.value.Target.TheVariants.{Region, First, Last, Each}
use Rattle.graph.specs.declared.parts.KeyedObject.{KeyedObject}
use Rattle.graph.specs.declared.parts.Parts.{Parts}
use Rattle.graph.specs.Nodes.{is_region, links_in, own_node, node_in, node_of, link_edges}
use Rattle.graph.specs.WellFormed.{IsWellFormed, target_fits, has_class_a_byte, says_nothing, is_segment_storage, lies_in, lies_before, are_in_order, share_no_byte, nodes_of}
use Rattle.graph.specs.Whole.{IsGraph}
use Rattle.graph.proofs.Tests.{and_left, and_right, and_both, list_all-implies}
use Rattle.changes.proofs.RangeForm.{all_kept}
use Rattle.changes.specs.Fitting.{edges_fit, shape_fits, object_fits}
use Rattle.changes.specs.Merging.{merged_edge, merged_edges, merged_plane, merged_node, merged_shape}
use Rattle.changes.proofs.Cleared.{spares, cleared-length, cleared-beside}

not_true : (b : Bool) → not b ≡ true → b ≡ false
not_true true is = absurd (false≢true is)
not_true false is = refl

pub all_and : {X : Type 0} (one other : X → Bool) (xs : List X) → list_all one xs ≡ true → list_all other xs ≡ true → list_all (λ x. one x && other x) xs ≡ true
all_and one other [] all all' = refl
all_and one other (x ∷ xs) all all' =
    and_both (one x && other x) (list_all (λ x. one x && other x) xs) (and_both (one x) (other x) (and_left (one x) (list_all one xs) all) (and_left (other x) (list_all other xs) all'))
    (all_and one other xs (and_right (one x) (list_all one xs) all) (and_right (other x) (list_all other xs) all'))

pub or_weaker : (a b c : Bool) → (b ≡ true → c ≡ true) → (a || b) ≡ true → (a || c) ≡ true
or_weaker true b c implies either = refl
or_weaker false b c implies either = implies either

-- Shapes.

pub links_same : (z : Bool) (kept gone : ℕ) (shape : Shape) → link_edges (merged_shape z kept gone shape) ≡ link_edges shape
links_same z kept gone RegionShape = refl
links_same z kept gone (Segment twofold head next prev back least next_value prev_value node) = refl

pub links_in_same : (z : Bool) (kept gone : ℕ) (shape : Shape) → links_in (merged_shape z kept gone shape) ≡ links_in shape
links_in_same z kept gone RegionShape = refl
links_in_same z kept gone (Segment twofold head next prev back least next_value prev_value node) = refl

pub region_same : (z : Bool) (kept gone : ℕ) (shape : Shape) → is_region (merged_shape z kept gone shape) ≡ is_region shape
region_same z kept gone RegionShape = refl
region_same z kept gone (Segment twofold head next prev back least next_value prev_value node) = refl

pub nodes_same : (z : Bool) (kept gone : ℕ) (shape : Shape) → nodes_of (merged_shape z kept gone shape) ≡ nodes_of shape
nodes_same z kept gone RegionShape = refl
nodes_same z kept gone (Segment twofold head next prev back least next_value prev_value node) = refl

pub target_same : (z : Bool) (kept gone : ℕ) (target : Target) (shape : Shape) → target_fits target (merged_shape z kept gone shape) ≡ target_fits target shape
target_same z kept gone Region RegionShape = refl
target_same z kept gone First RegionShape = refl
target_same z kept gone Last RegionShape = refl
target_same z kept gone Each RegionShape = refl
target_same z kept gone Region (Segment twofold head next prev back least next_value prev_value node) = refl
target_same z kept gone First (Segment twofold head next prev back least next_value prev_value node) = refl
target_same z kept gone Last (Segment twofold head next prev back least next_value prev_value node) = refl
target_same z kept gone Each (Segment twofold head next prev back least next_value prev_value node) = refl

pub node_same : (z : Bool) (kept gone : ℕ) (shape : Shape) (own : Node) → node_in (merged_shape z kept gone shape) (merged_node z kept gone own) ≡ merged_node z kept gone (node_in shape own)
node_same z kept gone RegionShape own = refl
node_same z kept gone (Segment twofold head next prev back least next_value prev_value node) own = refl

pub nothing_same : (z : Bool) (kept gone : ℕ) (edges : List HasValue) (plane : List ℕ) → says_nothing edges plane ≡ true → says_nothing (merged_edges z kept gone edges) (merged_plane z gone edges plane) ≡ true
nothing_same true kept gone [] [] is = refl
nothing_same false kept gone [] [] is = refl
nothing_same z kept gone [] (class ∷ plane) is = absurd (false≢true is)
nothing_same z kept gone (edge ∷ edges) plane is = absurd (false≢true is)

-- Edges.

order_kept : (p : HasValue → Bool) (edges : List HasValue) → are_in_order edges ≡ true → are_in_order (filter p edges) ≡ true
order_kept p [] order = refl
order_kept p (edge ∷ rest) order = by_test (p edge) (order_kept p rest (and_right (list_all (lies_before edge) rest) (are_in_order rest) order))
  where
    by_test : (b : Bool) → are_in_order (filter p rest) ≡ true → are_in_order (if b then edge ∷ filter p rest else filter p rest) ≡ true
    by_test true later = and_both (list_all (lies_before edge) (filter p rest)) (are_in_order (filter p rest))
        (all_kept p (lies_before edge) (lies_before edge) (λ other is before. before) rest (and_left (list_all (lies_before edge) rest) (are_in_order rest) order)) later
    by_test false later = later

order_renamed : (kept gone : ℕ) (edges : List HasValue) → are_in_order (map (merged_edge kept gone) edges) ≡ are_in_order edges
order_renamed kept gone [] = refl
order_renamed kept gone (edge ∷ rest) =
    ap (λ (b : Bool). b && are_in_order (map (merged_edge kept gone) rest)) (list_all-map (lies_before (merged_edge kept gone edge)) (merged_edge kept gone) rest)
    ∙ ap (λ (b : Bool). list_all (lies_before edge) rest && b) (order_renamed kept gone rest)

pub order_merged : (z : Bool) (kept gone : ℕ) (edges : List HasValue) → are_in_order edges ≡ true → are_in_order (merged_edges z kept gone edges) ≡ true
order_merged true kept gone edges order = order_kept (λ edge. not (nat_eq edge.value gone)) edges order
order_merged false kept gone edges order = order_renamed kept gone edges ∙ order

-- what passes a test passes another one, as it is where it does not hold the value, and with the other value in any case
pub edges_merged : (z : Bool) (kept gone : ℕ) (one other : HasValue → Bool) → ((edge : HasValue) → one edge ≡ true → other (merged_edge kept gone edge) ≡ true) →
    ((edge : HasValue) → nat_eq edge.value gone ≡ false → one edge ≡ true → other edge ≡ true) → (edges : List HasValue) → list_all one edges ≡ true → list_all other (merged_edges z kept gone edges) ≡ true
edges_merged true kept gone one other changed stays edges all = all_kept (λ edge. not (nat_eq edge.value gone)) one other (λ edge is has. stays edge (not_true (nat_eq edge.value gone) is) has) edges all
edges_merged false kept gone one other changed stays edges all = list_all-map other (merged_edge kept gone) edges ∙ list_all-implies one (λ edge. other (merged_edge kept gone edge)) changed edges all

-- edges in order: each spares those that hold another value
pub spared_all : (gone : ℕ) (edges : List HasValue) → are_in_order edges ≡ true → list_all (λ edge. nat_eq edge.value gone || list_all (spares gone edge.at edge.size) edges) edges ≡ true
spared_all gone [] order = refl
spared_all gone (first ∷ rest) order =
    and_both (nat_eq first.value gone || list_all (spares gone first.at first.size) (first ∷ rest)) (list_all (λ edge. nat_eq edge.value gone || list_all (spares gone edge.at edge.size) (first ∷ rest)) rest)
    (here (nat_eq first.value gone) refl)
    (list_all-implies (λ edge. (nat_eq edge.value gone || list_all (spares gone edge.at edge.size) rest) && lies_before first edge) (λ edge. nat_eq edge.value gone || list_all (spares gone edge.at edge.size) (first ∷ rest))
    (λ edge both. or_weaker (nat_eq edge.value gone) (list_all (spares gone edge.at edge.size) rest) (list_all (spares gone edge.at edge.size) (first ∷ rest))
    (λ all. and_both (spares gone edge.at edge.size first) (list_all (spares gone edge.at edge.size) rest)
    (second (not (nat_eq first.value gone)) _ (first_or (nat_le (first.at + first.size) edge.at) _ (and_right (nat_eq edge.value gone || list_all (spares gone edge.at edge.size) rest) (lies_before first edge) both))) all)
    (and_left (nat_eq edge.value gone || list_all (spares gone edge.at edge.size) rest) (lies_before first edge) both))
    rest
    (all_and (λ edge. nat_eq edge.value gone || list_all (spares gone edge.at edge.size) rest) (lies_before first) rest (spared_all gone rest (and_right (list_all (lies_before first) rest) (are_in_order rest) order)) before))
  where
    before : list_all (lies_before first) rest ≡ true
    before = and_left (list_all (lies_before first) rest) (are_in_order rest) order

    second : (a b : Bool) → b ≡ true → (a || b) ≡ true
    second true b is = refl
    second false b is = is

    first_or : (a b : Bool) → a ≡ true → (a || b) ≡ true
    first_or a b is = ap (λ (x : Bool). x || b) is

    here : (b : Bool) → nat_eq first.value gone ≡ b → (nat_eq first.value gone || list_all (spares gone first.at first.size) (first ∷ rest)) ≡ true
    here true is = ap (λ (b : Bool). b || list_all (spares gone first.at first.size) (first ∷ rest)) is
    here false is = second (nat_eq first.value gone) (list_all (spares gone first.at first.size) (first ∷ rest))
        (and_both (spares gone first.at first.size first) (list_all (spares gone first.at first.size) rest)
        (ap (λ (b : Bool). not b || (nat_le (first.at + first.size) first.at || nat_le (first.at + first.size) first.at)) is)
        (list_all-implies (lies_before first) (spares gone first.at first.size)
        (λ edge lies. second (not (nat_eq edge.value gone)) _ (second (nat_le (edge.at + edge.size) first.at) _ lies)) rest before))

-- all edges of a range lie beside those of a link
pub links_spared : (gone : ℕ) (link : HasValue) (edges : List HasValue) → list_all (share_no_byte link) edges ≡ true → list_all (spares gone link.at link.size) edges ≡ true
links_spared gone link edges all = list_all-implies (share_no_byte link) (spares gone link.at link.size)
    (λ edge apart. either (nat_eq edge.value gone) (nat_le (link.at + link.size) edge.at) (nat_le (edge.at + edge.size) link.at) apart) edges all
  where
    either : (a b c : Bool) → (b || c) ≡ true → (not a || (c || b)) ≡ true
    either false b c any = refl
    either true true true any = refl
    either true true false any = refl
    either true false true any = refl
    either true false false any = any

-- Planes as long as their objects.

-- in a graph edges lie in the planes beside them
pub graph_fits : (parts : Parts) → IsGraph parts → list_all (λ (entry : KeyedObject). object_fits entry.object) parts.objects ≡ true
graph_fits parts graph =
    list_all-implies
    (λ (entry : KeyedObject). has_class_a_byte entry.object && (list_all (lies_in entry.object.size) (node_of entry.object).edges
    && ((entry.object.live || (is_region entry.object.shape && says_nothing entry.object.edges entry.object.plane)) && (is_region entry.object.shape || is_segment_storage entry.object))))
    (λ entry. object_fits entry.object) (λ entry all. fits entry.object all) parts.objects
    (all_and (λ (entry : KeyedObject). has_class_a_byte entry.object) (λ entry. list_all (lies_in entry.object.size) (node_of entry.object).edges
    && ((entry.object.live || (is_region entry.object.shape && says_nothing entry.object.edges entry.object.plane)) && (is_region entry.object.shape || is_segment_storage entry.object))) parts.objects form.planes_are_as_long
    (all_and (λ (entry : KeyedObject). list_all (lies_in entry.object.size) (node_of entry.object).edges)
    (λ entry. (entry.object.live || (is_region entry.object.shape && says_nothing entry.object.edges entry.object.plane)) && (is_region entry.object.shape || is_segment_storage entry.object)) parts.objects form.edges_lie_inside
    (all_and (λ (entry : KeyedObject). entry.object.live || (is_region entry.object.shape && says_nothing entry.object.edges entry.object.plane)) (λ entry. is_region entry.object.shape || is_segment_storage entry.object) parts.objects
    form.dead_objects_are_bare form.segments_are_allocated)))
  where
    form : IsWellFormed parts
    form = graph.well_formed

    no_edges : (edges : List HasValue) (plane : List ℕ) → says_nothing edges plane ≡ true → list_all (lies_in (length plane)) edges ≡ true
    no_edges [] plane is = refl
    no_edges (edge ∷ rest) plane is = absurd (false≢true is)

    as_long : (object : Object) (node : Node) → object.live ≡ true → (not object.live || nat_eq (length node.plane) object.size) ≡ true → list_all (lies_in object.size) node.edges ≡ true → edges_fit node ≡ true
    as_long object node live long inside =
        ap (λ (n : ℕ). list_all (lies_in n) node.edges) (eqb-true _ _ (sym (ap (λ (b : Bool). not b || nat_eq (length node.plane) object.size) live) ∙ long)) ∙ inside

    by_shape : (object : Object) (shape : Shape) → object.live ≡ true → (not object.live || nat_eq (length (node_in shape (own_node object)).plane) object.size) ≡ true →
        list_all (lies_in object.size) (node_in shape (own_node object)).edges ≡ true → (is_region shape || is_segment_storage object) ≡ true → (edges_fit (own_node object) && shape_fits shape) ≡ true
    by_shape object RegionShape live long inside stored = and_both (edges_fit (own_node object)) true (as_long object (own_node object) live long inside) refl
    by_shape object (Segment twofold head next prev back least next_value prev_value node) live long inside stored =
        and_both (edges_fit (own_node object)) (edges_fit node)
        (no_edges object.edges object.plane (and_right (is_heap object.kind) (says_nothing object.edges object.plane) (and_right object.live (is_heap object.kind && says_nothing object.edges object.plane) stored)))
        (as_long object node live long inside)

    by_life : (object : Object) (b : Bool) → object.live ≡ b → has_class_a_byte object ≡ true → list_all (lies_in object.size) (node_of object).edges ≡ true →
        (object.live || (is_region object.shape && says_nothing object.edges object.plane)) ≡ true → (is_region object.shape || is_segment_storage object) ≡ true → object_fits object ≡ true
    by_life object true live long inside bare stored = by_shape object object.shape live long inside stored
    by_life object false dead long inside bare stored =
        let nothing = sym (ap (λ (b : Bool). b || (is_region object.shape && says_nothing object.edges object.plane)) dead) ∙ bare in
        and_both (edges_fit (own_node object)) (shape_fits object.shape) (no_edges object.edges object.plane (and_right (is_region object.shape) (says_nothing object.edges object.plane) nothing))
        (region_fits object.shape (and_left (is_region object.shape) (says_nothing object.edges object.plane) nothing))
      where
        region_fits : (shape : Shape) → is_region shape ≡ true → shape_fits shape ≡ true
        region_fits RegionShape is = refl
        region_fits (Segment twofold head next prev back least next_value prev_value node) is = absurd (false≢true is)

    fits : (object : Object) → (has_class_a_byte object && (list_all (lies_in object.size) (node_of object).edges
        && ((object.live || (is_region object.shape && says_nothing object.edges object.plane)) && (is_region object.shape || is_segment_storage object)))) ≡ true → object_fits object ≡ true
    fits object all =
        let rest = and_right (has_class_a_byte object) (list_all (lies_in object.size) (node_of object).edges
        && ((object.live || (is_region object.shape && says_nothing object.edges object.plane)) && (is_region object.shape || is_segment_storage object))) all in
        let last = and_right (list_all (lies_in object.size) (node_of object).edges)
        ((object.live || (is_region object.shape && says_nothing object.edges object.plane)) && (is_region object.shape || is_segment_storage object)) rest in
        by_life object object.live refl
        (and_left (has_class_a_byte object) (list_all (lies_in object.size) (node_of object).edges
        && ((object.live || (is_region object.shape && says_nothing object.edges object.plane)) && (is_region object.shape || is_segment_storage object))) all)
        (and_left (list_all (lies_in object.size) (node_of object).edges) ((object.live || (is_region object.shape && says_nothing object.edges object.plane)) && (is_region object.shape || is_segment_storage object)) rest)
        (and_left (object.live || (is_region object.shape && says_nothing object.edges object.plane)) (is_region object.shape || is_segment_storage object) last)
        (and_right (object.live || (is_region object.shape && says_nothing object.edges object.plane)) (is_region object.shape || is_segment_storage object) last)

-- the node of which a test speaks has edges that lie in its plane
pub node_fits : (object : Object) → object_fits object ≡ true → edges_fit (node_of object) ≡ true
node_fits object fits = by_shape object.shape (and_right (edges_fit (own_node object)) (shape_fits object.shape) fits)
  where
    by_shape : (shape : Shape) → shape_fits shape ≡ true → edges_fit (node_in shape (own_node object)) ≡ true
    by_shape RegionShape fits' = and_left (edges_fit (own_node object)) (shape_fits object.shape) fits
    by_shape (Segment twofold head next prev back least next_value prev_value node) fits' = fits'

pub long_same : (z : Bool) (gone : ℕ) (node : Node) → edges_fit node ≡ true → length (merged_plane z gone node.edges node.plane) ≡ length node.plane
long_same true gone node fits = cleared-length gone node.edges node.plane fits
long_same false gone node fits = refl

pub range_same : (z : Bool) (gone : ℕ) (node : Node) (at size : ℕ) → edges_fit node ≡ true → at + size ≤ length node.plane → list_all (spares gone at size) node.edges ≡ true →
    take size (drop at (merged_plane z gone node.edges node.plane)) ≡ take size (drop at node.plane)
range_same true gone node at size fits within spared = cleared-beside gone node.edges node.plane at size fits within spared
range_same false gone node at size fits within spared = refl

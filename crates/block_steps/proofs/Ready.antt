-- Graphs of posts are graphs.
use Rattle.std.proofs.Common.{◌≡◌, ℕ, ◌+◌, ◌^◌, ◌<◌, ◌≤◌, Bool, true, List, [], ◌∷◌, length, ltb-true, sym, ◌∙◌, ap, subst, arith}
use Rattle.std.specs.Prelude.{sum_by, pos}
use Rattle.std.proofs.lemmas.List.Sums.{sum_by-cons}
use Rattle.bytes_core.specs.declared.block.BlockKind.TheVariants.{Heap}
use Rattle.graph.specs.declared.object.Shape.{Shape}
use Rattle.graph.specs.declared.object.Shape.TheVariants.{Region as RegionShape, Segment}
use Rattle.graph.specs.declared.parts.KeyedObject.{KeyedObject}
use Rattle.graph.specs.declared.parts.Parts.{Parts}
use Rattle.graph.specs.declared.value.Target.TheVariants.{Region}
use Rattle.graph.specs.declared.value.Value.TheVariants.{Address}
use Rattle.graph.specs.WellFormed.{nodes_of, nodes}
use Rattle.graph.specs.Whole.{IsGraph}
use Rattle.changes.specs.Parts.{with_object_more, with_value, with_register}
use Rattle.block_steps.specs.Allocating.{with_allocated}
use Rattle.block_steps.specs.Blocks.{new_object, has_room}
use Rattle.block_steps.specs.Entering.{MayEnter, with_entered}
use Rattle.block_steps.proofs.Allocated.{behind_graph}
use Rattle.block_steps.proofs.Entered.{all_graph}

pub allocated_ready : (size : ℕ) (zeroed : Bool) (into : ℕ) (graph parts grown valued after : Parts) (object key : ℕ) → IsGraph graph → size ≤ 65536 → has_room graph 1 ≡ true →
    object ≡ length graph.objects → key ≡ length graph.values → parts ≡ graph → grown ≡ with_object_more (new_object Heap size zeroed) parts → valued ≡ with_value (Address object (pos 0) Region) grown →
    after ≡ with_register into key valued → IsGraph after
allocated_ready size zeroed into graph parts grown valued after object key is small room object_is key_is parts_is grown_is valued_is after_is =
    subst IsGraph (sym same) (behind_graph size zeroed into graph is small (ltb-true _ _ room))
  where
    same : after ≡ with_allocated size zeroed into graph
    same = after_is
        ∙ ap (λ (p : Parts). with_register into key p) (valued_is
        ∙ ap (λ (p : Parts). with_value (Address object (pos 0) Region) p) (grown_is ∙ ap (with_object_more (new_object Heap size zeroed)) parts_is)
        ∙ ap (λ (n : ℕ). with_value (Address n (pos 0) Region) (with_object_more (new_object Heap size zeroed) graph)) object_is)
        ∙ ap (λ (n : ℕ). with_register into n (with_value (Address (length graph.objects) (pos 0) Region) (with_object_more (new_object Heap size zeroed) graph))) key_is

-- each object has a node at least
one_node : (shape : Shape) → 1 ≤ nodes_of shape
one_node RegionShape = omega arith
one_node (Segment twofold head next prev back least next_value prev_value node) = omega arith

objects_most : (objects : List KeyedObject) → length objects ≤ sum_by (λ (entry : KeyedObject). nodes_of entry.object.shape) objects
objects_most [] = omega arith
objects_most (first ∷ rest) =
    let later = objects_most rest in
    let one = one_node first.object.shape in
    let sum = sum_by-cons (λ (entry : KeyedObject). nodes_of entry.object.shape) first rest in omega arith

pub objects_few : (parts same : Parts) (count : ℕ) → has_room parts count ≡ true → same ≡ parts → length same.objects + count < 4294967296
objects_few parts same count room is =
    let few = ltb-true (nodes parts + count) (2 ^ 30) room in
    let most = objects_most parts.objects in
    let long : length same.objects ≡ length parts.objects = ap (λ (p : Parts). length p.objects) is in omega arith

pub entered_ready : (graph parts after : Parts) (which sizes : List ℕ) → IsGraph graph → MayEnter graph which sizes → has_room graph (length which) ≡ true → parts ≡ graph → after ≡ with_entered which sizes parts → IsGraph after
entered_ready graph parts after which sizes is may room parts_is after_is =
    subst IsGraph (sym (after_is ∙ ap (with_entered which sizes) parts_is)) (all_graph which sizes graph is may (ltb-true _ _ room))

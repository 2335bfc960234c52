-- How many objects blocks that are made, left or released, and steps of registers, add to a graph.
use Rattle.std.proofs.Common.{◌≡◌, ℕ, ◌+◌, ◌≤◌, Bool, true, false, ◌&&◌, List, [], ◌∷◌, ◌++◌, length, nat_eq, pos, Option, None, Some, refl, ◌∙◌, length-append, arith}
use Rattle.std.specs.Prelude.{if◌then◌else◌}
use Rattle.std.specs.Ordering.{int_eq}
use Rattle.std.proofs.lemmas.List.{length-map}
use Rattle.bytes_core.specs.declared.block.BlockKind.TheVariants.{Heap, Local}
use Rattle.bytes_core.specs.Fault.{double_free, invalid_free}
use Rattle.bytes_core.specs.Release.{is_heap}
use Rattle.graph.specs.declared.object.Object.{Object}
use Rattle.graph.specs.declared.parts.Parts.{Parts}
use Rattle.graph.specs.declared.value.Value.{Value}
use Rattle.graph.specs.declared.value.Value.TheVariants.{Const, Number, Any, Address}
use Rattle.graph.specs.Maps.{object_at, value_at, storage_of, held_by}
use Rattle.graph.specs.Sizes.{is_zero}
use Rattle.graph.specs.WellFormed.{passes_at}
use Rattle.changes.specs.Dying.{died}
use Rattle.changes.specs.Merging.{merged_entry}
use Rattle.changes.specs.Parts.{with_object, with_value, with_register, without_registers}
use Rattle.changes.specs.Posted.{fault_only}
use Rattle.changes.specs.Reaching.{is_excluded}
use Rattle.changes.proofs.MergedPairs.{merged_few}
use Rattle.heap_steps.specs.Closing.{has_live_heap, closed_by, close_post}
use Rattle.heap_steps.specs.Leaving.{without_variable, with_dead, with_dead_at, without_one, left, leave_post}
use Rattle.heap_steps.specs.Looking.{loses_some, looked_by}
use Rattle.heap_steps.specs.Posts.{refuse_post, finish_post}
use Rattle.heap_steps.specs.Unreached.{may_lead_anywhere}
use Rattle.block_steps.specs.Allocating.{with_allocated, allocate_post}
use Rattle.block_steps.specs.Blocks.{new_object}
use Rattle.block_steps.specs.Entering.{with_entered_one, with_entered, enter_post}
use Rattle.block_steps.specs.Releasing.{only_graph, object_released, with_null, value_released, release_post}
use Rattle.register_steps.specs.declared.line.Gain.{Gain}
use Rattle.register_steps.specs.declared.line.Gain.TheVariants.{Nothing, Held, Fresh, Truth}
use Rattle.register_steps.specs.Gaining.{gained, gained_fresh, gained_graphs}
use Rattle.plain.proofs.PostSizes.{AreWithin, only_within, same_within, object_long, held_within, object_within}

-- Steps of registers.

same_both : (parts one other : Parts) → length one.objects ≡ length parts.objects → length one.unequal ≡ length parts.unequal → length other.objects ≡ length parts.objects → length other.unequal ≡ length parts.unequal →
    AreWithin parts 0 (one ∷ other ∷ [])
same_both parts one other a b c d = ((same_within parts one a b).0, same_within parts other c d)

pub gain_within : (parts : Parts) (gone : List ℕ) (into : ℕ) (gain : Gain) → AreWithin parts 0 (gained_graphs parts gone into gain)
gain_within parts gone into Nothing = tt
gain_within parts gone into (Held key) = same_within parts (gained gone into key parts) refl refl
gain_within parts gone into (Fresh value) = same_within parts (gained_fresh gone into value parts) refl refl
gain_within parts gone into (Truth size) = same_both parts (gained_fresh gone into (Const 0 size) parts) (gained_fresh gone into (Const 1 size) parts) refl refl refl refl

pub refuse_within : (parts : Parts) (into : ℕ) → AreWithin parts 0 (refuse_post parts into).graphs
refuse_within parts into = same_within parts (with_register into (length parts.values) (with_value (Const 0 8) parts)) refl refl

-- Allocations and variables.

pub allocate_within : (parts : Parts) (size : ℕ) (zeroed : Bool) (into : ℕ) → AreWithin parts 1 (allocate_post parts size zeroed into).graphs
allocate_within parts size zeroed into =
    let long : length (parts.objects ++ record { key = length parts.objects; object = new_object Heap size zeroed } ∷ []) ≡ length parts.objects + 1 =
    length-append parts.objects (record { key = length parts.objects; object = new_object Heap size zeroed } ∷ []) in
    only_within parts 1 (with_allocated size zeroed into parts) (omega arith) (omega arith)

entered_long : (which sizes : List ℕ) (parts : Parts) → length (with_entered which sizes parts).objects ≤ length parts.objects + length which
entered_long [] sizes parts = omega arith
entered_long (variable ∷ rest) [] parts = omega arith
entered_long (variable ∷ rest) (size ∷ sizes) parts =
    let one : length (parts.objects ++ record { key = length parts.objects; object = new_object Local size false } ∷ []) ≡ length parts.objects + 1 =
    length-append parts.objects (record { key = length parts.objects; object = new_object Local size false } ∷ []) in
    let later : length (with_entered rest sizes (with_entered_one variable size parts)).objects ≤ length (with_entered_one variable size parts).objects + length rest = entered_long rest sizes (with_entered_one variable size parts) in
    omega arith

entered_pairs : (which sizes : List ℕ) (parts : Parts) → length (with_entered which sizes parts).unequal ≡ length parts.unequal
entered_pairs [] sizes parts = refl
entered_pairs (variable ∷ rest) [] parts = refl
entered_pairs (variable ∷ rest) (size ∷ sizes) parts = entered_pairs rest sizes (with_entered_one variable size parts)

pub entered_few : (which sizes : List ℕ) (parts : Parts) → (length (with_entered which sizes parts).objects ≤ length parts.objects + length which) × (length (with_entered which sizes parts).unequal ≡ length parts.unequal)
entered_few which sizes parts = (entered_long which sizes parts, entered_pairs which sizes parts)

pub enter_within : (parts : Parts) (which sizes : List ℕ) → AreWithin parts (length which) (enter_post parts which sizes).graphs
enter_within parts which sizes =
    let long = entered_long which sizes parts in
    let pairs = entered_pairs which sizes parts in
    only_within parts (length which) (with_entered which sizes parts) long (omega arith)

dead_long : (found : Option ℕ) (parts : Parts) → length (with_dead_at found parts).objects ≡ length parts.objects
dead_long None parts = refl
dead_long (Some key) parts = by_object (object_at parts.objects key)
  where
    by_object : (object : Option Object) → length (with_dead key object parts).objects ≡ length parts.objects
    by_object None = refl
    by_object (Some object) = object_long key (died object) parts

dead_pairs : (found : Option ℕ) (parts : Parts) → length (with_dead_at found parts).unequal ≡ length parts.unequal
dead_pairs None parts = refl
dead_pairs (Some key) parts = by_object (object_at parts.objects key)
  where
    by_object : (object : Option Object) → length (with_dead key object parts).unequal ≡ length parts.unequal
    by_object None = refl
    by_object (Some object) = refl

left_long : (which : List ℕ) (parts : Parts) → length (left which parts).objects ≡ length parts.objects
left_long [] parts = refl
left_long (variable ∷ rest) parts = left_long rest (without_one variable parts) ∙ dead_long (storage_of parts.variables variable) (without_variable variable parts)

left_pairs : (which : List ℕ) (parts : Parts) → length (left which parts).unequal ≡ length parts.unequal
left_pairs [] parts = refl
left_pairs (variable ∷ rest) parts = left_pairs rest (without_one variable parts) ∙ dead_pairs (storage_of parts.variables variable) (without_variable variable parts)

looked_within : (parts after : Parts) → length after.objects ≡ length parts.objects → length after.unequal ≡ length parts.unequal → AreWithin parts 0 (looked_by after (loses_some after) (may_lead_anywhere after)).graphs
looked_within parts after objects pairs = by_look (loses_some after) (may_lead_anywhere after)
  where
    by_look : (loses anywhere : Bool) → AreWithin parts 0 (looked_by after loses anywhere).graphs
    by_look false anywhere = same_within parts after objects pairs
    by_look true false = tt
    by_look true true = same_within parts after objects pairs

pub leave_within : (parts : Parts) (which : List ℕ) → AreWithin parts 0 (leave_post parts which).graphs
leave_within parts which = looked_within parts (left which parts) (left_long which parts) (left_pairs which parts)

pub finish_within : (parts : Parts) (gone : List ℕ) → AreWithin parts 0 (finish_post parts gone).graphs
finish_within parts gone = looked_within parts (without_registers gone parts) refl refl

pub close_within : (parts : Parts) → AreWithin parts 0 (close_post parts).graphs
close_within parts = by_heap (has_live_heap parts)
  where
    by_heap : (some : Bool) → AreWithin parts 0 (closed_by parts some).graphs
    by_heap true = tt
    by_heap false = same_within parts parts refl refl

-- Releases.

pub release_within : (parts : Parts) (at : ℕ) → AreWithin parts 0 (release_post parts at).graphs
release_within parts at = held_within parts 0 (held_by parts.registers at) (λ key. value_released parts (at ∷ []) key (value_at parts.values key)) (λ key. by_value key (value_at parts.values key))
  where
    by_live : (here live : Bool) (key : ℕ) (object : Object) → AreWithin parts 0 (if here then (if live then only_graph (without_registers (at ∷ []) (with_object key (died object) parts)) else fault_only double_free) else fault_only invalid_free).graphs
    by_live false live key object = tt
    by_live true false key object = tt
    by_live true true key object = same_within parts (without_registers (at ∷ []) (with_object key (died object) parts)) (object_long key (died object) parts) refl

    by_number : (excluded : Bool) (key : ℕ) → AreWithin parts 0 (if excluded then [] else without_registers (at ∷ []) (with_null key parts) ∷ [])
    by_number true key = tt
    by_number false key =
        let more : Parts = with_value (Const 0 8) parts in
        let few = merged_few more (length parts.values) key parts.unequal in
        let long : length (with_null key parts).objects ≡ length parts.objects = length-map parts.objects (merged_entry (passes_at more is_zero (length parts.values)) (length parts.values) key) in
        only_within parts 0 (without_registers (at ∷ []) (with_null key parts)) (omega arith) (omega arith)

    by_null : (null : Bool) → AreWithin parts 0 (if null then only_graph (without_registers (at ∷ []) parts) else fault_only invalid_free).graphs
    by_null true = same_within parts (without_registers (at ∷ []) parts) refl refl
    by_null false = tt

    by_value : (key : ℕ) (found : Option Value) → AreWithin parts 0 (value_released parts (at ∷ []) key found).graphs
    by_value key None = tt
    by_value key (Some (Const number size)) = by_null (nat_eq number 0)
    by_value key (Some (Number size)) = by_number (is_excluded parts key 0) key
    by_value key (Some Any) = tt
    by_value key (Some (Address object offset target)) =
        object_within parts 0 (object_at parts.objects object) (λ found. object_released parts (at ∷ []) object offset found) (λ found. by_live (is_heap found.kind && int_eq offset (pos 0)) found.live object found)

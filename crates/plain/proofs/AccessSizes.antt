-- Loads, stores, fills, copies and tests make no object, and a test makes one pair at most.
use Rattle.std.proofs.Common.{◌≡◌, ℕ, zero, suc, ◌+◌, Bool, true, false, ◌&&◌, List, [], ◌∷◌, ◌++◌, take, drop, replicate, length, Option, None, Some, refl, length-append, arith}
use Rattle.std.specs.Prelude.{if◌then◌else◌}
use Rattle.std.proofs.lemmas.List.{length-map}
use Rattle.graph.specs.declared.object.Object.{Object}
use Rattle.graph.specs.declared.parts.Parts.{Parts}
use Rattle.graph.specs.declared.value.Value.{Value}
use Rattle.graph.specs.declared.value.Value.TheVariants.{Const, Number}
use Rattle.graph.specs.Maps.{value_at, held_by}
use Rattle.graph.specs.Sizes.{is_zero}
use Rattle.graph.specs.WellFormed.{passes_at, is_unequal_pair}
use Rattle.changes.specs.Merging.{merged_entry, merged, with_unequal}
use Rattle.changes.specs.Parts.{with_object, with_value, without_registers}
use Rattle.changes.specs.Posted.{Posted, on_held, on_reach}
use Rattle.changes.specs.Ranges.{meets_none, written_object, with_range}
use Rattle.changes.specs.Reaching.{reach_of}
use Rattle.changes.proofs.MergedPairs.{merged_few}
use Rattle.reinterpret.specs.declared.comparison.Comparison.{Comparison}
use Rattle.reinterpret.specs.declared.comparison.Comparison.TheVariants as known
use Rattle.reinterpret.specs.Comparing.{compared}
use Rattle.reinterpret.specs.Reading.{one_graph, are_class, unknown, with_fresh, bytes_read, value_of, readable, read_by, value_read, read_post}
use Rattle.reinterpret.specs.Testing.{tested, equal_post}
use Rattle.reinterpret.specs.Writing.{edge_at, value_written, write_post}
use Rattle.range_steps.specs.Copying.{overlap, object_written, object_copied, may_overlap, with_overlap, copied_by, copy_post, copied_object}
use Rattle.range_steps.specs.Filling.{fills_zeros, bytes_filled, filled_by, fill_post, class_filled}
use Rattle.plain.proofs.PostSizes.{AreWithin, only_within, same_within, object_long, held_within, reach_within}

-- Loads.

bytes_within : (parts : Parts) (gone : List ℕ) (into size : ℕ) (pointer : Bool) (key : ℕ) (object : Object) (from : ℕ) → AreWithin parts 0 (bytes_read parts gone into size pointer key object from).graphs
bytes_within parts gone into size pointer key object from = by_zeros (are_class 0 object.plane from size) (are_class 1 object.plane from size && meets_none from size object.edges)
  where
    number_long : length (with_object key (written_object object (edge_at from size (length parts.values)) (Number size)) (with_value (Number size) parts)).objects ≡ length parts.objects
    number_long = object_long key (written_object object (edge_at from size (length parts.values)) (Number size)) (with_value (Number size) parts)

    by_zeros : (zeros numbers : Bool) → AreWithin parts 0 (if zeros then one_graph (with_fresh gone into (length parts.values) (with_value (Const 0 size) parts)) None
        else (if numbers
        then one_graph (with_fresh gone into (length parts.values) (with_object key (written_object object (edge_at from size (length parts.values)) (Number size)) (with_value (Number size) parts))) None
        else one_graph (with_fresh gone into (length parts.values) (with_value (unknown pointer size (take size (drop from object.plane))) parts)) (Some 3))).graphs
    by_zeros true numbers = same_within parts (with_fresh gone into (length parts.values) (with_value (Const 0 size) parts)) refl refl
    by_zeros false true =
        same_within parts (with_fresh gone into (length parts.values) (with_object key (written_object object (edge_at from size (length parts.values)) (Number size)) (with_value (Number size) parts))) number_long refl
    by_zeros false false = same_within parts (with_fresh gone into (length parts.values) (with_value (unknown pointer size (take size (drop from object.plane))) parts)) refl refl

pub read_within : (parts : Parts) (at size : ℕ) (pointer : Bool) (into : ℕ) → AreWithin parts 0 (read_post parts at size pointer into).graphs
read_within parts at size pointer into =
    held_within parts 0 (held_by parts.registers at) (λ target. on_reach parts (reach_of parts target size) (value_read parts (at ∷ []) into size pointer)) (λ target.
    reach_within parts 0 (reach_of parts target size) (value_read parts (at ∷ []) into size pointer) (λ key object from. by_value (readable parts pointer (value_of object.edges from size)) key object from))
  where
    by_value : (found : Option ℕ) (key : ℕ) (object : Object) (from : ℕ) → AreWithin parts 0 (read_by found parts (at ∷ []) into size pointer key object from).graphs
    by_value None key object from = bytes_within parts (at ∷ []) into size pointer key object from
    by_value (Some value) key object from = same_within parts (with_fresh (at ∷ []) into value parts) refl refl

-- Stores.

pub write_within : (parts : Parts) (at size from : ℕ) → AreWithin parts 0 (write_post parts at size from).graphs
write_within parts at size from =
    held_within parts 0 (held_by parts.registers at) (λ target. on_held (held_by parts.registers from) (λ source. on_reach parts (reach_of parts target size) (value_written parts (at ∷ from ∷ []) size source (value_at parts.values source))))
    (λ target. held_within parts 0 (held_by parts.registers from) (λ source. on_reach parts (reach_of parts target size) (value_written parts (at ∷ from ∷ []) size source (value_at parts.values source)))
    (λ source. reach_within parts 0 (reach_of parts target size) (value_written parts (at ∷ from ∷ []) size source (value_at parts.values source))
    (λ key object place. by_value source (value_at parts.values source) key object place)))
  where
    by_value : (source : ℕ) (found : Option Value) (key : ℕ) (object : Object) (place : ℕ) → AreWithin parts 0 (value_written parts (at ∷ from ∷ []) size source found key object place).graphs
    by_value source None key object place = tt
    by_value source (Some value) key object place =
        same_within parts (without_registers (at ∷ from ∷ []) (with_object key (written_object object (edge_at place size source) value) parts)) (object_long key (written_object object (edge_at place size source) value) parts) refl

-- Fills.

pub fill_within : (parts : Parts) (at from count : ℕ) → AreWithin parts 0 (fill_post parts at from count).graphs
fill_within parts at from count =
    held_within parts 0 (held_by parts.registers at) (λ target. on_held (held_by parts.registers from) (λ source. filled_by parts (at ∷ from ∷ []) count target (value_at parts.values source)))
    (λ target. held_within parts 0 (held_by parts.registers from) (λ source. filled_by parts (at ∷ from ∷ []) count target (value_at parts.values source))
    (λ source. by_count count target (value_at parts.values source)))
  where
    by_count : (bytes target : ℕ) (found : Option Value) → AreWithin parts 0 (filled_by parts (at ∷ from ∷ []) bytes target found).graphs
    by_count zero target found = same_within parts (without_registers (at ∷ from ∷ []) parts) refl refl
    by_count (suc more) target None = tt
    by_count (suc more) target (Some value) =
        reach_within parts 0 (reach_of parts target (suc more)) (bytes_filled parts (at ∷ from ∷ []) (suc more) (fills_zeros value)) (λ key object place.
        same_within parts (without_registers (at ∷ from ∷ []) (with_object key (with_range object place (suc more) [] (replicate (suc more) (class_filled (fills_zeros value)))) parts))
        (object_long key (with_range object place (suc more) [] (replicate (suc more) (class_filled (fills_zeros value)))) parts) refl)

-- Copies.

overlap_within : (parts : Parts) (overlaps : Bool) (posted : Posted) → AreWithin parts 0 posted.graphs → AreWithin parts 0 (with_overlap overlaps posted).graphs
overlap_within parts false posted within = within
overlap_within parts true posted within = within

pub copy_within : (parts : Parts) (to from count : ℕ) (disjoint : Bool) → AreWithin parts 0 (copy_post parts to from count disjoint).graphs
copy_within parts to from count disjoint =
    held_within parts 0 (held_by parts.registers to) (λ target. on_held (held_by parts.registers from) (λ source. copied_by parts (to ∷ from ∷ []) disjoint count source target))
    (λ target. held_within parts 0 (held_by parts.registers from) (λ source. copied_by parts (to ∷ from ∷ []) disjoint count source target) (λ source. by_count count source target))
  where
    by_overlap : (overlaps : Bool) (bytes : ℕ) (source : Object) (place key : ℕ) (target : Object) (at : ℕ) → AreWithin parts 0 (object_written parts (to ∷ from ∷ []) overlaps bytes source place key target at).graphs
    by_overlap true bytes source place key target at = tt
    by_overlap false bytes source place key target at =
        same_within parts (without_registers (to ∷ from ∷ []) (with_object key (copied_object source place target at bytes) parts)) (object_long key (copied_object source place target at bytes) parts) refl

    by_count : (bytes source target : ℕ) → AreWithin parts 0 (copied_by parts (to ∷ from ∷ []) disjoint bytes source target).graphs
    by_count zero source target = same_within parts (without_registers (to ∷ from ∷ []) parts) refl refl
    by_count (suc more) source target =
        overlap_within parts (disjoint && may_overlap parts (suc more) (reach_of parts source (suc more)) (reach_of parts target (suc more)))
        (on_reach parts (reach_of parts source (suc more)) (λ key object place. on_reach parts (reach_of parts target (suc more)) (object_copied parts (to ∷ from ∷ []) disjoint (suc more) key object place)))
        (reach_within parts 0 (reach_of parts source (suc more)) (λ key object place. on_reach parts (reach_of parts target (suc more)) (object_copied parts (to ∷ from ∷ []) disjoint (suc more) key object place))
        (λ key object place. reach_within parts 0 (reach_of parts target (suc more)) (object_copied parts (to ∷ from ∷ []) disjoint (suc more) key object place)
        (λ other found at. by_overlap (disjoint && overlap other at key place (suc more)) (suc more) object place other found at)))

-- Tests.

pub test_within : (parts : Parts) (left right : ℕ) (same : Bool) → AreWithin parts 0 (equal_post parts left right same).graphs
test_within parts left right same =
    held_within parts 0 (held_by parts.registers left) (λ one. on_held (held_by parts.registers right) (λ other. tested parts (left ∷ right ∷ []) same (compared parts one other)))
    (λ one. held_within parts 0 (held_by parts.registers right) (λ other. tested parts (left ∷ right ∷ []) same (compared parts one other)) (λ other. by_known same (compared parts one other)))
  where
    by_pair : (may : Bool) (one other : ℕ) → AreWithin parts 0 (if may then one_graph (without_registers (left ∷ right ∷ []) (with_unequal one other parts)) None else one_graph (without_registers (left ∷ right ∷ []) parts) (Some 5)).graphs
    by_pair true one other =
        let long : length (parts.unequal ++ record { left = one; right = other } ∷ []) ≡ length parts.unequal + 1 = length-append parts.unequal (record { left = one; right = other } ∷ []) in
        only_within parts 0 (without_registers (left ∷ right ∷ []) (with_unequal one other parts)) (omega arith) (omega arith)
    by_pair false one other = same_within parts (without_registers (left ∷ right ∷ []) parts) refl refl

    by_known : (same : Bool) (comparison : Comparison) → AreWithin parts 0 (tested parts (left ∷ right ∷ []) same comparison).graphs
    by_known true known.Same = same_within parts (without_registers (left ∷ right ∷ []) parts) refl refl
    by_known false known.Same = tt
    by_known true known.Different = tt
    by_known false known.Different = same_within parts (without_registers (left ∷ right ∷ []) parts) refl refl
    by_known true (known.Either kept other) =
        let few = merged_few parts kept other parts.unequal in
        let long : length (merged kept other parts).objects ≡ length parts.objects = length-map parts.objects (merged_entry (passes_at parts is_zero kept) kept other) in
        only_within parts 0 (without_registers (left ∷ right ∷ []) (merged kept other parts)) (omega arith) (omega arith)
    by_known false (known.Either kept other) = by_pair (is_unequal_pair parts (record { left = kept; right = other })) kept other
    by_known true known.Itself = same_within parts (without_registers (left ∷ right ∷ []) parts) refl refl
    by_known false known.Itself = tt
    by_known true known.Unknown = same_within parts (without_registers (left ∷ right ∷ []) parts) refl refl
    by_known false known.Unknown = same_within parts (without_registers (left ∷ right ∷ []) parts) refl refl

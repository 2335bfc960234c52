-- In each graph of the post of an edge all objects of the graph before stay, and what comes to them are regions.
use Rattle.std.proofs.Common.{◌≡◌, ℕ, zero, suc, Bool, true, false, ◌&&◌, List, [], ◌∷◌, length, replicate, Option, None, Some, refl, ap, subst, arith}
use Rattle.std.specs.Prelude.{ℤ, pos, nat_eq, Contains, if◌then◌else◌}
use Rattle.std.specs.Ordering.{int_eq}
use Rattle.bytes_core.specs.declared.block.BlockKind.TheVariants.{Heap, Local}
use Rattle.bytes_core.specs.Fault.{double_free, invalid_free}
use Rattle.bytes_core.specs.Release.{is_heap}
use Rattle.graph.specs.declared.object.Object.{Object}
use Rattle.graph.specs.declared.parts.Parts.{Parts}
use Rattle.graph.specs.declared.value.Value.{Value}
use Rattle.graph.specs.declared.value.Value.TheVariants.{Const, Number, Any, Address}
use Rattle.graph.specs.WellFormed.{is_unequal_pair}
use Rattle.graph.specs.Maps.{object_at, value_at, storage_of, held_by}
use Rattle.changes.specs.Dying.{died}
use Rattle.changes.specs.Merging.{merged, with_unequal}
use Rattle.changes.specs.Parts.{with_object, with_object_more, with_value, without_registers}
use Rattle.changes.specs.Posted.{Posted, fault_only, on_held, on_object, on_reach}
use Rattle.changes.specs.Ranges.{with_range, written_object, meets_none}
use Rattle.changes.specs.Reaching.{reach_of, is_excluded}
use Rattle.changes.specs.declared.reach.Reach.{Reach}
use Rattle.changes.proofs.Reached.{none_in, reach_graph}
use Rattle.flow.specs.declared.flow_graph.Flow.{Flow}
use Rattle.flow.specs.declared.instruction.Instr.{Instr}
use Rattle.flow.specs.declared.instruction.Instr.TheVariants as instr
use Rattle.heap_steps.specs.Closing.{none_is_empty, closed_by, has_live_heap}
use Rattle.heap_steps.specs.Leaving.{without_variable, with_dead, with_dead_at, without_one}
use Rattle.heap_steps.specs.Leaving as leaving
use Rattle.heap_steps.specs.Looking.{loses_some, looked_by, looked}
use Rattle.heap_steps.specs.Unreached.{may_lead_anywhere}
use Rattle.range_steps.specs.Copying.{object_written, object_copied, copied_object, overlap, with_overlap, may_overlap, copied_by, copy_post}
use Rattle.range_steps.specs.Filling.{fills_zeros, class_filled, bytes_filled, filled_by, fill_post}
use Rattle.reinterpret.specs.Comparing.{compared}
use Rattle.reinterpret.specs.Reading.{one_graph, value_of, readable, are_class, read_by, value_read, read_post}
use Rattle.reinterpret.specs.Testing.{tested, equal_post}
use Rattle.reinterpret.specs.Writing.{value_written, write_post}
use Rattle.reinterpret.specs.declared.comparison.Comparison.{Comparison}
use Rattle.reinterpret.specs.declared.comparison.Comparison.TheVariants as known
use Rattle.block_steps.specs.Blocks.{new_object}
use Rattle.block_steps.specs.Entering.{with_entered_one, with_entered}
use Rattle.block_steps.specs.Releasing.{only_graph, with_null, object_released, value_released, release_post}
use Rattle.register_steps.specs.Gaining.{gained_graphs}
use Rattle.register_steps.specs.Lines.{number_line, input_line}
use Rattle.register_steps.specs.Steps.{line_of_address, line_of_move, line_of_shift, line_of_shift_by, line_of_compute, line_of_convert}
use Rattle.register_steps.specs.declared.line.Gain.{Gain}
use Rattle.register_steps.specs.declared.line.Gain.TheVariants.{Nothing, Held, Fresh, Truth}
use Rattle.transfer.specs.Ending.{ended_by}
use Rattle.transfer.specs.Posts.{edge_post}
use Rattle.transfer.proofs.KeptObjects.{KeepsObjects, keeps_same, keeps_then, keeps_object, keeps_more, keeps_merged}

abbrev KeepIn : Parts → List Parts → Type 0
KeepIn parts graphs = (after : Parts) → Contains graphs after → KeepsObjects parts after

keep_none : (parts : Parts) → KeepIn parts []
keep_none parts after among = none_in after among

keep_one : (parts graph : Parts) → KeepsObjects parts graph → KeepIn parts (graph ∷ [])
keep_one parts graph keeps after (zero, below, is) = subst (KeepsObjects parts) is keeps
keep_one parts graph keeps after (suc place, below, is) = absurd (omega arith)

keep_two : (parts graph second : Parts) → KeepsObjects parts graph → KeepsObjects parts second → KeepIn parts (graph ∷ second ∷ [])
keep_two parts graph second keeps keeps' after (zero, below, is) = subst (KeepsObjects parts) is keeps
keep_two parts graph second keeps keeps' after (suc zero, below, is) = subst (KeepsObjects parts) is keeps'
keep_two parts graph second keeps keeps' after (suc (suc place), below, is) = absurd (omega arith)

-- the same with other registers, values and pairs
keeps_as : (parts middle after : Parts) → after.objects ≡ middle.objects → KeepsObjects parts middle → KeepsObjects parts after
keeps_as parts middle after same keeps = keeps_then parts middle after keeps (keeps_same middle after same)

keep_held : (parts : Parts) (found : Option ℕ) (onward : ℕ → Posted) → ((key : ℕ) → KeepIn parts (onward key).graphs) → KeepIn parts (on_held found onward).graphs
keep_held parts None onward each = keep_none parts
keep_held parts (Some key) onward each = each key

keep_reach : (parts : Parts) (reach : Reach) (onward : ℕ → Object → ℕ → Posted) → ((key from : ℕ) (object : Object) → object_at parts.objects key ≡ Some object → KeepIn parts (onward key object from).graphs) →
    KeepIn parts (on_reach parts reach onward).graphs
keep_reach parts reach onward each after among = let r = reach_graph parts reach onward after among in each r.key r.from r.object r.stands after r.among

read_keep : (parts : Parts) (at size : ℕ) (pointer : Bool) (into : ℕ) → KeepIn parts (read_post parts at size pointer into).graphs
read_keep parts at size pointer into =
    keep_held parts (held_by parts.registers at) _ (λ target. keep_reach parts (reach_of parts target size) (value_read parts (at ∷ []) into size pointer)
    (λ key from object stands. by_edge key from object stands (readable parts pointer (value_of object.edges from size))))
  where
    by_bytes : (key from : ℕ) (object : Object) → object_at parts.objects key ≡ Some object → (a b : Bool) (one two last : Posted) → KeepIn parts one.graphs → KeepIn parts two.graphs → KeepIn parts last.graphs →
        KeepIn parts (if a then one else (if b then two else last)).graphs
    by_bytes key from object stands true b one two last keep keep' keep'' = keep
    by_bytes key from object stands false true one two last keep keep' keep'' = keep'
    by_bytes key from object stands false false one two last keep keep' keep'' = keep''

    by_edge : (key from : ℕ) (object : Object) → object_at parts.objects key ≡ Some object → (found : Option ℕ) → KeepIn parts (read_by found parts (at ∷ []) into size pointer key object from).graphs
    by_edge key from object stands (Some value) = keep_one parts _ (keeps_same parts _ refl)
    by_edge key from object stands None =
        by_bytes key from object stands (are_class 0 object.plane from size) (are_class 1 object.plane from size && meets_none from size object.edges) _ _ _
        (keep_one parts _ (keeps_same parts _ refl))
        (keep_one parts _ (keeps_as parts _ _ refl (keeps_object parts key object (written_object object (record { at = from; size = size; value = length parts.values }) (Number size)) stands refl refl)))
        (keep_one parts _ (keeps_same parts _ refl))

write_keep : (parts : Parts) (at size from : ℕ) → KeepIn parts (write_post parts at size from).graphs
write_keep parts at size from =
    keep_held parts (held_by parts.registers at) _ (λ target. keep_held parts (held_by parts.registers from) _ (λ source.
    keep_reach parts (reach_of parts target size) (value_written parts (at ∷ from ∷ []) size source (value_at parts.values source))
    (λ key start object stands. by_value source key start object stands (value_at parts.values source))))
  where
    by_value : (source key start : ℕ) (object : Object) → object_at parts.objects key ≡ Some object → (found : Option Value) → KeepIn parts (value_written parts (at ∷ from ∷ []) size source found key object start).graphs
    by_value source key start object stands None = keep_none parts
    by_value source key start object stands (Some value) =
        keep_one parts _ (keeps_as parts _ _ refl (keeps_object parts key object (written_object object (record { at = start; size = size; value = source }) value) stands refl refl))

-- an object of which so many bytes are filled
abbrev ranged : Value → ℕ → Object → ℕ → Object
ranged value count object start = with_range object start count [] (replicate count (class_filled (fills_zeros value)))

fill_keep : (parts : Parts) (at from count : ℕ) → KeepIn parts (fill_post parts at from count).graphs
fill_keep parts at from count =
    keep_held parts (held_by parts.registers at) _ (λ target. keep_held parts (held_by parts.registers from) _ (λ source. by_length count target (value_at parts.values source)))
  where
    by_length : (count target : ℕ) (found : Option Value) → KeepIn parts (filled_by parts (at ∷ from ∷ []) count target found).graphs
    by_length zero target found = keep_one parts _ (keeps_same parts _ refl)
    by_length (suc more) target None = keep_none parts
    by_length (suc more) target (Some value) =
        keep_reach parts (reach_of parts target (suc more)) (bytes_filled parts (at ∷ from ∷ []) (suc more) (fills_zeros value))
        (λ key start object stands. keep_one parts (without_registers (at ∷ from ∷ []) (with_object key (ranged value (suc more) object start) parts))
        (keeps_as parts (with_object key (ranged value (suc more) object start) parts) (without_registers (at ∷ from ∷ []) (with_object key (ranged value (suc more) object start) parts)) refl
        (keeps_object parts key object (ranged value (suc more) object start) stands refl refl)))

copy_keep : (parts : Parts) (target from count : ℕ) (disjoint : Bool) → KeepIn parts (copy_post parts target from count disjoint).graphs
copy_keep parts target from count disjoint =
    keep_held parts (held_by parts.registers target) _ (λ onto. keep_held parts (held_by parts.registers from) _ (λ source. by_length count source onto))
  where
    gone : List ℕ
    gone = target ∷ from ∷ []

    by_overlap : (overlaps : Bool) (count : ℕ) (source : Object) (start key : ℕ) (object : Object) → object_at parts.objects key ≡ Some object → (at : ℕ) → KeepIn parts (object_written parts gone overlaps count source start key object at).graphs
    by_overlap true count source start key object stands at = keep_none parts
    by_overlap false count source start key object stands at =
        keep_one parts _ (keeps_as parts (with_object key (copied_object source start object at count) parts) _ refl (keeps_object parts key object (copied_object source start object at count) stands refl refl))

    with_kinds : (overlaps : Bool) (posted : Posted) → KeepIn parts posted.graphs → KeepIn parts (with_overlap overlaps posted).graphs
    with_kinds false posted keep = keep
    with_kinds true posted keep = keep

    by_length : (count source onto : ℕ) → KeepIn parts (copied_by parts gone disjoint count source onto).graphs
    by_length zero source onto = keep_one parts _ (keeps_same parts _ refl)
    by_length (suc more) source onto =
        with_kinds (disjoint && may_overlap parts (suc more) (reach_of parts source (suc more)) (reach_of parts onto (suc more)))
        (on_reach parts (reach_of parts source (suc more)) (λ key object start. on_reach parts (reach_of parts onto (suc more)) (object_copied parts gone disjoint (suc more) key object start)))
        (keep_reach parts (reach_of parts source (suc more)) _ (λ key start object stands. keep_reach parts (reach_of parts onto (suc more)) (object_copied parts gone disjoint (suc more) key object start)
        (λ other at held there. by_overlap (disjoint && overlap other at key start (suc more)) (suc more) object start other held there at)))

equal_keep : (parts : Parts) (one other : ℕ) (same : Bool) → KeepIn parts (equal_post parts one other same).graphs
equal_keep parts one other same =
    keep_held parts (held_by parts.registers one) _ (λ left. keep_held parts (held_by parts.registers other) _ (λ right. by_known same (compared parts left right)))
  where
    gone : List ℕ
    gone = one ∷ other ∷ []

    by_pair : (b : Bool) (first second : Posted) → KeepIn parts first.graphs → KeepIn parts second.graphs → KeepIn parts (if b then first else second).graphs
    by_pair true first second keep keep' = keep
    by_pair false first second keep keep' = keep'

    stays : KeepIn parts (without_registers gone parts ∷ [])
    stays = keep_one parts (without_registers gone parts) (keeps_same parts (without_registers gone parts) refl)

    by_known : (same : Bool) (comparison : Comparison) → KeepIn parts (tested parts gone same comparison).graphs
    by_known true known.Same = stays
    by_known false known.Same = keep_none parts
    by_known true known.Different = keep_none parts
    by_known false known.Different = stays
    by_known true (known.Either kept other) =
        keep_one parts (without_registers gone (merged kept other parts)) (keeps_as parts (merged kept other parts) (without_registers gone (merged kept other parts)) refl (keeps_merged kept other parts))
    by_known false (known.Either kept other) =
        by_pair (is_unequal_pair parts (record { left = kept; right = other })) (one_graph (without_registers gone (with_unequal kept other parts)) None) (one_graph (without_registers gone parts) (Some 5))
        (keep_one parts (without_registers gone (with_unequal kept other parts)) (keeps_same parts (without_registers gone (with_unequal kept other parts)) refl)) stays
    by_known true known.Itself = stays
    by_known false known.Itself = keep_none parts
    by_known true known.Unknown = stays
    by_known false known.Unknown = stays

line_keep : (parts : Parts) (gone : List ℕ) (into : ℕ) (gain : Gain) → KeepIn parts (gained_graphs parts gone into gain)
line_keep parts gone into Nothing = keep_none parts
line_keep parts gone into (Held key) = keep_one parts _ (keeps_same parts _ refl)
line_keep parts gone into (Fresh value) = keep_one parts _ (keeps_same parts _ refl)
line_keep parts gone into (Truth size) = keep_two parts _ _ (keeps_same parts _ refl) (keeps_same parts _ refl)

pub keeps_entered : (which sizes : List ℕ) (parts : Parts) → KeepsObjects parts (with_entered which sizes parts)
keeps_entered [] sizes parts = keeps_same parts parts refl
keeps_entered (variable ∷ rest) [] parts = keeps_same parts parts refl
keeps_entered (variable ∷ rest) (size ∷ sizes) parts =
    keeps_then parts (with_entered_one variable size parts) _
    (keeps_as parts (with_object_more (new_object Local size false) parts) (with_entered_one variable size parts) refl (keeps_more parts (new_object Local size false) refl))
    (keeps_entered rest sizes (with_entered_one variable size parts))

keeps_one_less : (variable : ℕ) (parts : Parts) → KeepsObjects parts (without_one variable parts)
keeps_one_less variable parts = by_storage (storage_of parts.variables variable)
  where
    less : Parts
    less = without_variable variable parts

    by_object : (key : ℕ) (found : Option Object) → object_at less.objects key ≡ found → KeepsObjects parts (with_dead_at (Some key) less)
    by_object key None is = keeps_same parts _ (ap (λ (o : Option Object). (with_dead key o less).objects) is)
    by_object key (Some object) is =
        keeps_then parts less _ (keeps_same parts less refl)
        (keeps_as less (with_object key (died object) less) _ (ap (λ (o : Option Object). (with_dead key o less).objects) is) (keeps_object less key object (died object) is refl refl))

    by_storage : (found : Option ℕ) → KeepsObjects parts (with_dead_at found less)
    by_storage None = keeps_same parts less refl
    by_storage (Some key) = by_object key (object_at less.objects key) refl

pub keeps_left : (which : List ℕ) (parts : Parts) → KeepsObjects parts (leaving.left which parts)
keeps_left [] parts = keeps_same parts parts refl
keeps_left (variable ∷ rest) parts = keeps_then parts (without_one variable parts) _ (keeps_one_less variable parts) (keeps_left rest (without_one variable parts))

looked_keep : (parts middle : Parts) → KeepsObjects parts middle → KeepIn parts (looked middle).graphs
looked_keep parts middle keeps = by_tests (loses_some middle) (may_lead_anywhere middle)
  where
    by_tests : (a b : Bool) → KeepIn parts (looked_by middle a b).graphs
    by_tests false b = keep_one parts middle keeps
    by_tests true false = keep_none parts
    by_tests true true = keep_one parts middle keeps

release_keep : (parts : Parts) (at : ℕ) → KeepIn parts (release_post parts at).graphs
release_keep parts at = keep_held parts (held_by parts.registers at) _ (λ key. by_value key (value_at parts.values key))
  where
    gone : List ℕ
    gone = at ∷ []

    by_tests : (a b : Bool) (one two last : Posted) → KeepIn parts one.graphs → KeepIn parts two.graphs → KeepIn parts last.graphs → KeepIn parts (if a then (if b then one else two) else last).graphs
    by_tests true true one two last keep keep' keep'' = keep
    by_tests true false one two last keep keep' keep'' = keep'
    by_tests false b one two last keep keep' keep'' = keep''

    by_test : (a : Bool) (one two : Posted) → KeepIn parts one.graphs → KeepIn parts two.graphs → KeepIn parts (if a then one else two).graphs
    by_test true one two keep keep' = keep
    by_test false one two keep keep' = keep'

    by_list : (a : Bool) (graph : Parts) → KeepsObjects parts graph → KeepIn parts (if a then [] else graph ∷ [])
    by_list true graph keeps = keep_none parts
    by_list false graph keeps = keep_one parts graph keeps

    by_object : (key : ℕ) (offset : ℤ) (found : Option Object) → object_at parts.objects key ≡ found → KeepIn parts (on_object found (object_released parts gone key offset)).graphs
    by_object key offset None is = keep_none parts
    by_object key offset (Some object) is =
        by_tests (is_heap object.kind && int_eq offset (pos 0)) object.live (only_graph (without_registers gone (with_object key (died object) parts))) (fault_only double_free) (fault_only invalid_free)
        (keep_one parts (without_registers gone (with_object key (died object) parts))
        (keeps_as parts (with_object key (died object) parts) (without_registers gone (with_object key (died object) parts)) refl (keeps_object parts key object (died object) is refl refl)))
        (keep_none parts) (keep_none parts)

    by_value : (key : ℕ) (found : Option Value) → KeepIn parts (value_released parts gone key found).graphs
    by_value key None = keep_none parts
    by_value key (Some (Const number size)) =
        by_test (nat_eq number 0) (only_graph (without_registers gone parts)) (fault_only invalid_free) (keep_one parts (without_registers gone parts) (keeps_same parts (without_registers gone parts) refl)) (keep_none parts)
    by_value key (Some (Number size)) =
        by_list (is_excluded parts key 0) (without_registers gone (with_null key parts))
        (keeps_as parts (with_null key parts) (without_registers gone (with_null key parts)) refl (keeps_then parts (with_value (Const 0 8) parts) (with_null key parts) (keeps_same parts (with_value (Const 0 8) parts) refl) (keeps_merged (length parts.values) key (with_value (Const 0 8) parts))))
    by_value key (Some Any) = keep_none parts
    by_value key (Some (Address object offset target)) = by_object object offset (object_at parts.objects object) refl

close_keep : (parts : Parts) (b : Bool) → KeepIn parts (closed_by parts b).graphs
close_keep parts true = keep_none parts
close_keep parts false = keep_one parts parts (keeps_same parts parts refl)

end_keep : (parts : Parts) (b : Bool) → KeepIn parts (ended_by parts b).graphs
end_keep parts true = close_keep parts (has_live_heap parts)
end_keep parts false = keep_one parts parts (keeps_same parts parts refl)

pub edge_keeps : (flow : Flow) (kind : Instr) (parts after : Parts) → Contains (edge_post flow kind parts).graphs after → KeepsObjects parts after
edge_keeps flow (instr.Number into number size) parts = line_keep parts [] into (number_line number size).gain
edge_keeps flow (instr.Address into variable) parts = line_keep parts [] into (line_of_address parts variable).gain
edge_keeps flow (instr.Move into from) parts = line_keep parts [] into (line_of_move parts from).gain
edge_keeps flow (instr.Read into at size pointer) parts = read_keep parts at size pointer into
edge_keeps flow (instr.Write at from size) parts = write_keep parts at size from
edge_keeps flow (instr.Shift into at by) parts = line_keep parts (at ∷ []) into (line_of_shift parts at by).gain
edge_keeps flow (instr.ShiftBy into at by scale) parts = line_keep parts (at ∷ by ∷ []) into (line_of_shift_by parts at by scale).gain
edge_keeps flow (instr.Compute into op one other size signed) parts = line_keep parts (one ∷ other ∷ []) into (line_of_compute parts op one other size signed).gain
edge_keeps flow (instr.Convert into from size signed) parts = line_keep parts (from ∷ []) into (line_of_convert parts from size signed).gain
edge_keeps flow (instr.IfSame one other) parts = equal_keep parts one other true
edge_keeps flow (instr.IfDifferent one other) parts = equal_keep parts one other false
edge_keeps flow (instr.Allocate into bytes zeroed) parts =
    keep_one parts _ (keeps_as parts (with_object_more (new_object Heap bytes zeroed) parts) _ refl (keeps_more parts (new_object Heap bytes zeroed) refl))
edge_keeps flow (instr.AllocateNone into) parts = keep_one parts _ (keeps_same parts _ refl)
edge_keeps flow (instr.Release at) parts = release_keep parts at
edge_keeps flow (instr.Fill at from count) parts = fill_keep parts at from count
edge_keeps flow (instr.Copy target from count disjoint) parts = copy_keep parts target from count disjoint
edge_keeps flow (instr.Enter variables) parts = keep_one parts _ (keeps_entered variables _ parts)
edge_keeps flow (instr.Leave variables) parts = looked_keep parts (leaving.left variables parts) (keeps_left variables parts)
edge_keeps flow (instr.Finish registers) parts = looked_keep parts (without_registers registers parts) (keeps_same parts _ refl)
edge_keeps flow (instr.Input into size signed test) parts = line_keep parts [] into (input_line size test).gain
edge_keeps flow (instr.Call function arguments into) parts = keep_none parts
edge_keeps flow (instr.Return from) parts = keep_none parts
edge_keeps flow instr.Close parts = end_keep parts (none_is_empty parts)

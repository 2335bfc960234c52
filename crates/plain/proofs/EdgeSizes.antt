-- The graphs of an edge's post have no more objects than the instruction makes, and one pair more at most; and no more are left.
use Rattle.std.proofs.Common.{◌≡◌, ℕ, zero, suc, ◌+◌, ◌≤◌, Bool, true, false, cond, ◌&&◌, List, [], ◌∷◌, map, length, Some, refl, ◌∙◌, ap, subst, arith}
use Rattle.std.specs.Prelude.{slice_get}
use Rattle.std.specs.List.{filter}
use Rattle.std.proofs.lemmas.List.{length-map}
use Rattle.graph.specs.declared.object.Object.{Object}
use Rattle.graph.specs.declared.parts.KeyedObject.{KeyedObject}
use Rattle.graph.specs.declared.parts.Pair.{Pair}
use Rattle.graph.specs.declared.parts.Parts.{Parts}
use Rattle.graph.specs.Renaming.{value_place, renamed_object, renamed_pair, objects_from}
use Rattle.graph.specs.Unheld.{with_only}
use Rattle.tidying.specs.Held.{stays, object_stays}
use Rattle.tidying.specs.Tidied.{tidied}
use Rattle.flow.specs.declared.flow_graph.Flow.{Flow}
use Rattle.flow.specs.declared.instruction.Instr.{Instr}
use Rattle.flow.specs.declared.instruction.Instr.TheVariants.{Number, Address, Move, Read, Write, Shift, ShiftBy, Compute, Convert, IfSame, IfDifferent, Allocate, AllocateNone, Release, Fill, Copy, Enter, Leave, Finish, Input, Call, Return, Close}
use Rattle.flow.specs.Machine.{size_in}
use Rattle.register_steps.specs.Lines.{number_line, input_line}
use Rattle.register_steps.specs.Steps.{line_of_address, line_of_move, line_of_shift, line_of_shift_by, line_of_compute, line_of_convert}
use Rattle.heap_steps.specs.Closing.{none_is_empty}
use Rattle.transfer.specs.Ending.{ended_by}
use Rattle.transfer.specs.Posts.{edge_post}
use Rattle.trail.proofs.Sound.{same_some}
use Rattle.plain.specs.Sizes.{makes}
use Rattle.plain.proofs.PostSizes.{IsWithin, AreWithin, same_within}
use Rattle.plain.proofs.AccessSizes.{read_within, write_within, fill_within, copy_within, test_within}
use Rattle.plain.proofs.BlockSizes.{gain_within, refuse_within, allocate_within, enter_within, leave_within, finish_within, close_within, release_within}

ended_within : (parts : Parts) (full : Bool) → AreWithin parts 0 (ended_by parts full).graphs
ended_within parts true = close_within parts
ended_within parts false = same_within parts parts refl refl

pub post_within : (flow : Flow) (parts : Parts) (instr : Instr) → AreWithin parts (makes instr) (edge_post flow instr parts).graphs
post_within flow parts (Number into number size) = gain_within parts [] into (number_line number size).gain
post_within flow parts (Address into variable) = gain_within parts [] into (line_of_address parts variable).gain
post_within flow parts (Move into from) = gain_within parts [] into (line_of_move parts from).gain
post_within flow parts (Read into at size pointer) = read_within parts at size pointer into
post_within flow parts (Write at from size) = write_within parts at size from
post_within flow parts (Shift into at by) = gain_within parts (at ∷ []) into (line_of_shift parts at by).gain
post_within flow parts (ShiftBy into at by scale) = gain_within parts (at ∷ by ∷ []) into (line_of_shift_by parts at by scale).gain
post_within flow parts (Compute into op one other size signed) = gain_within parts (one ∷ other ∷ []) into (line_of_compute parts op one other size signed).gain
post_within flow parts (Convert into from size signed) = gain_within parts (from ∷ []) into (line_of_convert parts from size signed).gain
post_within flow parts (IfSame one other) = test_within parts one other true
post_within flow parts (IfDifferent one other) = test_within parts one other false
post_within flow parts (Allocate into bytes zeroed) = allocate_within parts bytes zeroed into
post_within flow parts (AllocateNone into) = refuse_within parts into
post_within flow parts (Release at) = release_within parts at
post_within flow parts (Fill at from count) = fill_within parts at from count
post_within flow parts (Copy to from count disjoint) = copy_within parts to from count disjoint
post_within flow parts (Enter variables) = enter_within parts variables (map (size_in flow) variables)
post_within flow parts (Leave variables) = leave_within parts variables
post_within flow parts (Finish registers) = finish_within parts registers
post_within flow parts (Input into size signed truth) = gain_within parts [] into (input_line size truth).gain
post_within flow parts (Call function arguments into) = tt
post_within flow parts (Return from) = tt
post_within flow parts Close = ended_within parts (none_is_empty parts)

-- What is left.

pub fewer : {X : Type 0} (test : X → Bool) (items : List X) → length (filter test items) ≤ length items
fewer test [] = omega arith
fewer test (first ∷ rest) = by_test (test first) (fewer test rest)
  where
    by_test : (b : Bool) → length (filter test rest) ≤ length rest → length (cond b (first ∷ filter test rest) (filter test rest)) ≤ suc (length rest)
    by_test true less = omega arith
    by_test false less = omega arith

from_long : (number : ℕ) (objects : List Object) → length (objects_from number objects) ≡ length objects
from_long number [] = refl
from_long number (first ∷ rest) = ap suc (from_long (number + 1) rest)

tidied_within : (parts after : Parts) (made : ℕ) → IsWithin parts made after → IsWithin parts made (tidied after)
tidied_within parts after made within =
    let kept : Parts = with_only (stays after) (object_stays after) after in
    let objects : length kept.objects ≤ length after.objects = fewer (λ (entry : KeyedObject). object_stays after entry.key) after.objects in
    let pairs : length kept.unequal ≤ length after.unequal = fewer (λ (pair : Pair). stays after pair.left && stays after pair.right) after.unequal in
    let long : length (tidied after).objects ≡ length kept.objects =
    from_long 0 (map (λ (entry : KeyedObject). renamed_object (value_place kept) entry.object) kept.objects) ∙ length-map kept.objects (λ (entry : KeyedObject). renamed_object (value_place kept) entry.object) in
    let pairs_long : length (tidied after).unequal ≡ length kept.unequal = length-map kept.unequal (renamed_pair (value_place kept)) in
    let most : length after.objects ≤ length parts.objects + made = within.objects in
    let most_pairs : length after.unequal ≤ length parts.unequal + 1 = within.pairs in
    record { objects = omega arith; pairs = omega arith }

pub left_within : (parts : Parts) (made : ℕ) (graphs : List Parts) (result : ℕ) (graph : Parts) → AreWithin parts made graphs → slice_get (map tidied graphs) result ≡ Some graph → IsWithin parts made graph
left_within parts made [] result graph within is = absurd cc
left_within parts made (first ∷ rest) zero graph (here, later) is = subst (IsWithin parts made) (same_some (tidied first) graph is) (tidied_within parts first made here)
left_within parts made (first ∷ rest) (suc result) graph (here, later) is = left_within parts made rest result graph later is

-- Where the post of an edge names loss 4 it is that of an access through any word, and lists a kind, but for tests whether two values are the same.
use Rattle.std.proofs.Common.{◌≡◌, ℕ, zero, suc, Bool, true, false, ◌&&◌, List, [], ◌∷◌, ◌++◌, nat_eq, Option, None, Some, refl, sym, ◌∙◌, ap}
use Rattle.std.specs.Prelude.{ℤ, if◌then◌else◌}
use Rattle.std.proofs.lemmas.Option.{none-some, same_Some}
use Rattle.arithmetic.specs.declared.op.Op.{Op}
use Rattle.arithmetic.specs.Computing.{computed}
use Rattle.bytes_core.specs.Fault.{overlapping_copy}
use Rattle.graph.specs.declared.object.Object.{Object}
use Rattle.graph.specs.declared.parts.KeyedValue.{KeyedValue}
use Rattle.graph.specs.declared.parts.Parts.{Parts}
use Rattle.graph.specs.declared.value.Value.{Value}
use Rattle.graph.specs.declared.value.Value.TheVariants.{Const, Number, Any, Address}
use Rattle.graph.specs.Maps.{object_at, value_at, storage_of, held_by}
use Rattle.changes.specs.declared.reach.Reach.{Reach}
use Rattle.changes.specs.declared.reach.Reach.TheVariants as to
use Rattle.changes.specs.Parts.{without_registers}
use Rattle.changes.specs.Posted.{Posted, on_held, on_object, on_reach}
use Rattle.changes.specs.Ranges.{cuts_none, meets_none}
use Rattle.changes.specs.Reaching.{reach_of}
use Rattle.flow.specs.declared.flow_graph.Flow.{Flow}
use Rattle.flow.specs.declared.instruction.Instr.{Instr}
use Rattle.flow.specs.declared.instruction.Instr.TheVariants as instr
use Rattle.heap_steps.specs.Closing.{none_is_empty, closed_by, close_post, has_live_heap}
use Rattle.heap_steps.specs.Leaving.{left}
use Rattle.heap_steps.specs.Looking.{looked_by, looked, loses_some}
use Rattle.heap_steps.specs.Unreached.{may_lead_anywhere}
use Rattle.range_steps.specs.Copying.{object_written, object_copied, copies_all, overlap, with_overlap, copied_by, may_overlap, copy_post}
use Rattle.range_steps.specs.Filling.{fills_zeros, loss_filled, bytes_filled, filled_by, fill_post}
use Rattle.reinterpret.specs.Reading.{readable, value_of, are_class, read_by, value_read, read_post}
use Rattle.reinterpret.specs.Writing.{value_written, write_post}
use Rattle.block_steps.specs.Blocks.{loss_beside}
use Rattle.block_steps.specs.Entering.{loss_entering}
use Rattle.block_steps.specs.Releasing.{object_released, value_released, release_post}
use Rattle.register_steps.specs.declared.line.Line.{Line}
use Rattle.register_steps.specs.Lines.{kept, losing, truth, shifted, shifted_somewhere, shifted_by, is_test, of_constants, of_others, size_given, computed_line, converted_line, input_line, address_line}
use Rattle.register_steps.specs.Steps.{entry_held, on_held as on_entry}
use Rattle.transfer.specs.Ending.{ended_by, end_post}
use Rattle.transfer.specs.Posts.{edge_post}

-- loss 4 stands beside a kind
abbrev pub HasKinds : Posted → Type 0
HasKinds posted = posted.loss ≡ Some 4 → posted.kinds ≡ [] → ⊥

other_loss : (loss : ℕ) → nat_eq loss 4 ≡ false → Some loss ≡ Some 4 → ⊥
other_loss loss differ is = absurd (four (nat_eq loss 4) differ (ap (λ (n : ℕ). nat_eq n 4) (same_Some _ _ is)))
  where
    four : (b : Bool) → b ≡ false → b ≡ true → ⊥
    four true is is' = absurd cc
    four false is is' = absurd cc

some_kind : (kind : ℕ) (rest : List ℕ) → kind ∷ rest ≡ [] → ⊥
some_kind kind rest is = absurd cc

-- Accesses.

reach_kinds : (parts : Parts) (reach : Reach) (onward : ℕ → Object → ℕ → Posted) → ((key from : ℕ) (object : Object) → HasKinds (onward key object from)) → HasKinds (on_reach parts reach onward)
reach_kinds parts to.Nothing onward has loss none = none-some 4 loss
reach_kinds parts (to.Fault kind) onward has loss none = none-some 4 loss
reach_kinds parts (to.Number small) onward has loss none = none-some 4 loss
reach_kinds parts (to.Anything true) onward has loss none = some_kind _ _ none
reach_kinds parts (to.Anything false) onward has loss none = some_kind _ _ none
reach_kinds parts (to.Room key from) onward has loss none = by_object (object_at parts.objects key) loss none
  where
    by_object : (found : Option Object) → HasKinds (on_object found (λ object. onward key object from))
    by_object None loss none = none-some 4 loss
    by_object (Some object) loss none = has key from object loss none

held_kinds : (found : Option ℕ) (onward : ℕ → Posted) → ((key : ℕ) → HasKinds (onward key)) → HasKinds (on_held found onward)
held_kinds None onward has loss none = none-some 4 loss
held_kinds (Some key) onward has loss none = has key loss none

read_kinds : (parts : Parts) (at size : ℕ) (pointer : Bool) (into : ℕ) → HasKinds (read_post parts at size pointer into)
read_kinds parts at size pointer into =
    held_kinds (held_by parts.registers at) _ (λ target. reach_kinds parts (reach_of parts target size) (value_read parts (at ∷ []) into size pointer)
    (λ key from object. by_edge key from object (readable parts pointer (value_of object.edges from size))))
  where
    by_bytes : (key from : ℕ) (object : Object) (a b : Bool) → (one two last : Posted) → one.loss ≡ None → two.loss ≡ None → last.loss ≡ Some 3 → HasKinds (if a then one else (if b then two else last))
    by_bytes key from object true b one two last one_is two_is last_is loss none = none-some 4 (sym one_is ∙ loss)
    by_bytes key from object false true one two last one_is two_is last_is loss none = none-some 4 (sym two_is ∙ loss)
    by_bytes key from object false false one two last one_is two_is last_is loss none = other_loss 3 refl (sym last_is ∙ loss)

    by_edge : (key from : ℕ) (object : Object) (found : Option ℕ) → HasKinds (read_by found parts (at ∷ []) into size pointer key object from)
    by_edge key from object (Some value) loss none = none-some 4 loss
    by_edge key from object None loss none = by_bytes key from object (are_class 0 object.plane from size) (are_class 1 object.plane from size && meets_none from size object.edges) _ _ _ refl refl refl loss none

abbrev three : Option ℕ
three = Some 3

by_three : (b : Bool) → (if b then None else three) ≡ Some 4 → ⊥
by_three true is = none-some 4 is
by_three false is = other_loss 3 refl is

write_kinds : (parts : Parts) (at size from : ℕ) → HasKinds (write_post parts at size from)
write_kinds parts at size from =
    held_kinds (held_by parts.registers at) _ (λ target. held_kinds (held_by parts.registers from) _ (λ source.
    reach_kinds parts (reach_of parts target size) (value_written parts (at ∷ from ∷ []) size source (value_at parts.values source)) (λ key start object. by_value source key start object (value_at parts.values source))))
  where
    by_value : (source key start : ℕ) (object : Object) (found : Option Value) → HasKinds (value_written parts (at ∷ from ∷ []) size source found key object start)
    by_value source key start object None loss none = none-some 4 loss
    by_value source key start object (Some value) loss none = by_three (cuts_none start size object.edges) loss

fill_kinds : (parts : Parts) (at from count : ℕ) → HasKinds (fill_post parts at from count)
fill_kinds parts at from count =
    held_kinds (held_by parts.registers at) _ (λ target. held_kinds (held_by parts.registers from) _ (λ source. by_length count target (value_at parts.values source)))
  where
    by_loss : (b c : Bool) → loss_filled b c ≡ Some 4 → ⊥
    by_loss false c is = other_loss 3 refl is
    by_loss true false is = other_loss 6 refl is
    by_loss true true is = none-some 4 is

    by_length : (count target : ℕ) (found : Option Value) → HasKinds (filled_by parts (at ∷ from ∷ []) count target found)
    by_length zero target found loss none = none-some 4 loss
    by_length (suc more) target None loss none = none-some 4 loss
    by_length (suc more) target (Some value) loss none =
        reach_kinds parts (reach_of parts target (suc more)) (bytes_filled parts (at ∷ from ∷ []) (suc more) (fills_zeros value)) (λ key start object loss none. by_loss (cuts_none start (suc more) object.edges) (fills_zeros value) loss)
        loss none

append_some : (kinds : List ℕ) (kind : ℕ) → kinds ++ kind ∷ [] ≡ [] → ⊥
append_some [] kind is = some_kind kind [] is
append_some (first ∷ rest) kind is = some_kind first (rest ++ kind ∷ []) is

copy_kinds : (parts : Parts) (target from count : ℕ) (disjoint : Bool) → HasKinds (copy_post parts target from count disjoint)
copy_kinds parts target from count disjoint =
    held_kinds (held_by parts.registers target) _ (λ onto. held_kinds (held_by parts.registers from) _ (λ source. by_length count source onto))
  where
    gone : List ℕ
    gone = target ∷ from ∷ []

    by_overlap : (overlaps : Bool) (count : ℕ) (source : Object) (start key : ℕ) (object : Object) (at : ℕ) → HasKinds (object_written parts gone overlaps count source start key object at)
    by_overlap true count source start key object at loss none = none-some 4 loss
    by_overlap false count source start key object at loss none = by_three (copies_all source start object at count) loss

    with_kinds : (overlaps : Bool) (posted : Posted) → HasKinds posted → HasKinds (with_overlap overlaps posted)
    with_kinds false posted has loss none = has loss none
    with_kinds true posted has loss none = append_some posted.kinds overlapping_copy none

    by_length : (count source onto : ℕ) → HasKinds (copied_by parts gone disjoint count source onto)
    by_length zero source onto loss none = none-some 4 loss
    by_length (suc more) source onto loss none =
        with_kinds (disjoint && may_overlap parts (suc more) (reach_of parts source (suc more)) (reach_of parts onto (suc more))) _
        (reach_kinds parts (reach_of parts source (suc more)) _ (λ key start object. reach_kinds parts (reach_of parts onto (suc more)) (object_copied parts gone disjoint (suc more) key object start)
        (λ other at held. by_overlap (disjoint && overlap other at key start (suc more)) (suc more) object start other held at)))
        loss none

release_kinds : (parts : Parts) (at : ℕ) → HasKinds (release_post parts at)
release_kinds parts at = held_kinds (held_by parts.registers at) _ (λ key. by_value key (value_at parts.values key))
  where
    by_two : (a b : Bool) (one two last : Posted) → one.loss ≡ None → two.loss ≡ None → last.loss ≡ None → HasKinds (if a then (if b then one else two) else last)
    by_two true true one two last one_is two_is last_is loss none = none-some 4 (sym one_is ∙ loss)
    by_two true false one two last one_is two_is last_is loss none = none-some 4 (sym two_is ∙ loss)
    by_two false b one two last one_is two_is last_is loss none = none-some 4 (sym last_is ∙ loss)

    by_one : (a : Bool) (one two : Posted) → one.loss ≡ None → two.loss ≡ None → HasKinds (if a then one else two)
    by_one true one two one_is two_is loss none = none-some 4 (sym one_is ∙ loss)
    by_one false one two one_is two_is loss none = none-some 4 (sym two_is ∙ loss)

    by_object : (object : ℕ) (offset : ℤ) (found : Option Object) → HasKinds (on_object found (object_released parts (at ∷ []) object offset))
    by_object object offset None loss none = none-some 4 loss
    by_object object offset (Some held) loss none = by_two _ held.live _ _ _ refl refl refl loss none

    by_value : (key : ℕ) (found : Option Value) → HasKinds (value_released parts (at ∷ []) key found)
    by_value key None loss none = none-some 4 loss
    by_value key (Some (Const number size)) loss none = by_one (nat_eq number 0) _ _ refl refl loss none
    by_value key (Some (Number size)) loss none = none-some 4 loss
    by_value key (Some Any) loss none = some_kind _ _ none
    by_value key (Some (Address object offset target)) loss none = by_object object offset (object_at parts.objects object) loss none

looked_not : (parts : Parts) → (looked parts).loss ≡ Some 4 → ⊥
looked_not parts = by_tests (loses_some parts) (may_lead_anywhere parts)
  where
    by_tests : (a b : Bool) → (looked_by parts a b).loss ≡ Some 4 → ⊥
    by_tests false b loss = none-some 4 loss
    by_tests true false loss = none-some 4 loss
    by_tests true true loss = other_loss 3 refl loss

pub close_not : (parts : Parts) → (close_post parts).loss ≡ Some 4 → ⊥
close_not parts = by_test (has_live_heap parts)
  where
    by_test : (b : Bool) → (closed_by parts b).loss ≡ Some 4 → ⊥
    by_test true loss = none-some 4 loss
    by_test false loss = none-some 4 loss

end_not : (parts : Parts) → (end_post parts).loss ≡ Some 4 → ⊥
end_not parts = by_test (none_is_empty parts)
  where
    by_test : (b : Bool) → (ended_by parts b).loss ≡ Some 4 → ⊥
    by_test true loss = close_not parts loss
    by_test false loss = other_loss 3 refl loss

beside_not : (parts : Parts) → loss_beside parts ≡ Some 4 → ⊥
beside_not parts = by_test (may_lead_anywhere parts)
  where
    by_test : (b : Bool) → (if b then three else None) ≡ Some 4 → ⊥
    by_test true is = other_loss 3 refl is
    by_test false is = none-some 4 is

entering_not : (variables : List ℕ) (parts : Parts) → loss_entering variables parts ≡ Some 4 → ⊥
entering_not [] parts is = none-some 4 is
entering_not (variable ∷ rest) parts is = beside_not parts is

-- Registers.

abbrev IsNotFour : Line → Type 0
IsNotFour line = line.loss ≡ Some 4 → ⊥

entry_not : (found : Option KeyedValue) (onward : KeyedValue → Line) → ((entry : KeyedValue) → IsNotFour (onward entry)) → IsNotFour (on_entry found onward)
entry_not None onward has is = none-some 4 is
entry_not (Some entry) onward has is = has entry is

address_not : (found : Option ℕ) → IsNotFour (address_line found)
address_not None is = none-some 4 is
address_not (Some object) is = none-some 4 is

shifted_not : (value : Value) (bytes : ℤ) → IsNotFour (shifted value bytes)
shifted_not (Const number size) bytes is = none-some 4 is
shifted_not (Number size) bytes is = other_loss 1 refl is
shifted_not Any bytes is = other_loss 1 refl is
shifted_not (Address object offset target) bytes is = none-some 4 is

somewhere_not : (value : Value) → IsNotFour (shifted_somewhere value)
somewhere_not (Const number size) is = other_loss 1 refl is
somewhere_not (Number size) is = other_loss 1 refl is
somewhere_not Any is = other_loss 1 refl is
somewhere_not (Address object offset target) is = other_loss 7 refl is

shifted_by_not : (value by : Value) (scale : ℤ) → IsNotFour (shifted_by value by scale)
shifted_by_not value (Const number size) scale = shifted_not value _
shifted_by_not value (Number size) scale = somewhere_not value
shifted_by_not value Any scale = somewhere_not value
shifted_by_not value (Address object offset target) scale = somewhere_not value

others_not : (op : Op) (size : ℕ) → IsNotFour (of_others op size)
others_not op size = by_test (is_test op)
  where
    by_test : (b : Bool) → (if b then truth (Some 2) 4 else losing 1 (Number size)).loss ≡ Some 4 → ⊥
    by_test true is = other_loss 2 refl is
    by_test false is = other_loss 1 refl is

constants_not : (size : ℕ) (found : Option ℕ) → IsNotFour (of_constants size found)
constants_not size None is = none-some 4 is
constants_not size (Some number) is = none-some 4 is

computed_not : (op : Op) (size : ℕ) (signed : Bool) (one other : Value) → IsNotFour (computed_line op size signed one other)
computed_not op size signed (Const one one_size) (Const other other_size) = constants_not (size_given op size) (computed op size signed one other)
computed_not op size signed (Const one one_size) (Number other_size) = others_not op size
computed_not op size signed (Const one one_size) Any = others_not op size
computed_not op size signed (Const one one_size) (Address object offset target) = others_not op size
computed_not op size signed (Number one_size) other = others_not op size
computed_not op size signed Any other = others_not op size
computed_not op size signed (Address object offset target) other = others_not op size

converted_not : (key : ℕ) (value : Value) (size : ℕ) (signed : Bool) → IsNotFour (converted_line key value size signed)
converted_not key (Const number from) size signed is = by_test (nat_eq from size) _ refl is
  where
    by_test : (b : Bool) (other : Line) → other.loss ≡ None → (if b then kept key else other).loss ≡ Some 4 → ⊥
    by_test true other other_is is = none-some 4 is
    by_test false other other_is is = none-some 4 (sym other_is ∙ is)
converted_not key (Number from) size signed is = by_test (nat_eq from size) is
  where
    by_test : (b : Bool) → (if b then kept key else losing 1 (Number size)).loss ≡ Some 4 → ⊥
    by_test true is = none-some 4 is
    by_test false is = other_loss 1 refl is
converted_not key Any size signed is = other_loss 1 refl is
converted_not key (Address object offset target) size signed is = other_loss 1 refl is

input_not : (size : ℕ) (truth : Bool) → IsNotFour (input_line size truth)
input_not size true is = none-some 4 is
input_not size false is = none-some 4 is

-- an instruction that tests whether two values are the same
abbrev pub compares : Instr → Bool
compares (instr.IfSame one other) = true
compares (instr.IfDifferent one other) = true
compares other = false

-- one that may lead through any word
abbrev pub accesses : Instr → Bool
accesses (instr.Read into at size pointer) = true
accesses (instr.Write at from size) = true
accesses (instr.Release at) = true
accesses (instr.Fill at from count) = true
accesses (instr.Copy target from count disjoint) = true
accesses other = false

-- no other names loss 4
pub never_four : (flow : Flow) (kind : Instr) (parts : Parts) → compares kind ≡ false → accesses kind ≡ false → (edge_post flow kind parts).loss ≡ Some 4 → ⊥
never_four flow (instr.Number into number size) parts plain alone loss = none-some 4 loss
never_four flow (instr.Address into variable) parts plain alone loss = address_not (storage_of parts.variables variable) loss
never_four flow (instr.Move into from) parts plain alone loss = entry_not (entry_held parts from) (λ held. kept held.key) (λ entry is. none-some 4 is) loss
never_four flow (instr.Read into at size pointer) parts plain alone loss = absurd cc
never_four flow (instr.Write at from size) parts plain alone loss = absurd cc
never_four flow (instr.Shift into at by) parts plain alone loss = entry_not (entry_held parts at) (λ address. shifted address.value by) (λ entry. shifted_not entry.value by) loss
never_four flow (instr.ShiftBy into at by scale) parts plain alone loss =
    entry_not (entry_held parts at) _ (λ address. entry_not (entry_held parts by) (λ number. shifted_by address.value number.value scale) (λ number. shifted_by_not address.value number.value scale)) loss
never_four flow (instr.Compute into op one other size signed) parts plain alone loss =
    entry_not (entry_held parts one) _ (λ first. entry_not (entry_held parts other) (λ second. computed_line op size signed first.value second.value) (λ second. computed_not op size signed first.value second.value)) loss
never_four flow (instr.Convert into from size signed) parts plain alone loss = entry_not (entry_held parts from) (λ held. converted_line held.key held.value size signed) (λ held. converted_not held.key held.value size signed) loss
never_four flow (instr.IfSame one other) parts plain alone loss = absurd cc
never_four flow (instr.IfDifferent one other) parts plain alone loss = absurd cc
never_four flow (instr.Allocate into bytes zeroed) parts plain alone loss = beside_not parts loss
never_four flow (instr.AllocateNone into) parts plain alone loss = none-some 4 loss
never_four flow (instr.Release at) parts plain alone loss = absurd cc
never_four flow (instr.Fill at from count) parts plain alone loss = absurd cc
never_four flow (instr.Copy target from count disjoint) parts plain alone loss = absurd cc
never_four flow (instr.Enter variables) parts plain alone loss = entering_not variables parts loss
never_four flow (instr.Leave variables) parts plain alone loss = looked_not (left variables parts) loss
never_four flow (instr.Finish registers) parts plain alone loss = looked_not (without_registers registers parts) loss
never_four flow (instr.Input into size signed test) parts plain alone loss = input_not size test loss
never_four flow (instr.Call function arguments into) parts plain alone loss = none-some 4 loss
never_four flow (instr.Return from) parts plain alone loss = none-some 4 loss
never_four flow instr.Close parts plain alone loss = end_not parts loss

-- where loss 4 is named of one of these, a kind is listed
pub access_kinds : (flow : Flow) (kind : Instr) (parts : Parts) → accesses kind ≡ true → HasKinds (edge_post flow kind parts)
access_kinds flow (instr.Read into at size pointer) parts is loss none = read_kinds parts at size pointer into loss none
access_kinds flow (instr.Write at from size) parts is loss none = write_kinds parts at size from loss none
access_kinds flow (instr.Release at) parts is loss none = release_kinds parts at loss none
access_kinds flow (instr.Fill at from count) parts is loss none = fill_kinds parts at from count loss none
access_kinds flow (instr.Copy target from count disjoint) parts is loss none = copy_kinds parts target from count disjoint loss none
access_kinds flow (instr.Number into number size) parts is loss none = absurd cc
access_kinds flow (instr.Address into variable) parts is loss none = absurd cc
access_kinds flow (instr.Move into from) parts is loss none = absurd cc
access_kinds flow (instr.Shift into at by) parts is loss none = absurd cc
access_kinds flow (instr.ShiftBy into at by scale) parts is loss none = absurd cc
access_kinds flow (instr.Compute into op one other size signed) parts is loss none = absurd cc
access_kinds flow (instr.Convert into from size signed) parts is loss none = absurd cc
access_kinds flow (instr.IfSame one other) parts is loss none = absurd cc
access_kinds flow (instr.IfDifferent one other) parts is loss none = absurd cc
access_kinds flow (instr.Allocate into bytes zeroed) parts is loss none = absurd cc
access_kinds flow (instr.AllocateNone into) parts is loss none = absurd cc
access_kinds flow (instr.Enter variables) parts is loss none = absurd cc
access_kinds flow (instr.Leave variables) parts is loss none = absurd cc
access_kinds flow (instr.Finish registers) parts is loss none = absurd cc
access_kinds flow (instr.Input into size signed test) parts is loss none = absurd cc
access_kinds flow (instr.Call function arguments into) parts is loss none = absurd cc
access_kinds flow (instr.Return from) parts is loss none = absurd cc
access_kinds flow instr.Close parts is loss none = absurd cc

pub four_kinds : (flow : Flow) (kind : Instr) (parts : Parts) → compares kind ≡ false → HasKinds (edge_post flow kind parts)
four_kinds flow kind parts plain = by_kind (accesses kind) refl
  where
    by_kind : (b : Bool) → accesses kind ≡ b → HasKinds (edge_post flow kind parts)
    by_kind true is loss none = access_kinds flow kind parts is loss none
    by_kind false is loss none = never_four flow kind parts plain is loss

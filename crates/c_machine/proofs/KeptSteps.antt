-- Each step keeps what holds of a state.
use Rattle.std.proofs.Common.{◌≡◌, ℕ, zero, suc, ◌+◌, ◌*◌, map, ◌%◌, ◌<◌, List, [], ◌∷◌, ◌++◌, length, take, drop, reverse, Bool, true, false, Option, None as Nothing, Some, refl, sym, ap, subst, ◌∙◌, arith}
use Rattle.std.specs.Prelude.{pos, if◌then◌else◌, not, ◌&&◌, ◌||◌, nat_eq, nat_lt, slice_get, ◌-◌}
use Rattle.std.specs.List.{flat_map, list_all}
use Rattle.std.proofs.Math.Nat.{mod-lt}
use Rattle.std.proofs.lemmas.Bool.{and_parts, eqb-true, le-leb}
use Rattle.std.proofs.lemmas.List.{append_assoc, length-map, reverse-append}
use Rattle.std.proofs.lemmas.Option.{slice_get_within}
use Rattle.cbase.specs.declared.place.Place.{Place}
use Rattle.cbase.specs.declared.tree.operators.BinaryOp.{BinaryOp}
use Rattle.bytes_core.specs.declared.block.Block.{Block}
use Rattle.bytes_core.specs.declared.block.BlockKind.{BlockKind}
use Rattle.bytes_core.specs.declared.block.BlockKind.TheVariants as storage
use Rattle.bytes_core.specs.declared.word.Word.{Word}
use Rattle.bytes_core.specs.declared.word.Word.TheVariants.{Plain, To}
use Rattle.bytes_core.specs.declared.byte.Byte.TheVariants.{Num}
use Rattle.bytes_core.specs.Access.{access_fault, block_fault, range_fault, loaded, stored, filled}
use Rattle.bytes_core.specs.Fault.{access_outside_object, memory_lost}
use Rattle.bytes_core.specs.Copying.{copy_fault, copied}
use Rattle.bytes_core.specs.Loss.{is_lost}
use Rattle.bytes_core.specs.Placement.{new_block, is_new_block, placed}
use Rattle.bytes_core.specs.Release.{free_fault, freed}
use Rattle.bytes_core.specs.Value.{address_number, moved}
use Rattle.choices.specs.declared.choice.Choice.{Choice}
use Rattle.choices.specs.declared.choice.Choice.TheVariants.{None, Block as NewBlock, Input}
use Rattle.typing.specs.ctypes.Integers.{int}
use Rattle.c_machine.specs.declared.built_in.BuiltIn.TheVariants.{Malloc, Calloc, Free, Memset, Memcpy, Memmove, EndsRun, Assume, Expect, GivesInput}
use Rattle.c_machine.specs.declared.built_in.BuiltIn.{BuiltIn}
use Rattle.c_machine.specs.declared.kind.Kind.TheVariants.{Integer, Pointer, Array, Struct, Void}
use Rattle.c_machine.specs.declared.kind.Kind.{Kind}
use Rattle.c_machine.specs.declared.object.Object.{Object}
use Rattle.c_machine.specs.declared.task.Task.{Task}
use Rattle.c_machine.specs.declared.task.Task.TheVariants.{ValueOf, AddressOf, Push, ObjectAt, Shift, Load, Convert, Apply, Operate, Answer, AndThen, OrElse, Pick, Drop, Store, Update, CountBy, CopyStruct, RunBuiltIn, CallDefined, EndRun, Finish, Keep, Execute, Branch, Test, Again, OpenBlock, MakeObject, MakeParameter, MakeStatic, LeaveBlock, Zero, Initialise, BreakAt, ContinueAt, GiveBack, LeaveFunction, EndOfBody, Unknown}
use Rattle.c_machine.specs.declared.variable.Variable.{Variable}
use Rattle.c_machine.specs.Calls.{called}
use Rattle.c_machine.specs.Choosing.{with_block, allocated, received, count_of, with_object, with_static, parameter_made}
use Rattle.c_machine.specs.Keeping.{IsOperand, AreOperands, IsObject, AreLive, AreApart, own_blocks, IsState, DoStepsKeep}
use Rattle.c_machine.specs.State.{TaskIn, Scope, Frame, State, StateIn, Outcome, Went, Waits, Ended, Faulted, Stuck, doing, with_operand, with_memory, popped_of, unless_fault, is_named, block_in, block_of, blocks_of, objects_of, roots}
use Rattle.c_machine.specs.Statements.{LoopLeft, loop_left, after_break, after_continue, BodyLeft, body_left, oldest, branch_place, branch_tasks}
use Rattle.c_machine.specs.Step.{unless_lost, or_ended, or_stuck, object_at, load_step, store_step, stored_result, updated, and_then, or_else, assumed, built_in_step, leave_block, leave_loop, give_back, end_of_body, returned, leave_function, without_objects, counting, counted, step, step_of, step_on}
use Rattle.c_machine.specs.Text.{Function, Text}
use Rattle.c_machine.specs.Trees.{text_of}
use Rattle.c_machine.specs.Words.{is_true, told, as_kind, applied, operated, kind_after, scalar_bytes, is_pointer}
use Rattle.c_machine.proofs.KeptMemory.{Keeps, all_end, Places, block_placed, freed_keeps, pushed_new}
use Rattle.c_machine.proofs.KeptWords.{moved_operand, kind_operand, told_operand, IfOperand, applied_operand, operated_operand, loaded_operand, counted_operand, stored_keeps, filled_keeps, copied_keeps}
use Rattle.c_machine.proofs.KeptStates.{with_tasks, with_words, changed, with_new, with_local, fresh_misses, live_front, live_back, live_on, apart_back, apart_each, statics_miss, blocks_of-append}

-- where a step goes on, it is to a state of which this holds
abbrev pub Leaves : {E S I : Type 0} → Outcome E S I → Type 0
Leaves (Went next rest) = IsState next
Leaves Waits = Unit {0}
Leaves Ended = Unit {0}
Leaves (Faulted kind place) = Unit {0}
Leaves Stuck = Unit {0}

by_test : {E S I : Type 0} (one other : Outcome E S I) (b : Bool) → (b ≡ true → Leaves one) → Leaves other → Leaves (if b then one else other)
by_test one other true first second = first refl
by_test one other false first second = second

fault_or : {E S I : Type 0} (onward : Outcome E S I) (fault : Option ℕ) (place : Place) → (fault ≡ Nothing → Leaves onward) → Leaves (unless_fault fault place onward)
fault_or onward Nothing place goes = goes refl
fault_or onward (Some kind) place goes = tt

lost_or : {E S I : Type 0} (place : Place) (state : State E S I) (choices : List Choice) → IsState state → Leaves (unless_lost place state choices)
lost_or place state choices is = by_lost (is_lost state.memory (roots state))
  where
    by_lost : (b : Bool) → Leaves (if b then Faulted memory_lost place else Went state choices)
    by_lost true = tt
    by_lost false = is

popping : {E S I : Type 0} (words : List Word) (state : State E S I) (onward : Word → State E S I → Outcome E S I) → AreOperands (length state.memory) words →
    ((word : Word) (rest : List Word) → IsOperand (length state.memory) word → AreOperands (length state.memory) rest → Leaves (onward word (record state { operands = rest }))) →
    Leaves (popped_of words state onward)
popping [] state onward are each = tt
popping (word ∷ rest) state onward are each = each word rest are.0 are.1

ended_or : {E S I : Type 0} (word : Option Word) (state : State E S I) (choices : List Choice) → IsState state → IfOperand (length state.memory) word → Leaves (or_ended word state choices)
ended_or Nothing state choices is named = tt
ended_or (Some word) state choices is named = with_words state (word ∷ state.operands) is (named, is.operands)

stuck_or : {E S I : Type 0} (word : Option Word) (state : State E S I) (choices : List Choice) → IsState state → IfOperand (length state.memory) word → Leaves (or_stuck word state choices)
stuck_or Nothing state choices is named = tt
stuck_or (Some word) state choices is named = with_words state (word ∷ state.operands) is (named, is.operands)

-- names
abbrev Below : ℕ → List ℕ → Type 0
Below count [] = Unit {0}
Below count (number ∷ rest) = (number < count) × Below count rest

live_below : (kind : BlockKind) (memory : List Block) (numbers : List ℕ) → AreLive kind memory numbers → Below (length memory) numbers
live_below kind memory [] live = tt
live_below kind memory (number ∷ rest) live =
    let object : IsObject kind memory number = live.0 in
    (slice_get_within memory number object.block object.stands, live_below kind memory rest live.1)

below_both : (count : ℕ) (one other : List ℕ) → Below count one → Below count other → Below count (one ++ other)
below_both count [] other first second = second
below_both count (number ∷ one) other first second = (first.0, below_both count one other first.1 second)

found_below : (count : ℕ) (scope : Scope) (token block : ℕ) → Below count (blocks_of scope) → block_in scope token ≡ Some block → block < count
found_below count [] token block named is = absurd cc
found_below count (variable ∷ rest) token block named is = by_name (is_named variable.token token) is (found_below count rest token block named.1)
  where
    by_name : (found : Bool) → (if found then Some variable.block else block_in rest token) ≡ Some block → (block_in rest token ≡ Some block → block < count) → block < count
    by_name true is later = let same : variable.block ≡ block = cc in subst (λ (n : ℕ). n < count) same named.0
    by_name false is later = later is

object_or : {E S I : Type 0} (found : Option ℕ) (state : State E S I) (choices : List Choice) → IsState state → ((block : ℕ) → found ≡ Some block → block < length state.memory) →
    Leaves (object_at found state choices)
object_or Nothing state choices is below = tt
object_or (Some block) state choices is below = with_words state (To block (pos 0) ∷ state.operands) is ((below block refl, omega arith), is.operands)

named_below : {E S I : Type 0} (state : State E S I) (token : ℕ) → IsState state → (block : ℕ) → block_of state token ≡ Some block → block < length state.memory
named_below state token is block found =
    let others : Scope = flat_map objects_of state.callers in
    let own : AreLive storage.Local state.memory (blocks_of (objects_of state.frame)) =
    live_front storage.Local state.memory (blocks_of (objects_of state.frame)) (blocks_of others)
    (subst (AreLive storage.Local state.memory) (blocks_of-append (objects_of state.frame) others) is.objects) in
    found_below (length state.memory) (objects_of state.frame ++ state.statics) token block
    (subst (Below (length state.memory)) (sym (blocks_of-append (objects_of state.frame) state.statics))
    (below_both (length state.memory) (blocks_of (objects_of state.frame)) (blocks_of state.statics)
    (live_below storage.Local state.memory (blocks_of (objects_of state.frame)) own) (live_below storage.Static state.memory (blocks_of state.statics) is.statics))) found

-- loads and stores
loads : {E S I : Type 0} (place : Place) (kind : Kind) (bytes : Option ℕ) (at : Word) (state : State E S I) (choices : List Choice) → IsState state → IsOperand (length state.memory) at →
    Leaves (load_step place kind bytes at state choices)
loads place kind Nothing at state choices is named = with_words state (at ∷ state.operands) is (named, is.operands)
loads place kind (Some bytes) at state choices is named = fault_or _ (access_fault state.memory at bytes) place
    (λ none. with_words state _ is (loaded_operand state.memory at bytes (is_pointer kind) is.memory is.bytes, is.operands))

-- a word behind a change of the memory
answers : {E S I : Type 0} (state : State E S I) (memory : List Block) (word : Word) → IsState state → Keeps state.memory memory → IsOperand (length state.memory) word →
    IsState (with_operand word (with_memory memory state))
answers state memory word is keeps named =
    with_words (record state { memory = memory }) (word ∷ state.operands) (changed state memory is keeps)
    (subst (λ (count : ℕ). IsOperand count word) (sym keeps.count) named, (changed state memory is keeps).operands)

stores : {E S I : Type 0} (place : Place) (bytes : Option ℕ) (at word : Word) (state : State E S I) (choices : List Choice) → IsState state → IsOperand (length state.memory) word →
    Leaves (store_step place bytes at word state choices)
stores place Nothing at word state choices is named = tt
stores place (Some bytes) at word state choices is named = fault_or _ (access_fault state.memory at bytes) place
    (λ none. answers state (stored state.memory at bytes word) word is (stored_keeps state.memory at bytes word is.memory is.bytes none named) named)

results : {E S I : Type 0} (from kind : Kind) (bytes : ℕ) (at : Word) (result : Option Word) (value : Word → Word) (state : State E S I) (choices : List Choice) → IsState state →
    access_fault state.memory at bytes ≡ Nothing → IfOperand (length state.memory) result → ((word : Word) → IsOperand (length state.memory) word → IsOperand (length state.memory) (value word)) →
    Leaves (stored_result from kind bytes at result value state choices)
results from kind bytes at Nothing value state choices is none named each = tt
results from kind bytes at (Some result) value state choices is none named each =
    let made : IsOperand (length state.memory) (as_kind state.memory from kind result) = kind_operand (length state.memory) state.memory from kind result named in
    answers state (stored state.memory at bytes (as_kind state.memory from kind result)) (value (as_kind state.memory from kind result)) is
    (stored_keeps state.memory at bytes (as_kind state.memory from kind result) is.memory is.bytes none made) (each (as_kind state.memory from kind result) made)

updates : {E S I : Type 0} (op : BinaryOp) (place : Place) (kind : Kind) (bytes : Option ℕ) (right : Kind) (at word : Word) (keeps_old : Bool) (state : State E S I) (choices : List Choice) →
    IsState state → IsOperand (length state.memory) word → Leaves (updated op place kind bytes right at word (counted keeps_old) state choices)
updates op place kind Nothing right at word keeps_old state choices is named = tt
updates op place kind (Some bytes) right at word keeps_old state choices is named =
    let old : IsOperand (length state.memory) (loaded state.memory at bytes (is_pointer kind)) = loaded_operand state.memory at bytes (is_pointer kind) is.memory is.bytes in
    fault_or _ (access_fault state.memory at bytes) place
    (λ none. results (kind_after op kind right) kind bytes at (operated state.memory op kind right (loaded state.memory at bytes (is_pointer kind)) word)
    (counted keeps_old (loaded state.memory at bytes (is_pointer kind))) state choices is none
    (operated_operand (length state.memory) state.memory op kind right (loaded state.memory at bytes (is_pointer kind)) word old named)
    (λ new named'. counted_operand (length state.memory) keeps_old (loaded state.memory at bytes (is_pointer kind)) new old named'))

and_steps : {E S I : Type 0} (holds : Bool) (right : List (Task E S I)) (state : State E S I) (choices : List Choice) → IsState state → Leaves (and_then holds right state choices)
and_steps true right state choices is = with_tasks state (right ++ state.tasks) is
and_steps false right state choices is = with_words state (Plain 0 ∷ state.operands) is (tt, is.operands)

or_steps : {E S I : Type 0} (holds : Bool) (right : List (Task E S I)) (state : State E S I) (choices : List Choice) → IsState state → Leaves (or_else holds right state choices)
or_steps true right state choices is = with_words state (Plain 1 ∷ state.operands) is (tt, is.operands)
or_steps false right state choices is = with_tasks state (right ++ state.tasks) is

assumes : {E S I : Type 0} (holds : Bool) (state : State E S I) (choices : List Choice) → IsState state → Leaves (assumed holds state choices)
assumes true state choices is = with_words state (Plain 0 ∷ state.operands) is (tt, is.operands)
assumes false state choices is = tt

-- choices
blocks : {E S I : Type 0} (kind : BlockKind) (size : ℕ) (zeroed : Bool) (state : State E S I) (choices : List Choice) (onward : State E S I → ℕ → List Choice → Outcome E S I) → IsState state →
    ((base : ℕ) (contents : List ℕ) (left : List Choice) → Places kind state.memory (placed state.memory (new_block kind base contents)) → length contents ≡ size →
    Leaves (onward (with_memory (placed state.memory (new_block kind base contents)) state) (length state.memory) left)) → Leaves (with_block kind size zeroed state choices onward)
blocks kind size zeroed state [] onward is each = tt
blocks kind size zeroed state (None ∷ choices) onward is each = tt
blocks kind size zeroed state (Input number ∷ choices) onward is each = tt
blocks kind size zeroed state (NewBlock base contents ∷ choices) onward is each =
    by_test _ _ (is_new_block state.memory kind size base contents && (not zeroed || list_all (nat_eq 0) contents))
    (λ passes. let new : is_new_block state.memory kind size base contents ≡ true =
    (and_parts (is_new_block state.memory kind size base contents) (not zeroed || list_all (nat_eq 0) contents) passes).0 in
    each base contents choices (block_placed state.memory kind size base contents is.memory is.bytes new) (eqb-true (length contents) size (and_parts (nat_eq (length contents) size) _ new).0)) tt

receives : {E S I : Type 0} (kind : Kind) (state : State E S I) (choices : List Choice) → IsState state → Leaves (received kind state choices)
receives kind state [] is = tt
receives kind state (None ∷ choices) is = tt
receives kind state (NewBlock base contents ∷ choices) is = tt
receives kind state (Input number ∷ choices) is =
    by_test _ _ (nat_lt number (count_of kind)) (λ passes. with_words state (Plain number ∷ state.operands) is (tt, is.operands)) tt

allocates : {E S I : Type 0} (size : ℕ) (zeroed : Bool) (state : State E S I) (choices : List Choice) → IsState state → Leaves (allocated size zeroed state choices)
allocates size zeroed state [] is = tt
allocates size zeroed state (None ∷ choices) is = with_words state (Plain 0 ∷ state.operands) is (tt, is.operands)
allocates size zeroed state (Input number ∷ choices) is = tt
allocates size zeroed state (NewBlock base contents ∷ choices) is =
    blocks storage.Heap size zeroed state (NewBlock base contents ∷ choices) (λ after block more. Went (with_operand (To block (pos 0)) after) more) is
    (λ base' contents' left made long.
    let after = with_new state storage.Heap (placed state.memory (new_block storage.Heap base' contents')) is made in
    with_words (with_memory (placed state.memory (new_block storage.Heap base' contents')) state) (To (length state.memory) (pos 0) ∷ state.operands) after
    ((omega (arith, made.count), omega arith), after.operands))

-- an object is made
object_made_so : {E S I : Type 0} (token : Option ℕ) (state : State E S I) (base : ℕ) (contents : List ℕ) → IsState state →
    Places storage.Local state.memory (placed state.memory (new_block storage.Local base contents)) →
    IsState (with_object token (with_memory (placed state.memory (new_block storage.Local base contents)) state) (length state.memory))
object_made_so token state base contents is made =
    with_local (with_memory (placed state.memory (new_block storage.Local base contents)) state) (record { token = token; block = length state.memory })
    (with_new state storage.Local (placed state.memory (new_block storage.Local base contents)) is made) made.made
    (fresh_misses storage.Local state.memory (own_blocks state) is.objects)

-- a parameter gets its argument
pub whole_block : (memory : List Block) (kind : BlockKind) (base size : ℕ) (contents : List ℕ) → length contents ≡ size →
    access_fault (placed memory (new_block kind base contents)) (To (length memory) (pos 0)) size ≡ Nothing
whole_block memory kind base size contents long =
    ap (λ (found : Option Block). block_fault found (pos 0) size) (pushed_new memory (new_block kind base contents))
    ∙ ap (λ (within : Bool). if within then Nothing else Some access_outside_object) (le-leb (0 + size) (length (map Num contents)) (omega (arith, length-map contents Num)))

wider_word : (count other : ℕ) (word : Word) → other ≡ count + 1 → IsOperand count word → IsOperand other word
wider_word count other (Plain number) more is = tt
wider_word count other (To block offset) more is = (let below : block < count = is.0 in omega arith, is.1)

parameter_made_so : {E S I : Type 0} (object : Object) (word : Word) (state : State E S I) (choices : List Choice) → IsState state → IsOperand (length state.memory) word →
    Leaves (parameter_made object word state choices)
parameter_made_so {E} {S} {I} object word state choices is named =
    blocks storage.Local object.bytes false state choices
    (λ after block more. Went (with_object object.token (with_memory (stored after.memory (To block (pos 0)) object.bytes word) after) block) more) is
    (λ base contents left made long.
    let memory : List Block = placed state.memory (new_block storage.Local base contents) in
    let after : State E S I = with_memory memory state in
    let at : Word = To (length state.memory) (pos 0) in
    let keeps : Keeps memory (stored memory at object.bytes word) = stored_keeps memory at object.bytes word made.memory made.bytes
    (whole_block state.memory storage.Local base object.bytes contents long) (wider_word (length state.memory) (length memory) word made.count named) in
    with_local (with_memory (stored memory at object.bytes word) after) (record { token = object.token; block = length state.memory })
    (changed after (stored memory at object.bytes word) (with_new state storage.Local memory is made) keeps)
    (keeps.lives storage.Local (length state.memory) refl made.made) (fresh_misses storage.Local state.memory (own_blocks state) is.objects))

-- an object that lives as long as the program runs
one_more_static : (memory : List Block) (statics : Scope) (variable : Variable) → AreLive storage.Static memory (blocks_of statics) → IsObject storage.Static memory variable.block →
    AreLive storage.Static memory (blocks_of (statics ++ variable ∷ []))
one_more_static memory [] variable live object = (object, tt)
one_more_static memory (first ∷ rest) variable live object = (live.0, one_more_static memory rest variable live.1 object)

static_made_so : {E S I : Type 0} (token : Option ℕ) (state : State E S I) (base : ℕ) (contents : List ℕ) → IsState state →
    Places storage.Static state.memory (placed state.memory (new_block storage.Static base contents)) →
    IsState (with_static token (with_memory (placed state.memory (new_block storage.Static base contents)) state) (length state.memory))
static_made_so token state base contents is made =
    let memory : List Block = placed state.memory (new_block storage.Static base contents) in
    let after = with_new state storage.Static memory is made in
    record {
      memory = after.memory;
      bytes = after.bytes;
      operands = after.operands;
      objects = after.objects;
      apart = after.apart;
      statics = one_more_static memory state.statics (record { token = token; block = length state.memory }) after.statics made.made;
    }

-- built-in functions
built_in_steps : {E S I : Type 0} (what : BuiltIn) (place : Place) (result : Kind) (state : State E S I) (choices : List Choice) → IsState state →
    Leaves (built_in_step what place result state choices)
built_in_steps Malloc place result state choices is =
    popping state.operands state _ is.operands (λ size rest one others. allocates (address_number state.memory size) false (record state { operands = rest }) choices (with_words state rest is others))
built_in_steps Calloc place result state choices is =
    popping state.operands state _ is.operands (λ size rest one others. popping rest (record state { operands = rest }) _ others
    (λ count rest' two others'. allocates (address_number state.memory count * address_number state.memory size) true (record state { operands = rest' }) choices (with_words state rest' is others')))
built_in_steps Free place result state choices is =
    popping state.operands state _ is.operands (λ word rest one others. fault_or _ (free_fault state.memory word) place
    (λ none. answers (record state { operands = rest }) (freed state.memory word) (Plain 0) (with_words state rest is others) (freed_keeps state.memory word is.memory is.bytes none) tt))
built_in_steps Memset place result state choices is =
    popping state.operands state _ is.operands (λ count rest one others. popping rest (record state { operands = rest }) _ others
    (λ byte rest' two others'. popping rest' (record state { operands = rest' }) _ others'
    (λ at rest'' three others''. fault_or _ (range_fault state.memory at (address_number state.memory count)) place
    (λ none. answers (record state { operands = rest'' }) (filled state.memory at (address_number state.memory byte % 256) (address_number state.memory count)) at (with_words state rest'' is others'')
    (filled_keeps state.memory at (address_number state.memory byte % 256) (address_number state.memory count) is.memory is.bytes none (mod-lt (address_number state.memory byte) (omega arith))) three))))
built_in_steps Memcpy place result state choices is =
    popping state.operands state _ is.operands (λ count rest one others. popping rest (record state { operands = rest }) _ others
    (λ from rest' two others'. popping rest' (record state { operands = rest' }) _ others'
    (λ to rest'' three others''. fault_or _ (copy_fault state.memory to from (address_number state.memory count) true) place
    (λ none. answers (record state { operands = rest'' }) (copied state.memory to from (address_number state.memory count)) to (with_words state rest'' is others'')
    (copied_keeps state.memory to from (address_number state.memory count) true is.memory is.bytes none) three))))
built_in_steps Memmove place result state choices is =
    popping state.operands state _ is.operands (λ count rest one others. popping rest (record state { operands = rest }) _ others
    (λ from rest' two others'. popping rest' (record state { operands = rest' }) _ others'
    (λ to rest'' three others''. fault_or _ (copy_fault state.memory to from (address_number state.memory count) false) place
    (λ none. answers (record state { operands = rest'' }) (copied state.memory to from (address_number state.memory count)) to (with_words state rest'' is others'')
    (copied_keeps state.memory to from (address_number state.memory count) false is.memory is.bytes none) three))))
built_in_steps EndsRun place result state choices is = tt
built_in_steps Assume place result state choices is =
    popping state.operands state _ is.operands (λ word rest one others. assumes (is_true state.memory word) (record state { operands = rest }) choices (with_words state rest is others))
built_in_steps Expect place result state choices is = popping state.operands state _ is.operands (λ expected rest one others. with_words state rest is others)
built_in_steps GivesInput place result state choices is = receives result state choices is

-- operands of calls
joined : (count : ℕ) (one other : List Word) → AreOperands count one → AreOperands count other → AreOperands count (one ++ other)
joined count [] other first second = second
joined count (word ∷ one) other first second = (first.0, joined count one other first.1 second)

first_words : (count taken : ℕ) (words : List Word) → AreOperands count words → AreOperands count (take taken words)
first_words count zero words are = tt
first_words count (suc taken) [] are = tt
first_words count (suc taken) (word ∷ words) are = (are.0, first_words count taken words are.1)

last_words : (count dropped : ℕ) (words : List Word) → AreOperands count words → AreOperands count (drop dropped words)
last_words count zero words are = are
last_words count (suc dropped) [] are = tt
last_words count (suc dropped) (word ∷ words) are = last_words count dropped words are.1

reversed_words : (count : ℕ) (words : List Word) → AreOperands count words → AreOperands count (reverse words)
reversed_words count [] are = tt
reversed_words count (word ∷ words) are =
    subst (AreOperands count) (sym (reverse-append (word ∷ []) words)) (joined count (reverse words) (word ∷ []) (reversed_words count words are.1) (are.0, tt))

calls : (t : Text) (function : Option (Function t.Stmt)) (state : StateIn t) (choices : List Choice) → IsState state → Leaves (called t function state choices)
calls t Nothing state choices is = tt
calls t (Some function) state choices is = record {
  memory = is.memory;
  bytes = is.bytes;
  operands = joined (length state.memory) (reverse (take (length function.params) state.operands)) (drop (length function.params) state.operands)
      (reversed_words (length state.memory) (take (length function.params) state.operands) (first_words (length state.memory) (length function.params) state.operands is.operands))
      (last_words (length state.memory) (length function.params) state.operands is.operands);
  objects = is.objects;
  apart = is.apart;
  statics = is.statics;
}

-- objects die
after_end : {E S I : Type 0} (state : State E S I) (frame : Frame) (dying : List ℕ) → IsState state → own_blocks state ≡ dying ++ own_blocks (record state { frame = frame }) →
    IsState (record state { frame = frame; memory = without_objects dying state.memory })
after_end state frame dying is parts =
    let others : List ℕ = own_blocks (record state { frame = frame }) in
    let ends = all_end dying state.memory is.memory is.bytes in
    let live : AreLive storage.Local state.memory (dying ++ others) = subst (AreLive storage.Local state.memory) parts is.objects in
    let apart : AreApart (dying ++ others) = subst AreApart parts is.apart in
    record {
      memory = ends.memory;
      bytes = ends.bytes;
      operands = subst (λ (count : ℕ). AreOperands count state.operands) (sym ends.count) is.operands;
      objects = live_on storage.Local dying state.memory (without_objects dying state.memory) others ends (apart_each dying others apart)
          (live_back storage.Local state.memory dying others live);
      apart = apart_back dying others apart;
      statics = live_on storage.Static dying state.memory (without_objects dying state.memory) (blocks_of state.statics) ends
          (statics_miss state.memory (blocks_of state.statics) dying is.statics (live_front storage.Local state.memory dying others live)) is.statics;
    }

leaves_block : {E S I : Type 0} (frame : Frame) (place : Place) (state : State E S I) (choices : List Choice) → IsState (record state { frame = frame }) → Leaves (leave_block frame place state choices)
leaves_block [] place state choices is = tt
leaves_block (scope ∷ scopes) place state choices is =
    lost_or place (record state { frame = scopes; memory = without_objects (blocks_of scope) state.memory }) choices
    (after_end (record state { frame = scope ∷ scopes }) scopes (blocks_of scope) is
    (ap blocks_of (append_assoc scope (objects_of scopes) (flat_map objects_of state.callers)) ∙ blocks_of-append scope (objects_of scopes ++ flat_map objects_of state.callers)))

leaves_loop : {E S I : Type 0} (left : Option (LoopLeft E S I)) (onward : LoopLeft E S I → List (Task E S I)) (state : State E S I) (choices : List Choice) → IsState state →
    Leaves (leave_loop left onward state choices)
leaves_loop Nothing onward state choices is = tt
leaves_loop (Some left) onward state choices is =
    with_tasks (record state { operands = oldest left.held state.operands }) (onward left)
    (with_words state (oldest left.held state.operands) is (last_words (length state.memory) (length state.operands - left.held) state.operands is.operands))

gives_back : {E S I : Type 0} (left : Option (BodyLeft E S I)) (word : Place) (from : Kind) (value : Word) (state : State E S I) (choices : List Choice) → IsState state →
    IsOperand (length state.memory) value → Leaves (give_back left word from value state choices)
gives_back Nothing word from value state choices is named = tt
gives_back (Some left) word from value state choices is named =
    with_tasks (record state { operands = as_kind state.memory from left.result value ∷ oldest left.held state.operands }) (LeaveFunction word ∷ left.rest)
    (with_words state (as_kind state.memory from left.result value ∷ oldest left.held state.operands) is
    (kind_operand (length state.memory) state.memory from left.result value named, last_words (length state.memory) (length state.operands - left.held) state.operands is.operands))

ends_body : {E S I : Type 0} (is_main : Bool) (result : Kind) (close : Place) (state : State E S I) (choices : List Choice) → IsState state → Leaves (end_of_body is_main result close state choices)
ends_body true result close state choices is = with_tasks (record state { operands = Plain 0 ∷ state.operands }) _ (with_words state (Plain 0 ∷ state.operands) is (tt, is.operands))
ends_body false Void close state choices is = with_tasks (record state { operands = Plain 0 ∷ state.operands }) _ (with_words state (Plain 0 ∷ state.operands) is (tt, is.operands))
ends_body false (Integer of) close state choices is = receives (Integer of) _ choices (with_tasks state _ is)
ends_body false (Pointer bytes) close state choices is = receives (Pointer bytes) _ choices (with_tasks state _ is)
ends_body false (Array bytes) close state choices is = receives (Array bytes) _ choices (with_tasks state _ is)
ends_body false (Struct bytes) close state choices is = receives (Struct bytes) _ choices (with_tasks state _ is)

returns_to : {E S I : Type 0} (strict : Bool) (callers : List Frame) (place : Place) (state : State E S I) (choices : List Choice) →
    IsState (record state { frame = []; callers = callers }) → Leaves (returned strict callers place state choices)
returns_to strict [] place state choices is = by_test _ _ strict (λ asked. by_test _ _ (is_lost state.memory []) (λ lost. tt) tt) tt
returns_to strict (frame ∷ callers) place state choices is = record {
  memory = is.memory;
  bytes = is.bytes;
  operands = is.operands;
  objects = is.objects;
  apart = is.apart;
  statics = is.statics;
}

leaves_function : {E S I : Type 0} (strict : Bool) (place : Place) (state : State E S I) (choices : List Choice) → IsState (record state { frame = [] }) →
    Leaves (leave_function strict place (record state { frame = [] }) choices)
leaves_function strict place state choices is =
    by_test _ _ (is_lost state.memory (roots (record state { frame = [] }))) (λ lost. tt) (returns_to strict state.callers place (record state { frame = [] }) choices is)

-- each step
keeps : (t : Text) (task : TaskIn t) (state : StateIn t) (choices : List Choice) → IsState state → Leaves (step_of t task state choices)
keeps t (ValueOf expr) state choices is = with_tasks state _ is
keeps t (AddressOf expr) state choices is = with_tasks state _ is
keeps t (Push number) state choices is = with_words state (Plain number ∷ state.operands) is (tt, is.operands)
keeps t (ObjectAt token) state choices is = object_or (block_of state token) state choices is (named_below state token is)
keeps t (Shift bytes) state choices is = popping state.operands state _ is.operands (λ word rest one others. with_words state (moved word (pos bytes) ∷ rest) is (moved_operand (length state.memory) word (pos bytes) one, others))
keeps t (Load place kind) state choices is =
    popping state.operands state _ is.operands (λ at rest one others. loads place kind (scalar_bytes kind) at (record state { operands = rest }) choices (with_words state rest is others) one)
keeps t (Convert from to) state choices is =
    popping state.operands state _ is.operands (λ word rest one others. with_words state (as_kind state.memory from to word ∷ rest) is (kind_operand (length state.memory) state.memory from to word one, others))
keeps t (Apply op kind) state choices is =
    popping state.operands state _ is.operands (λ word rest one others. stuck_or (applied state.memory op kind word) (record state { operands = rest }) choices (with_words state rest is others)
    (applied_operand (length state.memory) state.memory op kind word))
keeps t (Operate op left right) state choices is =
    popping state.operands state _ is.operands (λ other rest second others. popping rest (record state { operands = rest }) _ others
    (λ one rest' first others'. ended_or (operated state.memory op left right one other) (record state { operands = rest' }) choices (with_words state rest' is others')
    (operated_operand (length state.memory) state.memory op left right one other first second)))
keeps t (Answer holds) state choices is =
    popping state.operands state _ is.operands (λ word rest one others. with_words state (told holds (is_true state.memory word) ∷ rest) is (told_operand (length state.memory) holds (is_true state.memory word), others))
keeps t (AndThen right) state choices is =
    popping state.operands state _ is.operands (λ word rest one others. and_steps (is_true state.memory word) (ValueOf right ∷ Answer true ∷ []) (record state { operands = rest }) choices (with_words state rest is others))
keeps t (OrElse right) state choices is =
    popping state.operands state _ is.operands (λ word rest one others. or_steps (is_true state.memory word) (ValueOf right ∷ Answer true ∷ []) (record state { operands = rest }) choices (with_words state rest is others))
keeps t (Pick kind one other) state choices is =
    popping state.operands state _ is.operands (λ word rest first others. with_tasks (record state { operands = rest }) _ (with_words state rest is others))
keeps t Drop state choices is = popping state.operands state _ is.operands (λ word rest one others. with_words state rest is others)
keeps t (Store place kind) state choices is =
    popping state.operands state _ is.operands (λ word rest one others. popping rest (record state { operands = rest }) _ others
    (λ at rest' two others'. stores place (scalar_bytes kind) at word (record state { operands = rest' }) choices (with_words state rest' is others') one))
keeps t (Update op place kind right) state choices is =
    popping state.operands state _ is.operands (λ word rest one others. popping rest (record state { operands = rest }) _ others
    (λ at rest' two others'. updates op place kind (scalar_bytes kind) right at word false (record state { operands = rest' }) choices (with_words state rest' is others') one))
keeps t (CountBy up behind place kind) state choices is =
    popping state.operands state _ is.operands (λ at rest one others. updates (counting up) place kind (scalar_bytes kind) (Integer int) at (Plain 1) behind (record state { operands = rest }) choices (with_words state rest is others) tt)
keeps t (CopyStruct place count) state choices is =
    popping state.operands state _ is.operands (λ from rest one others. popping rest (record state { operands = rest }) _ others
    (λ to rest' two others'. fault_or _ (copy_fault state.memory to from count false) place
    (λ none. answers (record state { operands = rest' }) (copied state.memory to from count) (Plain 0) (with_words state rest' is others') (copied_keeps state.memory to from count false is.memory is.bytes none) tt)))
keeps t (RunBuiltIn what place result) state choices is = built_in_steps what place result state choices is
keeps t (CallDefined number) state choices is = calls t (slice_get t.functions number) state choices is
keeps t EndRun state choices is = tt
keeps t (Finish place) state choices is = popping state.operands state _ is.operands (λ word rest one others. lost_or place (record state { operands = rest }) choices (with_words state rest is others))
keeps t (Keep place) state choices is = lost_or place state choices is
keeps t (Execute stmt) state choices is = with_tasks state _ is
keeps t (Branch stmt) state choices is =
    popping state.operands state _ is.operands (λ word rest one others.
    lost_or (branch_place t stmt) (doing (branch_tasks t stmt (length rest) (is_true state.memory word)) (record state { operands = rest })) choices
    (with_tasks (record state { operands = rest }) _ (with_words state rest is others)))
keeps t (Test stmt) state choices is = with_tasks state _ is
keeps t (Again stmt held) state choices is = with_tasks state _ is
keeps t OpenBlock state choices is = record { memory = is.memory; bytes = is.bytes; operands = is.operands; objects = is.objects; apart = is.apart; statics = is.statics }
keeps t (MakeObject object) state choices is =
    blocks storage.Local object.bytes false state choices _ is (λ base contents left made long. object_made_so object.token state base contents is made)
keeps t (MakeParameter object) state choices is =
    popping state.operands state _ is.operands (λ word rest one others. parameter_made_so object word (record state { operands = rest }) choices (with_words state rest is others) one)
keeps t (MakeStatic object) state choices is =
    blocks storage.Static object.bytes true state choices _ is (λ base contents left made long. static_made_so object.token state base contents is made)
keeps t (LeaveBlock place) state choices is = leaves_block state.frame place state choices is
keeps t (Zero place count) state choices is =
    popping state.operands state _ is.operands (λ at rest one others. fault_or _ (range_fault state.memory at count) place
    (λ none. changed (record state { operands = rest }) (filled state.memory at 0 count) (with_words state rest is others) (filled_keeps state.memory at 0 count is.memory is.bytes none (omega arith))))
keeps t (Initialise place init) state choices is = with_tasks state _ is
keeps t (BreakAt word) state choices is = leaves_loop (loop_left state.tasks) (after_break t word) state choices is
keeps t (ContinueAt word) state choices is = leaves_loop (loop_left state.tasks) (after_continue word) state choices is
keeps t (GiveBack word from) state choices is =
    popping state.operands state _ is.operands (λ value rest one others. gives_back (body_left state.tasks) word from value (record state { operands = rest }) choices (with_words state rest is others) one)
keeps t (LeaveFunction place) state choices is =
    leaves_function t.strict place (record state { memory = without_objects (blocks_of (objects_of state.frame)) state.memory }) choices
    (after_end state [] (blocks_of (objects_of state.frame)) is (blocks_of-append (objects_of state.frame) (flat_map objects_of state.callers)))
keeps t (EndOfBody is_main result close held) state choices is = ends_body is_main result close state choices is
keeps t Unknown state choices is = tt

keeps_on : (t : Text) (tasks : List (TaskIn t)) (state : StateIn t) (choices : List Choice) → IsState state → Leaves (step_on t tasks state choices)
keeps_on t [] state choices is = tt
keeps_on t (task ∷ rest) state choices is = keeps t task (record state { tasks = rest }) choices (with_tasks state rest is)

pub step_keeps : (t : Text) (state : StateIn t) (choices : List Choice) → IsState state → Leaves (step t state choices)
step_keeps t state choices is = keeps_on t state.tasks state choices is

pub steps_keep : DoStepsKeep
steps_keep p state next choices rest is went = subst Leaves went (step_keeps (text_of p) state choices is)

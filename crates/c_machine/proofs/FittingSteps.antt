-- Each step keeps that numbers fit.
use Rattle.std.proofs.Common.{◌≡◌, ℕ, zero, suc, ◌*◌, ◌-◌, ◌%◌, List, [], ◌∷◌, ◌++◌, length, take, drop, reverse, Bool, true, false, refl, sym, subst, Option, None as Nothing, Some, arith}
use Rattle.std.specs.Prelude.{pos, if◌then◌else◌, not, ◌&&◌, ◌||◌, nat_eq, nat_lt, option_map, slice_get, All}
use Rattle.std.specs.List.{flat_map, list_all}
use Rattle.std.proofs.lemmas.Bool.{and_parts, eqb-true, ltb-true}
use Rattle.std.proofs.lemmas.List.{append_assoc, reverse-append}
use Rattle.cbase.specs.declared.place.Place.{Place}
use Rattle.cbase.specs.declared.tree.operators.BinaryOp.{BinaryOp}
use Rattle.bytes_core.specs.declared.block.Block.{Block}
use Rattle.bytes_core.specs.declared.block.BlockKind.{BlockKind}
use Rattle.bytes_core.specs.declared.block.BlockKind.TheVariants as storage
use Rattle.bytes_core.specs.declared.word.Word.{Word}
use Rattle.bytes_core.specs.declared.word.Word.TheVariants.{Plain, To}
use Rattle.bytes_core.specs.Access.{access_fault, range_fault, loaded, stored, filled}
use Rattle.bytes_core.specs.Copying.{copy_fault, copied}
use Rattle.bytes_core.specs.Loss.{is_lost}
use Rattle.bytes_core.specs.Placement.{new_block, is_new_block, placed}
use Rattle.bytes_core.specs.Release.{free_fault, freed}
use Rattle.bytes_core.specs.Value.{address_number}
use Rattle.choices.specs.declared.choice.Choice.{Choice}
use Rattle.choices.specs.declared.choice.Choice.TheVariants.{None, Block as NewBlock, Input}
use Rattle.typing.specs.ctypes.Integers.{int}
use Rattle.c_machine.specs.declared.built_in.BuiltIn.TheVariants.{Malloc, Calloc, Free, Memset, Memcpy, Memmove, EndsRun, Assume, Expect, GivesInput}
use Rattle.c_machine.specs.declared.built_in.BuiltIn.{BuiltIn}
use Rattle.c_machine.specs.declared.kind.Kind.TheVariants.{Integer, Pointer, Array, Struct, Void}
use Rattle.c_machine.specs.declared.kind.Kind.{Kind}
use Rattle.c_machine.specs.declared.object.Object.{Object}
use Rattle.c_machine.specs.declared.task.Task.TheVariants.{ValueOf, AddressOf, Push, ObjectAt, Shift, Load, Convert, Apply, Operate, Answer, AndThen, OrElse, Pick, Drop, Store, Update, CountBy, CopyStruct, RunBuiltIn, CallDefined, EndRun, Finish, Keep, Execute, Branch, Test, Again, OpenBlock, MakeObject, MakeParameter, MakeStatic, LeaveBlock, Zero, Initialise, BreakAt, ContinueAt, GiveBack, LeaveFunction, EndOfBody, Unknown}
use Rattle.c_machine.specs.declared.variable.Variable.{Variable}
use Rattle.c_machine.specs.Calls.{called, function_tasks}
use Rattle.c_machine.specs.Choosing.{with_block, allocated, received, count_of, in_innermost, with_object, with_static, parameter_made}
use Rattle.c_machine.specs.Fitting.{Each, IfThere, Fits, HasSize, IsLocalOf, IsStaticOf, TaskFits, HasItsSize, own_objects, IsFitting, FunctionFits, IsFittingText}
use Rattle.c_machine.specs.Keeping.{IsByte}
use Rattle.c_machine.specs.State.{TaskIn, Scope, Frame, StateIn, OutcomeIn, Went, Waits, Ended, Faulted, Stuck, doing, with_operand, with_memory, popped_of, unless_fault, block_of, blocks_of, objects_of, roots}
use Rattle.c_machine.specs.Statements.{LoopLeft, loop_left, one_more, leaves, behind_for, behind_loop, after_break, after_continue, BodyLeft, body_left, branch_place, branch_tasks}
use Rattle.c_machine.specs.Step.{unless_lost, or_ended, or_stuck, object_at, load_step, store_step, stored_result, updated, and_then, or_else, arm, assumed, built_in_step, leave_block, leave_loop, give_back, end_of_body, returned, leave_function, without_objects, counting, counted, step, step_of, step_on}
use Rattle.c_machine.specs.Text.{Clause, For, Function, Text}
use Rattle.c_machine.specs.Words.{is_true, as_kind, applied, operated, kind_after, scalar_bytes, is_pointer}
use Rattle.c_machine.proofs.FittingTasks.{each_both, each_get, value_size, addresses_fit, values_fit, initialisers_fit, statements_fit, tests_fit, turns_fit, branches_fit, function_tasks_fit}
use Rattle.c_machine.proofs.FittingWords.{moved_fits, kind_fits, told_fits, applied_fits, operated_fits, counted_fits, loaded_fits, received_fits}
use Rattle.c_machine.proofs.KeptMemory.{bytes_there}
use Rattle.c_machine.proofs.KeptSizes.{KeepsSizes, sizes_stay, sizes_stored, sizes_filled, sizes_copied, sizes_freed, sizes_ended, sizes_placed, size_of_new}
use Rattle.c_machine.proofs.KeptStates.{inserted}
use Rattle.c_machine.proofs.KeptSteps.{whole_block}

-- where a step goes on, it is to a state of which this holds
abbrev pub LeavesFitting : (t : Text) → OutcomeIn t → Type 0
LeavesFitting t (Went next rest) = IsFitting t next
LeavesFitting t Waits = Unit {0}
LeavesFitting t Ended = Unit {0}
LeavesFitting t (Faulted kind place) = Unit {0}
LeavesFitting t Stuck = Unit {0}

by_test : (t : Text) (one other : OutcomeIn t) (b : Bool) → (b ≡ true → LeavesFitting t one) → LeavesFitting t other → LeavesFitting t (if b then one else other)
by_test t one other true first second = first refl
by_test t one other false first second = second

fault_or : (t : Text) (onward : OutcomeIn t) (fault : Option ℕ) (place : Place) → (fault ≡ Nothing → LeavesFitting t onward) → LeavesFitting t (unless_fault fault place onward)
fault_or t onward Nothing place goes = goes refl
fault_or t onward (Some kind) place goes = tt

lost_or : (t : Text) (place : Place) (state : StateIn t) (choices : List Choice) → IsFitting t state → LeavesFitting t (unless_lost place state choices)
lost_or t place state choices is = by_test t _ _ (is_lost state.memory (roots state)) (λ lost. tt) is

popping : (t : Text) (words : List Word) (state : StateIn t) (onward : Word → StateIn t → OutcomeIn t) → Each Fits words →
    ((word : Word) (rest : List Word) → Fits word → Each Fits rest → LeavesFitting t (onward word (record state { operands = rest }))) → LeavesFitting t (popped_of words state onward)
popping t [] state onward are each = tt
popping t (word ∷ rest) state onward are each = each word rest are.0 are.1

-- the bytes of the memory are bytes
abbrev Holds : (t : Text) → StateIn t → Type 0
Holds t state = All (λ block. All IsByte block.bytes) state.memory

-- a value, if there is one
ended_or : (t : Text) (word : Option Word) (state : StateIn t) (choices : List Choice) → IsFitting t state → IfThere Fits word → LeavesFitting t (or_ended word state choices)
ended_or t Nothing state choices is fits = tt
ended_or t (Some word) state choices is fits = record { tasks = is.tasks; operands = (fits, is.operands); objects = is.objects; statics = is.statics }

stuck_or : (t : Text) (word : Option Word) (state : StateIn t) (choices : List Choice) → IsFitting t state → IfThere Fits word → LeavesFitting t (or_stuck word state choices)
stuck_or t Nothing state choices is fits = tt
stuck_or t (Some word) state choices is fits = record { tasks = is.tasks; operands = (fits, is.operands); objects = is.objects; statics = is.statics }

object_or : (t : Text) (found : Option ℕ) (state : StateIn t) (choices : List Choice) → IsFitting t state → LeavesFitting t (object_at found state choices)
object_or t Nothing state choices is = tt
object_or t (Some block) state choices is = record { tasks = is.tasks; operands = (tt, is.operands); objects = is.objects; statics = is.statics }

-- the memory has changed, and so may have the operands
changed : (t : Text) (state : StateIn t) (memory : List Block) → IsFitting t state → KeepsSizes state.memory memory → IsFitting t (with_memory memory state)
changed t state memory is keeps = record {
  tasks = is.tasks;
  operands = is.operands;
  objects = sizes_stay (IsLocalOf t) state.memory memory (own_objects t state) keeps is.objects;
  statics = sizes_stay (IsStaticOf t) state.memory memory state.statics keeps is.statics;
}

answers : (t : Text) (state : StateIn t) (memory : List Block) (word : Word) → IsFitting t state → KeepsSizes state.memory memory → Fits word → IsFitting t (with_operand word (with_memory memory state))
answers t state memory word is keeps fits = record {
  tasks = is.tasks;
  operands = (fits, is.operands);
  objects = sizes_stay (IsLocalOf t) state.memory memory (own_objects t state) keeps is.objects;
  statics = sizes_stay (IsStaticOf t) state.memory memory state.statics keeps is.statics;
}

others_left : (t : Text) (state : StateIn t) (words : List Word) → IsFitting t state → Each Fits words → IsFitting t (record state { operands = words })
others_left t state words is fit = record { tasks = is.tasks; operands = fit; objects = is.objects; statics = is.statics }

-- loads and stores
loads : (t : Text) (place : Place) (kind : Kind) (bytes : Option ℕ) (at : Word) (state : StateIn t) (choices : List Choice) → IsFitting t state → Holds t state → Fits at →
    LeavesFitting t (load_step place kind bytes at state choices)
loads t place kind Nothing at state choices is holds fits = record { tasks = is.tasks; operands = (fits, is.operands); objects = is.objects; statics = is.statics }
loads t place kind (Some bytes) at state choices is holds fits = fault_or t _ (access_fault state.memory at bytes) place
    (λ none. record { tasks = is.tasks; operands = (loaded_fits state.memory at bytes (is_pointer kind) (bytes_there state.memory at bytes holds), is.operands); objects = is.objects; statics = is.statics })

stores : (t : Text) (place : Place) (bytes : Option ℕ) (at word : Word) (state : StateIn t) (choices : List Choice) → IsFitting t state → Fits word →
    LeavesFitting t (store_step place bytes at word state choices)
stores t place Nothing at word state choices is fits = tt
stores t place (Some bytes) at word state choices is fits = fault_or t _ (access_fault state.memory at bytes) place
    (λ none. answers t state (stored state.memory at bytes word) word is (sizes_stored state.memory at bytes word none) fits)

results : (t : Text) (from kind : Kind) (bytes : ℕ) (at : Word) (result : Option Word) (value : Word → Word) (state : StateIn t) (choices : List Choice) → IsFitting t state →
    access_fault state.memory at bytes ≡ Nothing → HasSize kind → IfThere Fits result → ((word : Word) → Fits word → Fits (value word)) →
    LeavesFitting t (stored_result from kind bytes at result value state choices)
results t from kind bytes at Nothing value state choices is none sized fits each = tt
results t from kind bytes at (Some result) value state choices is none sized fits each =
    answers t state (stored state.memory at bytes (as_kind state.memory from kind result)) (value (as_kind state.memory from kind result)) is
    (sizes_stored state.memory at bytes (as_kind state.memory from kind result) none) (each (as_kind state.memory from kind result) (kind_fits state.memory from kind result sized fits))

updates : (t : Text) (op : BinaryOp) (place : Place) (kind : Kind) (bytes : Option ℕ) (right : Kind) (at word : Word) (keeps_old : Bool) (state : StateIn t) (choices : List Choice) →
    IsFitting t state → Holds t state → HasSize kind → HasSize right → LeavesFitting t (updated op place kind bytes right at word (counted keeps_old) state choices)
updates t op place kind Nothing right at word keeps_old state choices is holds sized other = tt
updates t op place kind (Some bytes) right at word keeps_old state choices is holds sized other =
    let old : Fits (loaded state.memory at bytes (is_pointer kind)) = loaded_fits state.memory at bytes (is_pointer kind) (bytes_there state.memory at bytes holds) in
    fault_or t _ (access_fault state.memory at bytes) place
    (λ none. results t (kind_after op kind right) kind bytes at (operated state.memory op kind right (loaded state.memory at bytes (is_pointer kind)) word)
    (counted keeps_old (loaded state.memory at bytes (is_pointer kind))) state choices is none sized
    (operated_fits state.memory op kind right (loaded state.memory at bytes (is_pointer kind)) word sized other)
    (λ new fits. counted_fits keeps_old (loaded state.memory at bytes (is_pointer kind)) new old fits))

and_steps : (t : Text) (holds : Bool) (right : List (TaskIn t)) (state : StateIn t) (choices : List Choice) → Each (TaskFits t) right → IsFitting t state →
    LeavesFitting t (and_then holds right state choices)
and_steps t true right state choices parts is = record { tasks = each_both (TaskFits t) right state.tasks parts is.tasks; operands = is.operands; objects = is.objects; statics = is.statics }
and_steps t false right state choices parts is = record { tasks = is.tasks; operands = (omega arith, is.operands); objects = is.objects; statics = is.statics }

or_steps : (t : Text) (holds : Bool) (right : List (TaskIn t)) (state : StateIn t) (choices : List Choice) → Each (TaskFits t) right → IsFitting t state →
    LeavesFitting t (or_else holds right state choices)
or_steps t true right state choices parts is = record { tasks = is.tasks; operands = (omega arith, is.operands); objects = is.objects; statics = is.statics }
or_steps t false right state choices parts is = record { tasks = each_both (TaskFits t) right state.tasks parts is.tasks; operands = is.operands; objects = is.objects; statics = is.statics }

assumes : (t : Text) (holds : Bool) (state : StateIn t) (choices : List Choice) → IsFitting t state → LeavesFitting t (assumed holds state choices)
assumes t true state choices is = record { tasks = is.tasks; operands = (omega arith, is.operands); objects = is.objects; statics = is.statics }
assumes t false state choices is = tt

-- choices
blocks : (t : Text) (kind : BlockKind) (size : ℕ) (zeroed : Bool) (state : StateIn t) (choices : List Choice) (onward : StateIn t → ℕ → List Choice → OutcomeIn t) →
    ((base : ℕ) (contents : List ℕ) (left : List Choice) → length contents ≡ size →
    LeavesFitting t (onward (with_memory (placed state.memory (new_block kind base contents)) state) (length state.memory) left)) → LeavesFitting t (with_block kind size zeroed state choices onward)
blocks t kind size zeroed state [] onward each = tt
blocks t kind size zeroed state (None ∷ choices) onward each = tt
blocks t kind size zeroed state (Input number ∷ choices) onward each = tt
blocks t kind size zeroed state (NewBlock base contents ∷ choices) onward each =
    by_test t _ _ (is_new_block state.memory kind size base contents && (not zeroed || list_all (nat_eq 0) contents))
    (λ passes. let new : is_new_block state.memory kind size base contents ≡ true =
    (and_parts (is_new_block state.memory kind size base contents) (not zeroed || list_all (nat_eq 0) contents) passes).0 in
    each base contents choices (eqb-true (length contents) size (and_parts (nat_eq (length contents) size) _ new).0)) tt

receives : (t : Text) (kind : Kind) (state : StateIn t) (choices : List Choice) → HasSize kind → IsFitting t state → LeavesFitting t (received kind state choices)
receives t kind state [] sized is = tt
receives t kind state (None ∷ choices) sized is = tt
receives t kind state (NewBlock base contents ∷ choices) sized is = tt
receives t kind state (Input number ∷ choices) sized is =
    by_test t _ _ (nat_lt number (count_of kind)) (λ passes. record { tasks = is.tasks; operands = (received_fits kind number sized (ltb-true number (count_of kind) passes), is.operands); objects = is.objects; statics = is.statics }) tt

allocates : (t : Text) (size : ℕ) (zeroed : Bool) (state : StateIn t) (choices : List Choice) → IsFitting t state → LeavesFitting t (allocated size zeroed state choices)
allocates t size zeroed state [] is = tt
allocates t size zeroed state (None ∷ choices) is = record { tasks = is.tasks; operands = (omega arith, is.operands); objects = is.objects; statics = is.statics }
allocates t size zeroed state (Input number ∷ choices) is = tt
allocates t size zeroed state (NewBlock base contents ∷ choices) is =
    blocks t storage.Heap size zeroed state (NewBlock base contents ∷ choices) (λ after block more. Went (with_operand (To block (pos 0)) after) more)
    (λ base' contents' left long. answers t state (placed state.memory (new_block storage.Heap base' contents')) (To (length state.memory) (pos 0)) is
    (sizes_placed state.memory (new_block storage.Heap base' contents')) tt)

-- an object is made
each_inserted : {X : Type 0} (P : X → Type 0) (one other : List X) (item : X) → P item → Each P (one ++ other) → Each P (one ++ item ∷ other)
each_inserted P [] other item is are = (is, are)
each_inserted P (first ∷ one) other item is are = (are.0, each_inserted P one other item is are.1)

with_local : (t : Text) (state : StateIn t) (variable : Variable) → HasItsSize (IsLocalOf t) state.memory variable → IsFitting t state →
    IsFitting t (record state { frame = in_innermost variable state.frame })
with_local t state variable own is =
    let others : Scope = flat_map objects_of state.callers in
    let parts = inserted state.frame others variable in
    let before : objects_of state.frame ++ others ≡ parts.0 ++ parts.1 = parts.2 in
    let after : objects_of (in_innermost variable state.frame) ++ others ≡ parts.0 ++ variable ∷ parts.1 = parts.3 in
    record {
      tasks = is.tasks;
      operands = is.operands;
      objects = subst (Each (HasItsSize (IsLocalOf t) state.memory)) (sym after)
          (each_inserted (HasItsSize (IsLocalOf t) state.memory) parts.0 parts.1 variable own (subst (Each (HasItsSize (IsLocalOf t) state.memory)) before is.objects));
      statics = is.statics;
    }

object_made_so : (t : Text) (object : Object) (state : StateIn t) (base : ℕ) (contents : List ℕ) → IsLocalOf t object → IsFitting t state → length contents ≡ object.bytes →
    IsFitting t (with_object object.token (with_memory (placed state.memory (new_block storage.Local base contents)) state) (length state.memory))
object_made_so t object state base contents is_local is long =
    let memory : List Block = placed state.memory (new_block storage.Local base contents) in
    with_local t (with_memory memory state) (record { token = object.token; block = length state.memory })
    (record { object = object; is = is_local; token = refl; bytes = size_of_new state.memory storage.Local base object.bytes contents long })
    (changed t state memory is (sizes_placed state.memory (new_block storage.Local base contents)))

parameter_made_so : (t : Text) (object : Object) (word : Word) (state : StateIn t) (choices : List Choice) → IsLocalOf t object → IsFitting t state →
    LeavesFitting t (parameter_made object word state choices)
parameter_made_so t object word state choices is_local is =
    blocks t storage.Local object.bytes false state choices
    (λ after block left. Went (with_object object.token (with_memory (stored after.memory (To block (pos 0)) object.bytes word) after) block) left)
    (λ base contents left long.
    let memory : List Block = placed state.memory (new_block storage.Local base contents) in
    let at : Word = To (length state.memory) (pos 0) in
    let keeps : KeepsSizes memory (stored memory at object.bytes word) = sizes_stored memory at object.bytes word (whole_block state.memory storage.Local base object.bytes contents long) in
    with_local t (with_memory (stored memory at object.bytes word) state) (record { token = object.token; block = length state.memory })
    (record { object = object; is = is_local; token = refl; bytes = keeps (length state.memory) object.bytes (size_of_new state.memory storage.Local base object.bytes contents long) })
    (changed t (with_memory memory state) (stored memory at object.bytes word) (changed t state memory is (sizes_placed state.memory (new_block storage.Local base contents))) keeps))

static_made_so : (t : Text) (object : Object) (state : StateIn t) (base : ℕ) (contents : List ℕ) → IsStaticOf t object → IsFitting t state → length contents ≡ object.bytes →
    IsFitting t (with_static object.token (with_memory (placed state.memory (new_block storage.Static base contents)) state) (length state.memory))
static_made_so t object state base contents is_static is long =
    let memory : List Block = placed state.memory (new_block storage.Static base contents) in
    let after = changed t state memory is (sizes_placed state.memory (new_block storage.Static base contents)) in
    record {
      tasks = after.tasks;
      operands = after.operands;
      objects = after.objects;
      statics = each_both (HasItsSize (IsStaticOf t) memory) state.statics (record { token = object.token; block = length state.memory } ∷ []) after.statics
          (record { object = object; is = is_static; token = refl; bytes = size_of_new state.memory storage.Static base object.bytes contents long }, tt);
    }

-- built-in functions
built_in_steps : (t : Text) (what : BuiltIn) (place : Place) (result : Kind) (state : StateIn t) (choices : List Choice) → HasSize result → IsFitting t state →
    LeavesFitting t (built_in_step what place result state choices)
built_in_steps t Malloc place result state choices sized is =
    popping t state.operands state _ is.operands (λ size rest one others. allocates t (address_number state.memory size) false (record state { operands = rest }) choices (others_left t state rest is others))
built_in_steps t Calloc place result state choices sized is =
    popping t state.operands state _ is.operands (λ size rest one others. popping t rest (record state { operands = rest }) _ others
    (λ count rest' two others'. allocates t (address_number state.memory count * address_number state.memory size) true (record state { operands = rest' }) choices (others_left t state rest' is others')))
built_in_steps t Free place result state choices sized is =
    popping t state.operands state _ is.operands (λ word rest one others. fault_or t _ (free_fault state.memory word) place
    (λ none. answers t (record state { operands = rest }) (freed state.memory word) (Plain 0) (others_left t state rest is others) (sizes_freed state.memory word) (omega arith)))
built_in_steps t Memset place result state choices sized is =
    popping t state.operands state _ is.operands (λ count rest one others. popping t rest (record state { operands = rest }) _ others
    (λ byte rest' two others'. popping t rest' (record state { operands = rest' }) _ others'
    (λ at rest'' three others''. fault_or t _ (range_fault state.memory at (address_number state.memory count)) place
    (λ none. answers t (record state { operands = rest'' }) (filled state.memory at (address_number state.memory byte % 256) (address_number state.memory count)) at (others_left t state rest'' is others'')
    (sizes_filled state.memory at (address_number state.memory byte % 256) (address_number state.memory count) none) three))))
built_in_steps t Memcpy place result state choices sized is =
    popping t state.operands state _ is.operands (λ count rest one others. popping t rest (record state { operands = rest }) _ others
    (λ from rest' two others'. popping t rest' (record state { operands = rest' }) _ others'
    (λ to rest'' three others''. fault_or t _ (copy_fault state.memory to from (address_number state.memory count) true) place
    (λ none. answers t (record state { operands = rest'' }) (copied state.memory to from (address_number state.memory count)) to (others_left t state rest'' is others'')
    (sizes_copied state.memory to from (address_number state.memory count) true none) three))))
built_in_steps t Memmove place result state choices sized is =
    popping t state.operands state _ is.operands (λ count rest one others. popping t rest (record state { operands = rest }) _ others
    (λ from rest' two others'. popping t rest' (record state { operands = rest' }) _ others'
    (λ to rest'' three others''. fault_or t _ (copy_fault state.memory to from (address_number state.memory count) false) place
    (λ none. answers t (record state { operands = rest'' }) (copied state.memory to from (address_number state.memory count)) to (others_left t state rest'' is others'')
    (sizes_copied state.memory to from (address_number state.memory count) false none) three))))
built_in_steps t EndsRun place result state choices sized is = tt
built_in_steps t Assume place result state choices sized is =
    popping t state.operands state _ is.operands (λ word rest one others. assumes t (is_true state.memory word) (record state { operands = rest }) choices (others_left t state rest is others))
built_in_steps t Expect place result state choices sized is = popping t state.operands state _ is.operands (λ expected rest one others. record { tasks = is.tasks; operands = others; objects = is.objects; statics = is.statics })
built_in_steps t GivesInput place result state choices sized is = receives t result state choices sized is

-- calls
each_take : {X : Type 0} (P : X → Type 0) (count : ℕ) (items : List X) → Each P items → Each P (take count items)
each_take P zero items are = tt
each_take P (suc count) [] are = tt
each_take P (suc count) (item ∷ items) are = (are.0, each_take P count items are.1)

each_drop : {X : Type 0} (P : X → Type 0) (count : ℕ) (items : List X) → Each P items → Each P (drop count items)
each_drop P zero items are = are
each_drop P (suc count) [] are = tt
each_drop P (suc count) (item ∷ items) are = each_drop P count items are.1

each_reverse : (words : List Word) → Each Fits words → Each Fits (reverse words)
each_reverse [] are = tt
each_reverse (word ∷ words) are = subst (Each Fits) (sym (reverse-append (word ∷ []) words)) (each_both Fits (reverse words) (word ∷ []) (each_reverse words are.1) (are.0, tt))

calls : (t : Text) → IsFittingText t → (number : ℕ) (function : Option (Function t.Stmt)) (state : StateIn t) (choices : List Choice) → slice_get t.functions number ≡ function →
    IfThere FunctionFits function → IsFitting t state → LeavesFitting t (called t function state choices)
calls t fit number Nothing state choices found fits is = tt
calls t fit number (Some function) state choices found fits is = record {
  tasks = each_both (TaskFits t) (function_tasks t function (length (drop (length function.params) state.operands))) state.tasks
      (function_tasks_fit t fit number function (length (drop (length function.params) state.operands)) found fits) is.tasks;
  operands = each_both Fits (reverse (take (length function.params) state.operands)) (drop (length function.params) state.operands)
      (each_reverse (take (length function.params) state.operands) (each_take Fits (length function.params) state.operands is.operands))
      (each_drop Fits (length function.params) state.operands is.operands);
  objects = is.objects;
  statics = is.statics;
}

-- ends of blocks and loops
each_back : {X : Type 0} (P : X → Type 0) (one other : List X) → Each P (one ++ other) → Each P other
each_back P [] other are = are
each_back P (item ∷ one) other are = each_back P one other are.1

after_end : (t : Text) (state : StateIn t) (frame : Frame) (dying : Scope) → IsFitting t state → own_objects t state ≡ dying ++ own_objects t (record state { frame = frame }) →
    IsFitting t (record state { frame = frame; memory = without_objects (blocks_of dying) state.memory })
after_end t state frame dying is parts =
    let memory : List Block = without_objects (blocks_of dying) state.memory in
    let left : Scope = own_objects t (record state { frame = frame }) in
    let stay : Each (HasItsSize (IsLocalOf t) state.memory) left = each_back (HasItsSize (IsLocalOf t) state.memory) dying left (subst (Each (HasItsSize (IsLocalOf t) state.memory)) parts is.objects) in
    record {
      tasks = is.tasks;
      operands = is.operands;
      objects = sizes_stay (IsLocalOf t) state.memory memory left (sizes_ended (blocks_of dying) state.memory) stay;
      statics = sizes_stay (IsStaticOf t) state.memory memory state.statics (sizes_ended (blocks_of dying) state.memory) is.statics;
    }

leaves_block : (t : Text) (frame : Frame) (place : Place) (state : StateIn t) (choices : List Choice) → IsFitting t (record state { frame = frame }) →
    LeavesFitting t (leave_block frame place state choices)
leaves_block t [] place state choices is = tt
leaves_block t (scope ∷ scopes) place state choices is =
    lost_or t place (record state { frame = scopes; memory = without_objects (blocks_of scope) state.memory }) choices
    (after_end t (record state { frame = scope ∷ scopes }) scopes scope is (append_assoc scope (objects_of scopes) (flat_map objects_of state.callers)))

leaves_fit : (t : Text) (count : ℕ) (word : Place) (rest : List (TaskIn t)) → Each (TaskFits t) rest → Each (TaskFits t) (leaves count word ++ rest)
leaves_fit t zero word rest fit = fit
leaves_fit t (suc count) word rest fit = (tt, leaves_fit t count word rest fit)

abbrev RestFits : (t : Text) → LoopLeft t.Expr t.Stmt t.Init → Type 0
RestFits t left = Each (TaskFits t) left.rest

mapped_rest : (t : Text) (left : Option (LoopLeft t.Expr t.Stmt t.Init)) → IfThere (RestFits t) left → IfThere (RestFits t) (option_map one_more left)
mapped_rest t Nothing fit = tt
mapped_rest t (Some left) fit = fit

loop_rest : (t : Text) (tasks : List (TaskIn t)) → Each (TaskFits t) tasks → IfThere (RestFits t) (loop_left tasks)
loop_rest t [] fit = tt
loop_rest t (Again stmt held ∷ rest) fit = fit.1
loop_rest t (LeaveBlock place ∷ rest) fit = mapped_rest t (loop_left rest) (loop_rest t rest fit.1)
loop_rest t (other ∷ rest) fit = loop_rest t rest fit.1

abbrev BodyFits : (t : Text) → BodyLeft t.Expr t.Stmt t.Init → Type 0
BodyFits t left = HasSize left.result × Each (TaskFits t) left.rest

body_rest : (t : Text) (tasks : List (TaskIn t)) → Each (TaskFits t) tasks → IfThere (BodyFits t) (body_left tasks)
body_rest t [] fit = tt
body_rest t (EndOfBody is_main result close held ∷ rest) fit = fit
body_rest t (other ∷ rest) fit = body_rest t rest fit.1

for_fits : (t : Text) (word : Place) (rest : List (TaskIn t)) → Each (TaskFits t) rest → Each (TaskFits t) (behind_for word rest)
for_fits t word [] fit = tt
for_fits t word (LeaveBlock place ∷ rest) fit = fit
for_fits t word (other ∷ rest) fit = fit

behind_fits : (t : Text) (word : Place) (clause : Clause t.Expr t.Stmt t.Init) (rest : List (TaskIn t)) → Each (TaskFits t) rest → Each (TaskFits t) (behind_loop t word clause rest)
behind_fits t word (For first test semicolon next close body) rest fit = for_fits t word rest fit
behind_fits t word other rest fit = fit

break_fits : (t : Text) (word : Place) (left : LoopLeft t.Expr t.Stmt t.Init) → RestFits t left → Each (TaskFits t) (after_break t word left)
break_fits t word left fit = leaves_fit t left.blocks word (behind_loop t word (t.clause left.loop) left.rest) (behind_fits t word (t.clause left.loop) left.rest fit)

continue_fits : (t : Text) (word : Place) (left : LoopLeft t.Expr t.Stmt t.Init) → RestFits t left → Each (TaskFits t) (after_continue word left)
continue_fits t word left fit = leaves_fit t left.blocks word (Again left.loop left.held ∷ left.rest) (tt, fit)

leaves_loop : (t : Text) (left : Option (LoopLeft t.Expr t.Stmt t.Init)) (onward : LoopLeft t.Expr t.Stmt t.Init → List (TaskIn t)) (state : StateIn t) (choices : List Choice) → IfThere (RestFits t) left →
    ((left : LoopLeft t.Expr t.Stmt t.Init) → RestFits t left → Each (TaskFits t) (onward left)) → IsFitting t state → LeavesFitting t (leave_loop left onward state choices)
leaves_loop t Nothing onward state choices fit each is = tt
leaves_loop t (Some left) onward state choices fit each is = record { tasks = each left fit; operands = each_drop Fits (length state.operands - left.held) state.operands is.operands; objects = is.objects; statics = is.statics }

gives_back : (t : Text) (left : Option (BodyLeft t.Expr t.Stmt t.Init)) (word : Place) (from : Kind) (value : Word) (state : StateIn t) (choices : List Choice) → IfThere (BodyFits t) left → Fits value →
    IsFitting t state → LeavesFitting t (give_back left word from value state choices)
gives_back t Nothing word from value state choices fit one is = tt
gives_back t (Some left) word from value state choices fit one is = record {
  tasks = (tt, fit.1);
  operands = (kind_fits state.memory from left.result value fit.0 one, each_drop Fits (length state.operands - left.held) state.operands is.operands);
  objects = is.objects;
  statics = is.statics;
}

ends_body : (t : Text) (is_main : Bool) (result : Kind) (close : Place) (state : StateIn t) (choices : List Choice) → HasSize result → IsFitting t state →
    LeavesFitting t (end_of_body is_main result close state choices)
ends_body t true result close state choices sized is = record { tasks = (tt, is.tasks); operands = (omega arith, is.operands); objects = is.objects; statics = is.statics }
ends_body t false Void close state choices sized is = record { tasks = (tt, is.tasks); operands = (omega arith, is.operands); objects = is.objects; statics = is.statics }
ends_body t false (Integer of) close state choices sized is = receives t (Integer of) _ choices sized (record { tasks = (tt, is.tasks); operands = is.operands; objects = is.objects; statics = is.statics })
ends_body t false (Pointer bytes) close state choices sized is = receives t (Pointer bytes) _ choices sized (record { tasks = (tt, is.tasks); operands = is.operands; objects = is.objects; statics = is.statics })
ends_body t false (Array bytes) close state choices sized is = receives t (Array bytes) _ choices sized (record { tasks = (tt, is.tasks); operands = is.operands; objects = is.objects; statics = is.statics })
ends_body t false (Struct bytes) close state choices sized is = receives t (Struct bytes) _ choices sized (record { tasks = (tt, is.tasks); operands = is.operands; objects = is.objects; statics = is.statics })

returns_to : (t : Text) (strict : Bool) (callers : List Frame) (place : Place) (state : StateIn t) (choices : List Choice) → IsFitting t (record state { frame = []; callers = callers }) →
    LeavesFitting t (returned strict callers place state choices)
returns_to t strict [] place state choices is = by_test t _ _ strict (λ asked. by_test t _ _ (is_lost state.memory []) (λ lost. tt) tt) tt
returns_to t strict (frame ∷ callers) place state choices is = record { tasks = is.tasks; operands = is.operands; objects = is.objects; statics = is.statics }

leaves_function : (t : Text) (strict : Bool) (place : Place) (state : StateIn t) (choices : List Choice) → IsFitting t (record state { frame = [] }) →
    LeavesFitting t (leave_function strict place (record state { frame = [] }) choices)
leaves_function t strict place state choices is =
    by_test t _ _ (is_lost state.memory (roots (record state { frame = [] }))) (λ lost. tt) (returns_to t strict state.callers place (record state { frame = [] }) choices is)

-- each step
arm_fits : (t : Text) → IsFittingText t → (kind : Kind) (expr : t.Expr) → HasSize kind → Each (TaskFits t) (arm t kind expr)
arm_fits t fit kind expr sized = (tt, ((value_size t fit expr, sized), tt))

arms_fit : (t : Text) → IsFittingText t → (kind : Kind) (one other : t.Expr) (holds : Bool) → HasSize kind → Each (TaskFits t) (if holds then arm t kind one else arm t kind other)
arms_fit t fit kind one other true sized = arm_fits t fit kind one sized
arms_fit t fit kind one other false sized = arm_fits t fit kind other sized

more : (t : Text) (parts : List (TaskIn t)) (state : StateIn t) → Each (TaskFits t) parts → IsFitting t state → IsFitting t (doing parts state)
more t parts state fit is = record { tasks = each_both (TaskFits t) parts state.tasks fit is.tasks; operands = is.operands; objects = is.objects; statics = is.statics }

fits_on : (t : Text) → IsFittingText t → (task : TaskIn t) (state : StateIn t) (choices : List Choice) → TaskFits t task → IsFitting t state → Holds t state →
    LeavesFitting t (step_of t task state choices)
fits_on t fit (ValueOf expr) state choices of is holds = more t (_) state (values_fit t fit expr) is
fits_on t fit (AddressOf expr) state choices of is holds = more t (_) state (addresses_fit t fit expr) is
fits_on t fit (Push number) state choices of is holds = record { tasks = is.tasks; operands = (of, is.operands); objects = is.objects; statics = is.statics }
fits_on t fit (ObjectAt token) state choices of is holds = object_or t (block_of state token) state choices is
fits_on t fit (Shift bytes) state choices of is holds =
    popping t state.operands state _ is.operands (λ word rest one others. record { tasks = is.tasks; operands = (moved_fits word (pos bytes), others); objects = is.objects; statics = is.statics })
fits_on t fit (Load place kind) state choices of is holds =
    popping t state.operands state _ is.operands (λ at rest one others. loads t place kind (scalar_bytes kind) at (record state { operands = rest }) choices (others_left t state rest is others) holds one)
fits_on t fit (Convert from to) state choices of is holds =
    popping t state.operands state _ is.operands (λ word rest one others. record { tasks = is.tasks; operands = (kind_fits state.memory from to word of.1 one, others); objects = is.objects; statics = is.statics })
fits_on t fit (Apply op kind) state choices of is holds =
    popping t state.operands state _ is.operands (λ word rest one others. stuck_or t (applied state.memory op kind word) (record state { operands = rest }) choices (others_left t state rest is others)
    (applied_fits state.memory op kind word of))
fits_on t fit (Operate op left right) state choices of is holds =
    popping t state.operands state _ is.operands (λ other rest second others. popping t rest (record state { operands = rest }) _ others
    (λ one rest' first others'. ended_or t (operated state.memory op left right one other) (record state { operands = rest' }) choices (others_left t state rest' is others')
    (operated_fits state.memory op left right one other of.0 of.1)))
fits_on t fit (Answer holds) state choices of is bytes =
    popping t state.operands state _ is.operands (λ word rest one others. record { tasks = is.tasks; operands = (told_fits holds (is_true state.memory word), others); objects = is.objects; statics = is.statics })
fits_on t fit (AndThen right) state choices of is holds =
    popping t state.operands state _ is.operands (λ word rest one others. and_steps t (is_true state.memory word) (ValueOf right ∷ Answer true ∷ []) (record state { operands = rest }) choices (tt, (tt, tt)) (others_left t state rest is others))
fits_on t fit (OrElse right) state choices of is holds =
    popping t state.operands state _ is.operands (λ word rest one others. or_steps t (is_true state.memory word) (ValueOf right ∷ Answer true ∷ []) (record state { operands = rest }) choices (tt, (tt, tt)) (others_left t state rest is others))
fits_on t fit (Pick kind one other) state choices of is holds =
    popping t state.operands state _ is.operands (λ word rest first others.
    more t (if is_true state.memory word then arm t kind one else arm t kind other) (record state { operands = rest }) (arms_fit t fit kind one other (is_true state.memory word) of) (others_left t state rest is others))
fits_on t fit Drop state choices of is holds = popping t state.operands state _ is.operands (λ word rest one others. record { tasks = is.tasks; operands = others; objects = is.objects; statics = is.statics })
fits_on t fit (Store place kind) state choices of is holds =
    popping t state.operands state _ is.operands (λ word rest one others. popping t rest (record state { operands = rest }) _ others
    (λ at rest' two others'. stores t place (scalar_bytes kind) at word (record state { operands = rest' }) choices (others_left t state rest' is others') one))
fits_on t fit (Update op place kind right) state choices of is holds =
    popping t state.operands state _ is.operands (λ word rest one others. popping t rest (record state { operands = rest }) _ others
    (λ at rest' two others'. updates t op place kind (scalar_bytes kind) right at word false (record state { operands = rest' }) choices (others_left t state rest' is others') holds of.0 of.1))
fits_on t fit (CountBy up behind place kind) state choices of is holds =
    popping t state.operands state _ is.operands (λ at rest one others. updates t (counting up) place kind (scalar_bytes kind) (Integer int) at (Plain 1) behind (record state { operands = rest }) choices
    (others_left t state rest is others) holds of refl)
fits_on t fit (CopyStruct place count) state choices of is holds =
    popping t state.operands state _ is.operands (λ from rest one others. popping t rest (record state { operands = rest }) _ others
    (λ to rest' two others'. fault_or t _ (copy_fault state.memory to from count false) place
    (λ none. answers t (record state { operands = rest' }) (copied state.memory to from count) (Plain 0) (others_left t state rest' is others') (sizes_copied state.memory to from count false none) (omega arith))))
fits_on t fit (RunBuiltIn what place result) state choices of is holds = built_in_steps t what place result state choices of is
fits_on t fit (CallDefined number) state choices of is holds = calls t fit number (slice_get t.functions number) state choices refl (each_get FunctionFits t.functions number fit.functions) is
fits_on t fit EndRun state choices of is holds = tt
fits_on t fit (Finish place) state choices of is holds =
    popping t state.operands state _ is.operands (λ word rest one others. lost_or t place (record state { operands = rest }) choices (others_left t state rest is others))
fits_on t fit (Keep place) state choices of is holds = lost_or t place state choices is
fits_on t fit (Execute stmt) state choices of is holds = more t (_) state (statements_fit t fit stmt (length state.operands)) is
fits_on t fit (Branch stmt) state choices of is holds =
    popping t state.operands state _ is.operands (λ word rest one others.
    lost_or t (branch_place t stmt) (doing (branch_tasks t stmt (length rest) (is_true state.memory word)) (record state { operands = rest })) choices
    (more t (branch_tasks t stmt (length rest) (is_true state.memory word)) (record state { operands = rest }) (branches_fit t stmt (length rest) (is_true state.memory word)) (others_left t state rest is others)))
fits_on t fit (Test stmt) state choices of is holds = more t (_) state (tests_fit t stmt (length state.operands)) is
fits_on t fit (Again stmt held) state choices of is holds = more t (_) state (turns_fit t stmt) is
fits_on t fit OpenBlock state choices of is holds = record { tasks = is.tasks; operands = is.operands; objects = is.objects; statics = is.statics }
fits_on t fit (MakeObject object) state choices of is holds =
    blocks t storage.Local object.bytes false state choices _ (λ base contents left long. object_made_so t object state base contents of.1 is long)
fits_on t fit (MakeParameter object) state choices of is holds =
    popping t state.operands state _ is.operands (λ word rest one others. parameter_made_so t object word (record state { operands = rest }) choices of.1 (others_left t state rest is others))
fits_on t fit (MakeStatic object) state choices of is holds =
    blocks t storage.Static object.bytes true state choices _ (λ base contents left long. static_made_so t object state base contents of.1 is long)
fits_on t fit (LeaveBlock place) state choices of is holds = leaves_block t state.frame place state choices is
fits_on t fit (Zero place count) state choices of is holds =
    popping t state.operands state _ is.operands (λ at rest one others. fault_or t _ (range_fault state.memory at count) place
    (λ none. changed t (record state { operands = rest }) (filled state.memory at 0 count) (others_left t state rest is others) (sizes_filled state.memory at 0 count none)))
fits_on t fit (Initialise place init) state choices of is holds = more t (_) state (initialisers_fit t fit place init) is
fits_on t fit (BreakAt word) state choices of is holds =
    leaves_loop t (loop_left state.tasks) (after_break t word) state choices (loop_rest t state.tasks is.tasks) (break_fits t word) is
fits_on t fit (ContinueAt word) state choices of is holds =
    leaves_loop t (loop_left state.tasks) (after_continue word) state choices (loop_rest t state.tasks is.tasks) (continue_fits t word) is
fits_on t fit (GiveBack word from) state choices of is holds =
    popping t state.operands state _ is.operands (λ value rest one others. gives_back t (body_left state.tasks) word from value (record state { operands = rest }) choices
    (body_rest t state.tasks is.tasks) one (others_left t state rest is others))
fits_on t fit (LeaveFunction place) state choices of is holds =
    leaves_function t t.strict place (record state { memory = without_objects (blocks_of (objects_of state.frame)) state.memory }) choices
    (after_end t state [] (objects_of state.frame) is refl)
fits_on t fit (EndOfBody is_main result close held) state choices of is holds = ends_body t is_main result close state choices of is
fits_on t fit Unknown state choices of is holds = tt

step_fits_on : (t : Text) → IsFittingText t → (tasks : List (TaskIn t)) (state : StateIn t) (choices : List Choice) → IsFitting t (record state { tasks = tasks }) → Holds t state →
    LeavesFitting t (step_on t tasks state choices)
step_fits_on t fit [] state choices is holds = tt
step_fits_on t fit (task ∷ rest) state choices is holds =
    fits_on t fit task (record state { tasks = rest }) choices is.tasks.0 (record { tasks = is.tasks.1; operands = is.operands; objects = is.objects; statics = is.statics }) holds

pub step_fits : (t : Text) → IsFittingText t → (state : StateIn t) (choices : List Choice) → IsFitting t state → All (λ block. All IsByte block.bytes) state.memory →
    LeavesFitting t (step t state choices)
step_fits t fit state choices is holds = step_fits_on t fit state.tasks state choices is holds

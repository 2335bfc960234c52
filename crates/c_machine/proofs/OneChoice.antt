-- A step takes at most one choice.
use Rattle.std.proofs.Common.{ℕ, Bool, true, false, List, [], ◌∷◌, Option, Some, None as Nothing, inl, inr, refl}
use Rattle.std.specs.Prelude.{if◌then◌else◌, pos, not, ◌&&◌, ◌||◌, nat_eq, nat_lt, length, ◌*◌, slice_get}
use Rattle.std.specs.List.{list_all}
use Rattle.cbase.specs.declared.place.Place.{Place}
use Rattle.bytes_core.specs.declared.block.BlockKind.{BlockKind}
use Rattle.bytes_core.specs.declared.block.BlockKind.TheVariants as storage
use Rattle.bytes_core.specs.declared.word.Word.{Word}
use Rattle.bytes_core.specs.declared.word.Word.TheVariants.{Plain, To}
use Rattle.bytes_core.specs.Access.{access_fault, range_fault, loaded, stored}
use Rattle.bytes_core.specs.Copying.{copy_fault}
use Rattle.bytes_core.specs.Loss.{is_lost}
use Rattle.bytes_core.specs.Placement.{is_new_block}
use Rattle.bytes_core.specs.Release.{free_fault}
use Rattle.bytes_core.specs.Value.{address_number}
use Rattle.choices.specs.declared.choice.Choice.{Choice}
use Rattle.choices.specs.declared.choice.Choice.TheVariants.{None, Block as NewBlock, Input}
use Rattle.c_machine.specs.Calls.{called}
use Rattle.c_machine.specs.Choosing.{with_block, allocated, received, count_of, with_object, with_static}
use Rattle.c_machine.specs.Laws.{TakesOne, DoStepsTakeOne}
use Rattle.c_machine.specs.declared.built_in.BuiltIn.TheVariants.{Malloc, Calloc, Free, Memset, Memcpy, Memmove, EndsRun, Assume, Expect, GivesInput}
use Rattle.c_machine.specs.declared.built_in.BuiltIn.{BuiltIn}
use Rattle.c_machine.specs.declared.task.Task.{Task}
use Rattle.c_machine.specs.declared.task.Task.TheVariants.{ValueOf, AddressOf, Push, ObjectAt, Shift, Load, Convert, Apply, Operate, Answer, AndThen, OrElse, Pick, Drop, Store, Update, CountBy, CopyStruct, RunBuiltIn, CallDefined, EndRun, Finish, Keep, Execute, Branch, Test, Again, OpenBlock, MakeObject, MakeParameter, MakeStatic, LeaveBlock, Zero, Initialise, BreakAt, ContinueAt, GiveBack, LeaveFunction, EndOfBody, Unknown}
use Rattle.c_machine.specs.State.{TaskIn, Frame, State, StateIn, Outcome, Went, doing, with_operand, with_memory, popped_of, unless_fault, block_of, blocks_of, objects_of, roots}
use Rattle.c_machine.specs.Statements.{LoopLeft, loop_left, after_break, after_continue, BodyLeft, body_left, branch_place, branch_tasks}
use Rattle.c_machine.specs.Step.{unless_lost, or_ended, or_stuck, object_at, load_step, store_step, stored_result, updated, and_then, or_else, assumed, built_in_step, leave_block, leave_loop, give_back, end_of_body, returned, leave_function, without_objects, counting, counted, step_of, step_on}
use Rattle.c_machine.specs.declared.kind.Kind.TheVariants.{Integer, Pointer, Array, Struct, Void}
use Rattle.c_machine.specs.declared.kind.Kind.{Kind}
use Rattle.c_machine.specs.Text.{Function, Text}
use Rattle.c_machine.specs.Trees.{text_of}
use Rattle.c_machine.specs.Words.{is_true, applied, operated, kind_after, scalar_bytes, is_pointer}
use Rattle.typing.specs.ctypes.Integers.{int}

-- whatever a step tests
by_test : {E S I : Type 0} (one other : Outcome E S I) (choices : List Choice) (b : Bool) → TakesOne choices one → TakesOne choices other → TakesOne choices (if b then one else other)
by_test one other choices true first second = first
by_test one other choices false first second = second

fault_or : {E S I : Type 0} (onward : Outcome E S I) (choices : List Choice) (fault : Option ℕ) (place : Place) → TakesOne choices onward → TakesOne choices (unless_fault fault place onward)
fault_or onward choices Nothing place goes = goes
fault_or onward choices (Some kind) place goes = tt

lost_or : {E S I : Type 0} (place : Place) (state : State E S I) (choices : List Choice) → TakesOne choices (unless_lost place state choices)
lost_or place state choices = by_test _ _ choices (is_lost state.memory (roots state)) tt (inl refl)

popping : {E S I : Type 0} (operands : List Word) (state : State E S I) (choices : List Choice) (onward : Word → State E S I → Outcome E S I) →
    ((word : Word) (after : State E S I) → TakesOne choices (onward word after)) → TakesOne choices (popped_of operands state onward)
popping [] state choices onward each = tt
popping (word ∷ operands) state choices onward each = each word (record state { operands = operands })

ended_or : {E S I : Type 0} (word : Option Word) (state : State E S I) (choices : List Choice) → TakesOne choices (or_ended word state choices)
ended_or Nothing state choices = tt
ended_or (Some word) state choices = inl refl

stuck_or : {E S I : Type 0} (word : Option Word) (state : State E S I) (choices : List Choice) → TakesOne choices (or_stuck word state choices)
stuck_or Nothing state choices = tt
stuck_or (Some word) state choices = inl refl

object_or : {E S I : Type 0} (block : Option ℕ) (state : State E S I) (choices : List Choice) → TakesOne choices (object_at block state choices)
object_or Nothing state choices = tt
object_or (Some block) state choices = inl refl

-- loads and stores
loads : {E S I : Type 0} (place : Place) (kind : Kind) (bytes : Option ℕ) (at : Word) (state : State E S I) (choices : List Choice) → TakesOne choices (load_step place kind bytes at state choices)
loads place kind Nothing at state choices = inl refl
loads place kind (Some bytes) at state choices = fault_or _ choices (access_fault state.memory at bytes) place (inl refl)

stores : {E S I : Type 0} (place : Place) (bytes : Option ℕ) (at word : Word) (state : State E S I) (choices : List Choice) → TakesOne choices (store_step place bytes at word state choices)
stores place Nothing at word state choices = tt
stores place (Some bytes) at word state choices = fault_or _ choices (access_fault state.memory at bytes) place (inl refl)

results : {E S I : Type 0} (from kind : Kind) (bytes : ℕ) (at : Word) (result : Option Word) (value : Word → Word) (state : State E S I) (choices : List Choice) →
    TakesOne choices (stored_result from kind bytes at result value state choices)
results from kind bytes at Nothing value state choices = tt
results from kind bytes at (Some result) value state choices = inl refl

updates : {E S I : Type 0} (op : _) (place : Place) (kind : Kind) (bytes : Option ℕ) (right : Kind) (at word : Word) (value : Word → Word → Word) (state : State E S I) (choices : List Choice) →
    TakesOne choices (updated op place kind bytes right at word value state choices)
updates op place kind Nothing right at word value state choices = tt
updates op place kind (Some bytes) right at word value state choices = fault_or _ choices (access_fault state.memory at bytes) place
    (results (kind_after op kind right) kind bytes at (operated state.memory op kind right (loaded state.memory at bytes (is_pointer kind)) word) (value (loaded state.memory at bytes (is_pointer kind))) state choices)

and_steps : {E S I : Type 0} (holds : Bool) (right : List (Task E S I)) (state : State E S I) (choices : List Choice) → TakesOne choices (and_then holds right state choices)
and_steps true right state choices = inl refl
and_steps false right state choices = inl refl

or_steps : {E S I : Type 0} (holds : Bool) (right : List (Task E S I)) (state : State E S I) (choices : List Choice) → TakesOne choices (or_else holds right state choices)
or_steps true right state choices = inl refl
or_steps false right state choices = inl refl

assumes : {E S I : Type 0} (holds : Bool) (state : State E S I) (choices : List Choice) → TakesOne choices (assumed holds state choices)
assumes true state choices = inl refl
assumes false state choices = tt

-- choices
blocks : {E S I : Type 0} (kind : BlockKind) (size : ℕ) (zeroed : Bool) (state : State E S I) (choices : List Choice) (after : State E S I → ℕ → State E S I) →
    TakesOne choices (with_block kind size zeroed state choices (λ next block more. Went (after next block) more))
blocks kind size zeroed state [] after = refl
blocks kind size zeroed state (None ∷ choices) after = tt
blocks kind size zeroed state (Input number ∷ choices) after = tt
blocks kind size zeroed state (NewBlock base contents ∷ choices) after = by_test _ _ (NewBlock base contents ∷ choices) (is_new_block state.memory kind size base contents && (not zeroed || list_all (nat_eq 0) contents)) (inr (_, refl)) tt

allocates : {E S I : Type 0} (size : ℕ) (zeroed : Bool) (state : State E S I) (choices : List Choice) → TakesOne choices (allocated size zeroed state choices)
allocates size zeroed state [] = refl
allocates size zeroed state (None ∷ choices) = inr (None, refl)
allocates size zeroed state (Input number ∷ choices) = tt
allocates size zeroed state (NewBlock base contents ∷ choices) =
    blocks storage.Heap size zeroed state (NewBlock base contents ∷ choices) (λ next block. with_operand (To block (pos 0)) next)

receives : {E S I : Type 0} (kind : Kind) (state : State E S I) (choices : List Choice) → TakesOne choices (received kind state choices)
receives kind state [] = refl
receives kind state (None ∷ choices) = tt
receives kind state (NewBlock base contents ∷ choices) = tt
receives kind state (Input number ∷ choices) = by_test _ _ (Input number ∷ choices) (nat_lt number (count_of kind)) (inr (Input number, refl)) tt

-- built-in functions
built_in_steps : {E S I : Type 0} (what : BuiltIn) (place : Place) (result : Kind) (state : State E S I) (choices : List Choice) →
    TakesOne choices (built_in_step what place result state choices)
built_in_steps Malloc place result state choices = popping state.operands state choices _ (λ size after. allocates (address_number state.memory size) false after choices)
built_in_steps Calloc place result state choices =
    popping state.operands state choices _ (λ size before. popping before.operands before choices _ (λ count after. allocates (address_number state.memory count * address_number state.memory size) true after choices))
built_in_steps Free place result state choices = popping state.operands state choices _ (λ word after. fault_or _ choices (free_fault state.memory word) place (inl refl))
built_in_steps Memset place result state choices =
    popping state.operands state choices _ (λ count one. popping one.operands one choices _ (λ byte two. popping two.operands two choices _ (λ at after. fault_or _ choices (range_fault state.memory at (address_number state.memory count)) place (inl refl))))
built_in_steps Memcpy place result state choices =
    popping state.operands state choices _ (λ count one. popping one.operands one choices _ (λ from two. popping two.operands two choices _ (λ to after. fault_or _ choices (copy_fault state.memory to from (address_number state.memory count) true) place (inl refl))))
built_in_steps Memmove place result state choices =
    popping state.operands state choices _ (λ count one. popping one.operands one choices _ (λ from two. popping two.operands two choices _ (λ to after. fault_or _ choices (copy_fault state.memory to from (address_number state.memory count) false) place (inl refl))))
built_in_steps EndsRun place result state choices = tt
built_in_steps Assume place result state choices = popping state.operands state choices _ (λ word after. assumes (is_true state.memory word) after choices)
built_in_steps Expect place result state choices = popping state.operands state choices _ (λ expected after. inl refl)
built_in_steps GivesInput place result state choices = receives result state choices

-- calls
calls : (t : Text) (function : Option (Function t.Stmt)) (state : StateIn t) (choices : List Choice) → TakesOne choices (called t function state choices)
calls t Nothing state choices = tt
calls t (Some function) state choices = inl refl

-- ways out
leaves_block : {E S I : Type 0} (frame : Frame) (place : Place) (state : State E S I) (choices : List Choice) → TakesOne choices (leave_block frame place state choices)
leaves_block [] place state choices = tt
leaves_block (scope ∷ scopes) place state choices =
    lost_or place (record state { frame = scopes; memory = without_objects (blocks_of scope) state.memory }) choices

leaves_loop : {E S I : Type 0} (left : Option (LoopLeft E S I)) (onward : LoopLeft E S I → List (Task E S I)) (state : State E S I) (choices : List Choice) →
    TakesOne choices (leave_loop left onward state choices)
leaves_loop Nothing onward state choices = tt
leaves_loop (Some left) onward state choices = inl refl

gives_back : {E S I : Type 0} (left : Option (BodyLeft E S I)) (word : Place) (from : Kind) (value : Word) (state : State E S I) (choices : List Choice) →
    TakesOne choices (give_back left word from value state choices)
gives_back Nothing word from value state choices = tt
gives_back (Some left) word from value state choices = inl refl

ends_body : {E S I : Type 0} (is_main : Bool) (result : Kind) (close : Place) (state : State E S I) (choices : List Choice) → TakesOne choices (end_of_body is_main result close state choices)
ends_body true result close state choices = inl refl
ends_body false Void close state choices = inl refl
ends_body false (Integer of) close state choices = receives (Integer of) _ choices
ends_body false (Pointer bytes) close state choices = receives (Pointer bytes) _ choices
ends_body false (Array bytes) close state choices = receives (Array bytes) _ choices
ends_body false (Struct bytes) close state choices = receives (Struct bytes) _ choices

returns_to : {E S I : Type 0} (strict : Bool) (callers : List Frame) (place : Place) (state : State E S I) (choices : List Choice) → TakesOne choices (returned strict callers place state choices)
returns_to strict [] place state choices = by_test _ _ choices strict (by_test _ _ choices (is_lost state.memory []) tt tt) tt
returns_to strict (frame ∷ callers) place state choices = inl refl

leaves_function : {E S I : Type 0} (strict : Bool) (place : Place) (state : State E S I) (choices : List Choice) → TakesOne choices (leave_function strict place state choices)
leaves_function strict place state choices = by_test _ _ choices (is_lost state.memory (roots state)) tt (returns_to strict state.callers place state choices)

-- each step
takes : (t : Text) (task : TaskIn t) (state : StateIn t) (choices : List Choice) → TakesOne choices (step_of t task state choices)
takes t (ValueOf expr) state choices = inl refl
takes t (AddressOf expr) state choices = inl refl
takes t (Push number) state choices = inl refl
takes t (ObjectAt token) state choices = object_or (block_of state token) state choices
takes t (Shift bytes) state choices = popping state.operands state choices _ (λ word after. inl refl)
takes t (Load place kind) state choices = popping state.operands state choices _ (λ at after. loads place kind (scalar_bytes kind) at after choices)
takes t (Convert from to) state choices = popping state.operands state choices _ (λ word after. inl refl)
takes t (Apply op kind) state choices = popping state.operands state choices _ (λ word after. stuck_or (applied state.memory op kind word) after choices)
takes t (Operate op left right) state choices =
    popping state.operands state choices _ (λ other before. popping before.operands before choices _ (λ one after. ended_or (operated state.memory op left right one other) after choices))
takes t (Answer holds) state choices = popping state.operands state choices _ (λ word after. inl refl)
takes t (AndThen right) state choices = popping state.operands state choices _ (λ word after. and_steps (is_true state.memory word) (ValueOf right ∷ Answer true ∷ []) after choices)
takes t (OrElse right) state choices = popping state.operands state choices _ (λ word after. or_steps (is_true state.memory word) (ValueOf right ∷ Answer true ∷ []) after choices)
takes t (Pick kind one other) state choices = popping state.operands state choices _ (λ word after. inl refl)
takes t Drop state choices = popping state.operands state choices _ (λ word after. inl refl)
takes t (Store place kind) state choices =
    popping state.operands state choices _ (λ word before. popping before.operands before choices _ (λ at after. stores place (scalar_bytes kind) at word after choices))
takes t (Update op place kind right) state choices =
    popping state.operands state choices _ (λ word before. popping before.operands before choices _ (λ at after. updates op place kind (scalar_bytes kind) right at word (counted false) after choices))
takes t (CountBy up behind place kind) state choices = popping state.operands state choices _ (λ at after. updates (counting up) place kind (scalar_bytes kind) (Integer int) at (Plain 1) (counted behind) after choices)
takes t (CopyStruct place count) state choices =
    popping state.operands state choices _ (λ from before. popping before.operands before choices _ (λ to after. fault_or _ choices (copy_fault state.memory to from count false) place (inl refl)))
takes t (RunBuiltIn what place result) state choices = built_in_steps what place result state choices
takes t (CallDefined number) state choices = calls t (slice_get t.functions number) state choices
takes t EndRun state choices = tt
takes t (Finish place) state choices = popping state.operands state choices _ (λ word after. lost_or place after choices)
takes t (Keep place) state choices = lost_or place state choices
takes t (Execute stmt) state choices = inl refl
takes t (Branch stmt) state choices = popping state.operands state choices _ (λ word after.
    lost_or (branch_place t stmt) (doing (branch_tasks t stmt (length after.operands) (is_true state.memory word)) after) choices)
takes t (Test stmt) state choices = inl refl
takes t (Again stmt held) state choices = inl refl
takes t OpenBlock state choices = inl refl
takes t (MakeObject object) state choices = blocks storage.Local object.bytes false state choices (λ next block. with_object object.token next block)
takes t (MakeParameter object) state choices = popping state.operands state choices _ (λ word after.
    blocks storage.Local object.bytes false after choices (λ next block. with_object object.token (with_memory (stored next.memory (To block (pos 0)) object.bytes word) next) block))
takes t (MakeStatic object) state choices = blocks storage.Static object.bytes true state choices (λ next block. with_static object.token next block)
takes t (LeaveBlock place) state choices = leaves_block state.frame place state choices
takes t (Zero place count) state choices = popping state.operands state choices _ (λ at after. fault_or _ choices (range_fault state.memory at count) place (inl refl))
takes t (Initialise place init) state choices = inl refl
takes t (BreakAt word) state choices = leaves_loop (loop_left state.tasks) (after_break t word) state choices
takes t (ContinueAt word) state choices = leaves_loop (loop_left state.tasks) (after_continue word) state choices
takes t (GiveBack word from) state choices = popping state.operands state choices _ (λ value after. gives_back (body_left after.tasks) word from value after choices)
takes t (LeaveFunction place) state choices = leaves_function t.strict place (record state { frame = []; memory = without_objects (blocks_of (objects_of state.frame)) state.memory }) choices
takes t (EndOfBody is_main result close held) state choices = ends_body is_main result close state choices
takes t Unknown state choices = tt

takes_on : (t : Text) (tasks : List (TaskIn t)) (state : StateIn t) (choices : List Choice) → TakesOne choices (step_on t tasks state choices)
takes_on t [] state choices = tt
takes_on t (task ∷ rest) state choices = takes t task (record state { tasks = rest }) choices

pub steps_take_one : DoStepsTakeOne
steps_take_one p state choices = takes_on (text_of p) state.tasks state choices

-- Choices behind those that a step takes change nothing, and are left.
use Rattle.std.proofs.Common.{ℕ, Bool, true, false, List, [], ◌∷◌, ◌++◌, Option, Some, None as Nothing, refl}
use Rattle.std.specs.Prelude.{if◌then◌else◌, pos, not, ◌&&◌, ◌||◌, nat_eq, nat_lt, length, ◌*◌, slice_get}
use Rattle.std.specs.List.{list_all}
use Rattle.cbase.specs.declared.place.Place.{Place}
use Rattle.bytes_core.specs.declared.block.BlockKind.{BlockKind}
use Rattle.bytes_core.specs.declared.block.BlockKind.TheVariants as storage
use Rattle.bytes_core.specs.declared.word.Word.{Word}
use Rattle.bytes_core.specs.declared.word.Word.TheVariants.{Plain, To}
use Rattle.bytes_core.specs.Access.{access_fault, range_fault, loaded, stored}
use Rattle.bytes_core.specs.Copying.{copy_fault}
use Rattle.bytes_core.specs.Loss.{is_lost}
use Rattle.bytes_core.specs.Placement.{is_new_block}
use Rattle.bytes_core.specs.Release.{free_fault}
use Rattle.bytes_core.specs.Value.{address_number}
use Rattle.choices.specs.declared.choice.Choice.{Choice}
use Rattle.choices.specs.declared.choice.Choice.TheVariants.{None, Block as NewBlock, Input}
use Rattle.c_machine.specs.Calls.{called}
use Rattle.c_machine.specs.Choosing.{with_block, allocated, received, count_of, with_object, with_static}
use Rattle.c_machine.specs.Laws.{LeavesMore, DoStepsLeaveMore}
use Rattle.c_machine.specs.declared.built_in.BuiltIn.TheVariants.{Malloc, Calloc, Free, Memset, Memcpy, Memmove, EndsRun, Assume, Expect, GivesInput}
use Rattle.c_machine.specs.declared.built_in.BuiltIn.{BuiltIn}
use Rattle.c_machine.specs.declared.task.Task.{Task}
use Rattle.c_machine.specs.declared.task.Task.TheVariants.{ValueOf, AddressOf, Push, ObjectAt, Shift, Load, Convert, Apply, Operate, Answer, AndThen, OrElse, Pick, Drop, Store, Update, CountBy, CopyStruct, RunBuiltIn, CallDefined, EndRun, Finish, Keep, Execute, Branch, Test, Again, OpenBlock, MakeObject, MakeParameter, MakeStatic, LeaveBlock, Zero, Initialise, BreakAt, ContinueAt, GiveBack, LeaveFunction, EndOfBody, Unknown}
use Rattle.c_machine.specs.State.{TaskIn, Frame, State, StateIn, Outcome, Went, doing, with_operand, with_memory, popped_of, unless_fault, block_of, blocks_of, objects_of, roots}
use Rattle.c_machine.specs.Statements.{LoopLeft, loop_left, after_break, after_continue, BodyLeft, body_left, branch_place, branch_tasks}
use Rattle.c_machine.specs.Step.{unless_lost, or_ended, or_stuck, object_at, load_step, store_step, stored_result, updated, and_then, or_else, assumed, built_in_step, leave_block, leave_loop, give_back, end_of_body, returned, leave_function, without_objects, counting, counted, step_of, step_on}
use Rattle.c_machine.specs.declared.kind.Kind.TheVariants.{Integer, Pointer, Array, Struct, Void}
use Rattle.c_machine.specs.declared.kind.Kind.{Kind}
use Rattle.c_machine.specs.Text.{Function, Text}
use Rattle.c_machine.specs.Trees.{text_of}
use Rattle.c_machine.specs.Words.{is_true, applied, operated, kind_after, scalar_bytes, is_pointer}
use Rattle.typing.specs.ctypes.Integers.{int}

-- whatever a step tests
by_test : {E S I : Type 0} (one one' other other' : Outcome E S I) (choices more : List Choice) (b : Bool) → LeavesMore more one one' → LeavesMore more other other' →
    LeavesMore more (if b then one else other) (if b then one' else other')
by_test one one' other other' choices more true first second = first
by_test one one' other other' choices more false first second = second

fault_or : {E S I : Type 0} (onward onward' : Outcome E S I) (choices more : List Choice) (fault : Option ℕ) (place : Place) → LeavesMore more onward onward' →
    LeavesMore more (unless_fault fault place onward) (unless_fault fault place onward')
fault_or onward onward' choices more Nothing place goes = goes
fault_or onward onward' choices more (Some kind) place goes = refl

lost_or : {E S I : Type 0} (place : Place) (state : State E S I) (choices more : List Choice) → LeavesMore more (unless_lost place state choices) (unless_lost place state (choices ++ more))
lost_or place state choices more = by_test _ _ _ _ choices more (is_lost state.memory (roots state)) refl refl

popping : {E S I : Type 0} (operands : List Word) (state : State E S I) (choices more : List Choice) (onward onward' : Word → State E S I → Outcome E S I) →
    ((word : Word) (after : State E S I) → LeavesMore more (onward word after) (onward' word after)) → LeavesMore more (popped_of operands state onward) (popped_of operands state onward')
popping [] state choices more onward onward' each = refl
popping (word ∷ operands) state choices more onward onward' each = each word (record state { operands = operands })

ended_or : {E S I : Type 0} (word : Option Word) (state : State E S I) (choices more : List Choice) → LeavesMore more (or_ended word state choices) (or_ended word state (choices ++ more))
ended_or Nothing state choices more = refl
ended_or (Some word) state choices more = refl

stuck_or : {E S I : Type 0} (word : Option Word) (state : State E S I) (choices more : List Choice) → LeavesMore more (or_stuck word state choices) (or_stuck word state (choices ++ more))
stuck_or Nothing state choices more = refl
stuck_or (Some word) state choices more = refl

object_or : {E S I : Type 0} (block : Option ℕ) (state : State E S I) (choices more : List Choice) → LeavesMore more (object_at block state choices) (object_at block state (choices ++ more))
object_or Nothing state choices more = refl
object_or (Some block) state choices more = refl

-- loads and stores
loads : {E S I : Type 0} (place : Place) (kind : Kind) (bytes : Option ℕ) (at : Word) (state : State E S I) (choices more : List Choice) → LeavesMore more (load_step place kind bytes at state choices) (load_step place kind bytes at state (choices ++ more))
loads place kind Nothing at state choices more = refl
loads place kind (Some bytes) at state choices more = fault_or _ _ choices more (access_fault state.memory at bytes) place refl

stores : {E S I : Type 0} (place : Place) (bytes : Option ℕ) (at word : Word) (state : State E S I) (choices more : List Choice) → LeavesMore more (store_step place bytes at word state choices) (store_step place bytes at word state (choices ++ more))
stores place Nothing at word state choices more = refl
stores place (Some bytes) at word state choices more = fault_or _ _ choices more (access_fault state.memory at bytes) place refl

results : {E S I : Type 0} (from kind : Kind) (bytes : ℕ) (at : Word) (result : Option Word) (value : Word → Word) (state : State E S I) (choices more : List Choice) → LeavesMore more (stored_result from kind bytes at result value state choices) (stored_result from kind bytes at result value state (choices ++ more))
results from kind bytes at Nothing value state choices more = refl
results from kind bytes at (Some result) value state choices more = refl

updates : {E S I : Type 0} (op : _) (place : Place) (kind : Kind) (bytes : Option ℕ) (right : Kind) (at word : Word) (value : Word → Word → Word) (state : State E S I) (choices more : List Choice) → LeavesMore more (updated op place kind bytes right at word value state choices) (updated op place kind bytes right at word value state (choices ++ more))
updates op place kind Nothing right at word value state choices more = refl
updates op place kind (Some bytes) right at word value state choices more = fault_or _ _ choices more (access_fault state.memory at bytes) place (results (kind_after op kind right) kind bytes at (operated state.memory op kind right (loaded state.memory at bytes (is_pointer kind)) word) (value (loaded state.memory at bytes (is_pointer kind))) state choices more)

and_steps : {E S I : Type 0} (holds : Bool) (right : List (Task E S I)) (state : State E S I) (choices more : List Choice) → LeavesMore more (and_then holds right state choices) (and_then holds right state (choices ++ more))
and_steps true right state choices more = refl
and_steps false right state choices more = refl

or_steps : {E S I : Type 0} (holds : Bool) (right : List (Task E S I)) (state : State E S I) (choices more : List Choice) → LeavesMore more (or_else holds right state choices) (or_else holds right state (choices ++ more))
or_steps true right state choices more = refl
or_steps false right state choices more = refl

assumes : {E S I : Type 0} (holds : Bool) (state : State E S I) (choices more : List Choice) → LeavesMore more (assumed holds state choices) (assumed holds state (choices ++ more))
assumes true state choices more = refl
assumes false state choices more = refl

-- choices
blocks : {E S I : Type 0} (kind : BlockKind) (size : ℕ) (zeroed : Bool) (state : State E S I) (choices more : List Choice) (after : State E S I → ℕ → State E S I) → LeavesMore more (with_block kind size zeroed state choices (λ next block left. Went (after next block) left)) (with_block kind size zeroed state (choices ++ more) (λ next block left. Went (after next block) left))
blocks kind size zeroed state [] more after = tt
blocks kind size zeroed state (None ∷ choices) more after = refl
blocks kind size zeroed state (Input number ∷ choices) more after = refl
blocks kind size zeroed state (NewBlock base contents ∷ choices) more after = by_test _ _ _ _ (NewBlock base contents ∷ choices) more (is_new_block state.memory kind size base contents && (not zeroed || list_all (nat_eq 0) contents)) refl refl

allocates : {E S I : Type 0} (size : ℕ) (zeroed : Bool) (state : State E S I) (choices more : List Choice) → LeavesMore more (allocated size zeroed state choices) (allocated size zeroed state (choices ++ more))
allocates size zeroed state [] more = tt
allocates size zeroed state (None ∷ choices) more = refl
allocates size zeroed state (Input number ∷ choices) more = refl
allocates size zeroed state (NewBlock base contents ∷ choices) more = blocks storage.Heap size zeroed state (NewBlock base contents ∷ choices) more (λ next block. with_operand (To block (pos 0)) next)

receives : {E S I : Type 0} (kind : Kind) (state : State E S I) (choices more : List Choice) → LeavesMore more (received kind state choices) (received kind state (choices ++ more))
receives kind state [] more = tt
receives kind state (None ∷ choices) more = refl
receives kind state (NewBlock base contents ∷ choices) more = refl
receives kind state (Input number ∷ choices) more = by_test _ _ _ _ (Input number ∷ choices) more (nat_lt number (count_of kind)) refl refl

-- built-in functions
built_in_steps : {E S I : Type 0} (what : BuiltIn) (place : Place) (result : Kind) (state : State E S I) (choices more : List Choice) → LeavesMore more (built_in_step what place result state choices) (built_in_step what place result state (choices ++ more))
built_in_steps Malloc place result state choices more = popping state.operands state choices more _ _ (λ size after. allocates (address_number state.memory size) false after choices more)
built_in_steps Calloc place result state choices more = popping state.operands state choices more _ _ (λ size before. popping before.operands before choices more _ _ (λ count after. allocates (address_number state.memory count * address_number state.memory size) true after choices more))
built_in_steps Free place result state choices more = popping state.operands state choices more _ _ (λ word after. fault_or _ _ choices more (free_fault state.memory word) place refl)
built_in_steps Memset place result state choices more = popping state.operands state choices more _ _ (λ count one. popping one.operands one choices more _ _ (λ byte two. popping two.operands two choices more _ _ (λ at after. fault_or _ _ choices more (range_fault state.memory at (address_number state.memory count)) place refl)))
built_in_steps Memcpy place result state choices more = popping state.operands state choices more _ _ (λ count one. popping one.operands one choices more _ _ (λ from two. popping two.operands two choices more _ _ (λ to after. fault_or _ _ choices more (copy_fault state.memory to from (address_number state.memory count) true) place refl)))
built_in_steps Memmove place result state choices more = popping state.operands state choices more _ _ (λ count one. popping one.operands one choices more _ _ (λ from two. popping two.operands two choices more _ _ (λ to after. fault_or _ _ choices more (copy_fault state.memory to from (address_number state.memory count) false) place refl)))
built_in_steps EndsRun place result state choices more = refl
built_in_steps Assume place result state choices more = popping state.operands state choices more _ _ (λ word after. assumes (is_true state.memory word) after choices more)
built_in_steps Expect place result state choices more = popping state.operands state choices more _ _ (λ expected after. refl)
built_in_steps GivesInput place result state choices more = receives result state choices more

-- calls
calls : (t : Text) (function : Option (Function t.Stmt)) (state : StateIn t) (choices more : List Choice) → LeavesMore more (called t function state choices) (called t function state (choices ++ more))
calls t Nothing state choices more = refl
calls t (Some function) state choices more = refl

-- ways out
leaves_block : {E S I : Type 0} (frame : Frame) (place : Place) (state : State E S I) (choices more : List Choice) → LeavesMore more (leave_block frame place state choices) (leave_block frame place state (choices ++ more))
leaves_block [] place state choices more = refl
leaves_block (scope ∷ scopes) place state choices more = lost_or place (record state { frame = scopes; memory = without_objects (blocks_of scope) state.memory }) choices more

leaves_loop : {E S I : Type 0} (left : Option (LoopLeft E S I)) (onward : LoopLeft E S I → List (Task E S I)) (state : State E S I) (choices more : List Choice) → LeavesMore more (leave_loop left onward state choices) (leave_loop left onward state (choices ++ more))
leaves_loop Nothing onward state choices more = refl
leaves_loop (Some left) onward state choices more = refl

gives_back : {E S I : Type 0} (left : Option (BodyLeft E S I)) (word : Place) (from : Kind) (value : Word) (state : State E S I) (choices more : List Choice) → LeavesMore more (give_back left word from value state choices) (give_back left word from value state (choices ++ more))
gives_back Nothing word from value state choices more = refl
gives_back (Some left) word from value state choices more = refl

ends_body : {E S I : Type 0} (is_main : Bool) (result : Kind) (close : Place) (state : State E S I) (choices more : List Choice) → LeavesMore more (end_of_body is_main result close state choices) (end_of_body is_main result close state (choices ++ more))
ends_body true result close state choices more = refl
ends_body false Void close state choices more = refl
ends_body false (Integer of) close state choices more = receives (Integer of) _ choices more
ends_body false (Pointer bytes) close state choices more = receives (Pointer bytes) _ choices more
ends_body false (Array bytes) close state choices more = receives (Array bytes) _ choices more
ends_body false (Struct bytes) close state choices more = receives (Struct bytes) _ choices more

returns_to : {E S I : Type 0} (strict : Bool) (callers : List Frame) (place : Place) (state : State E S I) (choices more : List Choice) →
    LeavesMore more (returned strict callers place state choices) (returned strict callers place state (choices ++ more))
returns_to strict [] place state choices more = by_test _ _ _ _ choices more strict (by_test _ _ _ _ choices more (is_lost state.memory []) refl refl) refl
returns_to strict (frame ∷ callers) place state choices more = refl

leaves_function : {E S I : Type 0} (strict : Bool) (place : Place) (state : State E S I) (choices more : List Choice) →
    LeavesMore more (leave_function strict place state choices) (leave_function strict place state (choices ++ more))
leaves_function strict place state choices more = by_test _ _ _ _ choices more (is_lost state.memory (roots state)) refl (returns_to strict state.callers place state choices more)

-- each step
leaves : (t : Text) (task : TaskIn t) (state : StateIn t) (choices more : List Choice) → LeavesMore more (step_of t task state choices) (step_of t task state (choices ++ more))
leaves t (ValueOf expr) state choices more = refl
leaves t (AddressOf expr) state choices more = refl
leaves t (Push number) state choices more = refl
leaves t (ObjectAt token) state choices more = object_or (block_of state token) state choices more
leaves t (Shift bytes) state choices more = popping state.operands state choices more _ _ (λ word after. refl)
leaves t (Load place kind) state choices more = popping state.operands state choices more _ _ (λ at after. loads place kind (scalar_bytes kind) at after choices more)
leaves t (Convert from to) state choices more = popping state.operands state choices more _ _ (λ word after. refl)
leaves t (Apply op kind) state choices more = popping state.operands state choices more _ _ (λ word after. stuck_or (applied state.memory op kind word) after choices more)
leaves t (Operate op left right) state choices more = popping state.operands state choices more _ _ (λ other before. popping before.operands before choices more _ _ (λ one after. ended_or (operated state.memory op left right one other) after choices more))
leaves t (Answer holds) state choices more = popping state.operands state choices more _ _ (λ word after. refl)
leaves t (AndThen right) state choices more = popping state.operands state choices more _ _ (λ word after. and_steps (is_true state.memory word) (ValueOf right ∷ Answer true ∷ []) after choices more)
leaves t (OrElse right) state choices more = popping state.operands state choices more _ _ (λ word after. or_steps (is_true state.memory word) (ValueOf right ∷ Answer true ∷ []) after choices more)
leaves t (Pick kind one other) state choices more = popping state.operands state choices more _ _ (λ word after. refl)
leaves t Drop state choices more = popping state.operands state choices more _ _ (λ word after. refl)
leaves t (Store place kind) state choices more = popping state.operands state choices more _ _ (λ word before. popping before.operands before choices more _ _ (λ at after. stores place (scalar_bytes kind) at word after choices more))
leaves t (Update op place kind right) state choices more = popping state.operands state choices more _ _ (λ word before. popping before.operands before choices more _ _ (λ at after. updates op place kind (scalar_bytes kind) right at word (counted false) after choices more))
leaves t (CountBy up behind place kind) state choices more = popping state.operands state choices more _ _ (λ at after. updates (counting up) place kind (scalar_bytes kind) (Integer int) at (Plain 1) (counted behind) after choices more)
leaves t (CopyStruct place count) state choices more = popping state.operands state choices more _ _ (λ from before. popping before.operands before choices more _ _ (λ to after. fault_or _ _ choices more (copy_fault state.memory to from count false) place refl))
leaves t (RunBuiltIn what place result) state choices more = built_in_steps what place result state choices more
leaves t (CallDefined number) state choices more = calls t (slice_get t.functions number) state choices more
leaves t EndRun state choices more = refl
leaves t (Finish place) state choices more = popping state.operands state choices more _ _ (λ word after. lost_or place after choices more)
leaves t (Keep place) state choices more = lost_or place state choices more
leaves t (Execute stmt) state choices more = refl
leaves t (Branch stmt) state choices more = popping state.operands state choices more _ _ (λ word after. lost_or (branch_place t stmt) (doing (branch_tasks t stmt (length after.operands) (is_true state.memory word)) after) choices more)
leaves t (Test stmt) state choices more = refl
leaves t (Again stmt held) state choices more = refl
leaves t OpenBlock state choices more = refl
leaves t (MakeObject object) state choices more = blocks storage.Local object.bytes false state choices more (λ next block. with_object object.token next block)
leaves t (MakeParameter object) state choices more = popping state.operands state choices more _ _ (λ word after.
    blocks storage.Local object.bytes false after choices more (λ next block. with_object object.token (with_memory (stored next.memory (To block (pos 0)) object.bytes word) next) block))
leaves t (MakeStatic object) state choices more = blocks storage.Static object.bytes true state choices more (λ next block. with_static object.token next block)
leaves t (LeaveBlock place) state choices more = leaves_block state.frame place state choices more
leaves t (Zero place count) state choices more = popping state.operands state choices more _ _ (λ at after. fault_or _ _ choices more (range_fault state.memory at count) place refl)
leaves t (Initialise place init) state choices more = refl
leaves t (BreakAt word) state choices more = leaves_loop (loop_left state.tasks) (after_break t word) state choices more
leaves t (ContinueAt word) state choices more = leaves_loop (loop_left state.tasks) (after_continue word) state choices more
leaves t (GiveBack word from) state choices more = popping state.operands state choices more _ _ (λ value after. gives_back (body_left after.tasks) word from value after choices more)
leaves t (LeaveFunction place) state choices more = leaves_function t.strict place (record state { frame = []; memory = without_objects (blocks_of (objects_of state.frame)) state.memory }) choices more
leaves t (EndOfBody is_main result close held) state choices more = ends_body is_main result close state choices more
leaves t Unknown state choices more = refl

pub leaves_on : (t : Text) (tasks : List (TaskIn t)) (state : StateIn t) (choices more : List Choice) → LeavesMore more (step_on t tasks state choices) (step_on t tasks state (choices ++ more))
leaves_on t [] state choices more = refl
leaves_on t (task ∷ rest) state choices more = leaves t task (record state { tasks = rest }) choices more

pub steps_leave_more : DoStepsLeaveMore
steps_leave_more p state choices more = leaves_on (text_of p) state.tasks state choices more

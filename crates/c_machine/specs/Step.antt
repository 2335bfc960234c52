-- One step of the machine: the first thing to do is taken off the list, and it is done.
use Rattle.std.specs.Prelude.{ℕ, ◌*◌, ◌%◌, Bool, true, false, List, [], ◌∷◌, length, pos, Option, None, Some, if◌then◌else◌, slice_get}
use Rattle.cbase.specs.declared.place.Place.{Place}
use Rattle.cbase.specs.declared.tree.operators.BinaryOp.{BinaryOp}
use Rattle.cbase.specs.declared.tree.operators.BinaryOp.TheVariants.{Add, Sub}
use Rattle.bytes_core.specs.declared.block.Block.{Block}
use Rattle.bytes_core.specs.declared.word.Word.{Word}
use Rattle.bytes_core.specs.declared.word.Word.TheVariants.{Plain, To}
use Rattle.bytes_core.specs.Access.{access_fault, range_fault, loaded, stored, filled}
use Rattle.bytes_core.specs.Copying.{copy_fault, copied}
use Rattle.bytes_core.specs.Fault.{block_never_freed, memory_lost}
use Rattle.bytes_core.specs.Loss.{is_lost}
use Rattle.bytes_core.specs.Release.{free_fault, freed, without}
use Rattle.bytes_core.specs.Value.{address_number, moved}
use Rattle.choices.specs.declared.choice.Choice.{Choice}
use Rattle.typing.specs.ctypes.Integers.{int}
use Rattle.c_machine.specs.declared.kind.Kind.TheVariants.{Integer, Void}
use Rattle.c_machine.specs.declared.kind.Kind.{Kind}
use Rattle.c_machine.specs.Text.{Text}
use Rattle.c_machine.specs.declared.built_in.BuiltIn.TheVariants.{Malloc, Calloc, Free, Memset, Memcpy, Memmove, EndsRun, Assume, Expect, GivesInput}
use Rattle.c_machine.specs.declared.built_in.BuiltIn.{BuiltIn}
use Rattle.c_machine.specs.declared.task.Task.{Task}
use Rattle.c_machine.specs.declared.task.Task.TheVariants.{ValueOf, AddressOf, Push, ObjectAt, Shift, Load, Convert, Apply, Operate, Answer, AndThen, OrElse, Pick, Drop, Store, Update, CountBy, CopyStruct, RunBuiltIn, CallDefined, EndRun, Finish, Keep, Execute, Branch, Test, Again, OpenBlock, MakeObject, MakeParameter, MakeStatic, LeaveBlock, Zero, Initialise, BreakAt, ContinueAt, GiveBack, LeaveFunction, EndOfBody, Unknown}
use Rattle.c_machine.specs.State.{TaskIn, Frame, State, StateIn, Outcome, OutcomeIn, Went, Ended, Faulted, Stuck, doing, with_operand, with_memory, popped, unless_fault, block_of, blocks_of, objects_of, roots}
use Rattle.c_machine.specs.Words.{is_true, told, as_kind, applied, operated, kind_after, scalar_bytes, is_pointer}
use Rattle.c_machine.specs.Blocks.{initialiser_tasks}
use Rattle.c_machine.specs.Calls.{called}
use Rattle.c_machine.specs.Expressions.{value_kind, address_tasks, value_tasks}
use Rattle.c_machine.specs.Statements.{statement_tasks, test_tasks, again_tasks, branch_place, branch_tasks, LoopLeft, loop_left, after_break, after_continue, BodyLeft, body_left, oldest}
use Rattle.c_machine.specs.Choosing.{object_made, parameter_made, static_made, allocated, received}

-- goes on, unless memory is lost
abbrev pub unless_lost : {E S I : Type 0} → Place → State E S I → List Choice → Outcome E S I
unless_lost place state choices = if is_lost state.memory (roots state) then Faulted memory_lost place else Went state choices

-- goes on with a value; where an operator has none the run ends, and where no operator is the machine is stuck
abbrev pub or_ended : {E S I : Type 0} → Option Word → State E S I → List Choice → Outcome E S I
or_ended None state choices = Ended
or_ended (Some word) state choices = Went (with_operand word state) choices

abbrev pub or_stuck : {E S I : Type 0} → Option Word → State E S I → List Choice → Outcome E S I
or_stuck None state choices = Stuck
or_stuck (Some word) state choices = Went (with_operand word state) choices

abbrev pub object_at : {E S I : Type 0} → Option ℕ → State E S I → List Choice → Outcome E S I
object_at None state choices = Stuck
object_at (Some block) state choices = Went (with_operand (To block (pos 0)) state) choices

-- the value of an lvalue of a kind: one load of its bytes. The value of an array is its address, and a struct is not loaded
abbrev pub load_step : {E S I : Type 0} → Place → Kind → Option ℕ → Word → State E S I → List Choice → Outcome E S I
load_step place kind None at state choices = Went (with_operand at state) choices
load_step place kind (Some bytes) at state choices =
    unless_fault (access_fault state.memory at bytes) place (Went (with_operand (loaded state.memory at bytes (is_pointer kind)) state) choices)

-- a store of a value, which is the value of the assignment (C11 6.5.16p3)
abbrev pub store_step : {E S I : Type 0} → Place → Option ℕ → Word → Word → State E S I → List Choice → Outcome E S I
store_step place None at word state choices = Stuck
store_step place (Some bytes) at word state choices =
    unless_fault (access_fault state.memory at bytes) place (Went (with_operand word (with_memory (stored state.memory at bytes word) state)) choices)

-- `+=` and its like: a load, the operation, a conversion and a store (6.5.16.2p3); `++` and `--` are these with the int 1, and where they stand behind
-- their operand their value is the old one (6.5.2.4p2, 6.5.3.1p2)
abbrev pub stored_result : {E S I : Type 0} → Kind → Kind → ℕ → Word → Option Word → (Word → Word) → State E S I → List Choice → Outcome E S I
stored_result from kind bytes at None value state choices = Ended
stored_result from kind bytes at (Some result) value state choices =
    Went (with_operand (value (as_kind state.memory from kind result))
    (with_memory (stored state.memory at bytes (as_kind state.memory from kind result)) state)) choices

abbrev pub updated : {E S I : Type 0} → BinaryOp → Place → Kind → Option ℕ → Kind → Word → Word →
    (Word → Word → Word) → State E S I → List Choice → Outcome E S I
updated op place kind None right at word value state choices = Stuck
updated op place kind (Some bytes) right at word value state choices =
    unless_fault (access_fault state.memory at bytes) place
    (stored_result (kind_after op kind right) kind bytes at
    (operated state.memory op kind right (loaded state.memory at bytes (is_pointer kind)) word)
    (value (loaded state.memory at bytes (is_pointer kind))) state choices)

abbrev pub counting : Bool → BinaryOp
counting true = Add
counting false = Sub

abbrev pub counted : Bool → Word → Word → Word
counted true old new = old
counted false old new = new

-- `&&` and `||` behind their left side, whose value goes at once (6.5.13p4, 6.5.14p4)
abbrev pub and_then : {E S I : Type 0} → Bool → List (Task E S I) → State E S I → List Choice → Outcome E S I
and_then true right state choices = Went (doing right state) choices
and_then false right state choices = Went (with_operand (Plain 0) state) choices

abbrev pub or_else : {E S I : Type 0} → Bool → List (Task E S I) → State E S I → List Choice → Outcome E S I
or_else true right state choices = Went (with_operand (Plain 1) state) choices
or_else false right state choices = Went (doing right state) choices

-- an arm of `?:`, converted to its kind (6.5.15p4, p5)
abbrev pub arm : (t : Text) → Kind → t.Expr → List (TaskIn t)
arm t kind expr = ValueOf expr ∷ Convert (value_kind t expr) kind ∷ []

-- built-in functions, by the values of their arguments (7.22.3, 7.24)
abbrev pub malloc_step : {E S I : Type 0} → State E S I → List Choice → Outcome E S I
malloc_step state choices = popped state (λ size after. allocated (address_number state.memory size) false after choices)

abbrev pub calloc_step : {E S I : Type 0} → State E S I → List Choice → Outcome E S I
calloc_step state choices =
    popped state (λ size before. popped before (λ count after.
    allocated (address_number state.memory count * address_number state.memory size) true after choices))

abbrev pub free_step : {E S I : Type 0} → Place → State E S I → List Choice → Outcome E S I
free_step place state choices =
    popped state (λ word after.
    unless_fault (free_fault state.memory word) place (Went (with_operand (Plain 0) (with_memory (freed state.memory word) after)) choices))

abbrev pub memset_step : {E S I : Type 0} → Place → State E S I → List Choice → Outcome E S I
memset_step place state choices =
    popped state (λ count one. popped one (λ byte two. popped two (λ at after.
    unless_fault (range_fault state.memory at (address_number state.memory count)) place
    (Went (with_operand at
    (with_memory (filled state.memory at (address_number state.memory byte % 256) (address_number state.memory count)) after)) choices))))

abbrev pub copy_step : {E S I : Type 0} → Bool → Place → State E S I → List Choice → Outcome E S I
copy_step disjoint place state choices =
    popped state (λ count one. popped one (λ from two. popped two (λ to after.
    unless_fault (copy_fault state.memory to from (address_number state.memory count) disjoint) place
    (Went (with_operand to (with_memory (copied state.memory to from (address_number state.memory count)) after)) choices))))

abbrev pub assumed : {E S I : Type 0} → Bool → State E S I → List Choice → Outcome E S I
assumed true state choices = Went (with_operand (Plain 0) state) choices
assumed false state choices = Ended

abbrev pub built_in_step : {E S I : Type 0} → BuiltIn → Place → Kind → State E S I → List Choice → Outcome E S I
built_in_step Malloc place result state choices = malloc_step state choices
built_in_step Calloc place result state choices = calloc_step state choices
built_in_step Free place result state choices = free_step place state choices
built_in_step Memset place result state choices = memset_step place state choices
built_in_step Memcpy place result state choices = copy_step true place state choices
built_in_step Memmove place result state choices = copy_step false place state choices
built_in_step EndsRun place result state choices = Ended
built_in_step Assume place result state choices = popped state (λ word after. assumed (is_true state.memory word) after choices)
built_in_step Expect place result state choices = popped state (λ expected after. Went after choices)
built_in_step GivesInput place result state choices = received result state choices

-- the memory after the objects of a block have died together
abbrev pub without_objects : List ℕ → List Block → List Block
without_objects [] memory = memory
without_objects (block ∷ rest) memory = without_objects rest (without memory block (slice_get memory block))

-- a block is left: its objects die, then loss is looked for (6.2.4p6)
abbrev pub leave_block : {E S I : Type 0} → Frame → Place → State E S I → List Choice → Outcome E S I
leave_block [] place state choices = Stuck
leave_block (scope ∷ scopes) place state choices =
    unless_lost place (record state { frame = scopes; memory = without_objects (blocks_of scope) state.memory }) choices

-- `break` and `continue`: what the unfinished expressions hold that are left goes first, then the blocks are left, each with its look for loss (6.8.6.2,
-- 6.8.6.3)
abbrev pub leave_loop : {E S I : Type 0} → Option (LoopLeft E S I) → (LoopLeft E S I → List (Task E S I)) →
    State E S I → List Choice → Outcome E S I
leave_loop None onward state choices = Stuck
leave_loop (Some left) onward state choices =
    Went (record state { tasks = onward left; operands = oldest left.held state.operands }) choices

-- `return`: its value is converted and kept, and what the unfinished expressions hold that are left goes; then all blocks of the function are left at once
-- (6.8.6.4)
abbrev pub give_back : {E S I : Type 0} → Option (BodyLeft E S I) → Place → Kind → Word → State E S I → List Choice → Outcome E S I
give_back None word from value state choices = Stuck
give_back (Some left) word from value state choices =
    Went (record state {
      tasks = LeaveFunction word ∷ left.rest;
      operands = as_kind state.memory from left.result value ∷ oldest left.held state.operands;
    }) choices

-- the `}` of a body: main answers 0, and another function with a result any input of it (5.1.2.2.3, 6.9.1p12)
abbrev pub end_of_body : {E S I : Type 0} → Bool → Kind → Place → State E S I → List Choice → Outcome E S I
end_of_body true result close state choices = Went (doing (LeaveFunction close ∷ []) (with_operand (Plain 0) state)) choices
end_of_body false Void close state choices = Went (doing (LeaveFunction close ∷ []) (with_operand (Plain 0) state)) choices
end_of_body false result close state choices = received result (doing (LeaveFunction close ∷ []) state) choices

-- behind the return of a function its caller goes on; where there is none the run is over. Where main may not return while an allocated block lives, that
-- is a fault: without roots each such block is lost
abbrev pub returned : {E S I : Type 0} → Bool → List Frame → Place → State E S I → List Choice → Outcome E S I
returned strict [] place state choices =
    if strict then (if is_lost state.memory [] then Faulted block_never_freed place else Ended) else Ended
returned strict (frame ∷ callers) place state choices = Went (record state { frame = frame; callers = callers }) choices

abbrev pub leave_function : {E S I : Type 0} → Bool → Place → State E S I → List Choice → Outcome E S I
leave_function strict place state choices =
    if is_lost state.memory (roots state) then Faulted memory_lost place else returned strict state.callers place state choices

-- the step of each thing that is to be done, where the rest of the list stands in the state
abbrev pub step_of : (t : Text) → TaskIn t → StateIn t → List Choice → OutcomeIn t
step_of t (ValueOf expr) state choices = Went (doing (value_tasks t expr) state) choices
step_of t (AddressOf expr) state choices = Went (doing (address_tasks t expr) state) choices
step_of t (Push number) state choices = Went (with_operand (Plain number) state) choices
step_of t (ObjectAt token) state choices = object_at (block_of state token) state choices
step_of t (Shift bytes) state choices = popped state (λ word after. Went (with_operand (moved word (pos bytes)) after) choices)
step_of t (Load place kind) state choices =
    popped state (λ at after. load_step place kind (scalar_bytes kind) at after choices)
step_of t (Convert from to) state choices = popped state (λ word after. Went (with_operand (as_kind state.memory from to word) after) choices)
step_of t (Apply op kind) state choices = popped state (λ word after. or_stuck (applied state.memory op kind word) after choices)
step_of t (Operate op left right) state choices =
    popped state (λ other before. popped before (λ one after. or_ended (operated state.memory op left right one other) after choices))
step_of t (Answer holds) state choices = popped state (λ word after. Went (with_operand (told holds (is_true state.memory word)) after) choices)
step_of t (AndThen right) state choices = popped state (λ word after. and_then (is_true state.memory word) (ValueOf right ∷ Answer true ∷ []) after choices)
step_of t (OrElse right) state choices = popped state (λ word after. or_else (is_true state.memory word) (ValueOf right ∷ Answer true ∷ []) after choices)
step_of t (Pick kind one other) state choices =
    popped state (λ word after. Went (doing (if is_true state.memory word then arm t kind one else arm t kind other) after) choices)
step_of t Drop state choices = popped state (λ word after. Went after choices)
step_of t (Store place kind) state choices =
    popped state (λ word before. popped before (λ at after. store_step place (scalar_bytes kind) at word after choices))
step_of t (Update op place kind right) state choices =
    popped state (λ word before. popped before (λ at after.
    updated op place kind (scalar_bytes kind) right at word (counted false) after choices))
step_of t (CountBy up behind place kind) state choices =
    popped state (λ at after.
    updated (counting up) place kind (scalar_bytes kind) (Integer int) at (Plain 1) (counted behind) after choices)
step_of t (CopyStruct place count) state choices =
    popped state (λ from before. popped before (λ to after.
    unless_fault (copy_fault state.memory to from count false) place
    (Went (with_operand (Plain 0) (with_memory (copied state.memory to from count) after)) choices)))
step_of t (RunBuiltIn what place result) state choices = built_in_step what place result state choices
step_of t (CallDefined number) state choices = called t (slice_get t.functions number) state choices
step_of t EndRun state choices = Ended
step_of t (Finish place) state choices = popped state (λ word after. unless_lost place after choices)
step_of t (Keep place) state choices = unless_lost place state choices
step_of t (Execute stmt) state choices = Went (doing (statement_tasks t stmt (length state.operands)) state) choices
step_of t (Branch stmt) state choices =
    popped state (λ word after.
    unless_lost (branch_place t stmt) (doing (branch_tasks t stmt (length after.operands) (is_true state.memory word)) after) choices)
step_of t (Test stmt) state choices = Went (doing (test_tasks t stmt (length state.operands)) state) choices
step_of t (Again stmt held) state choices = Went (doing (again_tasks t stmt) state) choices
step_of t OpenBlock state choices = Went (record state { frame = [] ∷ state.frame }) choices
step_of t (MakeObject object) state choices = object_made object state choices
step_of t (MakeParameter object) state choices = popped state (λ word after. parameter_made object word after choices)
step_of t (MakeStatic object) state choices = static_made object state choices
step_of t (LeaveBlock place) state choices = leave_block state.frame place state choices
step_of t (Zero place count) state choices =
    popped state (λ at after.
    unless_fault (range_fault state.memory at count) place (Went (with_memory (filled state.memory at 0 count) after) choices))
step_of t (Initialise place init) state choices = Went (doing (initialiser_tasks t place init) state) choices
step_of t (BreakAt word) state choices = leave_loop (loop_left state.tasks) (after_break t word) state choices
step_of t (ContinueAt word) state choices = leave_loop (loop_left state.tasks) (after_continue word) state choices
step_of t (GiveBack word from) state choices = popped state (λ value after. give_back (body_left after.tasks) word from value after choices)
step_of t (LeaveFunction place) state choices =
    leave_function t.strict place (record state { frame = []; memory = without_objects (blocks_of (objects_of state.frame)) state.memory }) choices
step_of t (EndOfBody is_main result close held) state choices = end_of_body is_main result close state choices
step_of t Unknown state choices = Stuck

-- with nothing to do the run is over
abbrev pub step_on : (t : Text) → List (TaskIn t) → StateIn t → List Choice → OutcomeIn t
step_on t [] state choices = Ended
step_on t (task ∷ rest) state choices = step_of t task (record state { tasks = rest }) choices

abbrev pub step : (t : Text) → StateIn t → List Choice → OutcomeIn t
step t state choices = step_on t state.tasks state choices

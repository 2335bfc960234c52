-- No step lacks an operand.
use Rattle.std.proofs.Common.{◌≡◌, ℕ, suc, ◌+◌, List, [], ◌∷◌, length, Bool, true, false, refl, sym, subst, ◌∙◌, Option, None as Nothing, Some, arith}
use Rattle.std.specs.Prelude.{pos, if◌then◌else◌, not, ◌&&◌, ◌||◌, nat_eq, nat_lt, slice_get}
use Rattle.std.specs.List.{list_all}
use Rattle.std.proofs.lemmas.Option.{none-some}
use Rattle.cbase.specs.declared.place.Place.{Place}
use Rattle.cbase.specs.declared.tree.operators.BinaryOp.{BinaryOp}
use Rattle.bytes_core.specs.declared.block.BlockKind.{BlockKind}
use Rattle.bytes_core.specs.declared.block.BlockKind.TheVariants as storage
use Rattle.bytes_core.specs.declared.word.Word.{Word}
use Rattle.bytes_core.specs.declared.word.Word.TheVariants.{Plain, To}
use Rattle.bytes_core.specs.Access.{access_fault, range_fault, loaded}
use Rattle.bytes_core.specs.Copying.{copy_fault}
use Rattle.bytes_core.specs.Loss.{is_lost}
use Rattle.bytes_core.specs.Placement.{new_block, is_new_block, placed}
use Rattle.bytes_core.specs.Release.{free_fault}
use Rattle.bytes_core.specs.Value.{address_number}
use Rattle.choices.specs.declared.choice.Choice.{Choice}
use Rattle.choices.specs.declared.choice.Choice.TheVariants.{None, Block as NewBlock, Input}
use Rattle.typing.specs.ctypes.Integers.{int}
use Rattle.c_machine.specs.declared.built_in.BuiltIn.TheVariants.{Malloc, Calloc, Free, Memset, Memcpy, Memmove, EndsRun, Assume, Expect, GivesInput}
use Rattle.c_machine.specs.declared.built_in.BuiltIn.{BuiltIn}
use Rattle.c_machine.specs.declared.kind.Kind.TheVariants.{Integer, Pointer, Array, Struct, Void}
use Rattle.c_machine.specs.declared.kind.Kind.{Kind}
use Rattle.c_machine.specs.declared.task.Task.TheVariants.{ValueOf, AddressOf, Push, ObjectAt, Shift, Load, Convert, Apply, Operate, Answer, AndThen, OrElse, Pick, Drop, Store, Update, CountBy, CopyStruct, RunBuiltIn, CallDefined, EndRun, Finish, Keep, Execute, Branch, Test, Again, OpenBlock, MakeObject, MakeParameter, MakeStatic, LeaveBlock, Zero, Initialise, BreakAt, ContinueAt, GiveBack, LeaveFunction, EndOfBody, Unknown}
use Rattle.c_machine.specs.Awaiting.{TakesArguments, Changes, Leads, Parts, TaskIsIn}
use Rattle.c_machine.specs.Fitting.{Each}
use Rattle.c_machine.specs.Standing.{parts_of}
use Rattle.c_machine.specs.Calls.{called}
use Rattle.c_machine.specs.Choosing.{with_block, allocated, received, count_of}
use Rattle.c_machine.specs.Lacking.{Lacks, LacksFirst, IsNoOperandLacking}
use Rattle.c_machine.specs.State.{TaskIn, Frame, StateIn, OutcomeIn, Went, Waits, Ended, Faulted, Stuck, doing, with_operand, with_memory, popped_of, unless_fault, block_of, blocks_of, objects_of, roots}
use Rattle.c_machine.specs.Statements.{LoopLeft, loop_left, after_break, after_continue, BodyLeft, body_left, branch_place, branch_tasks}
use Rattle.c_machine.specs.Step.{unless_lost, or_ended, or_stuck, object_at, load_step, store_step, stored_result, updated, and_then, or_else, assumed, built_in_step, leave_block, leave_loop, give_back, end_of_body, returned, leave_function, without_objects, counting, counted, step_of, step_on}
use Rattle.c_machine.specs.Text.{Function, Text}
use Rattle.c_machine.specs.Trees.{text_of}
use Rattle.c_machine.specs.Words.{is_true, applied, operated, kind_after, scalar_bytes, is_pointer}

-- where this is no step of a program, so much is lacking
abbrev IfStuck : (t : Text) → Type 0 → OutcomeIn t → Type 0
IfStuck t Lacking (Went next rest) = Unit {0}
IfStuck t Lacking Waits = Unit {0}
IfStuck t Lacking Ended = Unit {0}
IfStuck t Lacking (Faulted kind place) = Unit {0}
IfStuck t Lacking Stuck = Lacking

by_test : (t : Text) (Lacking : Type 0) (one other : OutcomeIn t) (b : Bool) → IfStuck t Lacking one → IfStuck t Lacking other → IfStuck t Lacking (if b then one else other)
by_test t Lacking one other true first second = first
by_test t Lacking one other false first second = second

fault_or : (t : Text) (Lacking : Type 0) (onward : OutcomeIn t) (fault : Option ℕ) (place : Place) → IfStuck t Lacking onward → IfStuck t Lacking (unless_fault fault place onward)
fault_or t Lacking onward Nothing place goes = goes
fault_or t Lacking onward (Some kind) place goes = tt

lost_or : (t : Text) (Lacking : Type 0) (place : Place) (state : StateIn t) (choices : List Choice) → IfStuck t Lacking (unless_lost place state choices)
lost_or t Lacking place state choices = by_test t Lacking _ _ (is_lost state.memory (roots state)) tt tt

popping : (t : Text) (Lacking : Type 0) (count : ℕ) (words : List Word) (state : StateIn t) (onward : Word → StateIn t → OutcomeIn t) → length words ≡ suc count →
    ((word : Word) (rest : List Word) → length rest ≡ count → IfStuck t Lacking (onward word (record state { operands = rest }))) → IfStuck t Lacking (popped_of words state onward)
popping t Lacking count [] state onward long each = absurd (omega arith)
popping t Lacking count (word ∷ rest) state onward long each = each word rest (omega arith)

ended_or : (t : Text) (Lacking : Type 0) (word : Option Word) (state : StateIn t) (choices : List Choice) → IfStuck t Lacking (or_ended word state choices)
ended_or t Lacking Nothing state choices = tt
ended_or t Lacking (Some word) state choices = tt

stuck_or : (t : Text) (Lacking : Type 0) (found : Option Word) (state : StateIn t) (choices : List Choice) → (found ≡ Nothing → Lacking) → IfStuck t Lacking (or_stuck found state choices)
stuck_or t Lacking Nothing state choices lacks = lacks refl
stuck_or t Lacking (Some word) state choices lacks = tt

object_or : (t : Text) (Lacking : Type 0) (found : Option ℕ) (state : StateIn t) (choices : List Choice) → (found ≡ Nothing → Lacking) → IfStuck t Lacking (object_at found state choices)
object_or t Lacking Nothing state choices lacks = lacks refl
object_or t Lacking (Some block) state choices lacks = tt

loads : (t : Text) (Lacking : Type 0) (place : Place) (kind : Kind) (bytes : Option ℕ) (at : Word) (state : StateIn t) (choices : List Choice) → IfStuck t Lacking (load_step place kind bytes at state choices)
loads t Lacking place kind Nothing at state choices = tt
loads t Lacking place kind (Some bytes) at state choices = fault_or t Lacking _ (access_fault state.memory at bytes) place tt

stores : (t : Text) (Lacking : Type 0) (place : Place) (bytes : Option ℕ) (at word : Word) (state : StateIn t) (choices : List Choice) → (bytes ≡ Nothing → Lacking) →
    IfStuck t Lacking (store_step place bytes at word state choices)
stores t Lacking place Nothing at word state choices lacks = lacks refl
stores t Lacking place (Some bytes) at word state choices lacks = fault_or t Lacking _ (access_fault state.memory at bytes) place tt

results : (t : Text) (Lacking : Type 0) (from kind : Kind) (bytes : ℕ) (at : Word) (result : Option Word) (value : Word → Word) (state : StateIn t) (choices : List Choice) →
    IfStuck t Lacking (stored_result from kind bytes at result value state choices)
results t Lacking from kind bytes at Nothing value state choices = tt
results t Lacking from kind bytes at (Some result) value state choices = tt

updates : (t : Text) (Lacking : Type 0) (op : BinaryOp) (place : Place) (kind : Kind) (bytes : Option ℕ) (right : Kind) (at word : Word) (value : Word → Word → Word) (state : StateIn t) (choices : List Choice) →
    (bytes ≡ Nothing → Lacking) → IfStuck t Lacking (updated op place kind bytes right at word value state choices)
updates t Lacking op place kind Nothing right at word value state choices lacks = lacks refl
updates t Lacking op place kind (Some bytes) right at word value state choices lacks =
    fault_or t Lacking _ (access_fault state.memory at bytes) place
    (results t Lacking (kind_after op kind right) kind bytes at (operated state.memory op kind right (loaded state.memory at bytes (is_pointer kind)) word)
    (value (loaded state.memory at bytes (is_pointer kind))) state choices)

and_steps : (t : Text) (Lacking : Type 0) (holds : Bool) (right : List (TaskIn t)) (state : StateIn t) (choices : List Choice) → IfStuck t Lacking (and_then holds right state choices)
and_steps t Lacking true right state choices = tt
and_steps t Lacking false right state choices = tt

or_steps : (t : Text) (Lacking : Type 0) (holds : Bool) (right : List (TaskIn t)) (state : StateIn t) (choices : List Choice) → IfStuck t Lacking (or_else holds right state choices)
or_steps t Lacking true right state choices = tt
or_steps t Lacking false right state choices = tt

assumes : (t : Text) (Lacking : Type 0) (holds : Bool) (state : StateIn t) (choices : List Choice) → IfStuck t Lacking (assumed holds state choices)
assumes t Lacking true state choices = tt
assumes t Lacking false state choices = tt

blocks : (t : Text) (Lacking : Type 0) (kind : BlockKind) (size : ℕ) (zeroed : Bool) (state : StateIn t) (choices : List Choice) (onward : StateIn t → ℕ → List Choice → OutcomeIn t) →
    ((next : StateIn t) (block : ℕ) (left : List Choice) → IfStuck t Lacking (onward next block left)) → IfStuck t Lacking (with_block kind size zeroed state choices onward)
blocks t Lacking kind size zeroed state [] onward each = tt
blocks t Lacking kind size zeroed state (None ∷ choices) onward each = tt
blocks t Lacking kind size zeroed state (Input number ∷ choices) onward each = tt
blocks t Lacking kind size zeroed state (NewBlock base contents ∷ choices) onward each =
    by_test t Lacking _ _ (is_new_block state.memory kind size base contents && (not zeroed || list_all (nat_eq 0) contents)) (each (with_memory (placed state.memory (new_block kind base contents)) state) (length state.memory) choices) tt

receives : (t : Text) (Lacking : Type 0) (kind : Kind) (state : StateIn t) (choices : List Choice) → IfStuck t Lacking (received kind state choices)
receives t Lacking kind state [] = tt
receives t Lacking kind state (None ∷ choices) = tt
receives t Lacking kind state (NewBlock base contents ∷ choices) = tt
receives t Lacking kind state (Input number ∷ choices) = by_test t Lacking _ _ (nat_lt number (count_of kind)) tt tt

allocates : (t : Text) (Lacking : Type 0) (size : ℕ) (zeroed : Bool) (state : StateIn t) (choices : List Choice) → IfStuck t Lacking (allocated size zeroed state choices)
allocates t Lacking size zeroed state [] = tt
allocates t Lacking size zeroed state (None ∷ choices) = tt
allocates t Lacking size zeroed state (Input number ∷ choices) = tt
allocates t Lacking size zeroed state (NewBlock base contents ∷ choices) = blocks t Lacking storage.Heap size zeroed state (NewBlock base contents ∷ choices) (λ after block left. Went (with_operand (To block (pos 0)) after) left) (λ next block left. tt)

built_ins : (t : Text) (Lacking : Type 0) (base : ℕ) (what : BuiltIn) (place : Place) (result : Kind) (state : StateIn t) (choices : List Choice) (count : ℕ) → TakesArguments what count →
    length state.operands ≡ count + base → IfStuck t Lacking (built_in_step what place result state choices)
built_ins t Lacking base Malloc place result state choices count takes long = popping t Lacking base state.operands state _ (omega arith) (λ size rest one. allocates t Lacking _ false (record state { operands = rest }) choices)
built_ins t Lacking base Calloc place result state choices count takes long =
    popping t Lacking (suc base) state.operands state _ (omega arith) (λ size rest one. popping t Lacking base rest (record state { operands = rest }) _ one
    (λ other rest' two. allocates t Lacking _ true (record state { operands = rest' }) choices))
built_ins t Lacking base Free place result state choices count takes long =
    popping t Lacking base state.operands state _ (omega arith) (λ word rest one. fault_or t Lacking _ (free_fault state.memory word) place tt)
built_ins t Lacking base Memset place result state choices count takes long =
    popping t Lacking (suc (suc base)) state.operands state _ (omega arith) (λ many rest one. popping t Lacking (suc base) rest (record state { operands = rest }) _ one
    (λ byte rest' two. popping t Lacking base rest' (record state { operands = rest' }) _ two (λ at rest'' three. fault_or t Lacking _ (range_fault state.memory at (address_number state.memory many)) place tt)))
built_ins t Lacking base Memcpy place result state choices count takes long =
    popping t Lacking (suc (suc base)) state.operands state _ (omega arith) (λ many rest one. popping t Lacking (suc base) rest (record state { operands = rest }) _ one
    (λ from rest' two. popping t Lacking base rest' (record state { operands = rest' }) _ two (λ to rest'' three. fault_or t Lacking _ (copy_fault state.memory to from (address_number state.memory many) true) place tt)))
built_ins t Lacking base Memmove place result state choices count takes long =
    popping t Lacking (suc (suc base)) state.operands state _ (omega arith) (λ many rest one. popping t Lacking (suc base) rest (record state { operands = rest }) _ one
    (λ from rest' two. popping t Lacking base rest' (record state { operands = rest' }) _ two (λ to rest'' three. fault_or t Lacking _ (copy_fault state.memory to from (address_number state.memory many) false) place tt)))
built_ins t Lacking base EndsRun place result state choices count takes long = tt
built_ins t Lacking base Assume place result state choices count takes long =
    popping t Lacking base state.operands state _ (omega arith) (λ word rest one. assumes t Lacking (is_true state.memory word) (record state { operands = rest }) choices)
built_ins t Lacking base Expect place result state choices count takes long = popping t Lacking (suc base) state.operands state _ (omega arith) (λ expected rest one. tt)
built_ins t Lacking base GivesInput place result state choices count takes long = receives t Lacking result state choices

calls : (t : Text) (Lacking : Type 0) (function : Option (Function t.Stmt)) (state : StateIn t) (choices : List Choice) → (function ≡ Nothing → Lacking) → IfStuck t Lacking (called t function state choices)
calls t Lacking Nothing state choices lacks = lacks refl
calls t Lacking (Some function) state choices lacks = tt

block_left : (t : Text) (Lacking : Type 0) (frame : Frame) (place : Place) (state : StateIn t) (choices : List Choice) → (frame ≡ [] → Lacking) → IfStuck t Lacking (leave_block frame place state choices)
block_left t Lacking [] place state choices lacks = lacks refl
block_left t Lacking (scope ∷ scopes) place state choices lacks = lost_or t Lacking place (record state { frame = scopes; memory = without_objects (blocks_of scope) state.memory }) choices

loop_is_left : (t : Text) (Lacking : Type 0) (left : Option (LoopLeft t.Expr t.Stmt t.Init)) (onward : LoopLeft t.Expr t.Stmt t.Init → List (TaskIn t)) (state : StateIn t) (choices : List Choice) →
    (left ≡ Nothing → Lacking) → IfStuck t Lacking (leave_loop left onward state choices)
loop_is_left t Lacking Nothing onward state choices lacks = lacks refl
loop_is_left t Lacking (Some left) onward state choices lacks = tt

given_back : (t : Text) (Lacking : Type 0) (left : Option (BodyLeft t.Expr t.Stmt t.Init)) (word : Place) (from : Kind) (value : Word) (state : StateIn t) (choices : List Choice) → (left ≡ Nothing → Lacking) →
    IfStuck t Lacking (give_back left word from value state choices)
given_back t Lacking Nothing word from value state choices lacks = lacks refl
given_back t Lacking (Some left) word from value state choices lacks = tt

body_ends : (t : Text) (Lacking : Type 0) (is_main : Bool) (result : Kind) (close : Place) (state : StateIn t) (choices : List Choice) → IfStuck t Lacking (end_of_body is_main result close state choices)
body_ends t Lacking true result close state choices = tt
body_ends t Lacking false Void close state choices = tt
body_ends t Lacking false (Integer of) close state choices = receives t Lacking (Integer of) (doing (LeaveFunction close ∷ []) state) choices
body_ends t Lacking false (Pointer bytes) close state choices = receives t Lacking (Pointer bytes) (doing (LeaveFunction close ∷ []) state) choices
body_ends t Lacking false (Array bytes) close state choices = receives t Lacking (Array bytes) (doing (LeaveFunction close ∷ []) state) choices
body_ends t Lacking false (Struct bytes) close state choices = receives t Lacking (Struct bytes) (doing (LeaveFunction close ∷ []) state) choices

returns : (t : Text) (Lacking : Type 0) (strict : Bool) (callers : List Frame) (place : Place) (state : StateIn t) (choices : List Choice) → IfStuck t Lacking (returned strict callers place state choices)
returns t Lacking strict [] place state choices = by_test t Lacking _ _ strict (by_test t Lacking _ _ (is_lost state.memory []) tt tt) tt
returns t Lacking strict (frame ∷ callers) place state choices = tt

function_left : (t : Text) (Lacking : Type 0) (strict : Bool) (place : Place) (state : StateIn t) (choices : List Choice) → IfStuck t Lacking (leave_function strict place state choices)
function_left t Lacking strict place state choices = by_test t Lacking _ _ (is_lost state.memory (roots state)) tt (returns t Lacking strict state.callers place state choices)

lacks_on : (t : Text) (parts : Parts t) (low mid : ℕ) (task : TaskIn t) (state : StateIn t) (choices : List Choice) → TaskIsIn t parts task → Changes t task (length state.operands) low mid → IfStuck t (Lacks t task state) (step_of t task state choices)
lacks_on t parts low mid (ValueOf expr) state choices is (before, after) = tt
lacks_on t parts low mid (AddressOf expr) state choices is (before, after) = tt
lacks_on t parts low mid (Push number) state choices is (before, after) = tt
lacks_on t parts low mid (ObjectAt token) state choices is (before, after) = object_or t _ (block_of state token) state choices (λ none. none)
lacks_on t parts low mid (Shift bytes) state choices is (before, after) = popping t _ low state.operands state _ (omega arith) (λ word rest one. tt)
lacks_on t parts low mid (Load place kind) state choices is (before, after) =
    popping t _ low state.operands state _ (omega arith) (λ at rest one. loads t _ place kind (scalar_bytes kind) at (record state { operands = rest }) choices)
lacks_on t parts low mid (Convert from to) state choices is (before, after) = popping t _ low state.operands state _ (omega arith) (λ word rest one. tt)
lacks_on t parts low mid (Apply op kind) state choices is (before, after) =
    popping t _ low state.operands state _ (omega arith) (λ word rest one. stuck_or t _ (applied state.memory op kind word) (record state { operands = rest }) choices (λ none. (word, none)))
lacks_on t parts low mid (Operate op first second) state choices is (before, after) =
    popping t _ (suc low) state.operands state _ (omega arith) (λ other rest one. popping t _ low rest (record state { operands = rest }) _ one
    (λ word rest' two. ended_or t _ (operated state.memory op first second word other) (record state { operands = rest' }) choices))
lacks_on t parts low mid (Answer holds) state choices is (before, after) = popping t _ low state.operands state _ (omega arith) (λ word rest one. tt)
lacks_on t parts low mid (AndThen right) state choices is (before, after) =
    popping t _ low state.operands state _ (omega arith) (λ word rest one. and_steps t _ (is_true state.memory word) (ValueOf right ∷ Answer true ∷ []) (record state { operands = rest }) choices)
lacks_on t parts low mid (OrElse right) state choices is (before, after) =
    popping t _ low state.operands state _ (omega arith) (λ word rest one. or_steps t _ (is_true state.memory word) (ValueOf right ∷ Answer true ∷ []) (record state { operands = rest }) choices)
lacks_on t parts low mid (Pick kind first second) state choices is (before, after) = popping t _ low state.operands state _ (omega arith) (λ word rest one. tt)
lacks_on t parts low mid Drop state choices is (before, after) = popping t _ low state.operands state _ (omega arith) (λ word rest one. tt)
lacks_on t parts low mid (Store place kind) state choices is (before, after) =
    popping t _ (suc low) state.operands state _ (omega arith) (λ word rest one. popping t _ low rest (record state { operands = rest }) _ one
    (λ at rest' two. stores t _ place (scalar_bytes kind) at word (record state { operands = rest' }) choices (λ none. none)))
lacks_on t parts low mid (Update op place kind right) state choices is (before, after) =
    popping t _ (suc low) state.operands state _ (omega arith) (λ word rest one. popping t _ low rest (record state { operands = rest }) _ one
    (λ at rest' two. updates t _ op place kind (scalar_bytes kind) right at word (counted false) (record state { operands = rest' }) choices (λ none. none)))
lacks_on t parts low mid (CountBy up behind place kind) state choices is (before, after) =
    popping t _ low state.operands state _ (omega arith) (λ at rest one. updates t _ (counting up) place kind (scalar_bytes kind) (Integer int) at (Plain 1) (counted behind) (record state { operands = rest }) choices (λ none. none))
lacks_on t parts low mid (CopyStruct place count) state choices is (before, after) =
    popping t _ (suc low) state.operands state _ (omega arith) (λ from rest one. popping t _ low rest (record state { operands = rest }) _ one
    (λ to rest' two. fault_or t _ _ (copy_fault state.memory to from count false) place tt))
lacks_on t parts low mid (RunBuiltIn what place result) state choices is (count, takes, before, after) = built_ins t _ low what place result state choices count takes before
lacks_on t parts low mid (CallDefined number) state choices is (before, after) = calls t _ (slice_get t.functions number) state choices (λ none. absurd (none-some is.0 (sym none ∙ is.1)))
lacks_on t parts low mid EndRun state choices is (before, after) = tt
lacks_on t parts low mid (Finish place) state choices is (before, after) = popping t _ low state.operands state _ (omega arith) (λ word rest one. lost_or t _ place (record state { operands = rest }) choices)
lacks_on t parts low mid (Keep place) state choices is (before, after) = lost_or t _ place state choices
lacks_on t parts low mid (Execute stmt) state choices is (before, after) = tt
lacks_on t parts low mid (Branch stmt) state choices is (before, after) = popping t _ low state.operands state _ (omega arith) (λ word rest one. lost_or t _ (branch_place t stmt) (doing (branch_tasks t stmt (length rest) (is_true state.memory word)) (record state { operands = rest })) choices)
lacks_on t parts low mid (Test stmt) state choices is (before, after) = tt
lacks_on t parts low mid (Again stmt held) state choices is changes = tt
lacks_on t parts low mid OpenBlock state choices is (before, after) = tt
lacks_on t parts low mid (MakeObject object) state choices is (before, after) = blocks t _ storage.Local object.bytes false state choices _ (λ next block left. tt)
lacks_on t parts low mid (MakeParameter object) state choices is (before, after) =
    popping t _ low state.operands state _ (omega arith) (λ word rest one. blocks t _ storage.Local object.bytes false (record state { operands = rest }) choices _ (λ next block left. tt))
lacks_on t parts low mid (MakeStatic object) state choices is (before, after) = blocks t _ storage.Static object.bytes true state choices _ (λ next block left. tt)
lacks_on t parts low mid (LeaveBlock place) state choices is (before, after) = block_left t _ state.frame place state choices (λ none. none)
lacks_on t parts low mid (Zero place count) state choices is (before, after) = popping t _ low state.operands state _ (omega arith) (λ at rest one. fault_or t _ _ (range_fault state.memory at count) place tt)
lacks_on t parts low mid (Initialise place init) state choices is (before, after) = tt
lacks_on t parts low mid (BreakAt word) state choices is (before, after) = loop_is_left t _ (loop_left state.tasks) (after_break t word) state choices (λ none. none)
lacks_on t parts low mid (ContinueAt word) state choices is (before, after) = loop_is_left t _ (loop_left state.tasks) (after_continue word) state choices (λ none. none)
lacks_on t parts low mid (GiveBack word from) state choices is (before, after) =
    popping t _ low state.operands state _ (omega arith) (λ value rest one. given_back t _ (body_left state.tasks) word from value (record state { operands = rest }) choices (λ none. none))
lacks_on t parts low mid (LeaveFunction place) state choices is (before, after) = function_left t _ t.strict place (record state { frame = []; memory = without_objects (blocks_of (objects_of state.frame)) state.memory }) choices
lacks_on t parts low mid (EndOfBody is_main result close held) state choices is changes = body_ends t _ is_main result close state choices
lacks_on t parts low mid Unknown state choices is changes = tt

lacks_first : (t : Text) (parts : Parts t) (end : ℕ) (tasks : List (TaskIn t)) (state : StateIn t) (choices : List Choice) → Each (TaskIsIn t parts) tasks → Leads t 0 (length state.operands) tasks end → IfStuck t (LacksFirst t tasks state) (step_on t tasks state choices)
lacks_first t parts end [] state choices are leads = tt
lacks_first t parts end (task ∷ rest) state choices are (low, mid, changes, enough, hold, later) = lacks_on t parts low mid task (record state { tasks = rest }) choices are.0 changes

pub no_operand_lacks : IsNoOperandLacking
no_operand_lacks p state choices is stuck =
    subst (IfStuck (text_of p) (LacksFirst (text_of p) state.tasks state)) stuck (lacks_first (text_of p) (parts_of p) 1 state.tasks state choices is.awaits.tasks is.awaits.operands)

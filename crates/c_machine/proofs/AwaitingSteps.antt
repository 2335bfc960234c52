-- Each step keeps that an operand stands for each value that is awaited.
use Rattle.std.proofs.Common.{◌≡◌, ℕ, zero, suc, ◌+◌, ◌-◌, ◌*◌, ◌≤◌, ◌%◌, List, [], ◌∷◌, ◌++◌, length, take, drop, reverse, Bool, true, false, refl, sym, ap, subst, ◌∙◌, Option, None as Nothing, Some, arith}
use Rattle.std.specs.Prelude.{pos, if◌then◌else◌, not, ◌&&◌, ◌||◌, nat_eq, nat_lt, option_map, slice_get}
use Rattle.std.specs.List.{list_all}
use Rattle.std.specs.Option.{option_map_or}
use Rattle.std.proofs.lemmas.List.{length-append, length-drop, length-take, length-reverse}
use Rattle.cbase.specs.declared.place.Place.{Place}
use Rattle.cbase.specs.declared.tree.operators.BinaryOp.{BinaryOp}
use Rattle.bytes_core.specs.declared.block.BlockKind.{BlockKind}
use Rattle.bytes_core.specs.declared.block.BlockKind.TheVariants as storage
use Rattle.bytes_core.specs.declared.word.Word.{Word}
use Rattle.bytes_core.specs.declared.word.Word.TheVariants.{Plain, To}
use Rattle.bytes_core.specs.Access.{access_fault, range_fault, loaded, stored, filled}
use Rattle.bytes_core.specs.Copying.{copy_fault, copied}
use Rattle.bytes_core.specs.Loss.{is_lost}
use Rattle.bytes_core.specs.Placement.{new_block, is_new_block, placed}
use Rattle.bytes_core.specs.Release.{free_fault, freed}
use Rattle.bytes_core.specs.Value.{address_number, moved}
use Rattle.choices.specs.declared.choice.Choice.{Choice}
use Rattle.choices.specs.declared.choice.Choice.TheVariants.{None, Block as NewBlock, Input}
use Rattle.typing.specs.ctypes.Integers.{int}
use Rattle.c_machine.specs.declared.built_in.BuiltIn.TheVariants.{Malloc, Calloc, Free, Memset, Memcpy, Memmove, EndsRun, Assume, Expect, GivesInput}
use Rattle.c_machine.specs.declared.built_in.BuiltIn.{BuiltIn}
use Rattle.c_machine.specs.declared.kind.Kind.TheVariants.{Integer, Pointer, Array, Struct, Void}
use Rattle.c_machine.specs.declared.kind.Kind.{Kind}
use Rattle.c_machine.specs.declared.task.Task.TheVariants.{ValueOf, AddressOf, Push, ObjectAt, Shift, Load, Convert, Apply, Operate, Answer, AndThen, OrElse, Pick, Drop, Store, Update, CountBy, CopyStruct, RunBuiltIn, CallDefined, EndRun, Finish, Keep, Execute, Branch, Test, Again, OpenBlock, MakeObject, MakeParameter, MakeStatic, LeaveBlock, Zero, Initialise, BreakAt, ContinueAt, GiveBack, LeaveFunction, EndOfBody, Unknown}
use Rattle.c_machine.specs.Awaiting.{TakesArguments, count_of_parameters, takes, Changes, HoldAtMost, Leads, Parts, AreParts, TaskIsIn, IsAwaiting}
use Rattle.c_machine.specs.Calls.{called, function_tasks}
use Rattle.c_machine.specs.Choosing.{with_block, allocated, received, count_of}
use Rattle.c_machine.specs.Fitting.{Each, IfThere}
use Rattle.c_machine.specs.State.{TaskIn, Frame, StateIn, OutcomeIn, Went, Waits, Ended, Faulted, Stuck, doing, with_operand, with_memory, popped_of, unless_fault, block_of, blocks_of, objects_of, roots}
use Rattle.c_machine.specs.Statements.{LoopLeft, loop_left, one_more, leaves, behind_for, behind_loop, after_break, after_continue, BodyLeft, body_left, oldest, branch_place, branch_tasks, statement_tasks, test_tasks, again_tasks}
use Rattle.c_machine.specs.Step.{unless_lost, or_ended, or_stuck, object_at, load_step, store_step, stored_result, updated, and_then, or_else, arm, assumed, built_in_step, leave_block, leave_loop, give_back, end_of_body, returned, leave_function, without_objects, counting, counted, step, step_of, step_on}
use Rattle.c_machine.specs.Blocks.{initialiser_tasks}
use Rattle.c_machine.specs.Expressions.{value_kind, value_tasks, address_tasks}
use Rattle.c_machine.specs.Text.{Clause, For, Function, Text}
use Rattle.c_machine.specs.Words.{is_true, told, as_kind, applied, operated, kind_after, scalar_bytes, is_pointer}
use Rattle.c_machine.proofs.FittingTasks.{each_both, each_get}
use Rattle.c_machine.proofs.AwaitingParts.{addresses_in, initialisers_in, function_in, values_in, statements_in, tests_in, turns_in, branches_in}
use Rattle.c_machine.proofs.AwaitingTasks.{hold_more, leads_both, Part, plain_part, addresses, initialisers, functions_part, values, statements, tests, turns, branches}

-- where a step goes on, it is to a state of which this holds
abbrev pub LeavesAwaiting : (t : Text) (parts : Parts t) (end : ℕ) → OutcomeIn t → Type 0
LeavesAwaiting t parts end (Went next rest) = IsAwaiting t parts end next
LeavesAwaiting t parts end Waits = Unit {0}
LeavesAwaiting t parts end Ended = Unit {0}
LeavesAwaiting t parts end (Faulted kind place) = Unit {0}
LeavesAwaiting t parts end Stuck = Unit {0}

by_test : (t : Text) (parts : Parts t) (end : ℕ) (one other : OutcomeIn t) (b : Bool) → LeavesAwaiting t parts end one → LeavesAwaiting t parts end other →
    LeavesAwaiting t parts end (if b then one else other)
by_test t parts end one other true first second = first
by_test t parts end one other false first second = second

fault_or : (t : Text) (parts : Parts t) (end : ℕ) (onward : OutcomeIn t) (fault : Option ℕ) (place : Place) → LeavesAwaiting t parts end onward → LeavesAwaiting t parts end (unless_fault fault place onward)
fault_or t parts end onward Nothing place goes = goes
fault_or t parts end onward (Some kind) place goes = tt

lost_or : (t : Text) (parts : Parts t) (end : ℕ) (place : Place) (state : StateIn t) (choices : List Choice) → IsAwaiting t parts end state → LeavesAwaiting t parts end (unless_lost place state choices)
lost_or t parts end place state choices is = by_test t parts end _ _ (is_lost state.memory (roots state)) tt is

-- the operands that are taken are there
popping : (t : Text) (parts : Parts t) (end count : ℕ) (words : List Word) (state : StateIn t) (onward : Word → StateIn t → OutcomeIn t) → length words ≡ suc count →
    ((word : Word) (rest : List Word) → length rest ≡ count → LeavesAwaiting t parts end (onward word (record state { operands = rest }))) → LeavesAwaiting t parts end (popped_of words state onward)
popping t parts end count [] state onward long each = absurd (omega arith)
popping t parts end count (word ∷ rest) state onward long each = each word rest (omega arith)

-- what is left to do, where so many operands stand
pub record Left (t : Text) (parts : Parts t) (end mid : ℕ) (rest : List (TaskIn t)) : Type 0 where
  pub tasks : Each (TaskIsIn t parts) rest
  pub operands : Leads t 0 mid rest end

stands : (t : Text) (parts : Parts t) (end mid : ℕ) (state : StateIn t) → Left t parts end mid state.tasks → mid ≡ length state.operands → IsAwaiting t parts end state
stands t parts end mid state left same = record { tasks = left.tasks; operands = subst (λ (n : ℕ). Leads t 0 n state.tasks end) same left.operands }

-- with more to do first
begun : (t : Text) (parts : Parts t) (end base given : ℕ) (first : List (TaskIn t)) (state : StateIn t) → Each (TaskIsIn t parts) first → Part t base 0 first given → HoldAtMost t base state.tasks →
    Left t parts end (given + base) state.tasks → base ≡ length state.operands → IsAwaiting t parts end (doing first state)
begun t parts end base given first state are part hold left same = record {
  tasks = each_both (TaskIsIn t parts) first state.tasks are left.tasks;
  operands = subst (λ (n : ℕ). Leads t 0 n (first ++ state.tasks) end) same (leads_both t 0 base base (given + base) end first state.tasks (omega arith) hold
      (subst (λ (n : ℕ). Leads t base n first (given + base)) (omega arith) part.0) left.operands);
}

-- a value, if there is one
ended_or : (t : Text) (parts : Parts t) (end mid : ℕ) (word : Option Word) (state : StateIn t) (choices : List Choice) → Left t parts end mid state.tasks → mid ≡ suc (length state.operands) →
    LeavesAwaiting t parts end (or_ended word state choices)
ended_or t parts end mid Nothing state choices left same = tt
ended_or t parts end mid (Some word) state choices left same = stands t parts end mid (with_operand word state) left same

stuck_or : (t : Text) (parts : Parts t) (end mid : ℕ) (word : Option Word) (state : StateIn t) (choices : List Choice) → Left t parts end mid state.tasks → mid ≡ suc (length state.operands) →
    LeavesAwaiting t parts end (or_stuck word state choices)
stuck_or t parts end mid Nothing state choices left same = tt
stuck_or t parts end mid (Some word) state choices left same = stands t parts end mid (with_operand word state) left same

object_or : (t : Text) (parts : Parts t) (end mid : ℕ) (found : Option ℕ) (state : StateIn t) (choices : List Choice) → Left t parts end mid state.tasks → mid ≡ suc (length state.operands) →
    LeavesAwaiting t parts end (object_at found state choices)
object_or t parts end mid Nothing state choices left same = tt
object_or t parts end mid (Some block) state choices left same = stands t parts end mid (with_operand (To block (pos 0)) state) left same

-- loads and stores
loads : (t : Text) (parts : Parts t) (end mid : ℕ) (place : Place) (kind : Kind) (bytes : Option ℕ) (at : Word) (state : StateIn t) (choices : List Choice) → Left t parts end mid state.tasks →
    mid ≡ suc (length state.operands) → LeavesAwaiting t parts end (load_step place kind bytes at state choices)
loads t parts end mid place kind Nothing at state choices left same = stands t parts end mid (with_operand at state) left same
loads t parts end mid place kind (Some bytes) at state choices left same =
    fault_or t parts end _ (access_fault state.memory at bytes) place (stands t parts end mid (with_operand (loaded state.memory at bytes (is_pointer kind)) state) left same)

stores : (t : Text) (parts : Parts t) (end mid : ℕ) (place : Place) (bytes : Option ℕ) (at word : Word) (state : StateIn t) (choices : List Choice) → Left t parts end mid state.tasks →
    mid ≡ suc (length state.operands) → LeavesAwaiting t parts end (store_step place bytes at word state choices)
stores t parts end mid place Nothing at word state choices left same = tt
stores t parts end mid place (Some bytes) at word state choices left same =
    fault_or t parts end _ (access_fault state.memory at bytes) place (stands t parts end mid (with_operand word (with_memory (stored state.memory at bytes word) state)) left same)

results : (t : Text) (parts : Parts t) (end mid : ℕ) (from kind : Kind) (bytes : ℕ) (at : Word) (result : Option Word) (value : Word → Word) (state : StateIn t) (choices : List Choice) →
    Left t parts end mid state.tasks → mid ≡ suc (length state.operands) → LeavesAwaiting t parts end (stored_result from kind bytes at result value state choices)
results t parts end mid from kind bytes at Nothing value state choices left same = tt
results t parts end mid from kind bytes at (Some result) value state choices left same = record { tasks = left.tasks; operands = subst (λ (n : ℕ). Leads t 0 n state.tasks end) same left.operands }

updates : (t : Text) (parts : Parts t) (end mid : ℕ) (op : BinaryOp) (place : Place) (kind : Kind) (bytes : Option ℕ) (right : Kind) (at word : Word) (value : Word → Word → Word) (state : StateIn t)
    (choices : List Choice) → Left t parts end mid state.tasks → mid ≡ suc (length state.operands) → LeavesAwaiting t parts end (updated op place kind bytes right at word value state choices)
updates t parts end mid op place kind Nothing right at word value state choices left same = tt
updates t parts end mid op place kind (Some bytes) right at word value state choices left same =
    fault_or t parts end _ (access_fault state.memory at bytes) place
    (results t parts end mid (kind_after op kind right) kind bytes at (operated state.memory op kind right (loaded state.memory at bytes (is_pointer kind)) word)
    (value (loaded state.memory at bytes (is_pointer kind))) state choices left same)

-- `&&` and `||`
right_part : (t : Text) (base : ℕ) (right : t.Expr) → Part t base 0 (ValueOf right ∷ Answer true ∷ []) 1
right_part t base right = plain_part t base 0 1 (ValueOf right ∷ Answer true ∷ []) refl

and_steps : (t : Text) (parts : Parts t) (end base : ℕ) (holds : Bool) (right : t.Expr) (state : StateIn t) (choices : List Choice) → parts.expr right → HoldAtMost t base state.tasks →
    Left t parts end (1 + base) state.tasks → base ≡ length state.operands → LeavesAwaiting t parts end (and_then holds (ValueOf right ∷ Answer true ∷ []) state choices)
and_steps t parts end base true right state choices is hold left same = begun t parts end base 1 (ValueOf right ∷ Answer true ∷ []) state (is, (tt, tt)) (right_part t base right) hold left same
and_steps t parts end base false right state choices is hold left same = stands t parts end (1 + base) (with_operand (Plain 0) state) left (omega arith)

or_steps : (t : Text) (parts : Parts t) (end base : ℕ) (holds : Bool) (right : t.Expr) (state : StateIn t) (choices : List Choice) → parts.expr right → HoldAtMost t base state.tasks →
    Left t parts end (1 + base) state.tasks → base ≡ length state.operands → LeavesAwaiting t parts end (or_else holds (ValueOf right ∷ Answer true ∷ []) state choices)
or_steps t parts end base true right state choices is hold left same = stands t parts end (1 + base) (with_operand (Plain 1) state) left (omega arith)
or_steps t parts end base false right state choices is hold left same = begun t parts end base 1 (ValueOf right ∷ Answer true ∷ []) state (is, (tt, tt)) (right_part t base right) hold left same

assumes : (t : Text) (parts : Parts t) (end mid : ℕ) (holds : Bool) (state : StateIn t) (choices : List Choice) → Left t parts end mid state.tasks → mid ≡ suc (length state.operands) →
    LeavesAwaiting t parts end (assumed holds state choices)
assumes t parts end mid true state choices left same = stands t parts end mid (with_operand (Plain 0) state) left same
assumes t parts end mid false state choices left same = tt

-- choices
blocks : (t : Text) (parts : Parts t) (end : ℕ) (kind : BlockKind) (size : ℕ) (zeroed : Bool) (state : StateIn t) (choices : List Choice) (onward : StateIn t → ℕ → List Choice → OutcomeIn t) →
    ((base : ℕ) (contents : List ℕ) (left : List Choice) →
    LeavesAwaiting t parts end (onward (with_memory (placed state.memory (new_block kind base contents)) state) (length state.memory) left)) →
    LeavesAwaiting t parts end (with_block kind size zeroed state choices onward)
blocks t parts end kind size zeroed state [] onward each = tt
blocks t parts end kind size zeroed state (None ∷ choices) onward each = tt
blocks t parts end kind size zeroed state (Input number ∷ choices) onward each = tt
blocks t parts end kind size zeroed state (NewBlock base contents ∷ choices) onward each =
    by_test t parts end _ _ (is_new_block state.memory kind size base contents && (not zeroed || list_all (nat_eq 0) contents)) (each base contents choices) tt

receives : (t : Text) (parts : Parts t) (end mid : ℕ) (kind : Kind) (state : StateIn t) (choices : List Choice) → Left t parts end mid state.tasks → mid ≡ suc (length state.operands) →
    LeavesAwaiting t parts end (received kind state choices)
receives t parts end mid kind state [] left same = tt
receives t parts end mid kind state (None ∷ choices) left same = tt
receives t parts end mid kind state (NewBlock base contents ∷ choices) left same = tt
receives t parts end mid kind state (Input number ∷ choices) left same =
    by_test t parts end _ _ (nat_lt number (count_of kind)) (stands t parts end mid (with_operand (Plain number) state) left same) tt

allocates : (t : Text) (parts : Parts t) (end mid : ℕ) (size : ℕ) (zeroed : Bool) (state : StateIn t) (choices : List Choice) → Left t parts end mid state.tasks → mid ≡ suc (length state.operands) →
    LeavesAwaiting t parts end (allocated size zeroed state choices)
allocates t parts end mid size zeroed state [] left same = tt
allocates t parts end mid size zeroed state (None ∷ choices) left same = stands t parts end mid (with_operand (Plain 0) state) left same
allocates t parts end mid size zeroed state (Input number ∷ choices) left same = tt
allocates t parts end mid size zeroed state (NewBlock base contents ∷ choices) left same =
    blocks t parts end storage.Heap size zeroed state (NewBlock base contents ∷ choices) (λ after block others. Went (with_operand (To block (pos 0)) after) others)
    (λ base' contents' others. stands t parts end mid (with_operand (To (length state.memory) (pos 0)) (with_memory (placed state.memory (new_block storage.Heap base' contents')) state)) left same)

-- built-in functions
built_in_steps : (t : Text) (parts : Parts t) (end base : ℕ) (what : BuiltIn) (place : Place) (result : Kind) (state : StateIn t) (choices : List Choice) (count : ℕ) → TakesArguments what count →
    length state.operands ≡ count + base → Left t parts end (suc base) state.tasks → LeavesAwaiting t parts end (built_in_step what place result state choices)
built_in_steps t parts end base Malloc place result state choices count takes long left =
    popping t parts end base state.operands state _ (omega arith) (λ size rest one.
    allocates t parts end (suc base) (address_number state.memory size) false (record state { operands = rest }) choices left (omega arith))
built_in_steps t parts end base Calloc place result state choices count takes long left =
    popping t parts end (suc base) state.operands state _ (omega arith) (λ size rest one. popping t parts end base rest (record state { operands = rest }) _ one
    (λ other rest' two. allocates t parts end (suc base) (address_number state.memory other * address_number state.memory size) true (record state { operands = rest' }) choices left (omega arith)))
built_in_steps t parts end base Free place result state choices count takes long left =
    popping t parts end base state.operands state _ (omega arith) (λ word rest one. fault_or t parts end _ (free_fault state.memory word) place
    (stands t parts end (suc base) (with_operand (Plain 0) (with_memory (freed state.memory word) (record state { operands = rest }))) left (omega arith)))
built_in_steps t parts end base Memset place result state choices count takes long left =
    popping t parts end (suc (suc base)) state.operands state _ (omega arith) (λ many rest one. popping t parts end (suc base) rest (record state { operands = rest }) _ one
    (λ byte rest' two. popping t parts end base rest' (record state { operands = rest' }) _ two
    (λ at rest'' three. fault_or t parts end _ (range_fault state.memory at (address_number state.memory many)) place
    (stands t parts end (suc base) (with_operand at (with_memory (filled state.memory at (address_number state.memory byte % 256) (address_number state.memory many)) (record state { operands = rest'' }))) left (omega arith)))))
built_in_steps t parts end base Memcpy place result state choices count takes long left =
    popping t parts end (suc (suc base)) state.operands state _ (omega arith) (λ many rest one. popping t parts end (suc base) rest (record state { operands = rest }) _ one
    (λ from rest' two. popping t parts end base rest' (record state { operands = rest' }) _ two
    (λ to rest'' three. fault_or t parts end _ (copy_fault state.memory to from (address_number state.memory many) true) place
    (stands t parts end (suc base) (with_operand to (with_memory (copied state.memory to from (address_number state.memory many)) (record state { operands = rest'' }))) left (omega arith)))))
built_in_steps t parts end base Memmove place result state choices count takes long left =
    popping t parts end (suc (suc base)) state.operands state _ (omega arith) (λ many rest one. popping t parts end (suc base) rest (record state { operands = rest }) _ one
    (λ from rest' two. popping t parts end base rest' (record state { operands = rest' }) _ two
    (λ to rest'' three. fault_or t parts end _ (copy_fault state.memory to from (address_number state.memory many) false) place
    (stands t parts end (suc base) (with_operand to (with_memory (copied state.memory to from (address_number state.memory many)) (record state { operands = rest'' }))) left (omega arith)))))
built_in_steps t parts end base EndsRun place result state choices count takes long left = tt
built_in_steps t parts end base Assume place result state choices count takes long left =
    popping t parts end base state.operands state _ (omega arith) (λ word rest one. assumes t parts end (suc base) (is_true state.memory word) (record state { operands = rest }) choices left (omega arith))
built_in_steps t parts end base Expect place result state choices count takes long left =
    popping t parts end (suc base) state.operands state _ (omega arith) (λ expected rest one. stands t parts end (suc base) (record state { operands = rest }) left (omega arith))
built_in_steps t parts end base GivesInput place result state choices count takes long left = receives t parts end (suc base) result state choices left (omega arith)

-- calls
turned_length : (count : ℕ) (words : List Word) → length (reverse (take count words) ++ drop count words) ≡ length words
turned_length count words =
    length-append (reverse (take count words)) (drop count words) ∙ omega (arith, length-reverse (take count words), length-take count words, length-drop count words)

calls : (t : Text) (parts : Parts t) → AreParts t parts → (end base number : ℕ) (function : Option (Function t.Stmt)) (state : StateIn t) (choices : List Choice) → slice_get t.functions number ≡ function →
    IfThere (λ function. Each parts.stmt function.body) function → length state.operands ≡ count_of_parameters t number + base → HoldAtMost t base state.tasks → Left t parts end (1 + base) state.tasks →
    LeavesAwaiting t parts end (called t function state choices)
calls t parts all end base number Nothing state choices found body long hold left = tt
calls t parts all end base number (Some function) state choices found body long hold left =
    let params : ℕ = length function.params in
    let count : count_of_parameters t number ≡ params = ap (λ (found : Option (Function t.Stmt)). option_map_or (λ (function : Function t.Stmt). length function.params) found 0) found in
    let held : ℕ = length (drop params state.operands) in
    let same : base ≡ held = omega (arith, length-drop params state.operands) in
    let tasks : List (TaskIn t) = function_tasks t function held in
    let whole : Leads t 0 (params + base) (function_tasks t function base ++ state.tasks) end =
    leads_both t 0 base (params + base) (1 + base) end (function_tasks t function base) state.tasks (omega arith) hold (functions_part t base function).0 left.operands in
    let there : Leads t 0 (params + base) (tasks ++ state.tasks) end = subst (λ (n : ℕ). Leads t 0 (params + base) (function_tasks t function n ++ state.tasks) end) same whole in
    record {
      tasks = each_both (TaskIsIn t parts) tasks state.tasks (function_in t parts function held body) left.tasks;
      operands = subst (λ (n : ℕ). Leads t 0 n (tasks ++ state.tasks) end) (omega (arith, turned_length params state.operands)) there;
    }

-- ends of blocks and loops
leaves_block : (t : Text) (parts : Parts t) (end mid : ℕ) (frame : Frame) (place : Place) (state : StateIn t) (choices : List Choice) → Left t parts end mid state.tasks → mid ≡ length state.operands →
    LeavesAwaiting t parts end (leave_block frame place state choices)
leaves_block t parts end mid [] place state choices left same = tt
leaves_block t parts end mid (scope ∷ scopes) place state choices left same =
    lost_or t parts end place (record state { frame = scopes; memory = without_objects (blocks_of scope) state.memory }) choices
    (stands t parts end mid (record state { frame = scopes; memory = without_objects (blocks_of scope) state.memory }) left same)

-- what stands behind a loop finds as many operands as the unfinished expressions around it hold
pub record BehindLoop (t : Text) (parts : Parts t) (end most : ℕ) (left : LoopLeft t.Expr t.Stmt t.Init) : Type 0 where
  pub loop : parts.stmt left.loop
  pub fewer : left.held ≤ most
  pub hold : HoldAtMost t left.held left.rest
  pub tasks : Each (TaskIsIn t parts) left.rest
  pub operands : Leads t 0 left.held left.rest end

behind_more : (t : Text) (parts : Parts t) (end most : ℕ) (left : Option (LoopLeft t.Expr t.Stmt t.Init)) → IfThere (BehindLoop t parts end most) left → IfThere (BehindLoop t parts end most) (option_map one_more left)
behind_more t parts end most Nothing is = tt
behind_more t parts end most (Some left) is = record { loop = is.loop; fewer = is.fewer; hold = is.hold; tasks = is.tasks; operands = is.operands }

find_loop : (t : Text) (parts : Parts t) (end most before : ℕ) (tasks : List (TaskIn t)) → Each (TaskIsIn t parts) tasks → HoldAtMost t most tasks → Leads t 0 before tasks end →
    IfThere (BehindLoop t parts end most) (loop_left tasks)
find_loop t parts end most before [] are hold leads = tt
find_loop t parts end most before (Again stmt held ∷ rest) are hold (left, mid, changes, low, holds, later) = record {
  loop = are.0;
  fewer = hold.0;
  hold = subst (λ (n : ℕ). HoldAtMost t n rest) changes.1 holds;
  tasks = are.1;
  operands = subst (λ (n : ℕ). Leads t 0 n rest end) changes.2 later;
}
find_loop t parts end most before (LeaveBlock place ∷ rest) are hold (left, mid, changes, low, holds, later) =
    behind_more t parts end most (loop_left rest) (find_loop t parts end most mid rest are.1 hold.1 later)
find_loop t parts end most before (other ∷ rest) are hold (left, mid, changes, low, holds, later) = find_loop t parts end most mid rest are.1 hold.1 later

leaves_left : (t : Text) (parts : Parts t) (end count held : ℕ) (word : Place) (rest : List (TaskIn t)) → HoldAtMost t held rest → Left t parts end held rest →
    Left t parts end held (leaves count word ++ rest) × HoldAtMost t held (leaves count word ++ rest)
leaves_left t parts end zero held word rest hold left = (left, hold)
leaves_left t parts end (suc count) held word rest hold left =
    let others = leaves_left t parts end count held word rest hold left in
    (record { tasks = (tt, others.0.tasks); operands = (held, held, (omega arith, omega arith), omega arith, others.1, others.0.operands) }, (omega arith, others.1))

for_left : (t : Text) (parts : Parts t) (end held : ℕ) (word : Place) (rest : List (TaskIn t)) → HoldAtMost t held rest → Left t parts end held rest →
    Left t parts end held (behind_for word rest) × HoldAtMost t held (behind_for word rest)
for_left t parts end held word [] hold left = (left, hold)
for_left t parts end held word (LeaveBlock place ∷ rest) hold left = (record { tasks = (tt, left.tasks.1); operands = left.operands }, hold)
for_left t parts end held word (other ∷ rest) hold left = (left, hold)

behind_left : (t : Text) (parts : Parts t) (end held : ℕ) (word : Place) (clause : Clause t.Expr t.Stmt t.Init) (rest : List (TaskIn t)) → HoldAtMost t held rest → Left t parts end held rest →
    Left t parts end held (behind_loop t word clause rest) × HoldAtMost t held (behind_loop t word clause rest)
behind_left t parts end held word (For first test semicolon next close body) rest hold left = for_left t parts end held word rest hold left
behind_left t parts end held word other rest hold left = (left, hold)

oldest_length : (held : ℕ) (words : List Word) → held ≤ length words → length (oldest held words) ≡ held
oldest_length held words fewer = omega (arith, length-drop (length words - held) words)

after_breaks : (t : Text) (parts : Parts t) (end most : ℕ) (word : Place) (left : LoopLeft t.Expr t.Stmt t.Init) → BehindLoop t parts end most left → Left t parts end left.held (after_break t word left)
after_breaks t parts end most word left is =
    let behind = behind_left t parts end left.held word (t.clause left.loop) left.rest is.hold (record { tasks = is.tasks; operands = is.operands }) in
    (leaves_left t parts end left.blocks left.held word (behind_loop t word (t.clause left.loop) left.rest) behind.1 behind.0).0

after_continues : (t : Text) (parts : Parts t) (end most : ℕ) (word : Place) (left : LoopLeft t.Expr t.Stmt t.Init) → BehindLoop t parts end most left → Left t parts end left.held (after_continue word left)
after_continues t parts end most word left is =
    (leaves_left t parts end left.blocks left.held word (Again left.loop left.held ∷ left.rest) (omega arith, is.hold)
    (record { tasks = (is.loop, is.tasks); operands = (left.held, left.held, (refl, refl, refl), omega arith, is.hold, is.operands) })).0

leaves_loop : (t : Text) (parts : Parts t) (end most : ℕ) (left : Option (LoopLeft t.Expr t.Stmt t.Init)) (onward : LoopLeft t.Expr t.Stmt t.Init → List (TaskIn t)) (state : StateIn t) (choices : List Choice) →
    IfThere (BehindLoop t parts end most) left → ((left : LoopLeft t.Expr t.Stmt t.Init) → BehindLoop t parts end most left → Left t parts end left.held (onward left)) → most ≡ length state.operands →
    LeavesAwaiting t parts end (leave_loop left onward state choices)
leaves_loop t parts end most Nothing onward state choices is each same = tt
leaves_loop t parts end most (Some left) onward state choices is each same =
    let fewer : left.held ≤ most = is.fewer in
    stands t parts end left.held (record state { tasks = onward left; operands = oldest left.held state.operands }) (each left is) (sym (oldest_length left.held state.operands (omega arith)))

-- and what stands behind a body finds one more, the result
pub record BehindBody (t : Text) (parts : Parts t) (end most : ℕ) (left : BodyLeft t.Expr t.Stmt t.Init) : Type 0 where
  pub fewer : left.held ≤ most
  pub hold : HoldAtMost t left.held left.rest
  pub tasks : Each (TaskIsIn t parts) left.rest
  pub operands : Leads t 0 (suc left.held) left.rest end

find_body : (t : Text) (parts : Parts t) (end most before : ℕ) (tasks : List (TaskIn t)) → Each (TaskIsIn t parts) tasks → HoldAtMost t most tasks → Leads t 0 before tasks end →
    IfThere (BehindBody t parts end most) (body_left tasks)
find_body t parts end most before [] are hold leads = tt
find_body t parts end most before (EndOfBody is_main result close held ∷ rest) are hold (left, mid, changes, low, holds, later) = record {
  fewer = hold.0;
  hold = subst (λ (n : ℕ). HoldAtMost t n rest) changes.1 holds;
  tasks = are.1;
  operands = subst (λ (n : ℕ). Leads t 0 n rest end) changes.2 later;
}
find_body t parts end most before (other ∷ rest) are hold (left, mid, changes, low, holds, later) = find_body t parts end most mid rest are.1 hold.1 later

left_function : (t : Text) (parts : Parts t) (end held : ℕ) (word : Place) (rest : List (TaskIn t)) → HoldAtMost t held rest → Each (TaskIsIn t parts) rest → Leads t 0 (suc held) rest end →
    Left t parts end (suc held) (LeaveFunction word ∷ rest)
left_function t parts end held word rest hold are leads =
    record { tasks = (tt, are); operands = (suc held, suc held, (omega arith, omega arith), omega arith, hold_more t held (suc held) rest (omega arith) hold, leads) }

gives_back : (t : Text) (parts : Parts t) (end most : ℕ) (left : Option (BodyLeft t.Expr t.Stmt t.Init)) (word : Place) (from : Kind) (value : Word) (state : StateIn t) (choices : List Choice) →
    IfThere (BehindBody t parts end most) left → most ≡ length state.operands → LeavesAwaiting t parts end (give_back left word from value state choices)
gives_back t parts end most Nothing word from value state choices is same = tt
gives_back t parts end most (Some left) word from value state choices is same =
    let fewer : left.held ≤ most = is.fewer in
    stands t parts end (suc left.held) (record state { tasks = LeaveFunction word ∷ left.rest; operands = as_kind state.memory from left.result value ∷ oldest left.held state.operands })
    (left_function t parts end left.held word left.rest is.hold is.tasks is.operands) (ap suc (sym (oldest_length left.held state.operands (omega arith))))

ends_body : (t : Text) (parts : Parts t) (end held : ℕ) (is_main : Bool) (result : Kind) (close : Place) (state : StateIn t) (choices : List Choice) → HoldAtMost t held state.tasks →
    Left t parts end (suc held) state.tasks → held ≡ length state.operands → LeavesAwaiting t parts end (end_of_body is_main result close state choices)
ends_body t parts end held is_main result close state choices hold left same = by_kind is_main result
  where
    behind : Left t parts end (suc held) (LeaveFunction close ∷ state.tasks)
    behind = left_function t parts end held close state.tasks hold left.tasks left.operands

    zero_given : IsAwaiting t parts end (doing (LeaveFunction close ∷ []) (with_operand (Plain 0) state))
    zero_given = stands t parts end (suc held) (doing (LeaveFunction close ∷ []) (with_operand (Plain 0) state)) behind (ap suc same)

    given : (kind : Kind) → LeavesAwaiting t parts end (received kind (doing (LeaveFunction close ∷ []) state) choices)
    given kind = receives t parts end (suc held) kind (doing (LeaveFunction close ∷ []) state) choices behind (ap suc same)

    by_kind : (is_main : Bool) (result : Kind) → LeavesAwaiting t parts end (end_of_body is_main result close state choices)
    by_kind true result = zero_given
    by_kind false Void = zero_given
    by_kind false (Integer of) = given (Integer of)
    by_kind false (Pointer bytes) = given (Pointer bytes)
    by_kind false (Array bytes) = given (Array bytes)
    by_kind false (Struct bytes) = given (Struct bytes)

returns_to : (t : Text) (parts : Parts t) (end mid : ℕ) (strict : Bool) (callers : List Frame) (place : Place) (state : StateIn t) (choices : List Choice) → Left t parts end mid state.tasks → mid ≡ length state.operands →
    LeavesAwaiting t parts end (returned strict callers place state choices)
returns_to t parts end mid strict [] place state choices left same = by_test t parts end _ _ strict (by_test t parts end _ _ (is_lost state.memory []) tt tt) tt
returns_to t parts end mid strict (frame ∷ callers) place state choices left same = stands t parts end mid (record state { frame = frame; callers = callers }) left same

leaves_function : (t : Text) (parts : Parts t) (end mid : ℕ) (strict : Bool) (place : Place) (state : StateIn t) (choices : List Choice) → Left t parts end mid state.tasks → mid ≡ length state.operands →
    LeavesAwaiting t parts end (leave_function strict place state choices)
leaves_function t parts end mid strict place state choices left same =
    by_test t parts end _ _ (is_lost state.memory (roots state)) tt (returns_to t parts end mid strict state.callers place state choices left same)

arms : (t : Text) (parts : Parts t) (end base : ℕ) (kind : Kind) (expr : t.Expr) (state : StateIn t) → parts.expr expr → HoldAtMost t base state.tasks → Left t parts end (1 + base) state.tasks →
    base ≡ length state.operands → IsAwaiting t parts end (doing (arm t kind expr) state)
arms t parts end base kind expr state is hold left same =
    begun t parts end base 1 (ValueOf expr ∷ Convert (value_kind t expr) kind ∷ []) state (is, (tt, tt)) (plain_part t base 0 1 (ValueOf expr ∷ Convert (value_kind t expr) kind ∷ []) refl) hold left same

picks : (t : Text) (parts : Parts t) (end base : ℕ) (holds : Bool) (kind : Kind) (one other : t.Expr) (state : StateIn t) → parts.expr one → parts.expr other → HoldAtMost t base state.tasks →
    Left t parts end (1 + base) state.tasks → base ≡ length state.operands → IsAwaiting t parts end (doing (if holds then arm t kind one else arm t kind other) state)
picks t parts end base true kind one other state first second hold left same = arms t parts end base kind one state first hold left same
picks t parts end base false kind one other state first second hold left same = arms t parts end base kind other state second hold left same

-- each step: `low` operands stay, and `mid` are awaited behind it
awaits_on : (t : Text) (parts : Parts t) → AreParts t parts → (end low mid : ℕ) (task : TaskIn t) (state : StateIn t) (choices : List Choice) → TaskIsIn t parts task →
    Changes t task (length state.operands) low mid → HoldAtMost t low state.tasks → Left t parts end mid state.tasks → LeavesAwaiting t parts end (step_of t task state choices)
awaits_on t parts all end low mid (ValueOf expr) state choices is (before, after) hold left =
    begun t parts end low 1 (value_tasks t expr) state (values_in t parts all expr is) (values t parts all low expr is) hold (subst (λ (n : ℕ). Left t parts end n state.tasks) after left) (omega arith)
awaits_on t parts all end low mid (AddressOf expr) state choices is (before, after) hold left =
    begun t parts end low 1 (address_tasks t expr) state (addresses_in t parts all expr is) (addresses t low expr) hold (subst (λ (n : ℕ). Left t parts end n state.tasks) after left) (omega arith)
awaits_on t parts all end low mid (Push number) state choices is (before, after) hold left = stands t parts end mid (with_operand (Plain number) state) left (omega arith)
awaits_on t parts all end low mid (ObjectAt token) state choices is (before, after) hold left = object_or t parts end mid (block_of state token) state choices left (omega arith)
awaits_on t parts all end low mid (Shift bytes) state choices is (before, after) hold left =
    popping t parts end low state.operands state _ (omega arith) (λ word rest one. stands t parts end mid (with_operand (moved word (pos bytes)) (record state { operands = rest })) left (omega arith))
awaits_on t parts all end low mid (Load place kind) state choices is (before, after) hold left =
    popping t parts end low state.operands state _ (omega arith) (λ at rest one. loads t parts end mid place kind (scalar_bytes kind) at (record state { operands = rest }) choices left (omega arith))
awaits_on t parts all end low mid (Convert from to) state choices is (before, after) hold left =
    popping t parts end low state.operands state _ (omega arith) (λ word rest one. stands t parts end mid (with_operand (as_kind state.memory from to word) (record state { operands = rest })) left (omega arith))
awaits_on t parts all end low mid (Apply op kind) state choices is (before, after) hold left =
    popping t parts end low state.operands state _ (omega arith) (λ word rest one. stuck_or t parts end mid (applied state.memory op kind word) (record state { operands = rest }) choices left (omega arith))
awaits_on t parts all end low mid (Operate op first second) state choices is (before, after) hold left =
    popping t parts end (suc low) state.operands state _ (omega arith) (λ other rest one. popping t parts end low rest (record state { operands = rest }) _ one
    (λ word rest' two. ended_or t parts end mid (operated state.memory op first second word other) (record state { operands = rest' }) choices left (omega arith)))
awaits_on t parts all end low mid (Answer holds) state choices is (before, after) hold left =
    popping t parts end low state.operands state _ (omega arith) (λ word rest one. stands t parts end mid (with_operand (told holds (is_true state.memory word)) (record state { operands = rest })) left (omega arith))
awaits_on t parts all end low mid (AndThen right) state choices is (before, after) hold left =
    popping t parts end low state.operands state _ (omega arith) (λ word rest one. and_steps t parts end low (is_true state.memory word) right (record state { operands = rest }) choices is hold
    (subst (λ (n : ℕ). Left t parts end n state.tasks) after left) (sym one))
awaits_on t parts all end low mid (OrElse right) state choices is (before, after) hold left =
    popping t parts end low state.operands state _ (omega arith) (λ word rest one. or_steps t parts end low (is_true state.memory word) right (record state { operands = rest }) choices is hold
    (subst (λ (n : ℕ). Left t parts end n state.tasks) after left) (sym one))
awaits_on t parts all end low mid (Pick kind first second) state choices is (before, after) hold left =
    popping t parts end low state.operands state _ (omega arith) (λ word rest one. picks t parts end low (is_true state.memory word) kind first second (record state { operands = rest }) is.0 is.1 hold
    (subst (λ (n : ℕ). Left t parts end n state.tasks) after left) (sym one))
awaits_on t parts all end low mid Drop state choices is (before, after) hold left =
    popping t parts end low state.operands state _ (omega arith) (λ word rest one. stands t parts end mid (record state { operands = rest }) left (omega arith))
awaits_on t parts all end low mid (Store place kind) state choices is (before, after) hold left =
    popping t parts end (suc low) state.operands state _ (omega arith) (λ word rest one. popping t parts end low rest (record state { operands = rest }) _ one
    (λ at rest' two. stores t parts end mid place (scalar_bytes kind) at word (record state { operands = rest' }) choices left (omega arith)))
awaits_on t parts all end low mid (Update op place kind right) state choices is (before, after) hold left =
    popping t parts end (suc low) state.operands state _ (omega arith) (λ word rest one. popping t parts end low rest (record state { operands = rest }) _ one
    (λ at rest' two. updates t parts end mid op place kind (scalar_bytes kind) right at word (counted false) (record state { operands = rest' }) choices left (omega arith)))
awaits_on t parts all end low mid (CountBy up behind place kind) state choices is (before, after) hold left =
    popping t parts end low state.operands state _ (omega arith) (λ at rest one.
    updates t parts end mid (counting up) place kind (scalar_bytes kind) (Integer int) at (Plain 1) (counted behind) (record state { operands = rest }) choices left (omega arith))
awaits_on t parts all end low mid (CopyStruct place count) state choices is (before, after) hold left =
    popping t parts end (suc low) state.operands state _ (omega arith) (λ from rest one. popping t parts end low rest (record state { operands = rest }) _ one
    (λ to rest' two. fault_or t parts end _ (copy_fault state.memory to from count false) place
    (stands t parts end mid (with_operand (Plain 0) (with_memory (copied state.memory to from count) (record state { operands = rest' }))) left (omega arith))))
awaits_on t parts all end low mid (RunBuiltIn what place result) state choices is (count, takes, before, after) hold left =
    built_in_steps t parts end low what place result state choices count takes before (subst (λ (n : ℕ). Left t parts end n state.tasks) after left)
awaits_on t parts all end low mid (CallDefined number) state choices is (before, after) hold left =
    calls t parts all end low number (slice_get t.functions number) state choices refl (each_get (λ function. Each parts.stmt function.body) t.functions number all.functions) before hold
    (subst (λ (n : ℕ). Left t parts end n state.tasks) after left)
awaits_on t parts all end low mid EndRun state choices is (before, after) hold left = tt
awaits_on t parts all end low mid (Finish place) state choices is (before, after) hold left =
    popping t parts end low state.operands state _ (omega arith) (λ word rest one. lost_or t parts end place (record state { operands = rest }) choices (stands t parts end mid (record state { operands = rest }) left (omega arith)))
awaits_on t parts all end low mid (Keep place) state choices is (before, after) hold left = lost_or t parts end place state choices (stands t parts end mid state left (omega arith))
awaits_on t parts all end low mid (Execute stmt) state choices is (before, after) hold left =
    let same : low ≡ length state.operands = omega arith in
    begun t parts end low 0 (statement_tasks t stmt (length state.operands)) state (statements_in t parts all stmt (length state.operands) is)
    (subst (λ (n : ℕ). Part t low 0 (statement_tasks t stmt n) 0) same (statements t low stmt)) hold (subst (λ (n : ℕ). Left t parts end n state.tasks) after left) same
awaits_on t parts all end low mid (Branch stmt) state choices is (before, after) hold left =
    popping t parts end low state.operands state _ (omega arith) (λ word rest one.
    lost_or t parts end (branch_place t stmt) (doing (branch_tasks t stmt (length rest) (is_true state.memory word)) (record state { operands = rest })) choices
    (begun t parts end low 0 (branch_tasks t stmt (length rest) (is_true state.memory word)) (record state { operands = rest }) (branches_in t parts all stmt (length rest) (is_true state.memory word) is)
    (subst (λ (n : ℕ). Part t low 0 (branch_tasks t stmt n (is_true state.memory word)) 0) (sym one) (branches t low stmt (is_true state.memory word))) hold
    (subst (λ (n : ℕ). Left t parts end n state.tasks) after left) (sym one)))
awaits_on t parts all end low mid (Test stmt) state choices is (before, after) hold left =
    let same : low ≡ length state.operands = omega arith in
    begun t parts end low 0 (test_tasks t stmt (length state.operands)) state (tests_in t parts all stmt (length state.operands) is)
    (subst (λ (n : ℕ). Part t low 0 (test_tasks t stmt n) 0) same (tests t low stmt)) hold (subst (λ (n : ℕ). Left t parts end n state.tasks) after left) same
awaits_on t parts all end low mid (Again stmt held) state choices is (before, stay, after) hold left =
    let same : low ≡ length state.operands = stay ∙ sym before in
    let same_end : mid ≡ low = after ∙ sym stay in
    begun t parts end low 0 (again_tasks t stmt) state (turns_in t parts all stmt is) (turns t low stmt) hold (subst (λ (n : ℕ). Left t parts end n state.tasks) (same_end ∙ (omega arith)) left) same
awaits_on t parts all end low mid OpenBlock state choices is (before, after) hold left = stands t parts end mid (record state { frame = [] ∷ state.frame }) left (omega arith)
awaits_on t parts all end low mid (MakeObject object) state choices is (before, after) hold left =
    blocks t parts end storage.Local object.bytes false state choices _ (λ base contents others. record { tasks = left.tasks; operands = subst (λ (n : ℕ). Leads t 0 n state.tasks end) (omega arith) left.operands })
awaits_on t parts all end low mid (MakeParameter object) state choices is (before, after) hold left =
    popping t parts end low state.operands state _ (omega arith) (λ word rest one. blocks t parts end storage.Local object.bytes false (record state { operands = rest }) choices _
    (λ base contents others. record { tasks = left.tasks; operands = subst (λ (n : ℕ). Leads t 0 n state.tasks end) (omega arith) left.operands }))
awaits_on t parts all end low mid (MakeStatic object) state choices is (before, after) hold left =
    blocks t parts end storage.Static object.bytes true state choices _ (λ base contents others. record { tasks = left.tasks; operands = subst (λ (n : ℕ). Leads t 0 n state.tasks end) (omega arith) left.operands })
awaits_on t parts all end low mid (LeaveBlock place) state choices is (before, after) hold left = leaves_block t parts end mid state.frame place state choices left (omega arith)
awaits_on t parts all end low mid (Zero place count) state choices is (before, after) hold left =
    popping t parts end low state.operands state _ (omega arith) (λ at rest one. fault_or t parts end _ (range_fault state.memory at count) place
    (stands t parts end mid (with_memory (filled state.memory at 0 count) (record state { operands = rest })) left (omega arith)))
awaits_on t parts all end low mid (Initialise place init) state choices is (before, after) hold left =
    begun t parts end low 0 (initialiser_tasks t place init) state (initialisers_in t parts all place init is) (initialisers t low place init) hold
    (subst (λ (n : ℕ). Left t parts end n state.tasks) after left) (omega arith)
awaits_on t parts all end low mid (BreakAt word) state choices is (before, after) hold left =
    leaves_loop t parts end low (loop_left state.tasks) (after_break t word) state choices (find_loop t parts end low mid state.tasks left.tasks hold left.operands) (after_breaks t parts end low word) (omega arith)
awaits_on t parts all end low mid (ContinueAt word) state choices is (before, after) hold left =
    leaves_loop t parts end low (loop_left state.tasks) (after_continue word) state choices (find_loop t parts end low mid state.tasks left.tasks hold left.operands) (after_continues t parts end low word) (omega arith)
awaits_on t parts all end low mid (GiveBack word from) state choices is (before, after) hold left =
    popping t parts end low state.operands state _ (omega arith) (λ value rest one. gives_back t parts end low (body_left state.tasks) word from value (record state { operands = rest }) choices
    (find_body t parts end low mid state.tasks left.tasks hold left.operands) (sym one))
awaits_on t parts all end low mid (LeaveFunction place) state choices is (before, after) hold left =
    leaves_function t parts end mid t.strict place (record state { frame = []; memory = without_objects (blocks_of (objects_of state.frame)) state.memory }) choices left (omega arith)
awaits_on t parts all end low mid (EndOfBody is_main result close held) state choices is (before, stay, after) hold left =
    ends_body t parts end held is_main result close state choices (subst (λ (n : ℕ). HoldAtMost t n state.tasks) stay hold) (subst (λ (n : ℕ). Left t parts end n state.tasks) after left) (sym before)
awaits_on t parts all end low mid Unknown state choices is (before, after) hold left = tt

step_awaits_on : (t : Text) (parts : Parts t) → AreParts t parts → (end : ℕ) (tasks : List (TaskIn t)) (state : StateIn t) (choices : List Choice) → Left t parts end (length state.operands) tasks →
    LeavesAwaiting t parts end (step_on t tasks state choices)
step_awaits_on t parts all end [] state choices left = tt
step_awaits_on t parts all end (task ∷ rest) state choices left =
    let (low, mid, changes, enough, hold, later) = left.operands in
    awaits_on t parts all end low mid task (record state { tasks = rest }) choices left.tasks.0 changes hold (record { tasks = left.tasks.1; operands = later })

pub step_awaits : (t : Text) (parts : Parts t) → AreParts t parts → (end : ℕ) (state : StateIn t) (choices : List Choice) → IsAwaiting t parts end state → LeavesAwaiting t parts end (step t state choices)
step_awaits t parts all end state choices is = step_awaits_on t parts all end state.tasks state choices (record { tasks = is.tasks; operands = is.operands })

-- The steps that look at no tree.
use Rattle.std.specs.Prelude.{Bool, true, false, List, [], ◌∷◌, pos, Option, None, Some}
use Rattle.bytes_core.specs.declared.word.Word.TheVariants.{Plain}
use Rattle.bytes_core.specs.Access.{range_fault, filled}
use Rattle.bytes_core.specs.Copying.{copy_fault, copied}
use Rattle.bytes_core.specs.Value.{moved}
use Rattle.choices.specs.declared.choice.Choice.{Choice}
use Rattle.typing.specs.ctypes.Integers.{int}
use Rattle.c_machine.specs.declared.kind.Kind.TheVariants.{Integer}
use Rattle.c_machine.specs.declared.task.Task.{Task}
use Rattle.c_machine.specs.declared.task.Task.TheVariants.{ValueOf, Push, ObjectAt, Shift, Load, Convert, Apply, Operate, Answer, AndThen, OrElse, Drop, Store, Update, CountBy, CopyStruct, RunBuiltIn, EndRun, Finish, Keep, OpenBlock, MakeObject, MakeParameter, MakeStatic, LeaveBlock, Zero, LeaveFunction, EndOfBody, Unknown}
use Rattle.c_machine.specs.State.{State, Outcome, Went, Ended, Stuck, with_operand, with_memory, popped, unless_fault, block_of}
use Rattle.c_machine.specs.Step.{unless_lost, or_ended, or_stuck, object_at, load_step, store_step, updated, counting, counted, and_then, or_else, built_in_step, leave_block, end_of_body, leave_function}
use Rattle.c_machine.specs.Words.{is_true, told, as_kind, applied, operated, scalar_bytes}
use Rattle.c_machine.specs.Choosing.{object_made, parameter_made, static_made}
use Rattle.c_steps.specs.Leaving.{in_new_block, function_left}

-- what a step comes to that looks at no tree and at nothing else that is to be done, where `strict` says whether main may not return while an allocated
-- block lives
abbrev pub plain_step : {E S I : Type 0} → Bool → Task E S I → State E S I → List Choice → Option (Outcome E S I)
plain_step strict (Push number) state choices = Some (Went (with_operand (Plain number) state) choices)
plain_step strict (ObjectAt token) state choices = Some (object_at (block_of state token) state choices)
plain_step strict (Shift bytes) state choices = Some (popped state (λ word after. Went (with_operand (moved word (pos bytes)) after) choices))
plain_step strict (Load place kind) state choices = Some (popped state (λ at after. load_step place kind (scalar_bytes kind) at after choices))
plain_step strict (Convert from to) state choices =
    Some (popped state (λ word after. Went (with_operand (as_kind state.memory from to word) after) choices))
plain_step strict (Apply op kind) state choices = Some (popped state (λ word after. or_stuck (applied state.memory op kind word) after choices))
plain_step strict (Operate op left right) state choices =
    Some (popped state (λ other before. popped before (λ one after. or_ended (operated state.memory op left right one other) after choices)))
plain_step strict (Answer holds) state choices =
    Some (popped state (λ word after. Went (with_operand (told holds (is_true state.memory word)) after) choices))
plain_step strict (AndThen right) state choices =
    Some (popped state (λ word after. and_then (is_true state.memory word) (ValueOf right ∷ Answer true ∷ []) after choices))
plain_step strict (OrElse right) state choices =
    Some (popped state (λ word after. or_else (is_true state.memory word) (ValueOf right ∷ Answer true ∷ []) after choices))
plain_step strict Drop state choices = Some (popped state (λ word after. Went after choices))
plain_step strict (Store place kind) state choices =
    Some (popped state (λ word before. popped before (λ at after. store_step place (scalar_bytes kind) at word after choices)))
plain_step strict (Update op place kind right) state choices =
    Some (popped state (λ word before. popped before (λ at after.
    updated op place kind (scalar_bytes kind) right at word (counted false) after choices)))
plain_step strict (CountBy up behind place kind) state choices =
    Some (popped state (λ at after. updated (counting up) place kind (scalar_bytes kind) (Integer int) at (Plain 1) (counted behind) after choices))
plain_step strict (CopyStruct place count) state choices =
    Some (popped state (λ from before. popped before (λ to after.
    unless_fault (copy_fault state.memory to from count false) place
    (Went (with_operand (Plain 0) (with_memory (copied state.memory to from count) after)) choices))))
plain_step strict (RunBuiltIn what place result) state choices = Some (built_in_step what place result state choices)
plain_step strict EndRun state choices = Some Ended
plain_step strict (Finish place) state choices = Some (popped state (λ word after. unless_lost place after choices))
plain_step strict (Keep place) state choices = Some (unless_lost place state choices)
plain_step strict OpenBlock state choices = Some (Went (in_new_block state) choices)
plain_step strict (MakeObject object) state choices = Some (object_made object state choices)
plain_step strict (MakeParameter object) state choices = Some (popped state (λ word after. parameter_made object word after choices))
plain_step strict (MakeStatic object) state choices = Some (static_made object state choices)
plain_step strict (LeaveBlock place) state choices = Some (leave_block state.frame place state choices)
plain_step strict (Zero place count) state choices =
    Some (popped state (λ at after.
    unless_fault (range_fault state.memory at count) place (Went (with_memory (filled state.memory at 0 count) after) choices)))
plain_step strict (LeaveFunction place) state choices = Some (leave_function strict place (function_left state) choices)
plain_step strict (EndOfBody is_main result close held) state choices = Some (end_of_body is_main result close state choices)
plain_step strict Unknown state choices = Some Stuck
plain_step strict other state choices = None

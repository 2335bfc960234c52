-- Blocks are entered and left, and loops and functions are left (C11 6.2.4p6, 6.8.6.3, 6.8.6.4).
use Rattle.std.specs.Prelude.{ℕ, Bool, true, false, List, [], ◌∷◌, ◌++◌, Option, None, Some}
use Rattle.cbase.specs.declared.place.Place.{Place}
use Rattle.c_machine.specs.declared.task.Task.{Task}
use Rattle.c_machine.specs.State.{State, Frame, blocks_of, objects_of}
use Rattle.c_machine.specs.Calls.{turned}
use Rattle.c_machine.specs.Statements.{behind_for, leaves, oldest}
use Rattle.c_machine.specs.Step.{without_objects}

-- with a block that has no object yet
abbrev pub in_new_block : {E S I : Type 0} → State E S I → State E S I
in_new_block state = record state { frame = [] ∷ state.frame }

-- without the innermost block, whose objects are dead
abbrev pub block_left : {E S I : Type 0} → Frame → State E S I → Option (State E S I)
block_left [] state = None
block_left (scope ∷ scopes) state = Some (record state { frame = scopes; memory = without_objects (blocks_of scope) state.memory })

-- without the blocks of the function that runs, whose objects are dead
abbrev pub function_left : {E S I : Type 0} → State E S I → State E S I
function_left state = record state { frame = []; memory = without_objects (blocks_of (objects_of state.frame)) state.memory }

-- in a function that is called: it has no object yet, and so many operands, its arguments, are turned round
abbrev pub in_call : {E S I : Type 0} → ℕ → State E S I → State E S I
in_call count state = record state { operands = turned count state.operands; frame = []; callers = state.frame ∷ state.callers }

-- back in the latest caller
abbrev pub resumed : {E S I : Type 0} → List Frame → State E S I → Option (State E S I)
resumed [] state = None
resumed (frame ∷ callers) state = Some (record state { frame = frame; callers = callers })

-- behind a loop that a `break` leaves: a `for` has a block of its own, which is left at the word
abbrev pub behind_loop : {E S I : Type 0} → Bool → Place → List (Task E S I) → List (Task E S I)
behind_loop true word rest = behind_for word rest
behind_loop false word rest = rest

-- out of a loop's body, with so many blocks to be left in it, where unfinished expressions around the loop hold so many operands
abbrev pub out_of_loop : {E S I : Type 0} → Bool → Place → ℕ → ℕ → State E S I → State E S I
out_of_loop is_for word blocks held state =
    record state { tasks = leaves blocks word ++ behind_loop is_for word state.tasks; operands = oldest held state.operands }

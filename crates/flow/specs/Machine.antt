-- The flow machine: what runs along the edges of a flow graph.
--
-- A state is a point, the frame in work, the callers' frames, the blocks of static variables, the memory, and root
-- blocks outside all frames. A step goes along one edge out of the point. It takes choices where a block is made or
-- an input is asked for; a choice that breaks the placement of blocks, or has another form than the one asked for,
-- ends the run. A fault ends it too, at the place of the edge.
use Rattle.std.specs.Prelude.{ℕ, ◌^◌, ◌%◌, Bool, true, false, not, ◌&&◌, ◌||◌, List, [], ◌∷◌, ◌++◌, map, length, nat_eq, nat_lt, pos, ◌*ℤ◌, Option, None, Some, if◌then◌else◌, slice_get}
use Rattle.std.specs.List.{list_all}
use Rattle.std.specs.Option.{option_map_or}
use Rattle.cbase.specs.declared.place.Place.{Place}
use Rattle.arithmetic.specs.declared.op.Op.{Op}
use Rattle.arithmetic.specs.declared.op.Op.TheVariants.{Less, LessEqual}
use Rattle.arithmetic.specs.Value.{value}
use Rattle.arithmetic.specs.Conversion.{converted}
use Rattle.arithmetic.specs.Computing.{computed}
use Rattle.choices.specs.declared.choice.Choice.{Choice}
use Rattle.choices.specs.declared.choice.Choice.TheVariants.{None as NoBlock, Block as NewBlock, Input as GivenInput}
use Rattle.bytes_core.specs.declared.word.Word.{Word}
use Rattle.bytes_core.specs.declared.word.Word.TheVariants.{Plain, To}
use Rattle.bytes_core.specs.declared.block.BlockKind.{BlockKind}
use Rattle.bytes_core.specs.declared.block.BlockKind.TheVariants as storage
use Rattle.bytes_core.specs.declared.block.Block.{Block}
use Rattle.bytes_core.specs.Fault.{memory_lost, block_never_freed}
use Rattle.bytes_core.specs.Value.{address_number, is_same_address, moved}
use Rattle.bytes_core.specs.Placement.{new_block, is_new_block, placed}
use Rattle.bytes_core.specs.Access.{access_fault, range_fault, loaded, stored, filled}
use Rattle.bytes_core.specs.Copying.{copy_fault, copied}
use Rattle.bytes_core.specs.Release.{free_fault, freed, without}
use Rattle.bytes_core.specs.Loss.{is_lost}
use Rattle.flow.specs.declared.instruction.Instr.{Instr}
use Rattle.flow.specs.declared.instruction.Instr.TheVariants.{Number, Address, Move, Read, Write, Shift, ShiftBy, Compute, Convert, IfSame, IfDifferent, Allocate, AllocateNone, Release, Fill, Copy, Enter, Leave, Finish, Input, Call, Return, Close}
use Rattle.flow.specs.declared.flow_graph.Flow.{Flow}
use Rattle.flow.specs.declared.flow_graph.FlowEdge.{FlowEdge}
use Rattle.flow.specs.declared.flow_graph.FlowFunction.{FlowFunction}
use Rattle.flow.specs.Holding.{Held, Owned, held_by, put, emptied, block_of, put_owned, left}

-- the frame of a function that runs: its variables and its registers
pub record Frame : Type 0 where
  pub variables : List Owned
  pub registers : List Held

-- a function that waits for a call: its frame, the point where it goes on, and the register that gets the result
pub record Caller : Type 0 where
  pub frame : Frame
  pub point : ℕ
  pub into : Option ℕ

-- a state: the callers stand with the latest first
pub record State : Type 0 where
  pub point : ℕ
  pub frame : Frame
  pub callers : List Caller
  pub statics : List Owned
  pub memory : List Block
  pub outer : List ℕ

-- what a step or a run comes to
pub data Outcome : Type 0 where
  -- the state that it leaves, and the choices that are not taken yet
  Went : (next : State) (choices : List Choice) → Outcome
  -- the edge is not for this state, or not for this choice
  Barred : Outcome
  -- a choice is asked for, and there is none left
  Waits : Outcome
  -- the run is over, with no fault
  Ended : Outcome
  -- the run is over with a fault of this kind
  Faulted : (kind : ℕ) (place : Place) → Outcome

-- the block that a word leads to is one of these roots, too
abbrev pub with_block_of : Word → List ℕ → List ℕ
with_block_of (Plain number) blocks = blocks
with_block_of (To block offset) blocks = block ∷ blocks

-- the blocks that registers lead to
abbrev pub blocks_of : List Held → List ℕ
blocks_of [] = []
blocks_of (first ∷ rest) = with_block_of first.word (blocks_of rest)

-- the root blocks of a frame: those of its variables, and those that its registers lead to
abbrev pub frame_roots : Frame → List ℕ
frame_roots frame = map (λ owned. owned.block) frame.variables ++ blocks_of frame.registers

abbrev pub caller_roots : List Caller → List ℕ
caller_roots [] = []
caller_roots (first ∷ rest) = frame_roots first.frame ++ caller_roots rest

-- where chains of stored pointers start: at static variables, at all frames, and at the blocks outside
abbrev pub roots : State → List ℕ
roots state =
    map (λ owned. owned.block) state.statics ++ (frame_roots state.frame ++ (caller_roots state.callers ++ state.outer))

-- the one block, or else the other
abbrev pub or_else : Option ℕ → Option ℕ → Option ℕ
or_else (Some block) other = Some block
or_else None other = other

-- the block of a variable: of the frame in work, or else a static one
abbrev pub block_here : State → ℕ → Option ℕ
block_here state variable = or_else (block_of state.frame.variables variable) (block_of state.statics variable)

-- the state at the end of an edge
abbrev pub at : ℕ → State → State
at point state = record state { point = point }

-- a state with other registers, with one more value, or with another memory
abbrev pub with_registers : List Held → State → State
with_registers registers state = record state { frame = record state.frame { registers = registers } }

abbrev pub with_value : ℕ → ℕ → Word → State → State
with_value register size word state =
    with_registers (put (record { register = register; size = size; word = word }) state.frame.registers) state

abbrev pub with_memory : List Block → State → State
with_memory memory state = record state { memory = memory }

-- the state in which these registers hold nothing
abbrev pub without_registers : List ℕ → State → State
without_registers gone state = with_registers (emptied gone state.frame.registers) state

-- goes on with what a register holds; where it holds nothing the run ends
abbrev pub given : Option Held → (Held → Outcome) → Outcome
given None onward = Ended
given (Some held) onward = onward held

-- the number that a register holds: of a pointer its address number
abbrev pub number_in : List Block → Held → ℕ
number_in memory held = address_number memory held.word

-- goes on, or meets a fault at the place
abbrev pub unless_fault : Option ℕ → Place → Outcome → Outcome
unless_fault None place onward = onward
unless_fault (Some kind) place onward = Faulted kind place

-- goes on, unless memory is lost
abbrev pub unless_lost : Place → State → List Choice → Outcome
unless_lost place state choices =
    if is_lost state.memory (roots state) then Faulted memory_lost place else Went state choices

-- takes the base and the contents of a new block of a kind and size, and goes on with its number
abbrev pub with_new_block : BlockKind → ℕ → Bool → State → List Choice → (State → ℕ → List Choice → Outcome) → Outcome
with_new_block kind size zeroed state [] onward = Waits
with_new_block kind size zeroed state (NoBlock ∷ choices) onward = Ended
with_new_block kind size zeroed state (GivenInput number ∷ choices) onward = Ended
with_new_block kind size zeroed state (NewBlock base contents ∷ choices) onward =
    if is_new_block state.memory kind size base contents && (not zeroed || list_all (nat_eq 0) contents)
    then onward (with_memory (placed state.memory (new_block kind base contents)) state) (length state.memory) choices
    else Ended

-- the size of a variable
abbrev pub size_in : Flow → ℕ → ℕ
size_in flow variable = option_map_or (λ found. found.size) (slice_get flow.variables variable) 0

-- a variable begins to stand in a frame, at this block
abbrev pub with_variable : ℕ → ℕ → State → State
with_variable variable block state =
    record state { frame = record state.frame { variables = put_owned (record { variable = variable; block = block }) state.frame.variables } }

-- variables are made, one after the other, each with a choice of its own
abbrev pub entered : Flow → List ℕ → State → List Choice → Outcome
entered flow [] state choices = Went state choices
entered flow (variable ∷ rest) state choices =
    with_new_block storage.Local (size_in flow variable) false state choices
    (λ after block more. entered flow rest (with_variable variable block after) more)

-- the memory after a block has died, if it is one
abbrev pub without_block : Option ℕ → List Block → List Block
without_block None memory = memory
without_block (Some block) memory = without memory block (slice_get memory block)

-- the memory after the blocks of variables have died at once
abbrev pub without_variables : List Owned → List ℕ → List Block → List Block
without_variables owned [] memory = memory
without_variables owned (variable ∷ rest) memory = without_variables owned rest (without_block (block_of owned variable) memory)

-- the state after a scope is left
abbrev pub after_scope : List ℕ → State → State
after_scope variables state =
    with_memory (without_variables state.frame.variables variables state.memory)
    (record state { frame = record state.frame { variables = left variables state.frame.variables } })

-- whether an operation compares its sides
abbrev pub compares : Op → Bool
compares Less = true
compares LessEqual = true
compares other = false

-- the size of what an operation gives: a comparison gives an int, whatever the size of its sides
abbrev pub size_after : Op → ℕ → ℕ
size_after op size = if compares op then 4 else size

-- goes on with what an operation gives; where there is no value, as for a zero divisor, the run ends
abbrev pub if_computed : Option ℕ → (ℕ → Outcome) → Outcome
if_computed None onward = Ended
if_computed (Some number) onward = onward number

-- an allocation gives a block; that it gives null is for its other edge
abbrev pub allocated : ℕ → ℕ → Bool → State → List Choice → Outcome
allocated into bytes zeroed state (NoBlock ∷ choices) = Barred
allocated into bytes zeroed state choices =
    with_new_block storage.Heap bytes zeroed state choices
    (λ after block more. Went (with_value into 8 (To block (pos 0)) after) more)

-- an allocation gives null; that it gives a block is for its other edge
abbrev pub allocated_none : ℕ → State → List Choice → Outcome
allocated_none into state [] = Waits
allocated_none into state (NoBlock ∷ choices) = Went (with_value into 8 (Plain 0) state) choices
allocated_none into state (NewBlock base contents ∷ choices) = Barred
allocated_none into state (GivenInput number ∷ choices) = Ended

-- an input of a size; a truth value is 0 or 1
abbrev pub received : ℕ → ℕ → Bool → State → List Choice → Outcome
received into size truth state [] = Waits
received into size truth state (NoBlock ∷ choices) = Ended
received into size truth state (NewBlock base contents ∷ choices) = Ended
received into size truth state (GivenInput number ∷ choices) =
    if nat_lt number (if truth then 2 else 256 ^ size) then Went (with_value into size (Plain number) state) choices else Ended

-- what the registers of arguments hold, in order; where one holds nothing the run ends
abbrev pub with_arguments : List Held → List ℕ → (List Held → Outcome) → Outcome
with_arguments registers [] onward = onward []
with_arguments registers (first ∷ rest) onward =
    given (held_by registers first) (λ held. with_arguments registers rest (λ more. onward (held ∷ more)))

-- parameters are made and get their arguments, one after the other
abbrev pub with_parameters : Flow → List ℕ → List Held → State → List Choice → Outcome
with_parameters flow [] arguments state choices = Went state choices
with_parameters flow (variable ∷ rest) [] state choices = Ended
with_parameters flow (variable ∷ rest) (argument ∷ arguments) state choices =
    with_new_block storage.Local (size_in flow variable) false state choices
    (λ after block more. with_parameters flow rest arguments
    (with_memory (stored after.memory (To block (pos 0)) argument.size argument.word) (with_variable variable block after)) more)

-- a function is entered: the caller waits behind the call
abbrev pub called : Flow → Option FlowFunction → List ℕ → Option ℕ → ℕ → State → List Choice → Outcome
called flow None arguments into onward state choices = Ended
called flow (Some function) arguments into onward state choices =
    with_arguments state.frame.registers arguments
    (λ held. with_parameters flow function.parameters held
    (record state {
      point = function.entry;
      frame = record { variables = []; registers = [] };
      callers = record { frame = record state.frame { registers = emptied arguments state.frame.registers }; point = onward; into = into } ∷ state.callers;
    }) choices)

-- the frame that a caller goes on with: its register for the result holds what the function's did
abbrev pub with_result : Option Held → Option ℕ → Frame → Frame
with_result (Some held) (Some into) frame =
    record frame { registers = put (record { register = into; size = held.size; word = held.word }) frame.registers }
with_result result into frame = frame

-- what the register of a return holds
abbrev pub result_of : Option ℕ → List Held → Option Held
result_of None registers = None
result_of (Some from) registers = held_by registers from

-- a function goes back to its caller; where there is none the run is over
abbrev pub returned : Option Held → List Caller → State → List Choice → Outcome
returned result [] state choices = Ended
returned result (caller ∷ callers) state choices =
    Went (record state { point = caller.point; frame = with_result result caller.into caller.frame; callers = callers }) choices

-- the address of a variable's block; where the variable does not stand the run ends
abbrev pub addressed : Option ℕ → ℕ → State → List Choice → Outcome
addressed None into state choices = Ended
addressed (Some block) into state choices = Went (with_value into 8 (To block (pos 0)) state) choices

-- What one instruction does in a state, on the way to a point. Each but `Move` empties the registers that it reads.
abbrev pub execute : Flow → Instr → ℕ → Place → State → List Choice → Outcome
execute flow (Number into number size) to place state choices = Went (at to (with_value into size (Plain number) state)) choices
execute flow (Address into variable) to place state choices = addressed (block_here state variable) into (at to state) choices
execute flow (Move into from) to place state choices =
    given (held_by state.frame.registers from) (λ held. Went (at to (with_value into held.size held.word state)) choices)
execute flow (Read into address size pointer) to place state choices =
    given (held_by state.frame.registers address) (λ held.
    unless_fault (access_fault state.memory held.word size) place
    (Went (at to (with_value into size (loaded state.memory held.word size pointer) (without_registers (address ∷ []) state))) choices))
execute flow (Write address from size) to place state choices =
    given (held_by state.frame.registers address) (λ held. given (held_by state.frame.registers from) (λ written.
    unless_fault (access_fault state.memory held.word size) place
    (Went (at to (with_memory (stored state.memory held.word size written.word) (without_registers (address ∷ from ∷ []) state))) choices)))
execute flow (Shift into address by) to place state choices =
    given (held_by state.frame.registers address) (λ held.
    Went (at to (with_value into 8 (moved held.word by) (without_registers (address ∷ []) state))) choices)
execute flow (ShiftBy into address by scale) to place state choices =
    given (held_by state.frame.registers address) (λ held. given (held_by state.frame.registers by) (λ number.
    Went (at to (with_value into 8 (moved held.word (value 8 true (number_in state.memory number) *ℤ scale))
    (without_registers (address ∷ by ∷ []) state))) choices))
execute flow (Compute into op one other size signed) to place state choices =
    given (held_by state.frame.registers one) (λ held. given (held_by state.frame.registers other) (λ second.
    if_computed (computed op size signed (number_in state.memory held) (number_in state.memory second)) (λ number.
    Went (at to (with_value into (size_after op size) (Plain number) (without_registers (one ∷ other ∷ []) state))) choices)))
execute flow (Convert into from size signed) to place state choices =
    given (held_by state.frame.registers from) (λ held.
    Went (at to (with_value into size (Plain (converted held.size signed size (number_in state.memory held)))
    (without_registers (from ∷ []) state))) choices)
execute flow (IfSame one other) to place state choices =
    given (held_by state.frame.registers one) (λ held. given (held_by state.frame.registers other) (λ second.
    if is_same_address state.memory held.word second.word
    then Went (at to (without_registers (one ∷ other ∷ []) state)) choices else Barred))
execute flow (IfDifferent one other) to place state choices =
    given (held_by state.frame.registers one) (λ held. given (held_by state.frame.registers other) (λ second.
    if is_same_address state.memory held.word second.word
    then Barred else Went (at to (without_registers (one ∷ other ∷ []) state)) choices))
execute flow (Allocate into bytes zeroed) to place state choices = allocated into bytes zeroed (at to state) choices
execute flow (AllocateNone into) to place state choices = allocated_none into (at to state) choices
execute flow (Release address) to place state choices =
    given (held_by state.frame.registers address) (λ held.
    unless_fault (free_fault state.memory held.word) place
    (Went (at to (with_memory (freed state.memory held.word) (without_registers (address ∷ []) state))) choices))
execute flow (Fill address from length) to place state choices =
    given (held_by state.frame.registers address) (λ held. given (held_by state.frame.registers from) (λ second.
    unless_fault (range_fault state.memory held.word length) place
    (Went (at to (with_memory (filled state.memory held.word (number_in state.memory second % 256) length)
    (without_registers (address ∷ from ∷ []) state))) choices)))
execute flow (Copy target from length disjoint) to place state choices =
    given (held_by state.frame.registers target) (λ held. given (held_by state.frame.registers from) (λ second.
    unless_fault (copy_fault state.memory held.word second.word length disjoint) place
    (Went (at to (with_memory (copied state.memory held.word second.word length)
    (without_registers (target ∷ from ∷ []) state))) choices)))
execute flow (Enter variables) to place state choices = entered flow variables (at to state) choices
execute flow (Leave variables) to place state choices = unless_lost place (at to (after_scope variables state)) choices
execute flow (Finish registers) to place state choices = unless_lost place (at to (without_registers registers state)) choices
execute flow (Input into size signed truth) to place state choices = received into size truth (at to state) choices
execute flow (Call function arguments into) to place state choices =
    called flow (slice_get flow.functions function) arguments into to state choices
execute flow (Return from) to place state choices = returned (result_of from state.frame.registers) state.callers state choices
-- where no block is a root, each live heap block is lost
execute flow Close to place state choices =
    if is_lost state.memory [] then Faulted block_never_freed place else Went (at to state) choices

-- one step along an edge
abbrev pub step_along : Flow → FlowEdge → State → List Choice → Outcome
step_along flow edge state choices =
    if nat_eq edge.from state.point then execute flow edge.instr edge.to edge.place state choices else Barred

-- what an edge comes to, or else what a later one does
abbrev pub unless_barred : Outcome → Outcome → Outcome
unless_barred (Went next more) later = Went next more
unless_barred Barred later = later
unless_barred Waits later = Waits
unless_barred Ended later = Ended
unless_barred (Faulted kind place) later = Faulted kind place

-- the first edge that is not barred is gone along; where each is barred the run is over
abbrev pub step_among : Flow → List FlowEdge → State → List Choice → Outcome
step_among flow [] state choices = Ended
step_among flow (edge ∷ rest) state choices = unless_barred (step_along flow edge state choices) (step_among flow rest state choices)

-- one step of the machine
abbrev pub step : Flow → State → List Choice → Outcome
step flow state choices = step_among flow flow.edges state choices

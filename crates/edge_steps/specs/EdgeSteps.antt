-- What an edge of a flow graph does with what a graph sees of a state, and which faults it meets: a line for each instruction.
--
-- A step on graphs is proved against its line. Calls and returns have none: they change the frame.
use Rattle.std.specs.Prelude.{ℕ, Bool, true, false, map}
use Rattle.graph.specs.State.{State}
use Rattle.flow.specs.declared.instruction.Instr.{Instr}
use Rattle.flow.specs.declared.instruction.Instr.TheVariants.{Number, Address, Move, Read, Write, Shift, ShiftBy, Compute, Convert, IfSame, IfDifferent, Allocate, AllocateNone, Release, Fill, Copy, Enter, Leave, Finish, Input, Call, Return, Close}
use Rattle.flow.specs.declared.flow_graph.Flow.{Flow}
use Rattle.flow.specs.Machine.{size_in}
use Rattle.reinterpret.specs.Sameness.{Equals}
use Rattle.reinterpret.specs.States.{Reads, Writes, FaultsReading, FaultsWriting}
use Rattle.heap_steps.specs.Closing.{Closes, FaultsClosing}
use Rattle.heap_steps.specs.Leaving.{LeavesScope, FaultsLeaving}
use Rattle.heap_steps.specs.Steps.{Refuses, Finishes, FaultsFinishing}
use Rattle.range_steps.specs.Filling.{Fills, FaultsFilling}
use Rattle.range_steps.specs.Copies.{Copies, FaultsCopying}
use Rattle.block_steps.specs.Allocating.{Allocates}
use Rattle.block_steps.specs.Entering.{Enters}
use Rattle.block_steps.specs.Releasing.{Releases, FaultsReleasing}
use Rattle.register_steps.specs.States.{Numbers, Addresses, Moves, Shifts, ShiftsBy, Computes, Converts, Inputs}

-- an edge that is neither a call nor a return
abbrev pub is_ordinary : Instr → Bool
is_ordinary (Call function arguments into) = false
is_ordinary (Return from) = false
is_ordinary instr = true

-- where registers hold values of these sizes
abbrev pub EdgeSteps : Flow → (ℕ → ℕ) → Instr → State → State → Type 0
EdgeSteps flow sizes (Number into number size) state next = Numbers into number state next
EdgeSteps flow sizes (Address into variable) state next = Addresses into variable state next
EdgeSteps flow sizes (Move into from) state next = Moves into from state next
EdgeSteps flow sizes (Read into at size pointer) state next = Reads at size pointer into state next
EdgeSteps flow sizes (Write at from size) state next = Writes at size from state next
EdgeSteps flow sizes (Shift into at by) state next = Shifts into at by state next
EdgeSteps flow sizes (ShiftBy into at by scale) state next = ShiftsBy into at by scale state next
EdgeSteps flow sizes (Compute into op one other size signed) state next = Computes into op one other size signed state next
EdgeSteps flow sizes (Convert into from size signed) state next = Converts into from (sizes from) size signed state next
EdgeSteps flow sizes (IfSame one other) state next = Equals one other true state next
EdgeSteps flow sizes (IfDifferent one other) state next = Equals one other false state next
EdgeSteps flow sizes (Allocate into bytes zeroed) state next = Allocates bytes zeroed into state next
EdgeSteps flow sizes (AllocateNone into) state next = Refuses into state next
EdgeSteps flow sizes (Release at) state next = Releases at state next
EdgeSteps flow sizes (Fill at from length) state next = Fills at from length state next
EdgeSteps flow sizes (Copy to from length disjoint) state next = Copies to from length disjoint state next
EdgeSteps flow sizes (Enter variables) state next = Enters variables (map (size_in flow) variables) state next
EdgeSteps flow sizes (Leave variables) state next = LeavesScope variables state next
EdgeSteps flow sizes (Finish registers) state next = Finishes registers state next
EdgeSteps flow sizes (Input into size signed truth) state next = Inputs into size truth state next
EdgeSteps flow sizes (Call function arguments into) state next = ⊥
EdgeSteps flow sizes (Return from) state next = ⊥
EdgeSteps flow sizes Close state next = Closes state next

abbrev pub EdgeFaults : Instr → ℕ → State → Type 0
EdgeFaults (Number into number size) kind state = ⊥
EdgeFaults (Address into variable) kind state = ⊥
EdgeFaults (Move into from) kind state = ⊥
EdgeFaults (Read into at size pointer) kind state = FaultsReading at size kind state
EdgeFaults (Write at from size) kind state = FaultsWriting at size from kind state
EdgeFaults (Shift into at by) kind state = ⊥
EdgeFaults (ShiftBy into at by scale) kind state = ⊥
EdgeFaults (Compute into op one other size signed) kind state = ⊥
EdgeFaults (Convert into from size signed) kind state = ⊥
EdgeFaults (IfSame one other) kind state = ⊥
EdgeFaults (IfDifferent one other) kind state = ⊥
EdgeFaults (Allocate into bytes zeroed) kind state = ⊥
EdgeFaults (AllocateNone into) kind state = ⊥
EdgeFaults (Release at) kind state = FaultsReleasing at kind state
EdgeFaults (Fill at from length) kind state = FaultsFilling at from length kind state
EdgeFaults (Copy to from length disjoint) kind state = FaultsCopying to from length disjoint kind state
EdgeFaults (Enter variables) kind state = ⊥
EdgeFaults (Leave variables) kind state = FaultsLeaving variables kind state
EdgeFaults (Finish registers) kind state = FaultsFinishing registers kind state
EdgeFaults (Input into size signed truth) kind state = ⊥
EdgeFaults (Call function arguments into) kind state = ⊥
EdgeFaults (Return from) kind state = ⊥
EdgeFaults Close kind state = FaultsClosing kind state

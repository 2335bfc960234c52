-- The post of an instruction on a graph in which no register through which it goes names a segment: a line for each.
use Rattle.std.specs.Prelude.{Bool, true, false, map}
use Rattle.graph.specs.declared.parts.Parts.{Parts}
use Rattle.changes.specs.Posted.{Posted, no_post}
use Rattle.flow.specs.declared.flow_graph.Flow.{Flow}
use Rattle.flow.specs.declared.instruction.Instr.{Instr}
use Rattle.flow.specs.declared.instruction.Instr.TheVariants.{Number, Address, Move, Read, Write, Shift, ShiftBy, Compute, Convert, IfSame, IfDifferent, Allocate, AllocateNone, Release, Fill, Copy, Enter, Leave, Finish, Input, Call, Return, Close}
use Rattle.flow.specs.Machine.{size_in}
use Rattle.reinterpret.specs.Reading.{read_post}
use Rattle.reinterpret.specs.Testing.{equal_post}
use Rattle.reinterpret.specs.Writing.{write_post}
use Rattle.heap_steps.specs.Leaving.{leave_post}
use Rattle.heap_steps.specs.Posts.{refuse_post, finish_post}
use Rattle.range_steps.specs.Filling.{fill_post}
use Rattle.range_steps.specs.Copying.{copy_post}
use Rattle.block_steps.specs.Allocating.{allocate_post}
use Rattle.block_steps.specs.Entering.{enter_post}
use Rattle.block_steps.specs.Releasing.{release_post}
use Rattle.register_steps.specs.Steps.{number_post, address_post, move_post, shift_post, shift_by_post, compute_post, convert_post, input_post}
use Rattle.transfer.specs.Ending.{end_post}

-- an instruction that has a step on graphs
abbrev pub has_step : Instr → Bool
has_step (Call function arguments into) = false
has_step (Return from) = false
has_step instr = true

abbrev pub edge_post : Flow → Instr → Parts → Posted
edge_post flow (Number into number size) parts = number_post parts into number size
edge_post flow (Address into variable) parts = address_post parts into variable
edge_post flow (Move into from) parts = move_post parts into from
edge_post flow (Read into at size pointer) parts = read_post parts at size pointer into
edge_post flow (Write at from size) parts = write_post parts at size from
edge_post flow (Shift into at by) parts = shift_post parts into at by
edge_post flow (ShiftBy into at by scale) parts = shift_by_post parts into at by scale
edge_post flow (Compute into op one other size signed) parts = compute_post parts into op one other size signed
edge_post flow (Convert into from size signed) parts = convert_post parts into from size signed
edge_post flow (IfSame one other) parts = equal_post parts one other true
edge_post flow (IfDifferent one other) parts = equal_post parts one other false
edge_post flow (Allocate into bytes zeroed) parts = allocate_post parts bytes zeroed into
edge_post flow (AllocateNone into) parts = refuse_post parts into
edge_post flow (Release at) parts = release_post parts at
edge_post flow (Fill at from length) parts = fill_post parts at from length
edge_post flow (Copy to from length disjoint) parts = copy_post parts to from length disjoint
edge_post flow (Enter variables) parts = enter_post parts variables (map (size_in flow) variables)
edge_post flow (Leave variables) parts = leave_post parts variables
edge_post flow (Finish registers) parts = finish_post parts registers
edge_post flow (Input into size signed truth) parts = input_post parts into size truth
edge_post flow (Call function arguments into) parts = no_post
edge_post flow (Return from) parts = no_post
edge_post flow Close parts = end_post parts

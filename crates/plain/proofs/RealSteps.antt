-- Each instruction that is neither a call nor a return goes plainly.
use Rattle.std.proofs.Common.{◌≡◌, ℕ, true, not, length, ap}
use Rattle.std.proofs.lemmas.Bool.{false≢true}
use Rattle.graph.specs.declared.parts.Parts.{Parts}
use Rattle.graph.specs.declared.post.Post.{Post}
use Rattle.graph.specs.State.{State}
use Rattle.block_steps.specs.Blocks.{has_room}
use Rattle.flow.specs.declared.flow_graph.Flow.{Flow}
use Rattle.flow.specs.declared.instruction.Instr.{Instr}
use Rattle.flow.specs.declared.instruction.Instr.TheVariants.{Number, Address, Move, Read, Write, Shift, ShiftBy, Compute, Convert, IfSame, IfDifferent, Allocate, AllocateNone, Release, Fill, Copy, Enter, Leave, Finish, Input, Call, Return, Close}
use Rattle.edge_steps.specs.EdgeSteps.{is_ordinary, EdgeSteps}
use Rattle.edge_steps.specs.Laws.{sizes_at}
use Rattle.plain.specs.Laws.{IsPlainStep, GoesPlainly}
use Rattle.plain.specs.Marks.{Marks, marks_after}
use Rattle.plain.specs.Shown.{IsPlainPost}
use Rattle.plain.proofs.Plainly.{registers_plain, accesses_plain, tests_plain, ends_plain, blocks_plain}

-- how many objects an instruction makes
abbrev pub makes : Instr → ℕ
makes (Allocate into bytes zeroed) = 1
makes (Enter variables) = length variables
makes instr = 0

-- its post is plain where the graph has room for these
abbrev pub GoesWithRoom : Instr → Type 0
GoesWithRoom instr = (flow : Flow) (point : ℕ) (parts : Parts) (post : Post) (state : State) (marks : Marks) → IsPlainStep flow point instr parts post state marks → has_room parts (makes instr) ≡ true →
    IsPlainPost (EdgeSteps flow (sizes_at flow point) instr) state (marks_after instr state marks) post

in_room : (instr : Instr) → GoesPlainly instr → GoesWithRoom instr
in_room instr goes flow point parts post state marks step room = goes flow point parts post state marks step

pub goes_plainly : (instr : Instr) → is_ordinary instr ≡ true → GoesWithRoom instr
goes_plainly (Number into number size) ordinary = in_room (Number into number size) (registers_plain.numbers into number size)
goes_plainly (Address into variable) ordinary = in_room (Address into variable) (registers_plain.addresses into variable)
goes_plainly (Move into from) ordinary = in_room (Move into from) (registers_plain.moves into from)
goes_plainly (Read into at size pointer) ordinary = in_room (Read into at size pointer) (accesses_plain.reads into at size pointer)
goes_plainly (Write at from size) ordinary = in_room (Write at from size) (accesses_plain.writes at from size)
goes_plainly (Shift into at by) ordinary = in_room (Shift into at by) (registers_plain.shifts into at by)
goes_plainly (ShiftBy into at by scale) ordinary = in_room (ShiftBy into at by scale) (registers_plain.shifts_by into at by scale)
goes_plainly (Compute into op one other size signed) ordinary = in_room (Compute into op one other size signed) (registers_plain.computes into op one other size signed)
goes_plainly (Convert into from size signed) ordinary = in_room (Convert into from size signed) (registers_plain.converts into from size signed)
goes_plainly (IfSame one other) ordinary = in_room (IfSame one other) (tests_plain.same one other)
goes_plainly (IfDifferent one other) ordinary = in_room (IfDifferent one other) (tests_plain.different one other)
goes_plainly (Allocate into bytes zeroed) ordinary = λ flow point parts post state marks step room. blocks_plain.allocates into bytes zeroed flow point parts post state marks step (ap not room)
goes_plainly (AllocateNone into) ordinary = in_room (AllocateNone into) (registers_plain.refusals into)
goes_plainly (Release at) ordinary = in_room (Release at) (blocks_plain.releases at)
goes_plainly (Fill at from count) ordinary = in_room (Fill at from count) (accesses_plain.fills at from count)
goes_plainly (Copy to from count disjoint) ordinary = in_room (Copy to from count disjoint) (accesses_plain.copies to from count disjoint)
goes_plainly (Enter variables) ordinary = λ flow point parts post state marks step room. blocks_plain.enters variables flow point parts post state marks step (ap not room)
goes_plainly (Leave variables) ordinary = in_room (Leave variables) (ends_plain.leaves variables)
goes_plainly (Finish registers) ordinary = in_room (Finish registers) (ends_plain.finishes registers)
goes_plainly (Input into size signed truth) ordinary = in_room (Input into size signed truth) (registers_plain.inputs into size signed truth)
goes_plainly (Call function arguments into) ordinary = absurd (false≢true ordinary)
goes_plainly (Return from) ordinary = absurd (false≢true ordinary)
goes_plainly Close ordinary = in_room Close ends_plain.closes

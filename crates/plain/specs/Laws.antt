-- What a step comes to on a graph that shows a state, where all that is asked of the instruction is met.
use Rattle.std.specs.Prelude.{◌≡◌, ℕ, Bool, false, ℤ, List}
use Rattle.arithmetic.specs.declared.op.Op.{Op}
use Rattle.graph.specs.declared.parts.Parts.{Parts}
use Rattle.graph.specs.declared.post.Post.{Post}
use Rattle.graph.specs.State.{State, IsState}
use Rattle.graph.specs.Whole.{IsGraph}
use Rattle.changes.specs.Posted.{IsPost}
use Rattle.flow.specs.declared.flow_graph.Flow.{Flow}
use Rattle.flow.specs.declared.instruction.Instr.{Instr}
use Rattle.flow.specs.declared.instruction.Instr.TheVariants.{Number, Address, Move, Read, Write, Shift, ShiftBy, Compute, Convert, IfSame, IfDifferent, Allocate, AllocateNone, Release, Fill, Copy, Enter, Leave, Finish, Input, Close}
use Rattle.edge_steps.specs.EdgeSteps.{EdgeSteps}
use Rattle.edge_steps.specs.Laws.{sizes_at}
use Rattle.transfer.specs.Along.{is_full}
use Rattle.transfer.specs.Fitting.{MayFollow}
use Rattle.transfer.specs.OfRegions.{FitsOfRegions}
use Rattle.transfer.specs.Posts.{edge_post}
use Rattle.plain.specs.Marks.{Marks, marks_after}
use Rattle.plain.specs.Conditions.{IsPlainAt}
use Rattle.plain.specs.Shown.{IsShown, IsPlainPost}

-- a graph of regions shows the state with its marks, and what the instruction asks for is met
pub record IsPlainStep (flow : Flow) (point : ℕ) (instr : Instr) (parts : Parts) (post : Post) (state : State) (marks : Marks) : Type 0 where
  pub graph : IsGraph parts
  pub fits : FitsOfRegions flow point parts
  pub may : MayFollow flow point instr parts
  pub posted : IsPost (edge_post flow instr parts) post
  pub is : IsState state
  pub shown : IsShown parts state marks
  pub plain : IsPlainAt instr state marks

-- then its post is plain
abbrev pub GoesPlainly : Instr → Type 0
GoesPlainly instr = (flow : Flow) (point : ℕ) (parts : Parts) (post : Post) (state : State) (marks : Marks) → IsPlainStep flow point instr parts post state marks →
    IsPlainPost (EdgeSteps flow (sizes_at flow point) instr) state (marks_after instr state marks) post

-- so it is where the graph has room for what the instruction makes
abbrev pub GoesPlainlyInRoom : Instr → Type 0
GoesPlainlyInRoom instr = (flow : Flow) (point : ℕ) (parts : Parts) (post : Post) (state : State) (marks : Marks) → IsPlainStep flow point instr parts post state marks → is_full instr parts ≡ false →
    IsPlainPost (EdgeSteps flow (sizes_at flow point) instr) state (marks_after instr state marks) post

-- so it is of the instructions that touch registers alone, and of an allocation that gives null
pub record AreRegistersPlain : Type 0 where
  pub numbers : (into number size : ℕ) → GoesPlainly (Number into number size)
  pub addresses : (into variable : ℕ) → GoesPlainly (Address into variable)
  pub moves : (into from : ℕ) → GoesPlainly (Move into from)
  pub inputs : (into size : ℕ) (signed truth : Bool) → GoesPlainly (Input into size signed truth)
  pub shifts : (into at : ℕ) (by : ℤ) → GoesPlainly (Shift into at by)
  pub shifts_by : (into at by : ℕ) (scale : ℤ) → GoesPlainly (ShiftBy into at by scale)
  pub computes : (into : ℕ) (op : Op) (one other size : ℕ) (signed : Bool) → GoesPlainly (Compute into op one other size signed)
  pub converts : (into from size : ℕ) (signed : Bool) → GoesPlainly (Convert into from size signed)
  pub refusals : (into : ℕ) → GoesPlainly (AllocateNone into)

-- of loads, stores, fills and copies
pub record AreAccessesPlain : Type 0 where
  pub reads : (into at size : ℕ) (pointer : Bool) → GoesPlainly (Read into at size pointer)
  pub writes : (at from size : ℕ) → GoesPlainly (Write at from size)
  pub fills : (at from count : ℕ) → GoesPlainly (Fill at from count)
  pub copies : (to from count : ℕ) (disjoint : Bool) → GoesPlainly (Copy to from count disjoint)

-- of tests whether two values are the same
pub record AreTestsPlain : Type 0 where
  pub same : (one other : ℕ) → GoesPlainly (IfSame one other)
  pub different : (one other : ℕ) → GoesPlainly (IfDifferent one other)

-- of ends of full expressions, of scopes and of runs
pub record AreEndsPlain : Type 0 where
  pub finishes : (registers : List ℕ) → GoesPlainly (Finish registers)
  pub leaves : (variables : List ℕ) → GoesPlainly (Leave variables)
  pub closes : GoesPlainly Close

-- and of blocks that are made or released
pub record AreBlocksPlain : Type 0 where
  pub allocates : (into bytes : ℕ) (zeroed : Bool) → GoesPlainlyInRoom (Allocate into bytes zeroed)
  pub enters : (variables : List ℕ) → GoesPlainlyInRoom (Enter variables)
  pub releases : (at : ℕ) → GoesPlainly (Release at)

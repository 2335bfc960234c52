-- The law, over all instructions.
use Rattle.std.proofs.Common.{◌≡◌, ℕ, Bool, map, None}
use Rattle.graph.specs.declared.parts.Parts.{Parts}
use Rattle.graph.specs.declared.post.Post.{Post}
use Rattle.graph.specs.AlikeStates.{AreAlikeStates}
use Rattle.graph.specs.Meaning.{StandsFor}
use Rattle.graph.specs.State.{State, IsState}
use Rattle.graph.specs.Whole.{IsGraph}
use Rattle.changes.specs.Posted.{IsPost}
use Rattle.flow.specs.declared.flow_graph.Flow.{Flow}
use Rattle.flow.specs.declared.instruction.Instr.{Instr}
use Rattle.flow.specs.declared.instruction.Instr.TheVariants.{Number, Address, Move, Read, Write, Shift, ShiftBy, Compute, Convert, IfSame, IfDifferent, Allocate, AllocateNone, Release, Fill, Copy, Enter, Leave, Finish, Input, Call, Return, Close}
use Rattle.flow.specs.Machine.{size_in}
use Rattle.edge_steps.specs.EdgeSteps.{EdgeSteps}
use Rattle.edge_steps.specs.Laws.{sizes_at}
use Rattle.transfer.specs.Fitting.{MayFollow}
use Rattle.transfer.specs.Posts.{edge_post}
use Rattle.alike_steps.specs.Laws.{GoesAlike, DoEdgesGoAlike}
use Rattle.alike_steps.proofs.Blocks.{allocate_alike, refuse_alike, release_alike}
use Rattle.alike_steps.proofs.FaultsAlike.{faults_alike}
use Rattle.alike_steps.proofs.RangesAlike.{fill_alike, copy_alike}
use Rattle.alike_steps.proofs.ReadAlike.{read_alike}
use Rattle.alike_steps.proofs.Registers.{numbers_alike, addresses_alike, moves_alike, shifts_alike, shifts_by_alike, computes_alike, converts_alike, inputs_alike}
use Rattle.alike_steps.proofs.Scopes.{enter_alike, leave_alike, finish_alike, close_alike}
use Rattle.alike_steps.proofs.Tests.{same_alike, different_alike}
use Rattle.alike_steps.proofs.WriteAlike.{write_alike}

module _ (flow : Flow) (point : ℕ) (parts : Parts) (post : Post) (there back : ℕ → ℕ) (paired : ℕ → Bool) (one other next : State) (graph : IsGraph parts) (none : post.loss ≡ None)
    (state : IsState one) (state' : IsState other) (stands : StandsFor parts one) (are : AreAlikeStates there back paired one other) where
  goes : (instr : Instr) → MayFollow flow point instr parts → IsPost (edge_post flow instr parts) post → EdgeSteps flow (sizes_at flow point) instr one next →
      GoesAlike (EdgeSteps flow (sizes_at flow point) instr) other next
  goes (Number into number size) may is steps = numbers_alike into number size flow point parts post there back paired one other next graph may is none state state' stands are steps
  goes (Address into variable) may is steps = addresses_alike into variable flow point parts post there back paired one other next graph may is none state state' stands are steps
  goes (Move into from) may is steps = moves_alike into from flow point parts post there back paired one other next graph may is none state state' stands are steps
  goes (Read into at size pointer) may is steps = read_alike flow point at size pointer into parts post there back paired one other next graph may is none stands are steps
  goes (Write at from size) may is steps = write_alike at size from there back paired one other next are steps
  goes (Shift into at by) may is steps = shifts_alike into at by flow point parts post there back paired one other next graph may is none state state' stands are steps
  goes (ShiftBy into at by scale) may is steps = shifts_by_alike into at by scale flow point parts post there back paired one other next graph may is none state state' stands are steps
  goes (Compute into op left right size signed) may is steps =
      computes_alike into op left right size signed flow point parts post there back paired one other next graph may is none state state' stands are steps
  goes (Convert into from size signed) may is steps = converts_alike into from size signed flow point parts post there back paired one other next graph may is none state state' stands are steps
  goes (IfSame left right) may is steps = same_alike left right flow point parts post there back paired one other next graph may is none state state' stands are steps
  goes (IfDifferent left right) may is steps = different_alike left right flow point parts post there back paired one other next graph may is none state state' stands are steps
  goes (Allocate into bytes zeroed) may is steps = allocate_alike bytes zeroed into there back paired one other next are steps
  goes (AllocateNone into) may is steps = refuse_alike into there back paired one other next are steps
  goes (Release at) may is steps = release_alike at there back paired one other next are steps
  goes (Fill at from length) may is steps = fill_alike flow point at from length parts post there back paired one other next graph may is none stands are steps
  goes (Copy to from length disjoint) may is steps = copy_alike to from length disjoint there back paired one other next are steps
  goes (Enter variables) may is steps = enter_alike variables (map (size_in flow) variables) there back paired one other next are steps
  goes (Leave variables) may is steps = leave_alike variables there back paired one other next are steps
  goes (Finish registers) may is steps = finish_alike registers there back paired one other next are steps
  goes (Input into size signed truth) may is steps = inputs_alike into size signed truth flow point parts post there back paired one other next graph may is none state state' stands are steps
  goes (Call function arguments into) may is steps = absurd steps
  goes (Return from) may is steps = absurd steps
  goes Close may is steps = close_alike there back paired one other next are steps

pub edges_go_alike : DoEdgesGoAlike
edges_go_alike = record {
  steps = λ flow point instr parts post there back paired one other next graph may is none state state' stands are steps.
      goes flow point parts post there back paired one other next graph none state state' stands are instr may is steps;
  faults = λ instr kind there back paired one other state state' are faults. faults_alike there back paired one other are instr kind faults;
}

-- The law, over all instructions.
use Rattle.std.proofs.Common.{◌≡◌, ℕ, true, List, [], nat_eq, refl, sym, ◌∙◌, eq-eqb}
use Rattle.std.proofs.lemmas.Bool.{false≢true}
use Rattle.cbase.specs.declared.place.Place.{Place}
use Rattle.bytes_core.specs.declared.word.Word.{Word}
use Rattle.choices.specs.declared.choice.Choice.{Choice}
use Rattle.graph.specs.State as graphs
use Rattle.flow.specs.declared.flow_graph.Flow.{Flow}
use Rattle.flow.specs.declared.flow_graph.FlowEdge.{FlowEdge}
use Rattle.flow.specs.declared.instruction.Instr.{Instr}
use Rattle.flow.specs.declared.instruction.Instr.TheVariants.{Number, Address, Move, Read, Write, Shift, ShiftBy, Compute, Convert, IfSame, IfDifferent, Allocate, AllocateNone, Release, Fill, Copy, Enter, Leave, Finish, Input, Call, Return, Close}
use Rattle.flow.specs.Machine.{State, Barred, execute, step_along}
use Rattle.edge_steps.specs.EdgeSteps.{is_ordinary, EdgeSteps, EdgeFaults}
use Rattle.edge_steps.specs.Laws.{sizes_at, IsAtEdge, AreSeenSteps}
use Rattle.edge_steps.specs.Seen.{seen, HasSizes, ShowsAll}
use Rattle.edge_steps.proofs.Back.{Comes, Meets, if_is, back_number, back_address, back_move, back_read, back_write, back_shift, back_shift_by, back_compute, back_convert, back_same, back_different, back_release, back_fill, back_copy, back_refused, back_input, back_allocate, faults_read, faults_write, faults_release, faults_fill, faults_copy}
use Rattle.edge_steps.proofs.Entered.{AreNew, there_enter, back_enter}
use Rattle.edge_steps.proofs.Left.{AllStand, AreApart, AreOnce, there_leave, back_leave, faults_leave}
use Rattle.edge_steps.proofs.Lost.{there_finish, back_finish, faults_finish, there_close, back_close, faults_close}
use Rattle.edge_steps.proofs.Outcomes.{right_went, right_faulted}
use Rattle.edge_steps.proofs.Ready.{sizes_stand, are_apart, all_shown, new_variables, standing_variables, named_once}
use Rattle.edge_steps.proofs.There.{Right, Steps, Faults, there_number, there_address, there_move, there_read, there_write, there_shift, there_shift_by, there_compute, there_convert, there_same, there_different, there_release, there_fill, there_copy, there_refused, there_input, there_allocate}

-- what is known where an instruction begins
record IsReady (sizes : ℕ → ℕ) (instr : Instr) (state : State) : Type 0 where
  sized : HasSizes sizes state
  shows : ShowsAll state
  apart : AreApart state
  new : (variables : List ℕ) → instr ≡ Enter variables → AreNew variables state.frame.variables
  standing : (variables : List ℕ) → instr ≡ Leave variables → AllStand variables state.frame.variables
  once : (variables : List ℕ) → instr ≡ Leave variables → AreOnce variables

module _ (flow : Flow) (sizes : ℕ → ℕ) (ports : List Word) (to : ℕ) (place : Place) (state : State) where
  goes_right : (instr : Instr) (choices : List Choice) → is_ordinary instr ≡ true → IsReady sizes instr state → Right flow sizes ports to place state choices instr
  goes_right (Number into number size) choices ordinary ready = there_number flow sizes ports to place state choices into number size
  goes_right (Address into variable) choices ordinary ready = there_address flow sizes ports to place state choices into variable
  goes_right (Move into from) choices ordinary ready = there_move flow sizes ports to place state choices into from
  goes_right (Read into from size pointer) choices ordinary ready = there_read flow sizes ports to place state choices into from size pointer
  goes_right (Write address from size) choices ordinary ready = there_write flow sizes ports to place state choices address from size
  goes_right (Shift into address by) choices ordinary ready = there_shift flow sizes ports to place state choices into address by
  goes_right (ShiftBy into address by scale) choices ordinary ready = there_shift_by flow sizes ports to place state choices into address by scale
  goes_right (Compute into op one other size signed) choices ordinary ready = there_compute flow sizes ports to place state choices into op one other size signed
  goes_right (Convert into from size signed) choices ordinary ready = there_convert flow sizes ports to place state choices ready.sized into from size signed
  goes_right (IfSame one other) choices ordinary ready = there_same flow sizes ports to place state choices one other
  goes_right (IfDifferent one other) choices ordinary ready = there_different flow sizes ports to place state choices one other
  goes_right (Allocate into bytes zeroed) choices ordinary ready = there_allocate flow sizes ports to place state choices into bytes zeroed
  goes_right (AllocateNone into) choices ordinary ready = there_refused flow sizes ports to place state choices into
  goes_right (Release address) choices ordinary ready = there_release flow sizes ports to place state choices address
  goes_right (Fill address from count) choices ordinary ready = there_fill flow sizes ports to place state choices address from count
  goes_right (Copy target from count disjoint) choices ordinary ready = there_copy flow sizes ports to place state choices target from count disjoint
  goes_right (Enter variables) choices ordinary ready = there_enter flow ports sizes to place state choices variables (ready.new variables refl)
  goes_right (Leave variables) choices ordinary ready = there_leave flow sizes ports to place state ready.shows ready.apart variables (ready.standing variables refl) (ready.once variables refl) choices
  goes_right (Finish registers) choices ordinary ready = there_finish flow sizes ports to place state ready.shows choices registers
  goes_right (Input into size signed truth) choices ordinary ready = there_input flow sizes ports to place state choices into size signed truth
  goes_right (Call function arguments into) choices ordinary ready = absurd (false≢true ordinary)
  goes_right (Return from) choices ordinary ready = absurd (false≢true ordinary)
  goes_right Close choices ordinary ready = there_close flow sizes ports to place state choices

  comes_back : (instr : Instr) (others : List Choice) (after : graphs.State) → IsReady sizes instr state → EdgeSteps flow sizes instr (seen ports state) after → Comes flow instr ports to place state others after
  comes_back (Number into number size) others after ready steps = back_number flow ports to place state others after into number size steps
  comes_back (Address into variable) others after ready steps = back_address flow ports to place state others after into variable steps
  comes_back (Move into from) others after ready steps = back_move flow ports to place state others after into from steps
  comes_back (Read into from size pointer) others after ready steps = back_read flow ports to place state others after into from size pointer steps
  comes_back (Write address from size) others after ready steps = back_write flow ports to place state others after address from size steps
  comes_back (Shift into address by) others after ready steps = back_shift flow ports to place state others after into address by steps
  comes_back (ShiftBy into address by scale) others after ready steps = back_shift_by flow ports to place state others after into address by scale steps
  comes_back (Compute into op one other size signed) others after ready steps = back_compute flow ports to place state others after into op one other size signed steps
  comes_back (Convert into from size signed) others after ready steps = back_convert flow ports to place state others after sizes ready.sized into from size signed steps
  comes_back (IfSame one other) others after ready steps = back_same flow ports to place state others after one other steps
  comes_back (IfDifferent one other) others after ready steps = back_different flow ports to place state others after one other steps
  comes_back (Allocate into bytes zeroed) others after ready steps = back_allocate flow ports to place state others after into bytes zeroed steps
  comes_back (AllocateNone into) others after ready steps = back_refused flow ports to place state others after into steps
  comes_back (Release address) others after ready steps = back_release flow ports to place state others after address steps
  comes_back (Fill address from count) others after ready steps = back_fill flow ports to place state others after address from count steps
  comes_back (Copy target from count disjoint) others after ready steps = back_copy flow ports to place state others after target from count disjoint steps
  comes_back (Enter variables) others after ready steps = back_enter flow ports sizes to place state others after variables (ready.new variables refl) steps
  comes_back (Leave variables) others after ready steps = back_leave flow sizes ports to place state ready.shows ready.apart variables (ready.standing variables refl) (ready.once variables refl) others after steps
  comes_back (Finish registers) others after ready steps = back_finish flow sizes ports to place state ready.shows others after registers steps
  comes_back (Input into size signed truth) others after ready steps = back_input flow ports to place state others after into size signed truth steps
  comes_back (Call function arguments into) others after ready steps = absurd steps
  comes_back (Return from) others after ready steps = absurd steps
  comes_back Close others after ready steps = back_close flow sizes ports to place state others after steps

  meets_back : (instr : Instr) (others : List Choice) (kind : ℕ) → IsReady sizes instr state → EdgeFaults instr kind (seen ports state) → Meets flow instr to place state kind
  meets_back (Number into number size) others kind ready faults = absurd faults
  meets_back (Address into variable) others kind ready faults = absurd faults
  meets_back (Move into from) others kind ready faults = absurd faults
  meets_back (Read into from size pointer) others kind ready faults = faults_read flow ports to place state others kind into from size pointer faults
  meets_back (Write address from size) others kind ready faults = faults_write flow ports to place state others kind address from size faults
  meets_back (Shift into address by) others kind ready faults = absurd faults
  meets_back (ShiftBy into address by scale) others kind ready faults = absurd faults
  meets_back (Compute into op one other size signed) others kind ready faults = absurd faults
  meets_back (Convert into from size signed) others kind ready faults = absurd faults
  meets_back (IfSame one other) others kind ready faults = absurd faults
  meets_back (IfDifferent one other) others kind ready faults = absurd faults
  meets_back (Allocate into bytes zeroed) others kind ready faults = absurd faults
  meets_back (AllocateNone into) others kind ready faults = absurd faults
  meets_back (Release address) others kind ready faults = faults_release flow ports to place state others kind address faults
  meets_back (Fill address from count) others kind ready faults = faults_fill flow ports to place state others kind address from count faults
  meets_back (Copy target from count disjoint) others kind ready faults = faults_copy flow ports to place state others kind target from count disjoint faults
  meets_back (Enter variables) others kind ready faults = absurd faults
  meets_back (Leave variables) others kind ready faults = faults_leave flow sizes ports to place state ready.shows ready.apart variables (ready.standing variables refl) (ready.once variables refl) others kind faults
  meets_back (Finish registers) others kind ready faults = faults_finish flow sizes ports to place state ready.shows others kind registers faults
  meets_back (Input into size signed truth) others kind ready faults = absurd faults
  meets_back (Call function arguments into) others kind ready faults = absurd faults
  meets_back (Return from) others kind ready faults = absurd faults
  meets_back Close others kind ready faults = faults_close flow sizes ports to place state others kind faults

ready_at : (flow : Flow) (edge : FlowEdge) (state : State) → IsAtEdge flow edge state → IsReady (sizes_at flow edge.from) edge.instr state
ready_at flow edge state here = record {
  sized = sizes_stand flow edge state here;
  shows = all_shown flow edge state here;
  apart = are_apart flow edge state here;
  new = new_variables flow edge state here;
  standing = standing_variables flow edge state here;
  once = named_once flow edge state here;
}

-- a step along an edge out of the point
along : (flow : Flow) (edge : FlowEdge) (state : State) (choices : List Choice) → edge.from ≡ state.point → step_along flow edge state choices ≡ execute flow edge.instr edge.to edge.place state choices
along flow edge state choices here = if_is (nat_eq edge.from state.point) (execute flow edge.instr edge.to edge.place state choices) Barred (eq-eqb edge.from state.point here)

pub seen_steps : AreSeenSteps
seen_steps = record {
  steps = λ flow edge ports state next choices others here is.
      right_went (Steps flow (sizes_at flow edge.from) ports edge.to edge.place state choices edge.instr) (Faults flow (sizes_at flow edge.from) ports edge.to edge.place state choices edge.instr) edge.place
      (execute flow edge.instr edge.to edge.place state choices) next others
      (goes_right flow (sizes_at flow edge.from) ports edge.to edge.place state edge.instr choices here.ordinary (ready_at flow edge state here))
      (sym (along flow edge state choices here.here) ∙ is);
  faults = λ flow edge ports state choices kind place here is.
      (right_faulted (Steps flow (sizes_at flow edge.from) ports edge.to edge.place state choices edge.instr) (Faults flow (sizes_at flow edge.from) ports edge.to edge.place state choices edge.instr) edge.place
      (execute flow edge.instr edge.to edge.place state choices) kind place
      (goes_right flow (sizes_at flow edge.from) ports edge.to edge.place state edge.instr choices here.ordinary (ready_at flow edge state here))
      (sym (along flow edge state choices here.here) ∙ is)).0;
  back = λ flow edge ports state after others here steps.
      let comes = comes_back flow (sizes_at flow edge.from) ports edge.to edge.place state edge.instr others after (ready_at flow edge state here) steps in record {
        choices = comes.choices;
        next = comes.next;
        goes = along flow edge state comes.choices here.here ∙ comes.goes;
        same = comes.same;
      };
  faults_back = λ flow edge ports state kind here faults.
      let meets = meets_back flow (sizes_at flow edge.from) ports edge.to edge.place state edge.instr [] kind (ready_at flow edge state here) faults in record {
        choices = meets.choices;
        faults = along flow edge state meets.choices here.here ∙ meets.faults;
      };
}

-- The analysis leaves nothing out.
use Rattle.std.proofs.Common.{◌≡◌, ℕ, List, ap, sym, subst, ◌∙◌, Some}
use Rattle.std.specs.Prelude.{true, slice_get, Contains}
use Rattle.graph.specs.declared.parts.Parts.{Parts}
use Rattle.graph.specs.declared.post.Post.{Post}
use Rattle.graph.specs.Whole.{IsGraph}
use Rattle.graph.specs.Meaning.{StandsFor}
use Rattle.coarse.proofs.Means.{left_stands}
use Rattle.cover.proofs.Free.{covers-stands}
use Rattle.flow.specs.declared.flow_graph.Flow.{Flow}
use Rattle.flow.specs.declared.flow_graph.FlowEdge.{FlowEdge}
use Rattle.flow.specs.declared.instruction.Instr.{Instr}
use Rattle.flow.specs.declared.instruction.Instr.TheVariants.{Number, Address, Move, Read, Write, Shift, ShiftBy, Compute, Convert, IfSame, IfDifferent, Allocate, AllocateNone, Release, Fill, Copy, Enter, Leave, Finish, Input, Call, Return, Close}
use Rattle.flow.specs.Machine.{State}
use Rattle.flow.specs.Valid.{IsFlow}
use Rattle.edge_steps.specs.EdgeSteps as edges
use Rattle.transfer.specs.Laws as laws
use Rattle.transfer.proofs.Runs.{start_stands, post_stands, post_has}
use Rattle.trail.specs.Seen.{seen, IsOf, is_ordinary}
use Rattle.trail.specs.Analysis.{IsSound}
use Rattle.tidying.specs.Tidied.{tidied}
use Rattle.tidying.proofs.Kept.{tidied_means}
use Rattle.trail.proofs.Sound.{same_some, at_number}
use Rattle.driver.specs.Leaving.{IsPostOf}
use Rattle.driver.proofs.Left.{left_there}
use Rattle.driver.specs.Driven.{driven, widening, IsPostThere}

pub along : (flow : Flow) (number : ℕ) (edge : FlowEdge) (graph : Parts) (post : Post) → slice_get flow.edges number ≡ Some edge → IsPostThere flow number graph post → IsPostOf flow edge graph post
along flow number edge graph post stands is = subst (λ (e : FlowEdge). IsPostOf flow e graph post) (same_some is.edge edge (sym is.stands ∙ stands)) is.is

-- the words of the posts
pub ordinary_there : (instr : Instr) → is_ordinary instr ≡ true → edges.is_ordinary instr ≡ true
ordinary_there (Number into number size) is = is
ordinary_there (Address into variable) is = is
ordinary_there (Move into from) is = is
ordinary_there (Read into at size pointer) is = is
ordinary_there (Write at from size) is = is
ordinary_there (Shift into at by) is = is
ordinary_there (ShiftBy into at by scale) is = is
ordinary_there (Compute into op one other size signed) is = is
ordinary_there (Convert into from size signed) is = is
ordinary_there (IfSame one other) is = is
ordinary_there (IfDifferent one other) is = is
ordinary_there (Allocate into bytes zeroed) is = is
ordinary_there (AllocateNone into) is = is
ordinary_there (Release at) is = is
ordinary_there (Fill at from length) is = is
ordinary_there (Copy to from length disjoint) is = is
ordinary_there (Enter variables) is = is
ordinary_there (Leave variables) is = is
ordinary_there (Finish registers) is = is
ordinary_there (Input into size signed truth) is = is
ordinary_there (Call function arguments into) is = is
ordinary_there (Return from) is = is
ordinary_there Close is = is

of_there : (flow : Flow) (state : State) → IsOf flow state → laws.IsOf flow state
of_there flow state is = record { run = is.run; callers = is.callers; outer = is.outer }

pub sound : (flow : Flow) (limit : ℕ) → IsFlow flow → IsSound driven (widening limit) flow
sound flow limit valid = record {
  start = λ graph state choices rest is goes. start_stands flow graph state choices rest valid is goes;
  steps = λ number edge graph post state next stands ordinary fits is tame of here steps.
      let post_is : IsPostOf flow edge graph post = along flow number edge graph post stands is in
      let among : laws.StandsAmong post_is.whole.graphs next =
      post_stands flow number edge graph post_is.whole state next valid stands (ordinary_there edge.instr ordinary) post_is.is
      (λ loss. sym post_is.left.kinds ∙ tame (post_is.left.loss ∙ loss)) (of_there flow state of) here steps in
      record {
        number = among.place;
        graph = tidied among.graph;
        there = ap (λ (gs : List Parts). slice_get gs among.place) post_is.left.graphs.same ∙ left_there post_is.whole.graphs among.place among.graph among.there;
        stands = (tidied_means among.graph (at_number IsGraph post_is.whole.graphs among.place among.graph post_is.left.graphs.are among.there) (seen next)).1 among.stands;
      };
  faults = λ number edge graph post state kind stands ordinary fits is of here faults.
      let post_is : IsPostOf flow edge graph post = along flow number edge graph post stands is in
      subst (λ (kinds : List ℕ). Contains kinds kind) (sym post_is.left.kinds)
      (post_has flow number edge graph post_is.whole state kind valid stands (ordinary_there edge.instr ordinary) post_is.is (of_there flow state of) here faults);
  covers = λ point wide narrow state fits covers here.
      covers-stands wide narrow fits.graph_is.well_formed fits.graph_is.within_limits covers (seen state) here.given here.meets;
  folds = λ point graph after state fits is here. is.means (seen state) here;
  coarsens = λ point graph after state fits is here.
      subst (λ (g : Parts). StandsFor g (seen state)) (sym is.is) (left_stands limit graph fits.graph_is (seen state) here);
}

-- The three things that hold of each state of a run, together.
use Rattle.std.proofs.Common.{◌≡◌, List, [], ◌∷◌, inl, inr, refl}
use Rattle.std.specs.Prelude.{Contains}
use Rattle.choices.specs.declared.choice.Choice.{Choice}
use Rattle.flow.specs.declared.flow_graph.Flow.{Flow}
use Rattle.flow.specs.declared.flow_graph.FlowEdge.{FlowEdge}
use Rattle.flow.specs.Machine.{State, Outcome, Went, Barred, Waits, Ended, Faulted, step, step_along, step_among, unless_barred}
use Rattle.flow.specs.RunStates.{IsRunState, AreRunStates}
use Rattle.flow.specs.Valid.{IsFlow}
use Rattle.flow.proofs.Ascending.{Among, Contains-among}
use Rattle.flow.proofs.KeepingLaws.{steps_keep, runs_keep}
use Rattle.flow.proofs.FittingLaws.{steps_fit, runs_fit}
use Rattle.flow.proofs.MemorySteps.{steps_keep_memory}
use Rattle.flow.proofs.MemoryRuns.{runs_keep_memory}
use Rattle.flow.proofs.Outcomes.{Leaves, left_state}

edge_keeps : (flow : Flow) (edge : FlowEdge) (state next : State) (choices rest : List Choice) →
    IsFlow flow → Contains flow.edges edge → IsRunState flow state → step_along flow edge state choices ≡ Went next rest → IsRunState flow next
edge_keeps flow edge state next choices rest valid contains is goes = record {
  stands = steps_keep flow edge state next choices rest valid contains is.stands goes;
  fits = steps_fit flow edge state next choices rest valid contains is.fits goes;
  leads = steps_keep_memory flow edge state next choices rest valid contains is.stands is.leads goes;
}

leaves_of : (flow : Flow) (outcome : Outcome) → ((next : State) (rest : List Choice) → outcome ≡ Went next rest → IsRunState flow next) → Leaves outcome (IsRunState flow)
leaves_of flow (Went next rest) each = each next rest refl
leaves_of flow Barred each = tt
leaves_of flow Waits each = tt
leaves_of flow Ended each = tt
leaves_of flow (Faulted kind place) each = tt

among_keeps : (flow : Flow) (edges : List FlowEdge) (state : State) (choices : List Choice) → IsFlow flow →
    ((edge : FlowEdge) → Among edges edge → Contains flow.edges edge) → IsRunState flow state → Leaves (step_among flow edges state choices) (IsRunState flow)
among_keeps flow [] state choices valid stand is = tt
among_keeps flow (edge ∷ rest) state choices valid stand is =
    by_outcome (step_along flow edge state choices)
    (leaves_of flow (step_along flow edge state choices) (λ next more goes. edge_keeps flow edge state next choices more valid (stand edge (inl refl)) is goes))
    (among_keeps flow rest state choices valid (λ edge among. stand edge (inr among)) is)
  where
    by_outcome : (outcome : Outcome) → Leaves outcome (IsRunState flow) → Leaves (step_among flow rest state choices) (IsRunState flow) →
        Leaves (unless_barred outcome (step_among flow rest state choices)) (IsRunState flow)
    by_outcome (Went next more) leaves later = leaves
    by_outcome Barred leaves later = later
    by_outcome Waits leaves later = tt
    by_outcome Ended leaves later = tt
    by_outcome (Faulted kind place) leaves later = tt

pub are_run_states : AreRunStates
are_run_states = record {
  edges = edge_keeps;
  steps = λ flow state next choices rest valid is goes.
      left_state (step flow state choices) (IsRunState flow) next rest
      (among_keeps flow flow.edges state choices valid (λ edge among. Contains-among flow.edges edge among) is) goes;
  runs = λ flow state choices rest steps valid small is. record {
    stands = runs_keep flow state choices rest steps valid is;
    fits = runs_fit flow state choices rest steps valid is;
    leads = runs_keep_memory flow state choices rest steps valid small is;
  };
}

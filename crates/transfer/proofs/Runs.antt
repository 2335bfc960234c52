-- What the start graph and posts say of runs without calls.
use Rattle.std.proofs.Common.{◌≡◌, ℕ, Bool, true, false, List, [], Some, refl, sym, ◌∙◌, ap, subst, nat_eq, eqb-true}
use Rattle.std.specs.Prelude.{slice_get, if◌then◌else◌}
use Rattle.std.proofs.lemmas.Bool.{false≢true}
use Rattle.std.proofs.lemmas.Option.{same_Some}
use Rattle.choices.specs.declared.choice.Choice.{Choice}
use Rattle.graph.specs.declared.parts.Parts.{Parts}
use Rattle.graph.specs.Meaning.{StandsFor}
use Rattle.graph.specs.Whole.{IsGraph}
use Rattle.flow.specs.declared.flow_graph.Flow.{Flow}
use Rattle.flow.specs.declared.flow_graph.FlowEdge.{FlowEdge}
use Rattle.flow.specs.Machine.{State, Outcome, Went, Barred, Waits, Ended, Faulted, execute, step_along}
use Rattle.flow.specs.Runs as runs
use Rattle.flow.specs.Runs.{StepsTo, FaultsAlong}
use Rattle.flow.specs.Valid.{IsFlow}
use Rattle.flow.proofs.Outcomes.{left_state}
use Rattle.heap_steps.proofs.Listed.{Contains-get, get_contained}
use Rattle.edge_steps.specs.EdgeSteps.{is_ordinary}
use Rattle.edge_steps.specs.Seen.{seen}
use Rattle.changes.specs.Posted.{SomeStandsFor}
use Rattle.transfer.specs.Laws.{IsOf, DoesStartStand, DoPostsStand, DoPostsHave, AreKindsSame}
use Rattle.transfer.specs.Machine.{IsStoodFor}
use Rattle.transfer.specs.Start.{start_graph}
use Rattle.transfer.proofs.Sound.{posts_sound}
use Rattle.transfer.proofs.StartSound.{start_leaves}

pub start_stands : DoesStartStand
start_stands flow parts state choices rest valid is goes =
    subst (λ (p : Parts). StandsFor p (seen [] state)) (sym is.is)
    (left_state (runs.start flow choices) (λ s. StandsFor (start_graph flow) (seen [] s)) state rest (start_leaves flow valid (subst IsGraph is.is is.graph) choices) goes)

-- a step or a fault begins at the point of its edge
abbrev is_barred : Outcome → Bool
is_barred Barred = true
is_barred (Went next rest) = false
is_barred Waits = false
is_barred Ended = false
is_barred (Faulted kind place) = false

not_barred : (flow : Flow) (edge : FlowEdge) (state : State) (choices : List Choice) (outcome : Outcome) → step_along flow edge state choices ≡ outcome → is_barred outcome ≡ false → edge.from ≡ state.point
not_barred flow edge state choices outcome goes free = by_test (nat_eq edge.from state.point) refl goes
  where
    by_test : (b : Bool) → nat_eq edge.from state.point ≡ b → (if b then execute flow edge.instr edge.to edge.place state choices else Barred) ≡ outcome → edge.from ≡ state.point
    by_test true same goes = eqb-true _ _ same
    by_test false differ goes = absurd (false≢true (sym free ∙ ap is_barred (sym goes)))

module _ (flow : Flow) (number : ℕ) (edge : FlowEdge) (parts : Parts) (state : State) (valid : IsFlow flow) (stands : slice_get flow.edges number ≡ Some edge) (ordinary : is_ordinary edge.instr ≡ true)
    (here : IsOf flow state) (stood : StandsFor parts (seen [] state)) where
  stood_for : edge.from ≡ state.point → IsStoodFor flow edge parts state
  stood_for from = record {
    at_edge = record { flow_is = valid; among = Contains-get flow.edges number edge stands; ordinary = ordinary; here = from; runs = here.run };
    callers = here.callers;
    outer = here.outer;
    stands = stood;
  }

pub post_stands : DoPostsStand
post_stands flow number edge parts post state next valid stands ordinary along tame here stood steps = record { place = at.0; graph = found.graph; there = at.1; stands = found.stands }
  where
    goes : step_along flow edge state steps.choices ≡ Went next steps.rest
    goes = subst (λ (e : FlowEdge). step_along flow e state steps.choices ≡ Went next steps.rest) (same_Some _ _ (sym steps.stands ∙ stands)) steps.goes

    found : SomeStandsFor post.graphs (seen [] next)
    found = posts_sound.steps flow edge parts post state next steps.choices steps.rest along.means
        (stood_for flow number edge parts state valid stands ordinary here stood (not_barred flow edge state steps.choices (Went next steps.rest) goes refl)) goes tame

    at : (place : ℕ) × (slice_get post.graphs place ≡ Some found.graph)
    at = get_contained post.graphs found.graph found.among

pub post_has : DoPostsHave
post_has flow number edge parts post state kind valid stands ordinary along here stood faults =
    posts_sound.faults flow edge parts post state faults.choices kind edge.place along.means
    (stood_for flow number edge parts state valid stands ordinary here stood (not_barred flow edge state faults.choices (Faulted kind edge.place) goes refl)) goes
  where
    goes : step_along flow edge state faults.choices ≡ Faulted kind edge.place
    goes = subst (λ (e : FlowEdge). step_along flow e state faults.choices ≡ Faulted kind e.place) (same_Some _ _ (sym faults.stands ∙ stands)) faults.faults

pub same_kinds : AreKindsSame
same_kinds flow edge parts one other is also = is.is.kinds ∙ sym also.is.kinds

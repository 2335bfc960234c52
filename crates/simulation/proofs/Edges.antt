-- A step goes along the edges out of its point.
use Rattle.std.proofs.Common.{◌≡◌, ℕ, List, [], ◌∷◌, Bool, true, false, cond, filter, refl, sym, ap, ◌∙◌, nat_eq, eq-eqb, if◌then◌else◌}
use Rattle.cbase.specs.declared.place.Place.{Place}
use Rattle.flow.specs.declared.instruction.Instr.{Instr}
use Rattle.flow.specs.declared.flow_graph.Flow.{Flow}
use Rattle.flow.specs.declared.flow_graph.FlowEdge.{FlowEdge}
use Rattle.choices.specs.declared.choice.Choice.{Choice}
use Rattle.flow.specs.Machine.{State, Barred, Ended, execute, step, step_among, unless_barred}
use Rattle.simulation.specs.Edges.{One, Two, NoEdge}

-- whether an edge begins at a point
abbrev begins : ℕ → FlowEdge → Bool
begins point edge = nat_eq edge.from point

among_out : (flow : Flow) (edges : List FlowEdge) (state : State) (choices : List Choice) →
    step_among flow edges state choices ≡ step_among flow (filter (begins state.point) edges) state choices
among_out flow [] state choices = refl
among_out flow (edge ∷ edges) state choices = by_test (nat_eq edge.from state.point) refl (among_out flow edges state choices)
  where
    by_test : (here : Bool) → nat_eq edge.from state.point ≡ here →
        step_among flow edges state choices ≡ step_among flow (filter (begins state.point) edges) state choices →
        unless_barred (if here then execute flow edge.instr edge.to edge.place state choices else Barred) (step_among flow edges state choices)
        ≡ step_among flow (cond here (edge ∷ filter (begins state.point) edges) (filter (begins state.point) edges)) state choices
    by_test true is later =
        ap (unless_barred (execute flow edge.instr edge.to edge.place state choices)) later
        ∙ ap (λ (b : Bool). unless_barred (if b then execute flow edge.instr edge.to edge.place state choices else Barred)
        (step_among flow (filter (begins state.point) edges) state choices)) (sym is)
    by_test false is later = later

abbrev edge_of : ℕ → Instr → ℕ → Place → FlowEdge
edge_of from instr to place = record { from = from; to = to; instr = instr; place = place }

pub one_edge : (flow : Flow) (state : State) (choices : List Choice) (instr : Instr) (to : ℕ) (place : Place) → One flow state.point instr to place →
    step flow state choices ≡ unless_barred (execute flow instr to place state choices) Ended
one_edge flow state choices instr to place one =
    among_out flow flow.edges state choices
    ∙ (ap (λ (edges : List FlowEdge). step_among flow edges state choices) one
    ∙ ap (λ (b : Bool). unless_barred (if b then execute flow instr to place state choices else Barred) Ended) (eq-eqb state.point state.point refl))

pub two_edges : (flow : Flow) (state : State) (choices : List Choice) (instr : Instr) (to : ℕ) (place : Place) (instr' : Instr) (to' : ℕ) (place' : Place) →
    Two flow state.point instr to place instr' to' place' →
    step flow state choices ≡ unless_barred (execute flow instr to place state choices) (unless_barred (execute flow instr' to' place' state choices) Ended)
two_edges flow state choices instr to place instr' to' place' two =
    among_out flow flow.edges state choices
    ∙ (ap (λ (edges : List FlowEdge). step_among flow edges state choices) two
    ∙ ap (λ (b : Bool). unless_barred (if b then execute flow instr to place state choices else Barred)
    (unless_barred (if b then execute flow instr' to' place' state choices else Barred) Ended)) (eq-eqb state.point state.point refl))

pub no_edge : (flow : Flow) (state : State) (choices : List Choice) → NoEdge flow state.point → step flow state choices ≡ Ended
no_edge flow state choices none = among_out flow flow.edges state choices ∙ ap (λ (edges : List FlowEdge). step_among flow edges state choices) none

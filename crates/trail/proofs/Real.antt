-- Near each state of an entry behind a chain of steps without loss comes a run.
use Rattle.std.proofs.Common.{◌≡◌, ℕ, zero, suc, List, [], ◌∷◌, ◌++◌, false, refl, sym, ap, subst, ◌∙◌, None, Some, take, drop}
use Rattle.std.specs.Prelude.{slice_get}
use Rattle.graph.specs.Meaning.{StandsFor}
use Rattle.graph.specs.State as graphs
use Rattle.flow.specs.declared.flow_graph.Flow.{Flow}
use Rattle.flow.specs.declared.flow_graph.FlowEdge.{FlowEdge}
use Rattle.choices.specs.declared.choice.Choice.{Choice}
use Rattle.flow.specs.InRange.{entry_of}
use Rattle.flow.specs.Machine.{State, Outcome, Went, Barred, Waits, Ended, Faulted, execute, step_along, step}
use Rattle.flow.specs.Runs.{start, then_go, RunFaults, StepsTo, FaultsAlong}
use Rattle.flow.specs.Valid.{IsFlow}
use Rattle.flow.specs.Exclusive.{IsExclusive}
use Rattle.flow.specs.Choosing.{choices_asked, with_more, IsByFirst}
use Rattle.flow.proofs.ExclusiveLaws.{edges_step}
use Rattle.flow.proofs.ChoosingLaws.{steps_by_first, runs_keep_more}
use Rattle.flow.proofs.RunStateLaws.{are_run_states}
use Rattle.trail.specs.declared.trail.Cause.TheVariants.{Start}
use Rattle.trail.specs.declared.trail.Entry.{Entry}
use Rattle.trail.specs.Seen.{IsOf, is_call, HasNoCalls}
use Rattle.trail.specs.Analysis.{Analysis, Widening, Nearness, IsSharp, IsExact, IsNear, IsBegun, GoesNear, IsLedTo, IsFaulting, Fits}
use Rattle.trail.specs.Trail.{At, Made, IsResult, AreHonest, IsReal, RealStart, RealStep}
use Rattle.trail.specs.Theorems.{HaveOffsets, MeetsErrors}
use Rattle.trail.proofs.Steps.{IsAt, Nowhere, told_state, begins, executes, GoesFrom, goes_from, whole, whole_none, whole_last}
use Rattle.trail.proofs.Sound.{same_some, contained, at_number}

at_front : {A : Type 0} (items : List A) (count number : ℕ) (item : A) → slice_get (take count items) number ≡ Some item → slice_get items number ≡ Some item
at_front [] zero number item e = absurd cc
at_front [] (suc count) number item e = absurd cc
at_front (first ∷ rest) zero number item e = absurd cc
at_front (first ∷ rest) (suc count) zero item e = e
at_front (first ∷ rest) (suc count) (suc number) item e = at_front rest count number item e

-- some run leads to the state, and takes all its choices
pub record IsReached (flow : Flow) (state : State) : Type 0 where
  pub steps : ℕ
  pub choices : List Choice
  pub goes : whole flow steps choices ≡ Went state []

-- and with more choices these are left
with_rest : (flow : Flow) (state : State) (reached : IsReached flow state) (more : List Choice) → whole flow reached.steps (reached.choices ++ more) ≡ Went state more
with_rest flow state reached more =
    runs_keep_more.programs flow reached.steps reached.choices more (λ waits. absurd (let e : Went state [] ≡ Waits = sym reached.goes ∙ waits in cc))
    ∙ ap (with_more more) reached.goes

-- and one more step is the step of that state
one_more : (flow : Flow) (state : State) (reached : IsReached flow state) (more : List Choice) →
    whole flow (suc reached.steps) (reached.choices ++ more) ≡ step flow state more
one_more flow state reached more =
    whole_last flow reached.steps (reached.choices ++ more) ∙ ap (λ (o : Outcome). then_go o (step flow)) (with_rest flow state reached more)

-- a step along an edge with just the choices that it takes
record TakesAll (flow : Flow) (edge : FlowEdge) (state next : State) : Type 0 where
  choices : List Choice
  goes : step_along flow edge state choices ≡ Went next []

takes_all : (flow : Flow) (edge : FlowEdge) (state next : State) (choices rest : List Choice) → step_along flow edge state choices ≡ Went next rest → TakesAll flow edge state next
takes_all flow edge state next choices rest goes =
    by_outcome (step_along flow edge state (take asked choices)) refl (sym goes ∙ by.first choices)
  where
    asked : ℕ
    asked = choices_asked flow edge.instr

    by : IsByFirst (choices_asked flow edge.instr) (step_along flow edge state)
    by = steps_by_first flow edge state

    drop_take : (count : ℕ) (items : List Choice) → drop count (take count items) ≡ []
    drop_take zero [] = refl
    drop_take zero (x ∷ xs) = refl
    drop_take (suc count) [] = refl
    drop_take (suc count) (x ∷ xs) = drop_take count xs

    by_outcome : (outcome : Outcome) → step_along flow edge state (take (choices_asked flow edge.instr) choices) ≡ outcome →
        Went next rest ≡ with_more (drop (choices_asked flow edge.instr) choices) (step_along flow edge state (take (choices_asked flow edge.instr) choices)) →
        TakesAll flow edge state next
    by_outcome (Went after left) is same =
        let whole : Went next rest ≡ Went after (left ++ drop (choices_asked flow edge.instr) choices) = same ∙ ap (with_more (drop (choices_asked flow edge.instr) choices)) is in
        let one : next ≡ after = cc in
        let none : left ≡ [] = (by.taken (take (choices_asked flow edge.instr) choices) after left is).1 ∙ drop_take (choices_asked flow edge.instr) choices in
        record { choices = take (choices_asked flow edge.instr) choices; goes = is ∙ cc }
    by_outcome Barred is same = let e : Went next rest ≡ Barred = same ∙ ap (with_more (drop (choices_asked flow edge.instr) choices)) is in absurd cc
    by_outcome Waits is same = let e : Went next rest ≡ Waits = same ∙ ap (with_more (drop (choices_asked flow edge.instr) choices)) is in absurd cc
    by_outcome Ended is same = let e : Went next rest ≡ Ended = same ∙ ap (with_more (drop (choices_asked flow edge.instr) choices)) is in absurd cc
    by_outcome (Faulted kind place) is same = let e : Went next rest ≡ Faulted kind place = same ∙ ap (with_more (drop (choices_asked flow edge.instr) choices)) is in absurd cc

-- what is reached in one step more
reaches : (flow : Flow) → IsExclusive flow → (number : ℕ) (state next : State) → IsReached flow state → StepsTo flow number state next → IsReached flow next
reaches flow exclusive number state next reached steps =
    let all : TakesAll flow steps.edge state next = takes_all flow steps.edge state next steps.choices steps.rest steps.goes in
    let step_is : step flow state all.choices ≡ Went next [] = edges_step.goes flow steps.edge state next all.choices [] exclusive (contained flow.edges number steps.edge steps.stands) all.goes in
    record { steps = suc reached.steps; choices = reached.choices ++ all.choices; goes = one_more flow state reached all.choices ∙ step_is }

faults_there : (flow : Flow) → IsExclusive flow → (number kind : ℕ) (state : State) → IsReached flow state → (faults : FaultsAlong flow number state kind) → RunFaults flow kind faults.edge.place
faults_there flow exclusive number kind state reached faults =
    let step_is : step flow state faults.choices ≡ Faulted kind faults.edge.place =
    edges_step.faults flow faults.edge state faults.choices kind faults.edge.place exclusive (contained flow.edges number faults.edge faults.stands) faults.faults in
    record { choices = reached.choices ++ faults.choices; steps = suc reached.steps; faults = one_more flow state reached faults.choices ∙ step_is }

-- where a step leads: to its edge's end, with the same callers and blocks outside
arrives : (flow : Flow) → HasNoCalls flow → (number : ℕ) (state next : State) → IsOf flow state → (steps : StepsTo flow number state next) → IsAt steps.edge.to state.callers state.outer next
arrives flow calls number state next of steps =
    let inside : is_call steps.edge.instr ≡ false = at_number (λ edge. is_call edge.instr ≡ false) flow.edges number steps.edge calls steps.stands in
    let from : GoesFrom flow steps.edge state steps.choices (Went next steps.rest) = goes_from flow steps.edge state steps.choices (Went next steps.rest) (λ e. absurd cc) steps.goes in
    told_state (execute flow steps.edge.instr steps.edge.to steps.edge.place state steps.choices) (IsAt steps.edge.to state.callers state.outer) (λ p. p ≡ steps.edge.place) next steps.rest
    (executes flow steps.edge.instr steps.edge.to steps.edge.place state steps.choices inside of.callers) from.comes

-- a reached state at this point that is near
record ComesNear (nearness : Nearness) (flow : Flow) (point : ℕ) (wanted : graphs.State) : Type 0 where
  state : State
  reached : IsReached flow state
  of : IsOf flow state
  point_is : state.point ≡ point
  near : IsNear nearness wanted state

-- a reached state at a point without callers and blocks outside is one of a run
comes : (nearness : Nearness) (flow : Flow) (point : ℕ) (wanted : graphs.State) (state : State) → IsFlow flow → HaveOffsets flow → IsReached flow state → IsAt point [] [] state →
    IsNear nearness wanted state → ComesNear nearness flow point wanted
comes nearness flow point wanted state valid offsets reached at near = record {
  state = state;
  reached = reached;
  of = record {
    run = are_run_states.runs flow state reached.choices [] reached.steps valid offsets reached.goes;
    callers = at.callers_are;
    outer = at.outer_is;
  };
  point_is = at.point_is;
  near = near;
}

-- near each state that main's start stands for a run begins
begins_near : (nearness : Nearness) (flow : Flow) (wanted : graphs.State) → IsFlow flow → HaveOffsets flow → IsBegun nearness flow wanted → ComesNear nearness flow (entry_of flow flow.main) wanted
begins_near nearness flow wanted valid offsets one =
    comes nearness flow (entry_of flow flow.main) wanted one.begun valid offsets
    (record { steps = zero; choices = one.choices; goes = whole_none flow one.choices ∙ one.goes })
    (told_state (start flow one.choices) (IsAt (entry_of flow flow.main) [] []) Nowhere one.begun [] (begins flow one.choices) one.goes)
    one.near

-- and one step more leads near the next one
goes_near : (nearness : Nearness) (flow : Flow) (number : ℕ) (edge : FlowEdge) (before next : graphs.State) → IsFlow flow → HaveOffsets flow → HasNoCalls flow → IsExclusive flow →
    slice_get flow.edges number ≡ Some edge → (come : ComesNear nearness flow edge.from before) → GoesNear nearness flow number next come.state → ComesNear nearness flow edge.to next
goes_near nearness flow number edge before next valid offsets calls exclusive stands come goes =
    let one : goes.steps.edge ≡ edge = same_some goes.steps.edge edge (sym goes.steps.stands ∙ stands) in
    let at : IsAt goes.steps.edge.to come.state.callers come.state.outer goes.gone = arrives flow calls number come.state goes.gone come.of goes.steps in
    comes nearness flow edge.to next goes.gone valid offsets (reaches flow exclusive number come.state goes.gone come.reached goes.steps)
    (record { point_is = at.point_is ∙ ap (λ (e : FlowEdge). e.to) one; callers_are = at.callers_are ∙ come.of.callers; outer_is = at.outer_is ∙ come.of.outer })
    goes.near

-- the graph of an entry behind such a chain is sharp
pub sharp_there : (analysis : Analysis) (widening : Widening) (nearness : Nearness) (flow : Flow) (trail : List Entry) → IsExact analysis nearness flow → AreHonest analysis widening flow trail →
    (number : ℕ) → IsReal trail number → (entry : Entry) → At trail number entry → IsSharp nearness entry.graph
sharp_there analysis widening nearness flow trail exact honest number (RealStart _ first at is) entry there =
    let one : first ≡ entry = same_some first entry (sym at ∙ there) in
    let made : Made analysis widening flow (take number trail) entry Start =
    subst (Made analysis widening flow (take number trail) entry) (ap (λ (x : Entry). x.cause) (sym one) ∙ is) (honest number entry there).made in
    exact.begins entry.graph made.1
sharp_there analysis widening nearness flow trail exact honest number (RealStep _ from edge result last at is chain) entry there =
    let one : last ≡ entry = same_some last entry (sym at ∙ there) in
    let made : IsResult analysis flow (take number trail) entry from edge result None =
    subst (Made analysis widening flow (take number trail) entry) (ap (λ (x : Entry). x.cause) (sym one) ∙ is) (honest number entry there).made in
    let earlier : At trail from made.earlier = at_front trail number from made.earlier made.there in
    let fits : Fits analysis flow made.edge.from made.earlier.graph = subst (λ (p : ℕ). Fits analysis flow p made.earlier.graph) (sym made.leaves) (honest from made.earlier earlier).fits in
    exact.leads edge made.edge made.earlier.graph made.post result entry.graph made.stands fits
    (sharp_there analysis widening nearness flow trail exact honest from chain made.earlier earlier) made.is made.loss_is made.graph

-- near each state of an entry behind such a chain comes a run
real : (analysis : Analysis) (widening : Widening) (nearness : Nearness) (flow : Flow) (trail : List Entry) → IsFlow flow → HaveOffsets flow → HasNoCalls flow → IsExclusive flow → IsExact analysis nearness flow →
    AreHonest analysis widening flow trail → (number : ℕ) → IsReal trail number → (entry : Entry) → At trail number entry → (wanted : graphs.State) → graphs.IsState wanted → StandsFor entry.graph wanted →
    ComesNear nearness flow entry.point wanted
real analysis widening nearness flow trail valid offsets calls exclusive exact honest number (RealStart _ first at is) entry there wanted fine stands =
    let one : first ≡ entry = same_some first entry (sym at ∙ there) in
    let made : Made analysis widening flow (take number trail) entry Start =
    subst (Made analysis widening flow (take number trail) entry) (ap (λ (x : Entry). x.cause) (sym one) ∙ is) (honest number entry there).made in
    subst (λ (p : ℕ). ComesNear nearness flow p wanted) (sym made.0) (begins_near nearness flow wanted valid offsets (exact.start entry.graph wanted made.1 fine stands))
real analysis widening nearness flow trail valid offsets calls exclusive exact honest number (RealStep _ from edge result last at is chain) entry there wanted fine stands =
    let one : last ≡ entry = same_some last entry (sym at ∙ there) in
    let made : IsResult analysis flow (take number trail) entry from edge result None =
    subst (Made analysis widening flow (take number trail) entry) (ap (λ (x : Entry). x.cause) (sym one) ∙ is) (honest number entry there).made in
    let earlier : At trail from made.earlier = at_front trail number from made.earlier made.there in
    let fits : Fits analysis flow made.edge.from made.earlier.graph = subst (λ (p : ℕ). Fits analysis flow p made.earlier.graph) (sym made.leaves) (honest from made.earlier earlier).fits in
    let led : IsLedTo nearness flow edge made.edge made.earlier.graph wanted =
    exact.steps edge made.edge made.earlier.graph made.post result entry.graph wanted made.stands fits
    (sharp_there analysis widening nearness flow trail exact honest from chain made.earlier earlier) made.is made.loss_is made.graph fine stands in
    let come : ComesNear nearness flow made.earlier.point led.before =
    real analysis widening nearness flow trail valid offsets calls exclusive exact honest from chain made.earlier earlier led.before led.is led.stands in
    let come' : ComesNear nearness flow made.edge.from led.before = subst (λ (p : ℕ). ComesNear nearness flow p led.before) (sym made.leaves) come in
    subst (λ (p : ℕ). ComesNear nearness flow p wanted) (sym made.arrives)
    (goes_near nearness flow edge made.edge led.before wanted valid offsets calls exclusive made.stands come' (led.goes come'.state come'.of come'.point_is come'.near))

pub error_met : (analysis : Analysis) (widening : Widening) (nearness : Nearness) → MeetsErrors analysis widening nearness
error_met analysis widening nearness flow trail valid offsets calls exclusive exact honest at entry number kind edge chain there stands has =
    let fits : Fits analysis flow has.edge.from entry.graph = subst (λ (p : ℕ). Fits analysis flow p entry.graph) (sym has.leaves) (honest at entry there).fits in
    let faulting : IsFaulting nearness flow number has.edge entry.graph kind = exact.faults number has.edge entry.graph has.post kind has.stands fits
    (sharp_there analysis widening nearness flow trail exact honest at chain entry there) has.is has.has in
    let come : ComesNear nearness flow entry.point faulting.before =
    real analysis widening nearness flow trail valid offsets calls exclusive exact honest at chain entry there faulting.before faulting.is faulting.stands in
    let faults : FaultsAlong flow number come.state kind = faulting.faults come.state come.of (come.point_is ∙ sym has.leaves) come.near in
    let one : faults.edge ≡ edge = same_some faults.edge edge (sym faults.stands ∙ stands) in
    subst (λ (e : FlowEdge). RunFaults flow kind e.place) one (faults_there flow exclusive number kind come.state come.reached faults)

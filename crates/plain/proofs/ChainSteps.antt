-- Runs with marks, one step on.
use Rattle.std.proofs.Common.{◌≡◌, ℕ, zero, suc, ◌<◌, ◌≤◌, List, [], ◌∷◌, ◌++◌, false, refl, sym, ap, subst, ◌∙◌, Some, take, drop, length, arith}
use Rattle.std.specs.Prelude.{slice_get, Contains}
use Rattle.std.proofs.lemmas.List.Elements.{All-nil, All-push, All-contains}
use Rattle.choices.specs.declared.choice.Choice.{Choice}
use Rattle.graph.specs.declared.parts.Parts.{Parts}
use Rattle.graph.specs.State as graphs
use Rattle.flow.specs.declared.flow_graph.Flow.{Flow}
use Rattle.flow.specs.declared.flow_graph.FlowEdge.{FlowEdge}
use Rattle.flow.specs.Choosing.{choices_asked, with_more, IsByFirst}
use Rattle.flow.specs.InRange.{entry_of}
use Rattle.flow.specs.Machine.{State, Outcome, Went, Barred, Waits, Ended, Faulted, execute, step_along}
use Rattle.flow.specs.Runs.{start, StepsTo}
use Rattle.flow.specs.Valid.{IsFlow}
use Rattle.flow.proofs.ChoosingLaws.{steps_by_first}
use Rattle.flow.proofs.RunStateLaws.{are_run_states}
use Rattle.trail.specs.Seen.{IsOf, is_call, HasNoCalls}
use Rattle.trail.specs.Theorems.{HaveOffsets}
use Rattle.trail.proofs.Sound.{same_some, contained, at_number}
use Rattle.trail.proofs.Steps.{IsAt, Nowhere, told_state, begins, executes, GoesFrom, goes_from, whole_none}
use Rattle.plain.specs.Marks.{Marks}
use Rattle.plain.specs.Shown.{IsShown, IsShownAmong}

-- what stands among the first entries stands there, and early
pub at_front : {A : Type 0} (items : List A) (count number : ℕ) (item : A) → slice_get (take count items) number ≡ Some item → slice_get items number ≡ Some item
at_front [] zero number item e = absurd cc
at_front [] (suc count) number item e = absurd cc
at_front (first ∷ rest) zero number item e = absurd cc
at_front (first ∷ rest) (suc count) zero item e = e
at_front (first ∷ rest) (suc count) (suc number) item e = at_front rest count number item e

pub is_before : {A : Type 0} (items : List A) (count number : ℕ) (item : A) → slice_get (take count items) number ≡ Some item → number < count
is_before [] zero number item e = absurd cc
is_before [] (suc count) number item e = absurd cc
is_before (first ∷ rest) zero number item e = absurd cc
is_before (first ∷ rest) (suc count) zero item e = omega arith
is_before (first ∷ rest) (suc count) (suc number) item e = let less = is_before rest count number item e in omega arith

-- of one item at most each is the one
is_only : {A : Type 0} (items : List A) (number : ℕ) (one item : A) → length items ≤ 1 → slice_get items number ≡ Some one → Contains items item → item ≡ one
is_only [] number one item single there among = absurd cc
is_only (first ∷ []) zero one item single there among =
    All-contains (λ x. x ≡ one) (first ∷ []) item (All-push (λ x. x ≡ one) [] first (All-nil (λ x. x ≡ one)) (same_some first one there)) among
is_only (first ∷ []) (suc number) one item single there among = absurd cc
is_only (first ∷ second ∷ rest) number one item single there among = absurd (omega arith)

pub shown_only : (items : List Parts) (number : ℕ) (graph : Parts) (state : graphs.State) (marks : Marks) → length items ≤ 1 → slice_get items number ≡ Some graph → IsShownAmong items state marks → IsShown graph state marks
shown_only items number graph state marks single there shown =
    subst (λ (g : Parts). IsShown g state marks) (is_only items number graph shown.graph single there shown.among) shown.shown

-- a step with just the choices that it takes
pub record TakesAll (flow : Flow) (edge : FlowEdge) (state next : State) : Type 0 where
  pub choices : List Choice
  pub goes : step_along flow edge state choices ≡ Went next []

drop_take : (count : ℕ) (items : List Choice) → drop count (take count items) ≡ []
drop_take zero [] = refl
drop_take zero (x ∷ xs) = refl
drop_take (suc count) [] = refl
drop_take (suc count) (x ∷ xs) = drop_take count xs

takes_all : (flow : Flow) (edge : FlowEdge) (state next : State) (choices rest : List Choice) → step_along flow edge state choices ≡ Went next rest → TakesAll flow edge state next
takes_all flow edge state next choices rest goes = by_outcome (step_along flow edge state (take asked choices)) refl (sym goes ∙ by.first choices)
  where
    asked : ℕ
    asked = choices_asked flow edge.instr

    by : IsByFirst (choices_asked flow edge.instr) (step_along flow edge state)
    by = steps_by_first flow edge state

    by_outcome : (outcome : Outcome) → step_along flow edge state (take (choices_asked flow edge.instr) choices) ≡ outcome →
        Went next rest ≡ with_more (drop (choices_asked flow edge.instr) choices) (step_along flow edge state (take (choices_asked flow edge.instr) choices)) →
        TakesAll flow edge state next
    by_outcome (Went after left) is same =
        let whole : Went next rest ≡ Went after (left ++ drop (choices_asked flow edge.instr) choices) = same ∙ ap (with_more (drop (choices_asked flow edge.instr) choices)) is in
        let one : next ≡ after = cc in
        let none : left ≡ [] = (by.taken (take (choices_asked flow edge.instr) choices) after left is).1 ∙ drop_take (choices_asked flow edge.instr) choices in
        record { choices = take (choices_asked flow edge.instr) choices; goes = is ∙ cc }
    by_outcome Barred is same = let e : Went next rest ≡ Barred = same ∙ ap (with_more (drop (choices_asked flow edge.instr) choices)) is in absurd cc
    by_outcome Waits is same = let e : Went next rest ≡ Waits = same ∙ ap (with_more (drop (choices_asked flow edge.instr) choices)) is in absurd cc
    by_outcome Ended is same = let e : Went next rest ≡ Ended = same ∙ ap (with_more (drop (choices_asked flow edge.instr) choices)) is in absurd cc
    by_outcome (Faulted kind place) is same = let e : Went next rest ≡ Faulted kind place = same ∙ ap (with_more (drop (choices_asked flow edge.instr) choices)) is in absurd cc

pub takes_along : (flow : Flow) (number : ℕ) (edge : FlowEdge) (state next : State) → slice_get flow.edges number ≡ Some edge → StepsTo flow number state next → TakesAll flow edge state next
takes_along flow number edge state next stands steps =
    subst (λ (e : FlowEdge). TakesAll flow e state next) (same_some steps.edge edge (sym steps.stands ∙ stands)) (takes_all flow steps.edge state next steps.choices steps.rest steps.goes)

-- a state of a run, at a point
pub record IsOfAt (flow : Flow) (point : ℕ) (state : State) : Type 0 where
  pub of : IsOf flow state
  pub point_is : state.point ≡ point

pub stands_at_end : (flow : Flow) (point to : ℕ) (state : State) → IsOfAt flow to state → point ≡ to → state.point ≡ point
stands_at_end flow point to state at is = at.point_is ∙ sym is

pub begins_of : (flow : Flow) (state : State) (choices : List Choice) → IsFlow flow → HaveOffsets flow → start flow choices ≡ Went state [] → IsOfAt flow (entry_of flow flow.main) state
begins_of flow state choices valid offsets goes =
    let at : IsAt (entry_of flow flow.main) [] [] state = told_state (start flow choices) (IsAt (entry_of flow flow.main) [] []) Nowhere state [] (begins flow choices) goes in
    record {
      of = record { run = are_run_states.runs flow state choices [] zero valid offsets (whole_none flow choices ∙ goes); callers = at.callers_are; outer = at.outer_is };
      point_is = at.point_is;
    }

pub goes_of : (flow : Flow) (number : ℕ) (edge : FlowEdge) (state next : State) (choices : List Choice) → IsFlow flow → HasNoCalls flow → slice_get flow.edges number ≡ Some edge → IsOf flow state →
    step_along flow edge state choices ≡ Went next [] → IsOfAt flow edge.to next
goes_of flow number edge state next choices valid calls stands of goes =
    let inside : is_call edge.instr ≡ false = at_number (λ (e : FlowEdge). is_call e.instr ≡ false) flow.edges number edge calls stands in
    let from : GoesFrom flow edge state choices (Went next []) = goes_from flow edge state choices (Went next []) (λ e. absurd cc) goes in
    let at : IsAt edge.to state.callers state.outer next =
    told_state (execute flow edge.instr edge.to edge.place state choices) (IsAt edge.to state.callers state.outer) (λ p. p ≡ edge.place) next []
    (executes flow edge.instr edge.to edge.place state choices inside of.callers) from.comes in
    record {
      of = record {
        run = are_run_states.edges flow edge state next choices [] valid (contained flow.edges number edge stands) of.run goes;
        callers = at.callers_are ∙ of.callers;
        outer = at.outer_is ∙ of.outer;
      };
      point_is = at.point_is;
    }

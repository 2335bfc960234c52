-- The start graph shows each state in which a run begins.
use Rattle.std.proofs.Common.{◌≡◌, ℕ, ◌^◌, ◌<◌, Bool, true, false, List, [], ◌∷◌, map, length, nat_lt, refl, sym, ◌∙◌, ap, subst, ltb-false, arith}
use Rattle.std.specs.Prelude.{IsTrue, All, if◌then◌else◌}
use Rattle.std.specs.List.{list_all}
use Rattle.std.proofs.lemmas.List.Elements.{All-head, All-tail}
use Rattle.cbase.specs.declared.place.Place.{Place}
use Rattle.choices.specs.declared.choice.Choice.{Choice}
use Rattle.graph.specs.State as graphs
use Rattle.graph.specs.declared.parts.Parts.{Parts}
use Rattle.graph.specs.DeadBlocks as dead
use Rattle.graph.specs.Whole.{IsGraph, no_parts}
use Rattle.flow.specs.declared.flow_graph.Flow.{Flow}
use Rattle.flow.specs.declared.flow_graph.Initial.{Initial}
use Rattle.flow.specs.Holding.{Owned, block_of}
use Rattle.flow.specs.InRange.{entry_of}
use Rattle.flow.specs.Machine.{State, Outcome, Went, Barred, Waits, Ended, Faulted, size_in, with_memory, entered}
use Rattle.flow.specs.Runs.{blank, parameters_of}
use Rattle.flow.specs.Runs as runs
use Rattle.flow.specs.Valid.{IsFlow, is_initial, is_parameter}
use Rattle.flow.specs.Valid as flows
use Rattle.flow.proofs.Outcomes.{Leaves, Leaves-weaker, Leaves-then, left_state}
use Rattle.graph.proofs.Tests.{and_left}
use Rattle.block_steps.specs.Entering.{Enters}
use Rattle.edge_steps.specs.Seen.{seen}
use Rattle.edge_steps.proofs.Entered.{AreNew, there_enter}
use Rattle.edge_steps.proofs.Outcomes.{IsRight}
use Rattle.transfer.specs.Start.{AreNamed, with_statics, with_initial, with_initials, static_graph, start_graph}
use Rattle.transfer.proofs.InitialWritten.{named_after, initial_state}
use Rattle.transfer.proofs.StartSound.{nothing_named, nothing_made, are_new, rest_of, statics_are_named, parameters_of_main, parameters_may_enter, few_statics, static_named, room}
use Rattle.transfer.proofs.StaticLoop.{IsMade, statics_sound, shown}
use Rattle.plain.specs.Marks.{Unwritten, Zeroed, Marks}
use Rattle.plain.specs.PlainRuns.{with_initial_marks, start_marks}
use Rattle.plain.specs.Shown.{IsShown}
use Rattle.plain.specs.StartGraph.{DoStartsShow}
use Rattle.plain.specs.StartMarks.{static_marks}
use Rattle.plain.proofs.StartApart.{CutNoInitial, HasOwn, statics_own, nothing_own, cut_none_initial}
use Rattle.plain.proofs.EnterPlain.{all_shown}
use Rattle.plain.proofs.FillPlain.{shown_as}
use Rattle.plain.proofs.NewBlocks.{with_block_marks}
use Rattle.plain.proofs.StartBlocks.{HasBelow, statics_below, entered_statics, long_initials, none_above, elsewhere}
use Rattle.plain.proofs.StartInitial.{initial_shown}
use Rattle.plain.proofs.StartStatics.{statics_zeros, nothing_zeros, statics_shown}

-- a state that a graph shows
record IsBegunShown (parts : Parts) (state : graphs.State) (marks : Marks) : Type 0 where
  is : graphs.IsState state
  shown : IsShown parts state marks

initials_shown : (flow : Flow) (statics : List Owned) (initials : List Initial) (parts : Parts) (state : graphs.State) (marks : Marks) → All (λ scalar. IsTrue (is_initial flow scalar)) initials → AreNamed flow parts →
    ((at : ℕ) → state.variables at ≡ block_of statics at) → IsBegunShown parts state marks → CutNoInitial statics initials marks.of →
    IsBegunShown (with_initials initials parts) (dead.with_memory (runs.with_initials statics initials state.memory) state) (record { of = with_initial_marks statics initials marks.of; input = marks.input })
initials_shown flow statics [] parts state marks right are there begun none = begun
initials_shown flow statics (first ∷ rest) parts state marks right are there begun (whole, later) =
    let valid = All-head (λ scalar. IsTrue (is_initial flow scalar)) first rest right in
    let now = initial_shown flow parts are first valid state statics there marks begun.shown.given begun.shown.by whole in
    initials_shown flow statics rest (with_initial first parts) (dead.with_memory (runs.with_initial statics first state.memory) state) _ (All-tail (λ scalar. IsTrue (is_initial flow scalar)) first rest right)
    (named_after flow parts are first valid) there
    (record { is = initial_state flow parts are first valid state statics there begun.shown.given begun.shown.by.meets begun.is; shown = now })
    later

leaves_both : (outcome : Outcome) (P Q : State → Type 0) → Leaves outcome P → Leaves outcome Q → Leaves outcome (λ next. P next × Q next)
leaves_both (Went next rest) P Q one other = (one, other)
leaves_both Barred P Q one other = tt
leaves_both Waits P Q one other = tt
leaves_both Ended P Q one other = tt
leaves_both (Faulted kind place) P Q one other = tt

right_leaves : (Steps : State → Type 0) (Faults : ℕ → Type 0) (place : Place) (outcome : Outcome) → IsRight Steps Faults place outcome → Leaves outcome Steps
right_leaves Steps Faults place (Went next choices) right = right
right_leaves Steps Faults place Barred right = tt
right_leaves Steps Faults place Waits right = tt
right_leaves Steps Faults place Ended right = tt
right_leaves Steps Faults place (Faulted kind other) right = tt

module _ (flow : Flow) (valid : IsFlow flow) (graph : IsGraph (start_graph flow)) where
  abbrev parameters : List ℕ
  parameters = parameters_of flow flow.main

  abbrev sizes : List ℕ
  sizes = map (size_in flow) parameters

  abbrev statics : Parts
  statics = with_statics 0 flow.variables no_parts

  abbrev Shows : State → Type 0
  Shows next = IsShown (start_graph flow) (seen [] next) (start_marks flow next)

  few : length statics.objects < 2 ^ 30
  few = few_statics flow valid graph

  named : AreNamed flow statics
  named = statics_are_named flow valid few

  nowhere : Place
  nowhere = record { file = 0; line = 0; column = 0; at = 0 }

  enters : (state : State) (choices : List Choice) → state.frame.variables ≡ [] → Leaves (entered flow parameters state choices) (λ next. Enters parameters sizes (seen [] state) (seen [] next))
  enters state choices none =
      right_leaves (λ next. Enters parameters sizes (seen [] state) (seen [] next)) (λ kind. ⊥) nowhere (entered flow parameters state choices)
      (there_enter flow [] (λ register. 0) state.point nowhere state choices parameters
      (subst (AreNew parameters) (sym none) (are_new parameters (and_left (flows.are_distinct parameters) (list_all (is_parameter flow) parameters) (parameters_of_main flow valid)))))

  module _ (state : State) (made : IsMade statics state) (below : HasBelow state) (own : HasOwn state) where
    abbrev begun : State
    begun = with_memory (runs.with_initials state.statics flow.initial state.memory) state

    abbrev marks : Marks
    marks = record { of = with_initial_marks state.statics flow.initial (static_marks state.statics); input = λ register. false }

    begun_shown : IsBegunShown (static_graph flow) (seen [] begun) marks
    begun_shown =
        initials_shown flow state.statics flow.initial statics (seen [] state) (record { of = static_marks state.statics; input = λ register. false }) valid.initials named (shown state made.variables)
        (record {
          is = made.is;
          shown = record {
            given = made.stands.given;
            by = statics_shown flow statics state named (statics_zeros flow 0 flow.variables no_parts valid (rest_of flow) few (nothing_named flow) nothing_zeros) made;
          };
        })
        (cut_none_initial state.statics flow.initial own valid.initials_apart)

    same_marks : (block place : ℕ) → marks.of block place ≡ (if nat_lt block (length begun.memory) then marks.of block place else Unwritten)
    same_marks block place = by_test (nat_lt block (length begun.memory)) refl
      where
        by_test : (b : Bool) → nat_lt block (length begun.memory) ≡ b → marks.of block place ≡ (if b then marks.of block place else Unwritten)
        by_test true is = refl
        by_test false is =
            let none = none_above state.statics (length state.memory) block below (let a = ltb-false block (length begun.memory) is in let b = long_initials state.statics flow.initial state.memory in omega arith) in
            elsewhere state.statics flow.initial (static_marks state.statics) block place none ∙ ap (λ (b : Bool). if b then Zeroed else Unwritten) none

    entered_shows : (next : State) → Enters parameters sizes (seen [] begun) (seen [] next) → next.statics ≡ state.statics → Shows next
    entered_shows next enters same =
        subst (λ (owned : List Owned). IsShown (start_graph flow) (seen [] next) (record { of = with_initial_marks owned flow.initial (static_marks owned); input = λ register. false })) (sym same)
        (let holds = begun_shown in
        let found = all_shown parameters sizes (static_graph flow) (static_named flow valid graph).graph (static_named flow valid graph).regions (parameters_may_enter flow valid (static_graph flow) (static_named flow valid graph)) (room flow valid graph)
        (seen [] begun) (seen [] next) holds.is marks holds.shown.given holds.shown.by enters in
        record { given = found.given; by = shown_as (start_graph flow) (seen [] next) (with_block_marks (length begun.memory) Unwritten marks) marks found.given same_marks (λ register. refl) found.by })

  start_shows : (choices : List Choice) → Leaves (runs.start flow choices) Shows
  start_shows choices =
      Leaves-then (runs.with_statics 0 flow.variables (blank (entry_of flow flow.main)) choices)
      (λ state more. entered flow (parameters_of flow flow.main) (with_memory (runs.with_initials state.statics flow.initial state.memory) state) more)
      (λ state. IsMade statics state × (HasBelow state × HasOwn state)) Shows
      (leaves_both (runs.with_statics 0 flow.variables (blank (entry_of flow flow.main)) choices) (IsMade statics) (λ state. HasBelow state × HasOwn state)
      (statics_sound flow 0 flow.variables no_parts (blank (entry_of flow flow.main)) choices valid (rest_of flow) few (nothing_named flow) (nothing_made (entry_of flow flow.main)))
      (leaves_both (runs.with_statics 0 flow.variables (blank (entry_of flow flow.main)) choices) HasBelow HasOwn
      (statics_below 0 flow.variables (blank (entry_of flow flow.main)) choices refl)
      (statics_own 0 flow.variables (blank (entry_of flow flow.main)) choices refl nothing_own)))
      (λ state more (made, (below, own)).
      Leaves-weaker (entered flow parameters (begun state made below own) more) (λ next. Enters parameters sizes (seen [] (begun state made below own)) (seen [] next) × (next.statics ≡ state.statics)) Shows
      (λ next (enters, same). entered_shows state made below own next enters same)
      (leaves_both (entered flow parameters (begun state made below own) more) (λ next. Enters parameters sizes (seen [] (begun state made below own)) (seen [] next)) (λ next. next.statics ≡ state.statics)
      (enters (begun state made below own) more made.variables) (entered_statics flow parameters (begun state made below own) more)))

pub starts_shown : DoStartsShow
starts_shown flow parts state choices valid is goes =
    subst (λ (p : Parts). IsShown p (seen [] state) (start_marks flow state)) (sym is.is)
    (left_state (runs.start flow choices) (Shows flow valid (subst IsGraph is.is is.graph)) state [] (start_shows flow valid (subst IsGraph is.is is.graph) choices) goes)

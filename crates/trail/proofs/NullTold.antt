-- Each fault of the program that reads at a null pointer is told.
use Rattle.std.proofs.Common.{◌≡◌, ℕ, zero, suc, List, [], ◌∷◌, map, true, refl, sym, ap, subst, ◌∙◌, inl, inr, None, Some, arith}
use Rattle.std.specs.Prelude.{slice_get, Contains}
use Rattle.cbase.specs.declared.place.Place.{Place}
use Rattle.bytes_core.specs.declared.word.Word.TheVariants.{Plain}
use Rattle.bytes_core.specs.Fault.{null_pointer_dereference}
use Rattle.graph.specs.declared.parts.Parts.{Parts}
use Rattle.graph.specs.declared.post.Post.{Post}
use Rattle.graph.specs.Meaning.{StandsFor}
use Rattle.graph.specs.Whole.{no_parts}
use Rattle.choices.specs.declared.choice.Choice.{Choice}
use Rattle.flow.specs.declared.flow_graph.FlowEdge.{FlowEdge}
use Rattle.flow.specs.Holding.{width}
use Rattle.flow.specs.Machine.{State, Outcome, Went, Barred, Faulted, at, with_value, step_along}
use Rattle.flow.specs.Runs.{start, blank, StepsTo, FaultsAlong}
use Rattle.flow.specs.Standing.{stands_at}
use Rattle.trail.specs.declared.trail.Cause.TheVariants.{Step}
use Rattle.trail.specs.Seen.{seen, IsOf, is_ordinary}
use Rattle.trail.specs.Analysis.{IsSound, StandsAmong}
use Rattle.trail.specs.Trail.{IsDone, IsExpanded, IsClosed, AreTame, StandsAsStep, IsSettled, SettledKept}
use Rattle.trail.specs.Witness.{here, null_edge, read_edge, back_edge, null, holds, post_of, fault_post, for_null, nothing_widened, first_entry, second_entry, trail_of, IsNullTold}
use Rattle.trail.proofs.Steps.{GoesFrom, goes_from}
use Rattle.trail.proofs.Sound.{same_some, all_told}
use Rattle.trail.proofs.Witness.{by_two, no_registers, blank_stands, after_first}
use Rattle.trail.proofs.NullFlow.{is_flow, calls}
use Rattle.trail.proofs.NullWitness.{words_of, only_null, along_read, honest, offsets}

begun : (graph : Parts) (state : State) (choices rest : List Choice) → graph ≡ no_parts → start null choices ≡ Went state rest → StandsFor graph (seen state)
begun graph state choices rest is goes =
    let same : Went (blank 0) choices ≡ Went state rest = goes in
    let one : blank 0 ≡ state = cc in
    subst (λ (g : Parts). StandsFor g (seen state)) (sym is) (subst (λ (s : State). StandsFor no_parts (seen s)) one blank_stands)

-- the first edge leads to what the second graph stands for, and meets no fault
loads : (state next : State) (choices rest : List Choice) → IsOf null state → StandsFor no_parts (seen state) → step_along null null_edge state choices ≡ Went next rest →
    StandsFor (holds 0 8) (seen next)
loads state next choices rest of stands goes =
    let from : GoesFrom null null_edge state choices (Went next rest) = goes_from null null_edge state choices (Went next rest) (λ e. absurd cc) goes in
    let went : Went (at 1 (with_value 0 8 (Plain 0) state)) choices ≡ Went next rest = from.comes in
    let one : at 1 (with_value 0 8 (Plain 0) state) ≡ next = cc in
    let widths : map width state.frame.registers ≡ [] = of.run.stands.frame.registers ∙ ap (λ (p : ℕ). (stands_at null p).registers) (sym from.from) in
    subst (λ (s : State). StandsFor (holds 0 8) (seen s)) one (after_first 0 8 state (no_registers state.frame.registers widths) stands)

no_fault : {A : Type 0} (state : State) (choices : List Choice) (kind : ℕ) (place : Place) → step_along null null_edge state choices ≡ Faulted kind place → A
no_fault state choices kind place faults =
    let from : GoesFrom null null_edge state choices (Faulted kind place) = goes_from null null_edge state choices (Faulted kind place) (λ e. absurd cc) faults in
    let none : Went (at 1 (with_value 0 8 (Plain 0) state)) choices ≡ Faulted kind place = from.comes in
    absurd cc

-- the second one meets its fault in each state for which its graph stands
reads : (state : State) (choices : List Choice) (outcome : Outcome) → (Barred ≡ outcome → ⊥) → IsOf null state → StandsFor (holds 0 8) (seen state) →
    step_along null read_edge state choices ≡ outcome → outcome ≡ Faulted null_pointer_dereference (here 2)
reads state choices outcome free of stands goes =
    let from : GoesFrom null read_edge state choices outcome = goes_from null read_edge state choices outcome free goes in
    let point : state.point ≡ 1 = sym from.from in
    let widths : map width state.frame.registers ≡ record { register = 0; size = 8 } ∷ [] = of.run.stands.frame.registers ∙ ap (λ (p : ℕ). (stands_at null p).registers) point in
    sym goes ∙ along_read state choices point (only_null state.frame.registers widths (words_of (seen state) stands 0))

-- which edge has the number
null_edge_is : (number : ℕ) (edge : FlowEdge) → number ≡ 0 → slice_get null.edges number ≡ Some edge → edge ≡ null_edge
null_edge_is number edge is there = sym (same_some null_edge edge (sym (ap (slice_get null.edges) is) ∙ there))

read_edge_is : (number : ℕ) (edge : FlowEdge) → number ≡ 1 → slice_get null.edges number ≡ Some edge → edge ≡ read_edge
read_edge_is number edge is there = sym (same_some read_edge edge (sym (ap (slice_get null.edges) is) ∙ there))

goes_on : (number : ℕ) (graph : Parts) (post : Post) (state next : State) → for_null.is_post null number graph post → IsOf null state → StandsFor graph (seen state) → StepsTo null number state next →
    StandsAmong post.graphs next
goes_on number graph post state next (inl (number_is, graph_is, post_is)) of stands steps =
    let goes : step_along null null_edge state steps.choices ≡ Went next steps.rest =
    subst (λ (e : FlowEdge). step_along null e state steps.choices ≡ Went next steps.rest) (null_edge_is number steps.edge number_is steps.stands) steps.goes in
    subst (λ (p : Post). StandsAmong p.graphs next) (sym post_is) (record {
      number = 0;
      graph = holds 0 8;
      there = refl;
      stands = loads state next steps.choices steps.rest of (subst (λ (g : Parts). StandsFor g (seen state)) graph_is stands) goes;
    })
goes_on number graph post state next (inr (number_is, graph_is, post_is)) of stands steps =
    let goes : step_along null read_edge state steps.choices ≡ Went next steps.rest =
    subst (λ (e : FlowEdge). step_along null e state steps.choices ≡ Went next steps.rest) (read_edge_is number steps.edge number_is steps.stands) steps.goes in
    let none : Went next steps.rest ≡ Faulted null_pointer_dereference (here 2) =
    reads state steps.choices (Went next steps.rest) (λ e. absurd cc) of (subst (λ (g : Parts). StandsFor g (seen state)) graph_is stands) goes in
    absurd cc

listed : (number : ℕ) (graph : Parts) (post : Post) (state : State) (kind : ℕ) → for_null.is_post null number graph post → IsOf null state → StandsFor graph (seen state) → FaultsAlong null number state kind →
    Contains post.kinds kind
listed number graph post state kind (inl (number_is, graph_is, post_is)) of stands faults =
    no_fault state faults.choices kind faults.edge.place
    (subst (λ (e : FlowEdge). step_along null e state faults.choices ≡ Faulted kind faults.edge.place) (null_edge_is number faults.edge number_is faults.stands) faults.faults)
listed number graph post state kind (inr (number_is, graph_is, post_is)) of stands faults =
    let faults' : step_along null read_edge state faults.choices ≡ Faulted kind faults.edge.place =
    subst (λ (e : FlowEdge). step_along null e state faults.choices ≡ Faulted kind faults.edge.place) (read_edge_is number faults.edge number_is faults.stands) faults.faults in
    let same : Faulted kind faults.edge.place ≡ Faulted null_pointer_dereference (here 2) =
    reads state faults.choices (Faulted kind faults.edge.place) (λ e. absurd cc) of (subst (λ (g : Parts). StandsFor g (seen state)) graph_is stands) faults' in
    let kind_is : null_pointer_dereference ≡ kind = cc in
    subst (λ (p : Post). Contains p.kinds kind) (sym post_is) (0, omega arith, kind_is)

sound : IsSound for_null nothing_widened null
sound = record {
  start = λ graph state choices rest is goes. begun graph state choices rest is goes;
  steps = λ number edge graph post state next there ordinary fits is tame of stands steps. goes_on number graph post state next is of stands steps;
  faults = λ number edge graph post state kind there ordinary fits is of stands faults. listed number graph post state kind is of stands faults;
  covers = λ point wide narrow state fits is stands. subst (λ (g : Parts). StandsFor g (seen state)) (sym is) stands;
  folds = λ point graph after state fits is stands. absurd is;
  coarsens = λ point graph after state fits is stands. absurd is;
}

by_three : {A : Type 0} (P : ℕ → A → Type 0) (one two three : A) → P 0 one → P 1 two → P 2 three → (number : ℕ) (item : A) → slice_get (one ∷ two ∷ three ∷ []) number ≡ Some item → P number item
by_three P one two three p q r zero item there = subst (P 0) (same_some one item there) p
by_three P one two three p q r (suc zero) item there = subst (P 1) (same_some two item there) q
by_three P one two three p q r (suc (suc zero)) item there = subst (P 2) (same_some three item there) r
by_three P one two three p q r (suc (suc (suc number))) item there = absurd cc

expanded_first : IsExpanded for_null null (trail_of (holds 0 8)) 0 first_entry
expanded_first = by_three (λ number edge. is_ordinary edge.instr ≡ true → edge.from ≡ 0 → IsDone for_null null (trail_of (holds 0 8)) 0 first_entry number edge) null_edge read_edge back_edge
    (λ ordinary from. record { post = post_of (holds 0 8); is = inl (refl, refl, refl); all = by_result })
    (λ ordinary from. absurd cc)
    (λ ordinary from. absurd cc)
  where
    by_result : (result : ℕ) (graph : Parts) → slice_get (holds 0 8 ∷ []) result ≡ Some graph → StandsAsStep (trail_of (holds 0 8)) (Step 0 0 result None) 1 graph
    by_result zero graph there = record { number = 1; entry = second_entry (holds 0 8); there = refl; cause_is = refl; point_is = refl; graph_is = same_some (holds 0 8) graph there }
    by_result (suc result) graph there = absurd cc

expanded_second : IsExpanded for_null null (trail_of (holds 0 8)) 1 (second_entry (holds 0 8))
expanded_second = by_three (λ number edge. is_ordinary edge.instr ≡ true → edge.from ≡ 1 → IsDone for_null null (trail_of (holds 0 8)) 1 (second_entry (holds 0 8)) number edge) null_edge read_edge back_edge
    (λ ordinary from. absurd cc)
    (λ ordinary from. record { post = fault_post; is = inr (refl, refl, refl); all = λ result graph there. absurd cc })
    (λ ordinary from. absurd cc)

closed : IsClosed for_null null (trail_of (holds 0 8))
closed = record {
  begins = (0, first_entry, refl, refl);
  settled = by_two (λ number entry. IsSettled for_null (trail_of (holds 0 8)) number) first_entry (second_entry (holds 0 8)) (SettledKept 0 first_entry refl refl) (SettledKept 1 (second_entry (holds 0 8)) refl refl);
  expanded = by_two (λ number entry. entry.kept ≡ true → IsExpanded for_null null (trail_of (holds 0 8)) number entry) first_entry (second_entry (holds 0 8))
      (λ kept. expanded_first)
      (λ kept. expanded_second);
}

no_loss : (post known : Post) → post ≡ known → known.loss ≡ None → post.loss ≡ Some 4 → ⊥
no_loss post known is none loss = cc

tame : AreTame for_null null (trail_of (holds 0 8))
tame place entry number edge post there kept stands leaves is loss = elim is [
  | inl (number_is, graph_is, post_is) ↦ absurd (no_loss post (post_of (holds 0 8)) post_is refl loss)
  | inr (number_is, graph_is, post_is) ↦ absurd (no_loss post fault_post post_is refl loss)
]

pub null_told : IsNullTold
null_told = record {
  flow = is_flow;
  offsets = offsets;
  calls = calls;
  sound = sound;
  honest = honest;
  closed = closed;
  tame = tame;
  told = all_told for_null nothing_widened null (trail_of (holds 0 8)) is_flow offsets calls sound honest closed tame;
}

-- Rules by which what two machines come to meets the same faults.
use Rattle.std.proofs.Common.{◌≡◌, ℕ, zero, suc, ◌≤◌, List, refl, arith}
use Rattle.cbase.specs.declared.place.Place.{Place}
use Rattle.choices.specs.declared.choice.Choice.{Choice}
use Rattle.c_machine.specs.Text.{Text}
use Rattle.c_machine.specs.State.{StateIn, OutcomeIn, Went, Waits, Ended, Faulted, Stuck}
use Rattle.c_machine.specs.Run.{run, then_go}
use Rattle.c_machine.specs.Step.{step}
use Rattle.flow.specs.declared.flow_graph.Flow.{Flow}
use Rattle.flow.specs.Machine as graph
use Rattle.flow.specs.Runs as graph_run
use Rattle.simulation.specs.Agreeing.{Agree}

-- an outcome that is no fault, from which nothing goes on
abbrev pub IsOver : (t : Text) → OutcomeIn t → Type 0
IsOver t (Went state choices) = ⊥
IsOver t Waits = Unit {0}
IsOver t Ended = Unit {0}
IsOver t (Faulted kind place) = ⊥
IsOver t Stuck = Unit {0}

abbrev pub IsOverThere : graph.Outcome → Type 0
IsOverThere (graph.Went next choices) = ⊥
IsOverThere graph.Barred = Unit {0}
IsOverThere graph.Waits = Unit {0}
IsOverThere graph.Ended = Unit {0}
IsOverThere (graph.Faulted kind place) = ⊥

module _ (t : Text) (flow : Flow) where
  -- from no step on nothing is asked
  pub begin : (state : StateIn t) (choices : List Choice) (there : graph.State) (choices' : List Choice) →
      Agree t flow 0 (Went state choices) (graph.Went there choices')
  begin state choices there choices' = record { there = here; back = back }
    where
      here : (steps kind : ℕ) (place : Place) → steps ≤ 0 → then_go (Went state choices) (run steps t) ≡ Faulted kind place →
          (more : ℕ) × (graph_run.then_go (graph.Went there choices') (graph_run.run more flow) ≡ graph.Faulted kind place)
      here zero kind place below faults = absurd (cc)
      here (suc steps) kind place below faults = absurd (omega arith)

      back : (steps kind : ℕ) (place : Place) → steps ≤ 0 → graph_run.then_go (graph.Went there choices') (graph_run.run steps flow) ≡ graph.Faulted kind place →
          (more : ℕ) × (then_go (Went state choices) (run more t) ≡ Faulted kind place)
      back zero kind place below faults = absurd (cc)
      back (suc steps) kind place below faults = absurd (omega arith)

  -- a step of the source alone, and one of the graph alone
  pub source_step : (n : ℕ) (state : StateIn t) (choices : List Choice) (other : graph.Outcome) →
      Agree t flow n (step t state choices) other → Agree t flow n (Went state choices) other
  source_step n state choices other agree = record {
    there = there;
    back = λ steps kind place below faults. let found = agree.back steps kind place below faults in (suc found.0, found.1);
  }
    where
      there : (steps kind : ℕ) (place : Place) → steps ≤ n → then_go (Went state choices) (run steps t) ≡ Faulted kind place →
          (more : ℕ) × (graph_run.then_go other (graph_run.run more flow) ≡ graph.Faulted kind place)
      there zero kind place below faults = absurd (cc)
      there (suc steps) kind place below faults = agree.there steps kind place (omega arith) faults

  pub graph_step : (n : ℕ) (one : OutcomeIn t) (there : graph.State) (choices : List Choice) →
      Agree t flow n one (graph.step flow there choices) → Agree t flow n one (graph.Went there choices)
  graph_step n one there choices agree = record {
    there = λ steps kind place below faults. let found = agree.there steps kind place below faults in (suc found.0, found.1);
    back = back;
  }
    where
      back : (steps kind : ℕ) (place : Place) → steps ≤ n → graph_run.then_go (graph.Went there choices) (graph_run.run steps flow) ≡ graph.Faulted kind place →
          (more : ℕ) × (then_go one (run more t) ≡ Faulted kind place)
      back zero kind place below faults = absurd (cc)
      back (suc steps) kind place below faults = agree.back steps kind place (omega arith) faults

  -- a step of both
  pub both_step : (n : ℕ) (state : StateIn t) (choices : List Choice) (there : graph.State) (choices' : List Choice) →
      Agree t flow n (step t state choices) (graph.step flow there choices') → Agree t flow (suc n) (Went state choices) (graph.Went there choices')
  both_step n state choices there choices' agree = record { there = here; back = back }
    where
      here : (steps kind : ℕ) (place : Place) → steps ≤ suc n → then_go (Went state choices) (run steps t) ≡ Faulted kind place →
          (more : ℕ) × (graph_run.then_go (graph.Went there choices') (graph_run.run more flow) ≡ graph.Faulted kind place)
      here zero kind place below faults = absurd (cc)
      here (suc steps) kind place below faults = let found = agree.there steps kind place (omega arith) faults in (suc found.0, found.1)

      back : (steps kind : ℕ) (place : Place) → steps ≤ suc n → graph_run.then_go (graph.Went there choices') (graph_run.run steps flow) ≡ graph.Faulted kind place →
          (more : ℕ) × (then_go (Went state choices) (run more t) ≡ Faulted kind place)
      back zero kind place below faults = absurd (cc)
      back (suc steps) kind place below faults = let found = agree.back steps kind place (omega arith) faults in (suc found.0, found.1)

  pub both : (n : ℕ) (state : StateIn t) (choices : List Choice) (there : graph.State) (choices' : List Choice) →
      ((m : ℕ) → suc m ≡ n → Agree t flow m (step t state choices) (graph.step flow there choices')) → Agree t flow n (Went state choices) (graph.Went there choices')
  both zero state choices there choices' each = begin state choices there choices'
  both (suc n) state choices there choices' each = both_step n state choices there choices' (each n refl)

  pub weaker : (m n : ℕ) (one : OutcomeIn t) (other : graph.Outcome) → m ≤ n → Agree t flow n one other → Agree t flow m one other
  weaker m n one other less agree = record {
    there = λ steps kind place below faults. agree.there steps kind place (omega arith) faults;
    back = λ steps kind place below faults. agree.back steps kind place (omega arith) faults;
  }

  pub same_fault : (n kind : ℕ) (place : Place) → Agree t flow n (Faulted kind place) (graph.Faulted kind place)
  same_fault n kind place = record {
    there = λ steps kind' place' below faults. (0, cc);
    back = λ steps kind' place' below faults. (0, cc);
  }

  pub over : (n : ℕ) (one : OutcomeIn t) (other : graph.Outcome) → IsOver t one → IsOverThere other → Agree t flow n one other
  over n one other is is' = record {
    there = λ steps kind place below faults. absurd (here one steps kind place is faults);
    back = λ steps kind place below faults. absurd (there other steps kind place is' faults);
  }
    where
      here : (one : OutcomeIn t) (steps kind : ℕ) (place : Place) → IsOver t one → then_go one (run steps t) ≡ Faulted kind place → ⊥
      here (Went state choices) steps kind place is faults = is
      here Waits steps kind place is faults = absurd (cc)
      here Ended steps kind place is faults = absurd (cc)
      here (Faulted kind' place') steps kind place is faults = is
      here Stuck steps kind place is faults = absurd (cc)

      there : (other : graph.Outcome) (steps kind : ℕ) (place : Place) → IsOverThere other → graph_run.then_go other (graph_run.run steps flow) ≡ graph.Faulted kind place → ⊥
      there (graph.Went state choices) steps kind place is faults = is
      there graph.Barred steps kind place is faults = absurd (cc)
      there graph.Waits steps kind place is faults = absurd (cc)
      there graph.Ended steps kind place is faults = absurd (cc)
      there (graph.Faulted kind' place') steps kind place is faults = is

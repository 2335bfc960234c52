-- What two machines come to meets the same faults, where each state of the graph is one of a run.
use Rattle.std.proofs.Common.{◌≡◌, ℕ, suc, ◌≤◌, List, [], ◌∷◌, ◌++◌, length, ◌+◌, Bool, true, false, refl, sym, subst, append_assoc, length-append, arith, Some, None, Option, if◌then◌else◌}
use Rattle.std.specs.Prelude.{All, nat_eq}
use Rattle.std.proofs.lemmas.List.Elements.{All-head, All-tail}
use Rattle.std.proofs.lemmas.Option.{same_Some, none-some}
use Rattle.cbase.specs.declared.place.Place.{Place}
use Rattle.bytes_core.specs.declared.block.Block.{Block}
use Rattle.bytes_core.specs.declared.word.Word.{Word}
use Rattle.bytes_core.specs.declared.word.Word.TheVariants.{Plain, To}
use Rattle.bytes_core.specs.Fault.{memory_lost}
use Rattle.choices.specs.declared.choice.Choice.{Choice}
use Rattle.c_machine.specs.Text.{Text}
use Rattle.c_machine.specs.State.{TaskIn, StateIn, OutcomeIn, Scope, Frame, Went, Ended, Faulted, unless_fault}
use Rattle.c_machine.specs.Step.{step}
use Rattle.flow.specs.declared.instruction.Instr.{Instr}
use Rattle.flow.specs.declared.flow_graph.Flow.{Flow}
use Rattle.flow.specs.Fitting.{Fits}
use Rattle.flow.specs.Holding.{Held, Owned, held_by}
use Rattle.flow.specs.Machine as graph
use Rattle.flow.specs.Memories.{LeadsBelow}
use Rattle.flow.specs.RunStates.{IsRunState}
use Rattle.flow.specs.Valid.{IsFlow}
use Rattle.flow.proofs.MemoryLaws.{held_leads}
use Rattle.flow.proofs.RunStateLaws.{are_run_states}
use Rattle.simulation.specs.Agreeing.{Agree}
use Rattle.simulation.specs.Edges.{One, Two, NoEdge}
use Rattle.simulation.specs.Running.{Setting, Running, Result, GivesNothing, Gives}
use Rattle.simulation.specs.Slots.{Slot, Holds, IsNear, IsPlainWhere, Suits, Stands}
use Rattle.simulation.specs.Names.{Name}
use Rattle.simulation.specs.Worlds.{World, Side, AreAlike, source, state}
use Rattle.simulation.proofs.Agreement.{source_step, graph_step, both, weaker, same_fault, over, IsOver, IsOverThere}
use Rattle.simulation.proofs.Edges.{one_edge, two_edges, no_edge}
use Rattle.simulation.proofs.Registers.{stands-length}

held_fits : (registers : List Held) (register : ℕ) (held : Held) → All Fits registers → held_by registers register ≡ Some held → Fits held
held_fits [] register held all is = absurd (none-some held is)
held_fits (first ∷ rest) register held all is = by_test (nat_eq first.register register) is (held_fits rest register held (All-tail Fits first rest all))
  where
    by_test : (here : Bool) → (if here then Some first else held_by rest register) ≡ Some held → (held_by rest register ≡ Some held → Fits held) → Fits held
    by_test true is more = subst Fits (same_Some first held is) (All-head Fits first rest all)
    by_test false is more = more is

near_of : (count : ℕ) (word : Word) → LeadsBelow count word → IsNear word
near_of count (Plain number) leads = tt
near_of count (To block offset) leads = leads.1

-- what is known of the word in a register of a state of a run
pub suits_of : (flow : Flow) (point : ℕ) (registers : List Held) (v : Side) (memory : List Block) (register size : ℕ) (plain : Bool) (word : Word) →
    IsRunState flow (state point registers v memory) → held_by registers register ≡ Some (record { register = register; size = size; word = word }) → IsPlainWhere plain word →
    Suits size plain word
suits_of flow point registers v memory register size plain word is stands plain' = (
  held_fits registers register (record { register = register; size = size; word = word }) is.fits.registers stands,
  near_of (length memory) word (held_leads (length memory) registers register (record { register = register; size = size; word = word }) is.leads.frame.registers stands),
  plain',
)

module _ (t : Text) (flow : Flow) (setting : Setting) (valid : IsFlow flow) where
  abbrev pub IsKept : graph.Outcome → Type 0
  IsKept other = (next : graph.State) (rest : List Choice) → other ≡ graph.Went next rest → IsRunState flow next

  abbrev pub Meets : ℕ → OutcomeIn t → graph.Outcome → Type 0
  Meets n one other = IsKept other → Agree t flow n one other

  -- a step of the source alone, of the graph alone, and of both
  pub source_alone : (n : ℕ) (one : StateIn t) (choices : List Choice) (other : graph.Outcome) → Meets n (step t one choices) other → Meets n (Went one choices) other
  source_alone n one choices other meets kept = source_step t flow n one choices other (meets kept)

  stays : (there : graph.State) (choices : List Choice) → IsKept (graph.Went there choices) → IsKept (graph.step flow there choices)
  stays there choices kept next rest goes = are_run_states.steps flow there next choices rest valid (kept there choices refl) goes

  pub graph_alone : (n : ℕ) (one : OutcomeIn t) (there : graph.State) (choices : List Choice) → Meets n one (graph.step flow there choices) → Meets n one (graph.Went there choices)
  graph_alone n one there choices meets kept = graph_step t flow n one there choices (meets (stays there choices kept))

  pub both_at_once : (n : ℕ) (one : StateIn t) (choices : List Choice) (there : graph.State) (choices' : List Choice) →
      ((m : ℕ) → suc m ≡ n → Meets m (step t one choices) (graph.step flow there choices')) → Meets n (Went one choices) (graph.Went there choices')
  both_at_once n one choices there choices' each kept = both t flow n one choices there choices' (λ m is. each m is (stays there choices' kept))

  pub weaker_meets : (m n : ℕ) (one : OutcomeIn t) (other : graph.Outcome) → m ≤ n → Meets n one other → Meets m one other
  weaker_meets m n one other less meets kept = weaker t flow m n one other less (meets kept)

  pub meets_fault : (n kind : ℕ) (place : Place) → Meets n (Faulted kind place) (graph.Faulted kind place)
  meets_fault n kind place kept = same_fault t flow n kind place

  pub meets_over : (n : ℕ) (one : OutcomeIn t) (other : graph.Outcome) → IsOver t one → IsOverThere other → Meets n one other
  meets_over n one other is is' kept = over t flow n one other is is'

  -- what is known of the state of the graph
  pub knowing : (n : ℕ) (one : OutcomeIn t) (there : graph.State) (choices : List Choice) → (IsRunState flow there → Meets n one (graph.Went there choices)) → Meets n one (graph.Went there choices)
  knowing n one there choices each kept = each (kept there choices refl) kept

  -- along the one edge out of a point, or one of two: both machines, or the graph alone
  pub both_along : (n : ℕ) (one : StateIn t) (choices : List Choice) (point : ℕ) (registers : List Held) (v : Side) (memory : List Block) (instr : Instr) (to : ℕ) (place : Place) →
      One flow point instr to place →
      ((m : ℕ) → suc m ≡ n → Meets m (step t one choices) (graph.unless_barred (graph.execute flow instr to place (state point registers v memory) choices) graph.Ended)) →
      Meets n (Went one choices) (graph.Went (state point registers v memory) choices)
  both_along n one choices point registers v memory instr to place edge each =
      both_at_once n one choices (state point registers v memory) choices
      (λ m is. subst (λ (o : graph.Outcome). Meets m (step t one choices) o) (sym (one_edge flow (state point registers v memory) choices instr to place edge)) (each m is))

  pub both_two : (n : ℕ) (one : StateIn t) (choices : List Choice) (point : ℕ) (registers : List Held) (v : Side) (memory : List Block)
      (instr : Instr) (to : ℕ) (place : Place) (instr' : Instr) (to' : ℕ) (place' : Place) → Two flow point instr to place instr' to' place' →
      ((m : ℕ) → suc m ≡ n → Meets m (step t one choices)
      (graph.unless_barred (graph.execute flow instr to place (state point registers v memory) choices)
      (graph.unless_barred (graph.execute flow instr' to' place' (state point registers v memory) choices) graph.Ended))) →
      Meets n (Went one choices) (graph.Went (state point registers v memory) choices)
  both_two n one choices point registers v memory instr to place instr' to' place' edges each =
      both_at_once n one choices (state point registers v memory) choices
      (λ m is. subst (λ (o : graph.Outcome). Meets m (step t one choices) o)
      (sym (two_edges flow (state point registers v memory) choices instr to place instr' to' place' edges)) (each m is))

  pub graph_along : (n : ℕ) (one : OutcomeIn t) (choices : List Choice) (point : ℕ) (registers : List Held) (v : Side) (memory : List Block) (instr : Instr) (to : ℕ) (place : Place) →
      One flow point instr to place → Meets n one (graph.unless_barred (graph.execute flow instr to place (state point registers v memory) choices) graph.Ended) →
      Meets n one (graph.Went (state point registers v memory) choices)
  graph_along n one choices point registers v memory instr to place edge meets =
      graph_alone n one (state point registers v memory) choices
      (subst (λ (o : graph.Outcome). Meets n one o) (sym (one_edge flow (state point registers v memory) choices instr to place edge)) meets)

  pub graph_two : (n : ℕ) (one : OutcomeIn t) (choices : List Choice) (point : ℕ) (registers : List Held) (v : Side) (memory : List Block)
      (instr : Instr) (to : ℕ) (place : Place) (instr' : Instr) (to' : ℕ) (place' : Place) → Two flow point instr to place instr' to' place' →
      Meets n one (graph.unless_barred (graph.execute flow instr to place (state point registers v memory) choices)
      (graph.unless_barred (graph.execute flow instr' to' place' (state point registers v memory) choices) graph.Ended)) →
      Meets n one (graph.Went (state point registers v memory) choices)
  graph_two n one choices point registers v memory instr to place instr' to' place' edges meets =
      graph_alone n one (state point registers v memory) choices
      (subst (λ (o : graph.Outcome). Meets n one o) (sym (two_edges flow (state point registers v memory) choices instr to place instr' to' place' edges)) meets)

  -- no edge leads on
  pub graph_ends : (n : ℕ) (one : OutcomeIn t) (choices : List Choice) (point : ℕ) (registers : List Held) (v : Side) (memory : List Block) → NoEdge flow point →
      Meets n one graph.Ended → Meets n one (graph.Went (state point registers v memory) choices)
  graph_ends n one choices point registers v memory none meets =
      graph_alone n one (state point registers v memory) choices (subst (λ (o : graph.Outcome). Meets n one o) (sym (no_edge flow (state point registers v memory) choices none)) meets)

  -- both meet a fault, or go on
  pub fault_or : (n : ℕ) (fault : Option ℕ) (place : Place) (one : OutcomeIn t) (next : graph.State) (choices : List Choice) → Meets n one (graph.Went next choices) →
      Meets n (unless_fault fault place one) (graph.unless_barred (graph.unless_fault fault place (graph.Went next choices)) graph.Ended)
  fault_or n None place one next choices meets = meets
  fault_or n (Some kind) place one next choices meets = meets_fault n kind place

  pub lost_or : (n : ℕ) (lost lost' : Bool) (place : Place) (one : OutcomeIn t) (next : graph.State) (choices : List Choice) → lost ≡ lost' → Meets n one (graph.Went next choices) →
      Meets n (if lost then Faulted memory_lost place else one) (graph.unless_barred (if lost' then graph.Faulted memory_lost place else graph.Went next choices) graph.Ended)
  lost_or n true true place one next choices same meets = meets_fault n memory_lost place
  lost_or n true false place one next choices same meets = absurd (cc)
  lost_or n false true place one next choices same meets = absurd (cc)
  lost_or n false false place one next choices same meets = meets

  pub unbarred : (n : ℕ) (one : OutcomeIn t) (other : graph.Outcome) → Meets n one other → Meets n one (graph.unless_barred other graph.Ended)
  unbarred n one (graph.Went next choices) meets = meets
  unbarred n one graph.Barred meets = λ kept.
      let agree = meets (λ next rest is. absurd (cc)) in
      record {
        there = λ steps kind place below' faults. let found = agree.there steps kind place below' faults in let is = found.1 in absurd (cc);
        back = λ steps kind place below' faults. absurd (cc);
      }
  unbarred n one graph.Waits meets = meets
  unbarred n one graph.Ended meets = meets
  unbarred n one (graph.Faulted kind place) meets = meets

  pub placed_or : (n : ℕ) (test : Bool) (one : OutcomeIn t) (other : graph.Outcome) → Meets n one other → Meets n (if test then one else Ended) (if test then other else graph.Ended)
  placed_or n true one other meets = meets
  placed_or n false one other meets = meets_over n Ended graph.Ended tt tt

  -- what the caller of a function goes on with, once that has given something back
  abbrev pub Continues : ℕ → Result → List Frame → List graph.Caller → Scope → List (TaskIn t) → List Word → List Owned → List ℕ → Type 0
  Continues n gives [] callers statics rest below statics' outer = Unit {0}
  Continues n gives (frame ∷ frames) [] statics rest below statics' outer = Unit {0}
  Continues n GivesNothing (frame ∷ frames) (caller ∷ callers) statics rest below statics' outer =
      (memory : List Block) (choices : List Choice) →
      Meets n (Went (record { tasks = rest; operands = Plain 0 ∷ below; frame = frame; callers = frames; statics = statics; memory = memory }) choices)
      (graph.Went (record { point = caller.point; frame = caller.frame; callers = callers; statics = statics'; memory = memory; outer = outer }) choices)
  Continues n (Gives size plain) (frame ∷ frames) (caller ∷ callers) statics rest below statics' outer =
      (register : ℕ) (word : Word) (memory : List Block) (choices : List Choice) → IsPlainWhere plain word →
      Meets n (Went (record { tasks = rest; operands = word ∷ below; frame = frame; callers = frames; statics = statics; memory = memory }) choices)
      (graph.Went (record {
        point = caller.point;
        frame = graph.with_result (Some (record { register = register; size = size; word = word })) caller.into caller.frame;
        callers = callers;
        statics = statics';
        memory = memory;
        outer = outer;
      }) choices)

  weaker_continues : (m n : ℕ) (gives : Result) (frames : List Frame) (callers : List graph.Caller) (statics : Scope) (rest : List (TaskIn t)) (below : List Word) (statics' : List Owned) (outer : List ℕ) →
      m ≤ n → Continues n gives frames callers statics rest below statics' outer → Continues m gives frames callers statics rest below statics' outer
  weaker_continues m n gives [] callers statics rest below statics' outer less goes = tt
  weaker_continues m n gives (frame ∷ frames) [] statics rest below statics' outer less goes = tt
  weaker_continues m n GivesNothing (frame ∷ frames) (caller ∷ callers) statics rest below statics' outer less goes = λ memory choices. weaker_meets m n _ _ less (goes memory choices)
  weaker_continues m n (Gives size plain) (frame ∷ frames) (caller ∷ callers) statics rest below statics' outer less goes =
      λ register word memory choices is. weaker_meets m n _ _ less (goes register word memory choices is)

  -- the rest of a run, from states that match
  abbrev pub GoesOn : ℕ → Running → World t → Side → Type 0
  GoesOn n running w v = Continues n running.gives w.callers v.callers w.statics w.rest w.below v.statics v.outer

  abbrev pub Good : ℕ → Running → List (List Name) → List (TaskIn t) → List Slot → ℕ → Type 0
  Good n running scopes tasks slots point =
      (operands : List Word) (registers : List Held) (w : World t) (v : Side) (memory : List Block) (choices : List Choice) →
      Holds memory registers slots operands → AreAlike t setting running scopes w v → GoesOn n running w v →
      Meets n (Went (source t tasks operands w memory) choices) (graph.Went (state point registers v memory) choices)

  pub weaker_goes : (m n : ℕ) (running : Running) (w : World t) (v : Side) → m ≤ n → GoesOn n running w v → GoesOn m running w v
  weaker_goes m n running w v less goes = weaker_continues m n running.gives w.callers v.callers w.statics w.rest w.below v.statics v.outer less goes

  -- behind a step of both
  pub goes_before : (n m : ℕ) (running : Running) (w : World t) (v : Side) → suc m ≡ n → GoesOn n running w v → GoesOn m running w v
  goes_before n m running w v is goes = weaker_goes m n running w v (omega arith) goes

  -- trees make room for their parts
  pub unfolded : (n : ℕ) (new tasks : List (TaskIn t)) (operands : List Word) (w : World t) (memory : List Block) (choices : List Choice) (other : graph.Outcome) →
      Meets n (Went (source t (new ++ tasks) operands w memory) choices) other →
      Meets n (Went (record { tasks = new ++ (tasks ++ w.rest); operands = operands ++ w.below; frame = w.frame; callers = w.callers; statics = w.statics; memory = memory }) choices) other
  unfolded n new tasks operands w memory choices other meets =
      subst (λ (all : List (TaskIn t)). Meets n (Went (record { tasks = all; operands = operands ++ w.below; frame = w.frame; callers = w.callers; statics = w.statics; memory = memory }) choices) other)
      (append_assoc new tasks w.rest) meets

  -- how many operands there are
  pub count_of_all : (running : Running) (scopes : List (List Name)) (memory : List Block) (registers : List Held) (slots : List Slot) (operands : List Word) (w : World t) (v : Side) →
      Stands memory registers slots operands → AreAlike t setting running scopes w v → length (operands ++ w.below) ≡ length slots + running.base
  count_of_all running scopes memory registers slots operands w v stands alike =
      let one = length-append operands w.below in
      let two = stands-length memory registers slots operands stands in
      let three = alike.held in
      omega arith

-- A loop that goes on for ever at nothing.
use Rattle.std.proofs.Common.{◌≡◌, ℕ, zero, suc, List, [], ◌∷◌, ◌++◌, length, true, refl, sym, ap, ◌∙◌, None}
use Rattle.cbase.specs.declared.place.Place.{Place}
use Rattle.bytes_core.specs.declared.block.Block.{Block}
use Rattle.bytes_core.specs.declared.word.Word.{Word}
use Rattle.choices.specs.declared.choice.Choice.{Choice}
use Rattle.c_machine.specs.declared.task.Task.TheVariants.{Execute, Test, Again, ContinueAt}
use Rattle.c_machine.specs.Text.{Clause, Eval, For, Continue, Text}
use Rattle.c_machine.specs.State.{TaskIn, StateIn, OutcomeIn, Went, Faulted}
use Rattle.c_machine.specs.Step.{step}
use Rattle.flow.specs.declared.flow_graph.Flow.{Flow}
use Rattle.flow.specs.Valid.{IsFlow}
use Rattle.simulation.specs.Edges.{NoEdge}
use Rattle.simulation.specs.Lowered.{is_idle}
use Rattle.simulation.specs.Names.{Name}
use Rattle.simulation.specs.Running.{Setting, Running}
use Rattle.simulation.specs.Slots.{Slot}
use Rattle.simulation.specs.Worlds.{World, source}
use Rattle.simulation.proofs.Meeting.{Good, graph_ends}
use Rattle.std.proofs.lemmas.Bool.{false≢true}
use Rattle.c_machine.specs.Run.{run, then_go}
use Rattle.c_machine.specs.Statements.{test_parts, again_parts, clause_tasks}
use Rattle.simulation.proofs.Dropping.{oldest_behind}

module _ (t : Text) (flow : Flow) (setting : Setting) (valid : IsFlow flow) where
  abbrev Rest : ℕ → Running → List (List Name) → List (TaskIn t) → List Slot → ℕ → Type 0
  Rest n running scopes tasks slots point = Good t flow setting valid n running scopes tasks slots point

  -- the steps of a turn
  module _ (stmt body first : t.Stmt) (semicolon close : Place) (clause : t.clause stmt ≡ For first None semicolon None close body)
      (tasks : List (TaskIn t)) (operands : List Word) (w : World t) (memory : List Block) (choices : List Choice) where
    abbrev doing_so : List (TaskIn t) → StateIn t
    doing_so new = record { tasks = new ++ (tasks ++ w.rest); operands = operands ++ w.below; frame = w.frame; callers = w.callers; statics = w.statics; memory = memory }

    tested : step t (doing_so (Test stmt ∷ [])) choices ≡ Went (doing_so (Execute body ∷ Again stmt (length (operands ++ w.below)) ∷ [])) choices
    tested = ap (λ (one : Clause t.Expr t.Stmt t.Init). Went (doing_so (test_parts t stmt (length (operands ++ w.below)) one)) choices) clause

    repeated : step t (doing_so (Again stmt (length (operands ++ w.below)) ∷ [])) choices ≡ Went (doing_so (Test stmt ∷ [])) choices
    repeated = ap (λ (one : Clause t.Expr t.Stmt t.Init). Went (doing_so (again_parts t stmt one)) choices) clause

    -- with a `;`
    executed : t.clause body ≡ Eval None → step t (doing_so (Execute body ∷ Again stmt (length (operands ++ w.below)) ∷ [])) choices ≡ Went (doing_so (Again stmt (length (operands ++ w.below)) ∷ [])) choices
    executed is = ap (λ (one : Clause t.Expr t.Stmt t.Init). Went (record {
      tasks = clause_tasks t body (length (operands ++ w.below)) one ++ (Again stmt (length (operands ++ w.below)) ∷ (tasks ++ w.rest));
      operands = operands ++ w.below;
      frame = w.frame;
      callers = w.callers;
      statics = w.statics;
      memory = memory;
    }) choices) is

    never_empty : t.clause body ≡ Eval None → (steps kind : ℕ) (place : Place) → run steps t (doing_so (Test stmt ∷ [])) choices ≡ Faulted kind place → ⊥
    never_empty is zero kind place faults = absurd (cc)
    never_empty is (suc zero) kind place faults =
        let here = ap (λ (one : OutcomeIn t). then_go one (run zero t)) tested in absurd (cc)
    never_empty is (suc (suc zero)) kind place faults =
        let here = ap (λ (one : OutcomeIn t). then_go one (run (suc zero) t)) tested ∙ ap (λ (one : OutcomeIn t). then_go one (run zero t)) (executed is) in absurd (cc)
    never_empty is (suc (suc (suc steps))) kind place faults =
        let here : run (suc (suc (suc steps))) t (doing_so (Test stmt ∷ [])) choices ≡ run steps t (doing_so (Test stmt ∷ [])) choices =
        ap (λ (one : OutcomeIn t). then_go one (run (suc (suc steps)) t)) tested
        ∙ (ap (λ (one : OutcomeIn t). then_go one (run (suc steps) t)) (executed is) ∙ ap (λ (one : OutcomeIn t). then_go one (run steps t)) repeated) in
        never_empty is steps kind place (sym here ∙ faults)

    -- with `continue`
    jumped : t.clause body ≡ Continue → step t (doing_so (Execute body ∷ Again stmt (length (operands ++ w.below)) ∷ [])) choices
        ≡ Went (doing_so (ContinueAt (t.first body) ∷ Again stmt (length (operands ++ w.below)) ∷ [])) choices
    jumped is = ap (λ (one : Clause t.Expr t.Stmt t.Init). Went (record {
      tasks = clause_tasks t body (length (operands ++ w.below)) one ++ (Again stmt (length (operands ++ w.below)) ∷ (tasks ++ w.rest));
      operands = operands ++ w.below;
      frame = w.frame;
      callers = w.callers;
      statics = w.statics;
      memory = memory;
    }) choices) is

    continued : step t (doing_so (ContinueAt (t.first body) ∷ Again stmt (length (operands ++ w.below)) ∷ [])) choices ≡ Went (doing_so (Again stmt (length (operands ++ w.below)) ∷ [])) choices
    continued = ap (λ (words : List Word). Went (record {
      tasks = Again stmt (length (operands ++ w.below)) ∷ (tasks ++ w.rest);
      operands = words;
      frame = w.frame;
      callers = w.callers;
      statics = w.statics;
      memory = memory;
    }) choices) (oldest_behind (length (operands ++ w.below)) [] (operands ++ w.below) refl)

    never_continued : t.clause body ≡ Continue → (steps kind : ℕ) (place : Place) → run steps t (doing_so (Test stmt ∷ [])) choices ≡ Faulted kind place → ⊥
    never_continued is zero kind place faults = absurd (cc)
    never_continued is (suc zero) kind place faults =
        let here = ap (λ (one : OutcomeIn t). then_go one (run zero t)) tested in absurd (cc)
    never_continued is (suc (suc zero)) kind place faults =
        let here = ap (λ (one : OutcomeIn t). then_go one (run (suc zero) t)) tested ∙ ap (λ (one : OutcomeIn t). then_go one (run zero t)) (jumped is) in absurd (cc)
    never_continued is (suc (suc (suc zero))) kind place faults =
        let here = ap (λ (one : OutcomeIn t). then_go one (run (suc (suc zero)) t)) tested
        ∙ (ap (λ (one : OutcomeIn t). then_go one (run (suc zero) t)) (jumped is) ∙ ap (λ (one : OutcomeIn t). then_go one (run zero t)) continued) in absurd (cc)
    never_continued is (suc (suc (suc (suc steps)))) kind place faults =
        let here : run (suc (suc (suc (suc steps)))) t (doing_so (Test stmt ∷ [])) choices ≡ run steps t (doing_so (Test stmt ∷ [])) choices =
        ap (λ (one : OutcomeIn t). then_go one (run (suc (suc (suc steps))) t)) tested
        ∙ (ap (λ (one : OutcomeIn t). then_go one (run (suc (suc steps)) t)) (jumped is)
        ∙ (ap (λ (one : OutcomeIn t). then_go one (run (suc steps) t)) continued ∙ ap (λ (one : OutcomeIn t). then_go one (run steps t)) repeated)) in
        never_continued is steps kind place (sym here ∙ faults)

    by_clause : (one : Clause t.Expr t.Stmt t.Init) → t.clause body ≡ one → is_idle one ≡ true → (steps kind : ℕ) (place : Place) →
        run steps t (doing_so (Test stmt ∷ [])) choices ≡ Faulted kind place → ⊥
    by_clause (Eval None) is idle = never_empty is
    by_clause Continue is idle = never_continued is
    by_clause other is idle = λ steps kind place faults. false≢true idle

  never : (stmt body first : t.Stmt) (semicolon close : Place) → t.clause stmt ≡ For first None semicolon None close body → is_idle (t.clause body) ≡ true →
      (tasks : List (TaskIn t)) (operands : List Word) (w : World t) (memory : List Block) (choices : List Choice) (steps kind : ℕ) (place : Place) →
      run steps t (source t (Test stmt ∷ tasks) operands w memory) choices ≡ Faulted kind place → ⊥
  never stmt body first semicolon close clause idle tasks operands w memory choices steps kind place faults =
      by_clause stmt body first semicolon close clause tasks operands w memory choices (t.clause body) refl idle steps kind place faults

  pub idles : (n : ℕ) (running : Running) (scopes : List (List Name)) (tasks : List (TaskIn t)) (slots : List Slot) (point : ℕ) (stmt body : t.Stmt) (first : t.Stmt) (semicolon close : Place) →
      t.clause stmt ≡ For first None semicolon None close body → is_idle (t.clause body) ≡ true → NoEdge flow point →
      Rest n running scopes (Test stmt ∷ tasks) slots point
  idles n running scopes tasks slots point stmt body first semicolon close clause idle nowhere operands registers w v memory choices holds alike goes =
      graph_ends t flow setting valid n _ choices point registers v memory nowhere
      (λ kept. record {
        there = λ steps kind place below faults. absurd (never stmt body first semicolon close clause idle tasks operands w memory choices steps kind place faults);
        back = λ steps kind place below faults. absurd (cc);
      })

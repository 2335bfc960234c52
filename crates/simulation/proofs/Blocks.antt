-- Blocks are entered and left.
use Rattle.std.proofs.Common.{◌≡◌, ℕ, suc, List, [], ◌∷◌, ◌++◌, map, length, true, false, not, ◌&&◌, ◌||◌, refl, sym, subst, ◌∙◌, append_assoc, append-nil, nat_eq}
use Rattle.std.specs.List.{list_all}
use Rattle.std.proofs.lemmas.Bool.{and_parts}
use Rattle.cbase.specs.declared.place.Place.{Place}
use Rattle.bytes_core.specs.declared.block.Block.{Block}
use Rattle.bytes_core.specs.declared.block.BlockKind.TheVariants as storage
use Rattle.bytes_core.specs.declared.word.Word.{Word}
use Rattle.bytes_core.specs.Loss.{is_lost}
use Rattle.bytes_core.specs.Placement.{new_block, is_new_block, placed}
use Rattle.choices.specs.declared.choice.Choice.{Choice}
use Rattle.choices.specs.declared.choice.Choice.TheVariants as choice
use Rattle.c_machine.specs.declared.object.Object.{Object}
use Rattle.c_machine.specs.declared.variable.Variable.{Variable}
use Rattle.c_machine.specs.declared.task.Task.TheVariants.{OpenBlock, MakeObject, LeaveBlock}
use Rattle.c_machine.specs.Text.{Text}
use Rattle.c_machine.specs.State.{TaskIn, Scope, Frame, Went, Waits, Ended, blocks_of, roots}
use Rattle.c_machine.specs.Step.{leave_block, without_objects}
use Rattle.flow.specs.declared.instruction.Instr.TheVariants as i
use Rattle.flow.specs.declared.flow_graph.Flow.{Flow}
use Rattle.flow.specs.Holding.{Held, Owned, put_owned, left as left_variables}
use Rattle.flow.specs.Machine as graph
use Rattle.flow.specs.Valid.{IsFlow}
use Rattle.simulation.specs.Edges.{One}
use Rattle.simulation.specs.Names.{Name, names_of, variables_of, is_other, are_new, AreMade}
use Rattle.simulation.specs.Running.{Setting, Running}
use Rattle.simulation.specs.Slots.{Slot, is_whole, Holds}
use Rattle.simulation.specs.Worlds.{World, Side, AreAlike, source, state}
use Rattle.simulation.proofs.Holding.{holds-memory}
use Rattle.simulation.proofs.Losses.{lost_alike}
use Rattle.simulation.proofs.Meeting.{Meets, Good, GoesOn, source_alone, meets_over, both_along, graph_along, lost_or, unbarred, placed_or, goes_before}
use Rattle.simulation.proofs.Scopes.{without_same, other_first, other_middle, scopes-enter, scopes-leave}

module _ (t : Text) (flow : Flow) (setting : Setting) (valid : IsFlow flow) where
  abbrev Rest : ℕ → Running → List (List Name) → List (TaskIn t) → List Slot → ℕ → Type 0
  Rest n running scopes tasks slots point = Good t flow setting valid n running scopes tasks slots point

  -- the source makes its objects one by one, and the graph all variables in one step
  pub objects_made : (n : ℕ) (running : Running) (total : List Name) (scopes : List (List Name)) (tasks : List (TaskIn t)) (slots : List Slot) (to : ℕ) (operands : List Word) (registers : List Held)
      (callers : List Frame) (statics' : Scope) (rest : List (TaskIn t)) (below : List Word) → is_whole slots ≡ true →
      ((memory : List Block) (w : World t) (v : Side) (choices : List Choice) → Holds memory registers slots operands → AreAlike t setting running (total ∷ scopes) w v → GoesOn t flow setting valid n running w v →
      Meets t flow setting valid n (Went (source t tasks operands w memory) choices) (graph.Went (state to registers v memory) choices)) →
      (objects : List Object) (names done others : List Name) → AreMade flow objects names → are_new names others ≡ true →
      ((variable : ℕ) → is_other variable others ≡ true → is_other variable (done ++ names_of scopes) ≡ true) → done ++ names ≡ total →
      (scope : Scope) (frame : Frame) (v : Side) (memory : List Block) (choices : List Choice) → Holds memory registers slots operands →
      AreAlike t setting running (done ∷ scopes) (record { frame = scope ∷ frame; callers = callers; statics = statics'; rest = rest; below = below }) v →
      GoesOn t flow setting valid n running (record { frame = scope ∷ frame; callers = callers; statics = statics'; rest = rest; below = below }) v →
      Meets t flow setting valid n
      (Went (source t (map MakeObject objects ++ tasks) operands (record { frame = scope ∷ frame; callers = callers; statics = statics'; rest = rest; below = below }) memory) choices)
      (graph.entered flow (variables_of names) (state to registers v memory) choices)
  objects_made n running total scopes tasks slots to operands registers callers statics' rest below whole each [] [] done others made new apart all scope frame v memory choices holds alike goes =
      each memory (record { frame = scope ∷ frame; callers = callers; statics = statics'; rest = rest; below = below }) v choices holds
      (subst (λ (names : List Name). AreAlike t setting running (names ∷ scopes) (record { frame = scope ∷ frame; callers = callers; statics = statics'; rest = rest; below = below }) v)
      (sym (append-nil done) ∙ all) alike) goes
  objects_made n running total scopes tasks slots to operands registers callers statics' rest below whole each [] (name ∷ names) done others made new apart all scope frame v memory choices holds alike goes = absurd made
  objects_made n running total scopes tasks slots to operands registers callers statics' rest below whole each (object ∷ objects) [] done others made new apart all scope frame v memory choices holds alike goes = absurd made
  objects_made n running total scopes tasks slots to operands registers callers statics' rest below whole each (object ∷ objects) (name ∷ names) done others made new apart all scope frame v memory [] holds alike goes =
      source_alone t flow setting valid n _ [] _ (meets_over t flow setting valid n Waits graph.Waits tt tt)
  objects_made n running total scopes tasks slots to operands registers callers statics' rest below whole each (object ∷ objects) (name ∷ names) done others made new apart all scope frame v memory (choice.None ∷ choices)
      holds alike goes =
      source_alone t flow setting valid n _ (choice.None ∷ choices) _ (meets_over t flow setting valid n Ended graph.Ended tt tt)
  objects_made n running total scopes tasks slots to operands registers callers statics' rest below whole each (object ∷ objects) (name ∷ names) done others made new apart all scope frame v memory (choice.Input bits ∷ choices)
      holds alike goes =
      source_alone t flow setting valid n _ (choice.Input bits ∷ choices) _ (meets_over t flow setting valid n Ended graph.Ended tt tt)
  objects_made n running total scopes tasks slots to operands registers callers statics' rest below whole each (object ∷ objects) (name ∷ names) done others made new apart all scope frame v memory (choice.Block base bytes ∷ choices)
      holds alike goes =
      let parts = and_parts (is_other name.variable others) (are_new names (name ∷ others)) new in
      let object' : Variable = record { token = object.token; block = length memory } in
      let more = scopes-enter v.variables done scopes scope frame name object' made.0 (apart name.variable parts.0) alike.frame alike.owned in
      let variables' : List Owned = put_owned (record { variable = name.variable; block = length memory }) v.variables in
      let memory' : List Block = placed memory (new_block storage.Local base bytes) in
      source_alone t flow setting valid n _ (choice.Block base bytes ∷ choices) _
      (rw made.1
      (placed_or t flow setting valid n (is_new_block memory storage.Local object.bytes base bytes && (not false || list_all (nat_eq 0) bytes)) _ _
      (objects_made n running total scopes tasks slots to operands registers callers statics' rest below whole each objects names (done ++ name ∷ []) (name ∷ others) made.2 parts.1
      (λ variable other. let first = other_first variable name others other in other_middle variable name done (names_of scopes) first.0 (apart variable first.1))
      (append_assoc done (name ∷ []) names ∙ all)
      (scope ++ object' ∷ []) frame (record v { variables = variables' }) memory' choices (holds-memory memory memory' registers slots operands whole holds)
      (record { frame = more.0; owned = more.1; fixed = alike.fixed; others = alike.others; held = alike.held; outermost = alike.outermost }) goes)))

  -- more objects in the innermost block
  widened : (n : ℕ) (running : Running) (before names : List Name) (scopes : List (List Name)) (tasks : List (TaskIn t)) (slots : List Slot) (to : ℕ) (operands : List Word) (registers : List Held)
      (frame : Frame) (callers : List Frame) (statics' : Scope) (rest : List (TaskIn t)) (below : List Word) → is_whole slots ≡ true →
      ((memory : List Block) (w : World t) (v : Side) (choices : List Choice) → Holds memory registers slots operands → AreAlike t setting running ((before ++ names) ∷ scopes) w v → GoesOn t flow setting valid n running w v →
      Meets t flow setting valid n (Went (source t tasks operands w memory) choices) (graph.Went (state to registers v memory) choices)) →
      (objects : List Object) → AreMade flow objects names → are_new names (before ++ names_of scopes) ≡ true →
      (v : Side) (memory : List Block) (choices : List Choice) → Holds memory registers slots operands →
      AreAlike t setting running (before ∷ scopes) (record { frame = frame; callers = callers; statics = statics'; rest = rest; below = below }) v →
      GoesOn t flow setting valid n running (record { frame = frame; callers = callers; statics = statics'; rest = rest; below = below }) v →
      Meets t flow setting valid n (Went (source t (map MakeObject objects ++ tasks) operands (record { frame = frame; callers = callers; statics = statics'; rest = rest; below = below }) memory) choices)
      (graph.entered flow (variables_of names) (state to registers v memory) choices)
  widened n running before names scopes tasks slots to operands registers [] callers statics' rest below whole each objects made new v memory choices holds alike goes = absurd alike.frame
  widened n running before names scopes tasks slots to operands registers (scope ∷ frame) callers statics' rest below whole each objects made new v memory choices holds alike goes =
      objects_made n running (before ++ names) scopes tasks slots to operands registers callers statics' rest below whole each objects names before (before ++ names_of scopes) made new (λ variable other. other) refl
      scope frame v memory choices holds alike goes

  -- a block is left
  pub block_left : (n : ℕ) (running : Running) (names : List Name) (scopes : List (List Name)) (tasks : List (TaskIn t)) (slots : List Slot) (place : Place) (point to : ℕ) (operands : List Word) (registers : List Held)
      (frame : Frame) (callers : List Frame) (statics' : Scope) (rest : List (TaskIn t)) (below : List Word) (v : Side) (memory : List Block) (choices : List Choice) → is_whole slots ≡ true →
      are_new names (names_of scopes) ≡ true → Holds memory registers slots operands →
      AreAlike t setting running (names ∷ scopes) (record { frame = frame; callers = callers; statics = statics'; rest = rest; below = below }) v →
      GoesOn t flow setting valid n running (record { frame = frame; callers = callers; statics = statics'; rest = rest; below = below }) v →
      ((memory : List Block) (w : World t) (v : Side) → Holds memory registers slots operands → AreAlike t setting running scopes w v → GoesOn t flow setting valid n running w v →
      Meets t flow setting valid n (Went (source t tasks operands w memory) choices) (graph.Went (state to registers v memory) choices)) →
      Meets t flow setting valid n (leave_block frame place (source t tasks operands (record { frame = frame; callers = callers; statics = statics'; rest = rest; below = below }) memory) choices)
      (graph.unless_barred (graph.unless_lost place (graph.at to (graph.after_scope (variables_of names) (state point registers v memory))) choices) graph.Ended)
  block_left n running names scopes tasks slots place point to operands registers [] callers statics' rest below v memory choices whole new holds alike goes each = absurd alike.frame
  block_left n running names scopes tasks slots place point to operands registers (scope ∷ frame) callers statics' rest below v memory choices whole new holds alike goes each =
      let memory' : List Block = without_objects (blocks_of scope) memory in
      let w' : World t = record { frame = frame; callers = callers; statics = statics'; rest = rest; below = below } in
      let v' : Side = record v { variables = left_variables (variables_of names) v.variables } in
      let more = scopes-leave v.variables names scopes scope frame new alike.frame alike.owned in
      let alike' : AreAlike t setting running scopes w' v' =
      record { frame = more.0; owned = more.1; fixed = alike.fixed; others = alike.others; held = alike.held; outermost = alike.outermost } in
      let holds' : Holds memory' registers slots operands = holds-memory memory memory' registers slots operands whole holds in
      rw (without_same v.variables names scope memory alike.frame.0)
      (lost_or t flow setting valid n (is_lost memory' (roots (source t tasks operands w' memory'))) (is_lost memory' (graph.roots (state to registers v' memory'))) place _ _ choices
      (lost_alike t setting running scopes tasks operands registers slots w' v' memory' to whole holds' alike')
      (each memory' w' v' holds' alike' goes))

  pub enters : (n : ℕ) (running : Running) (scopes : List (List Name)) (tasks : List (TaskIn t)) (slots : List Slot) (point : ℕ) (objects : List Object) (names : List Name) (to : ℕ) (place : Place) →
      is_whole slots ≡ true → AreMade flow objects names → are_new names (names_of scopes) ≡ true → One flow point (i.Enter (variables_of names)) to place →
      ((m : ℕ) → suc m ≡ n → Rest m running (names ∷ scopes) tasks slots to) →
      Rest n running scopes (OpenBlock ∷ (map MakeObject objects ++ tasks)) slots point
  enters n running scopes tasks slots point objects names to place whole made new edge good operands registers w v memory choices holds alike goes =
      both_along t flow setting valid n _ choices point registers v memory (i.Enter (variables_of names)) to place edge
      (λ m is. unbarred t flow setting valid m _ _
      (objects_made m running names scopes tasks slots to operands registers w.callers w.statics w.rest w.below whole
      (λ memory' w' v' choices' holds' alike' goes'. good m is operands registers w' v' memory' choices' holds' alike' goes')
      objects names [] (names_of scopes) made new (λ variable other. other) refl [] w.frame v memory choices holds
      (record { frame = (tt, alike.frame); owned = alike.owned; fixed = alike.fixed; others = alike.others; held = alike.held; outermost = alike.outermost }) (goes_before t flow setting valid n m running w v is goes)))

  pub widens : (n : ℕ) (running : Running) (scopes : List (List Name)) (tasks : List (TaskIn t)) (slots : List Slot) (point : ℕ) (objects : List Object) (before names : List Name) (to : ℕ) (place : Place) →
      is_whole slots ≡ true → AreMade flow objects names → are_new names (before ++ names_of scopes) ≡ true → One flow point (i.Enter (variables_of names)) to place →
      Rest n running ((before ++ names) ∷ scopes) tasks slots to →
      Rest n running (before ∷ scopes) (map MakeObject objects ++ tasks) slots point
  widens n running scopes tasks slots point objects before names to place whole made new edge good operands registers w v memory choices holds alike goes =
      graph_along t flow setting valid n _ choices point registers v memory (i.Enter (variables_of names)) to place edge
      (unbarred t flow setting valid n _ _
      (widened n running before names scopes tasks slots to operands registers w.frame w.callers w.statics w.rest w.below whole
      (λ memory' w' v' choices' holds' alike' goes'. good operands registers w' v' memory' choices' holds' alike' goes')
      objects made new v memory choices holds alike goes))

  pub passes : (n : ℕ) (running : Running) (scopes : List (List Name)) (tasks : List (TaskIn t)) (slots : List Slot) (point : ℕ) (to : ℕ) (place : Place) →
      One flow point (i.Enter []) to place → Rest n running scopes tasks slots to →
      Rest n running scopes tasks slots point
  passes n running scopes tasks slots point to place edge good operands registers w v memory choices holds alike goes =
      graph_along t flow setting valid n _ choices point registers v memory (i.Enter []) to place edge (good operands registers w v memory choices holds alike goes)

  pub leaves : (n : ℕ) (running : Running) (scopes : List (List Name)) (tasks : List (TaskIn t)) (slots : List Slot) (point : ℕ) (names : List Name) (to : ℕ) (place : Place) →
      is_whole slots ≡ true → are_new names (names_of scopes) ≡ true → One flow point (i.Leave (variables_of names)) to place →
      ((m : ℕ) → suc m ≡ n → Rest m running scopes tasks slots to) →
      Rest n running (names ∷ scopes) (LeaveBlock place ∷ tasks) slots point
  leaves n running scopes tasks slots point names to place whole new edge good operands registers w v memory choices holds alike goes =
      both_along t flow setting valid n _ choices point registers v memory (i.Leave (variables_of names)) to place edge
      (λ m is. block_left m running names scopes tasks slots place point to operands registers w.frame w.callers w.statics w.rest w.below v memory choices whole new holds alike (goes_before t flow setting valid n m running w v is goes)
      (λ memory' w' v' holds' alike' goes'. good m is operands registers w' v' memory' choices holds' alike' goes'))

-- Trees make room for their parts.
use Rattle.std.proofs.Common.{◌≡◌, ℕ, suc, ◌+◌, List, [], ◌∷◌, ◌++◌, length, sym, subst}
use Rattle.cbase.specs.declared.place.Place.{Place}
use Rattle.bytes_core.specs.declared.block.Block.{Block}
use Rattle.bytes_core.specs.declared.word.Word.{Word}
use Rattle.choices.specs.declared.choice.Choice.{Choice}
use Rattle.c_machine.specs.declared.task.Task.TheVariants.{ValueOf, AddressOf, Execute, Test, Again, Initialise}
use Rattle.c_machine.specs.Text.{Text}
use Rattle.c_machine.specs.State.{TaskIn, Went}
use Rattle.c_machine.specs.Blocks.{initialiser_tasks}
use Rattle.c_machine.specs.Expressions.{value_tasks, address_tasks}
use Rattle.c_machine.specs.Statements.{statement_tasks, test_tasks, again_tasks}
use Rattle.flow.specs.declared.instruction.Instr.TheVariants as i
use Rattle.flow.specs.declared.flow_graph.Flow.{Flow}
use Rattle.flow.specs.Holding.{Held}
use Rattle.flow.specs.Machine as graph
use Rattle.flow.specs.Valid.{IsFlow}
use Rattle.simulation.specs.Edges.{One}
use Rattle.simulation.specs.Names.{Name}
use Rattle.simulation.specs.Running.{Setting, Running}
use Rattle.simulation.specs.Slots.{Slot, Holds}
use Rattle.simulation.specs.Worlds.{World, Side, AreAlike, source, state}
use Rattle.simulation.proofs.Meeting.{Meets, Good, source_alone, both_along, goes_before, unfolded, count_of_all}

module _ (t : Text) (flow : Flow) (setting : Setting) (valid : IsFlow flow) where
  abbrev Rest : ℕ → Running → List (List Name) → List (TaskIn t) → List Slot → ℕ → Type 0
  Rest n running scopes tasks slots point = Good t flow setting valid n running scopes tasks slots point

  -- how many operands there are in all
  held_apart : (n : ℕ) (running : Running) (scopes : List (List Name)) (tasks : List (TaskIn t)) (slots : List Slot) (point : ℕ) (new : ℕ → List (TaskIn t))
      (operands : List Word) (registers : List Held) (w : World t) (v : Side) (memory : List Block) (choices : List Choice) →
      Holds memory registers slots operands → AreAlike t setting running scopes w v →
      Meets t flow setting valid n (Went (source t (new (length slots + running.base) ++ tasks) operands w memory) choices) (graph.Went (state point registers v memory) choices) →
      Meets t flow setting valid n (Went (record { tasks = new (length (operands ++ w.below)) ++ (tasks ++ w.rest); operands = operands ++ w.below; frame = w.frame; callers = w.callers; statics = w.statics; memory = memory }) choices)
      (graph.Went (state point registers v memory) choices)
  held_apart n running scopes tasks slots point new operands registers w v memory choices holds alike meets =
      subst (λ (held : ℕ). Meets t flow setting valid n
      (Went (record { tasks = new held ++ (tasks ++ w.rest); operands = operands ++ w.below; frame = w.frame; callers = w.callers; statics = w.statics; memory = memory }) choices)
      (graph.Went (state point registers v memory) choices))
      (sym (count_of_all t flow setting valid running scopes memory registers slots operands w v holds.stands alike))
      (unfolded t flow setting valid n (new (length slots + running.base)) tasks operands w memory choices _ meets)

  pub values : (n : ℕ) (running : Running) (scopes : List (List Name)) (tasks : List (TaskIn t)) (slots : List Slot) (point : ℕ) (expr : t.Expr) →
      Rest n running scopes (value_tasks t expr ++ tasks) slots point →
      Rest n running scopes (ValueOf expr ∷ tasks) slots point
  values n running scopes tasks slots point expr good operands registers w v memory choices holds alike goes =
      source_alone t flow setting valid n _ choices _
      (unfolded t flow setting valid n (value_tasks t expr) tasks operands w memory choices _ (good operands registers w v memory choices holds alike goes))

  pub addresses : (n : ℕ) (running : Running) (scopes : List (List Name)) (tasks : List (TaskIn t)) (slots : List Slot) (point : ℕ) (expr : t.Expr) →
      Rest n running scopes (address_tasks t expr ++ tasks) slots point →
      Rest n running scopes (AddressOf expr ∷ tasks) slots point
  addresses n running scopes tasks slots point expr good operands registers w v memory choices holds alike goes =
      source_alone t flow setting valid n _ choices _
      (unfolded t flow setting valid n (address_tasks t expr) tasks operands w memory choices _ (good operands registers w v memory choices holds alike goes))

  pub executes : (n : ℕ) (running : Running) (scopes : List (List Name)) (tasks : List (TaskIn t)) (slots : List Slot) (point : ℕ) (stmt : t.Stmt) →
      Rest n running scopes (statement_tasks t stmt (length slots + running.base) ++ tasks) slots point →
      Rest n running scopes (Execute stmt ∷ tasks) slots point
  executes n running scopes tasks slots point stmt good operands registers w v memory choices holds alike goes =
      source_alone t flow setting valid n _ choices _
      (held_apart n running scopes tasks slots point (statement_tasks t stmt) operands registers w v memory choices holds alike
      (good operands registers w v memory choices holds alike goes))

  pub executes_along : (n : ℕ) (running : Running) (scopes : List (List Name)) (tasks : List (TaskIn t)) (slots : List Slot) (point : ℕ) (stmt : t.Stmt) (to : ℕ) (place : Place) →
      One flow point (i.Enter []) to place →
      ((m : ℕ) → suc m ≡ n → Rest m running scopes (statement_tasks t stmt (length slots + running.base) ++ tasks) slots to) →
      Rest n running scopes (Execute stmt ∷ tasks) slots point
  executes_along n running scopes tasks slots point stmt to place edge good operands registers w v memory choices holds alike goes =
      both_along t flow setting valid n _ choices point registers v memory (i.Enter []) to place edge
      (λ m is. held_apart m running scopes tasks slots to (statement_tasks t stmt) operands registers w v memory choices holds alike
      (good m is operands registers w v memory choices holds alike (goes_before t flow setting valid n m running w v is goes)))

  pub tests : (n : ℕ) (running : Running) (scopes : List (List Name)) (tasks : List (TaskIn t)) (slots : List Slot) (point : ℕ) (stmt : t.Stmt) →
      Rest n running scopes (test_tasks t stmt (length slots + running.base) ++ tasks) slots point →
      Rest n running scopes (Test stmt ∷ tasks) slots point
  tests n running scopes tasks slots point stmt good operands registers w v memory choices holds alike goes =
      source_alone t flow setting valid n _ choices _
      (held_apart n running scopes tasks slots point (test_tasks t stmt) operands registers w v memory choices holds alike
      (good operands registers w v memory choices holds alike goes))

  pub repeats : (n : ℕ) (running : Running) (scopes : List (List Name)) (tasks : List (TaskIn t)) (slots : List Slot) (point : ℕ) (stmt : t.Stmt) (held : ℕ) →
      Rest n running scopes (again_tasks t stmt ++ tasks) slots point →
      Rest n running scopes (Again stmt held ∷ tasks) slots point
  repeats n running scopes tasks slots point stmt held good operands registers w v memory choices holds alike goes =
      source_alone t flow setting valid n _ choices _
      (unfolded t flow setting valid n (again_tasks t stmt) tasks operands w memory choices _ (good operands registers w v memory choices holds alike goes))

  pub initialises : (n : ℕ) (running : Running) (scopes : List (List Name)) (tasks : List (TaskIn t)) (slots : List Slot) (point : ℕ) (place : Place) (init : t.Init) →
      Rest n running scopes (initialiser_tasks t place init ++ tasks) slots point →
      Rest n running scopes (Initialise place init ∷ tasks) slots point
  initialises n running scopes tasks slots point place init good operands registers w v memory choices holds alike goes =
      source_alone t flow setting valid n _ choices _
      (unfolded t flow setting valid n (initialiser_tasks t place init) tasks operands w memory choices _ (good operands registers w v memory choices holds alike goes))

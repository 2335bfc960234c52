-- Ends of full expressions.
use Rattle.std.proofs.Common.{◌≡◌, ℕ, suc, ◌+◌, List, [], ◌∷◌, ◌++◌, length, Bool, true, refl}
use Rattle.cbase.specs.declared.place.Place.{Place}
use Rattle.bytes_core.specs.Loss.{is_lost}
use Rattle.c_machine.specs.declared.task.Task.TheVariants.{Finish, Keep, Branch}
use Rattle.c_machine.specs.Text.{Text}
use Rattle.c_machine.specs.State.{TaskIn, roots}
use Rattle.c_machine.specs.Statements.{branch_tasks, branch_place}
use Rattle.flow.specs.declared.instruction.Instr.TheVariants as i
use Rattle.flow.specs.declared.flow_graph.Flow.{Flow}
use Rattle.flow.specs.Holding.{emptied}
use Rattle.flow.specs.Machine as graph
use Rattle.flow.specs.Valid.{IsFlow}
use Rattle.simulation.specs.Edges.{One}
use Rattle.simulation.specs.Names.{Name}
use Rattle.simulation.specs.Running.{Setting, Running}
use Rattle.simulation.specs.Slots.{Slot, Truth, is_whole, are_free, is_in, Holds}
use Rattle.simulation.specs.Worlds.{source, state}
use Rattle.simulation.proofs.Holding.{holds-popped, holds-emptied}
use Rattle.simulation.proofs.Losses.{lost_alike}
use Rattle.simulation.proofs.Meeting.{Good, both_along, lost_or, goes_before, unfolded, count_of_all}

module _ (t : Text) (flow : Flow) (setting : Setting) (valid : IsFlow flow) where
  abbrev Rest : ℕ → Running → List (List Name) → List (TaskIn t) → List Slot → ℕ → Type 0
  Rest n running scopes tasks slots point = Good t flow setting valid n running scopes tasks slots point

  pub finishes : (n : ℕ) (running : Running) (scopes : List (List Name)) (tasks : List (TaskIn t)) (slots : List Slot) (point : ℕ) (slot : Slot) (place : Place) (gone : List ℕ) (to : ℕ) →
      One flow point (i.Finish gone) to place → are_free gone slots ≡ true → is_in gone slot ≡ true → is_whole slots ≡ true →
      ((m : ℕ) → suc m ≡ n → Rest m running scopes tasks slots to) →
      Rest n running scopes (Finish place ∷ tasks) (slot ∷ slots) point
  finishes n running scopes tasks slots point slot place gone to edge free is_gone whole good [] registers w v memory choices holds alike goes = absurd holds.stands
  finishes n running scopes tasks slots point slot place gone to edge free is_gone whole good (word ∷ operands) registers w v memory choices holds alike goes =
      both_along t flow setting valid n _ choices point registers v memory (i.Finish gone) to place edge
      (λ m is.
      let after : Holds memory (emptied gone registers) slots operands = holds-popped memory gone registers slot slots word operands free is_gone holds in
      lost_or t flow setting valid m (is_lost memory (roots (source t tasks operands w memory))) (is_lost memory (graph.roots (state to (emptied gone registers) v memory))) place _ _ choices
      (lost_alike t setting running scopes tasks operands (emptied gone registers) slots w v memory to whole after alike)
      (good m is operands (emptied gone registers) w v memory choices after alike (goes_before t flow setting valid n m running w v is goes)))

  pub keeps : (n : ℕ) (running : Running) (scopes : List (List Name)) (tasks : List (TaskIn t)) (slots : List Slot) (point : ℕ) (place : Place) (gone : List ℕ) (to : ℕ) →
      One flow point (i.Finish gone) to place → are_free gone slots ≡ true → is_whole slots ≡ true → ((m : ℕ) → suc m ≡ n → Rest m running scopes tasks slots to) →
      Rest n running scopes (Keep place ∷ tasks) slots point
  keeps n running scopes tasks slots point place gone to edge free whole good operands registers w v memory choices holds alike goes =
      both_along t flow setting valid n _ choices point registers v memory (i.Finish gone) to place edge
      (λ m is.
      let after : Holds memory (emptied gone registers) slots operands = holds-emptied memory gone registers slots operands free holds in
      lost_or t flow setting valid m (is_lost memory (roots (source t tasks operands w memory))) (is_lost memory (graph.roots (state to (emptied gone registers) v memory))) place _ _ choices
      (lost_alike t setting running scopes tasks operands (emptied gone registers) slots w v memory to whole after alike)
      (good m is operands (emptied gone registers) w v memory choices after alike (goes_before t flow setting valid n m running w v is goes)))

  pub branches : (n : ℕ) (running : Running) (scopes : List (List Name)) (tasks : List (TaskIn t)) (slots : List Slot) (point : ℕ) (stmt : t.Stmt) (truth : Bool) (gone : List ℕ) (to : ℕ) →
      One flow point (i.Finish gone) to (branch_place t stmt) → are_free gone slots ≡ true → is_whole slots ≡ true →
      ((m : ℕ) → suc m ≡ n → Rest m running scopes (branch_tasks t stmt (length slots + running.base) truth ++ tasks) slots to) →
      Rest n running scopes (Branch stmt ∷ tasks) (Truth truth ∷ slots) point
  branches n running scopes tasks slots point stmt truth gone to edge free whole good [] registers w v memory choices holds alike goes = absurd holds.stands
  branches n running scopes tasks slots point stmt truth gone to edge free whole good (word ∷ operands) registers w v memory choices holds alike goes =
      both_along t flow setting valid n _ choices point registers v memory (i.Finish gone) to (branch_place t stmt) edge
      (λ m is.
      let after : Holds memory (emptied gone registers) slots operands = holds-popped memory gone registers (Truth truth) slots word operands free refl holds in
      let new : List (TaskIn t) = branch_tasks t stmt (length slots + running.base) truth in
      rw (holds.stands.0, count_of_all t flow setting valid running scopes memory registers slots operands w v holds.stands.1 alike)
      (lost_or t flow setting valid m (is_lost memory (roots (source t (new ++ tasks) operands w memory))) (is_lost memory (graph.roots (state to (emptied gone registers) v memory))) (branch_place t stmt) _ _ choices
      (lost_alike t setting running scopes (new ++ tasks) operands (emptied gone registers) slots w v memory to whole after alike)
      (unfolded t flow setting valid m new tasks operands w memory choices _
      (good m is operands (emptied gone registers) w v memory choices after alike (goes_before t flow setting valid n m running w v is goes)))))

-- Numbers in registers, numbers that are known, and values that are let go of.
use Rattle.std.proofs.Common.{◌≡◌, ℕ, suc, List, [], ◌∷◌, Bool, true, false, refl, sym, subst}
use Rattle.cbase.specs.declared.place.Place.{Place}
use Rattle.bytes_core.specs.declared.word.Word.{Word}
use Rattle.bytes_core.specs.declared.word.Word.TheVariants.{Plain}
use Rattle.c_machine.specs.declared.task.Task.TheVariants.{Push, Drop}
use Rattle.c_machine.specs.Text.{Text}
use Rattle.c_machine.specs.State.{TaskIn, Went}
use Rattle.flow.specs.declared.instruction.Instr.TheVariants as i
use Rattle.flow.specs.declared.flow_graph.Flow.{Flow}
use Rattle.flow.specs.Holding.{put}
use Rattle.flow.specs.Machine as graph
use Rattle.flow.specs.Valid.{IsFlow}
use Rattle.simulation.specs.Edges.{One}
use Rattle.simulation.specs.Names.{Name}
use Rattle.simulation.specs.Running.{Setting, Running}
use Rattle.simulation.specs.Slots.{Slot, InRegister, KnownAs, Gone, is_free, is_in}
use Rattle.simulation.specs.Worlds.{source, state}
use Rattle.simulation.proofs.Holding.{holds-put, holds-known, holds-dropped, holds-let_go, holds-beside, holds-forgotten, holds-leading}
use Rattle.simulation.proofs.Meeting.{Meets, Good, source_alone, both_along, graph_along, goes_before}

module _ (t : Text) (flow : Flow) (setting : Setting) (valid : IsFlow flow) where
  abbrev Rest : ℕ → Running → List (List Name) → List (TaskIn t) → List Slot → ℕ → Type 0
  Rest n running scopes tasks slots point = Good t flow setting valid n running scopes tasks slots point

  pub numbers : (n : ℕ) (running : Running) (scopes : List (List Name)) (tasks : List (TaskIn t)) (slots : List Slot) (point : ℕ) (bits into size to : ℕ) (place : Place) →
      One flow point (i.Number into bits size) to place → is_free into slots ≡ true →
      ((m : ℕ) → suc m ≡ n → Rest m running scopes tasks (InRegister into size true ∷ slots) to) →
      Rest n running scopes (Push bits ∷ tasks) slots point
  numbers n running scopes tasks slots point bits into size to place edge free good operands registers w v memory choices holds alike goes =
      both_along t flow setting valid n _ choices point registers v memory (i.Number into bits size) to place edge
      (λ m is. good m is (Plain bits ∷ operands) (put (record { register = into; size = size; word = Plain bits }) registers) w v memory choices
      (holds-put memory into size (Plain bits) true registers slots operands free tt holds) alike (goes_before t flow setting valid n m running w v is goes))

  pub is_known : (n : ℕ) (running : Running) (scopes : List (List Name)) (tasks : List (TaskIn t)) (slots : List Slot) (point : ℕ) (bits : ℕ) →
      Rest n running scopes tasks (KnownAs bits ∷ slots) point →
      Rest n running scopes (Push bits ∷ tasks) slots point
  is_known n running scopes tasks slots point bits good operands registers w v memory choices holds alike goes =
      source_alone t flow setting valid n _ choices _ (good (Plain bits ∷ operands) registers w v memory choices (holds-known memory registers slots bits operands holds) alike goes)

  pub makes : (n : ℕ) (running : Running) (scopes : List (List Name)) (tasks : List (TaskIn t)) (slots : List Slot) (point : ℕ) (bits into size to : ℕ) (place : Place) →
      One flow point (i.Number into bits size) to place → is_free into slots ≡ true → Rest n running scopes tasks (InRegister into size true ∷ slots) to →
      Rest n running scopes tasks (KnownAs bits ∷ slots) point
  makes n running scopes tasks slots point bits into size to place edge free good [] registers w v memory choices holds alike goes = absurd holds.stands
  makes n running scopes tasks slots point bits into size to place edge free good (word ∷ operands) registers w v memory choices holds alike goes =
      subst (λ (one : Word). Meets t flow setting valid n (Went (source t tasks (one ∷ operands) w memory) choices) (graph.Went (state point registers v memory) choices)) (sym holds.stands.0)
      (graph_along t flow setting valid n _ choices point registers v memory (i.Number into bits size) to place edge
      (good (Plain bits ∷ operands) (put (record { register = into; size = size; word = Plain bits }) registers) w v memory choices
      (holds-put memory into size (Plain bits) true registers slots operands free tt (holds-dropped memory registers (KnownAs bits) slots word operands refl holds)) alike goes))

  pub puts : (n : ℕ) (running : Running) (scopes : List (List Name)) (tasks : List (TaskIn t)) (slots : List Slot) (point : ℕ) (register bits size to : ℕ) (place : Place) →
      One flow point (i.Number register bits size) to place → is_free register slots ≡ true → Rest n running scopes tasks slots to →
      Rest n running scopes tasks slots point
  puts n running scopes tasks slots point register bits size to place edge free good operands registers w v memory choices holds alike goes =
      graph_along t flow setting valid n _ choices point registers v memory (i.Number register bits size) to place edge
      (good operands (put (record { register = register; size = size; word = Plain bits }) registers) w v memory choices
      (holds-beside memory register size bits registers slots operands free holds) alike goes)

  pub may_lead : (n : ℕ) (running : Running) (scopes : List (List Name)) (tasks : List (TaskIn t)) (slots : List Slot) (point : ℕ) (register size : ℕ) →
      Rest n running scopes tasks (InRegister register size false ∷ slots) point → Rest n running scopes tasks (InRegister register size true ∷ slots) point
  may_lead n running scopes tasks slots point register size good [] registers w v memory choices holds alike goes = absurd holds.stands
  may_lead n running scopes tasks slots point register size good (word ∷ operands) registers w v memory choices holds alike goes =
      good (word ∷ operands) registers w v memory choices (holds-leading memory registers register size slots word operands holds) alike goes

  pub forgets : (n : ℕ) (running : Running) (scopes : List (List Name)) (tasks : List (TaskIn t)) (slots : List Slot) (point : ℕ) (register size size' bits to : ℕ) (plain : Bool) (place : Place) →
      One flow point (i.Number register bits size') to place → is_free register slots ≡ true → Rest n running scopes tasks (Gone ∷ slots) to →
      Rest n running scopes tasks (InRegister register size plain ∷ slots) point
  forgets n running scopes tasks slots point register size size' bits to plain place edge free good [] registers w v memory choices holds alike goes = absurd holds.stands
  forgets n running scopes tasks slots point register size size' bits to plain place edge free good (word ∷ operands) registers w v memory choices holds alike goes =
      graph_along t flow setting valid n _ choices point registers v memory (i.Number register bits size') to place edge
      (good (word ∷ operands) (put (record { register = register; size = size'; word = Plain bits }) registers) w v memory choices
      (holds-forgotten memory register size size' bits plain registers slots word operands free holds) alike goes)

  pub lets_go : (n : ℕ) (running : Running) (scopes : List (List Name)) (tasks : List (TaskIn t)) (slots : List Slot) (point : ℕ) (slot : Slot) →
      is_in [] slot ≡ true → Rest n running scopes tasks (Gone ∷ slots) point →
      Rest n running scopes tasks (slot ∷ slots) point
  lets_go n running scopes tasks slots point slot unheld good [] registers w v memory choices holds alike goes = absurd holds.stands
  lets_go n running scopes tasks slots point slot unheld good (word ∷ operands) registers w v memory choices holds alike goes =
      good (word ∷ operands) registers w v memory choices (holds-let_go memory registers slot slots word operands unheld holds) alike goes

  pub drops : (n : ℕ) (running : Running) (scopes : List (List Name)) (tasks : List (TaskIn t)) (slots : List Slot) (point : ℕ) (slot : Slot) →
      is_in [] slot ≡ true → Rest n running scopes tasks slots point →
      Rest n running scopes (Drop ∷ tasks) (slot ∷ slots) point
  drops n running scopes tasks slots point slot unheld good [] registers w v memory choices holds alike goes = absurd holds.stands
  drops n running scopes tasks slots point slot unheld good (word ∷ operands) registers w v memory choices holds alike goes =
      source_alone t flow setting valid n _ choices _ (good operands registers w v memory choices (holds-dropped memory registers slot slots word operands unheld holds) alike goes)

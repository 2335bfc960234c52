-- Variables begin and cease to stand in a state that is alike as well, and full expressions and runs end in it, and that leaves alike states.
use Rattle.std.proofs.Common.{ℕ, Bool, List}
use Rattle.graph.specs.AlikeStates.{AreAlikeStates}
use Rattle.graph.specs.State.{State}
use Rattle.changes.specs.Parts.{emptied}
use Rattle.heap_steps.specs.Closing.{Closes}
use Rattle.heap_steps.specs.Leaving.{LeavesScope}
use Rattle.heap_steps.specs.Steps.{Finishes}
use Rattle.heap_steps.proofs.EndedAlike as ended
use Rattle.block_steps.specs.Entering.{Enters}
use Rattle.block_steps.proofs.EntersAlike as entered
use Rattle.alike_steps.specs.Laws.{GoesAlike}
use Rattle.alike_steps.proofs.Leaving.{left_with, left_leaves, registers_alike, leaves_alike, emptied_leaves, going}
use Rattle.alike_steps.proofs.Losses.{none_alike, no_heap_alike}

pub enter_alike : (which sizes : List ℕ) (there back : ℕ → ℕ) (paired : ℕ → Bool) (one other next : State) → AreAlikeStates there back paired one other →
    Enters which sizes one next → GoesAlike (Enters which sizes) other next
enter_alike which sizes there back paired one other next are enters =
    let made = entered.all_alike which sizes there back paired one other next are enters in
    going made.there made.back made.paired (Enters which sizes) other next made.next' made.steps made.alike

pub leave_alike : (which : List ℕ) (there back : ℕ → ℕ) (paired : ℕ → Bool) (one other next : State) → AreAlikeStates there back paired one other →
    LeavesScope which one next → GoesAlike (LeavesScope which) other next
leave_alike which there back paired one other next are leaves =
    let made = ended.all_alike there back paired which one other next are leaves.ends in
    going there back paired (LeavesScope which) other next made.next' (record { ends = made.steps; none = none_alike there back paired next made.next' made.alike leaves.none }) made.alike

pub finish_alike : (gone : List ℕ) (there back : ℕ → ℕ) (paired : ℕ → Bool) (one other next : State) → AreAlikeStates there back paired one other →
    Finishes gone one next → GoesAlike (Finishes gone) other next
finish_alike gone there back paired one other next are finishes =
    going there back paired (Finishes gone) other next next'
    (record { leaves = left_leaves other.memory (emptied gone other.registers) other; none = none_alike there back paired next next' alike finishes.none }) alike
  where
    next' : State
    next' = left_with other.memory (emptied gone other.registers) other

    alike : AreAlikeStates there back paired next (left_with other.memory (emptied gone other.registers) other)
    alike = emptied_leaves there back paired one.memory other.memory gone one other next are are.memories finishes.leaves

pub close_alike : (there back : ℕ → ℕ) (paired : ℕ → Bool) (one other next : State) → AreAlikeStates there back paired one other → Closes one next → GoesAlike Closes other next
close_alike there back paired one other next are closes =
    going there back paired Closes other next (left_with other.memory other.registers other)
    (record { none = no_heap_alike there back paired one other are closes.none; leaves = left_leaves other.memory other.registers other })
    (leaves_alike there back paired one.memory other.memory one.registers other.registers one other next are are.memories (registers_alike there back paired one other are) closes.leaves)

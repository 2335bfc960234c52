-- Alike states meet the same faults.
use Rattle.std.proofs.Common.{ℕ, Bool, List, ◌∙◌}
use Rattle.graph.specs.Alike.{renumbered_word}
use Rattle.graph.specs.AlikeStates.{AreAlikeStates}
use Rattle.graph.specs.AlikeSteps.{FaultsAlike}
use Rattle.graph.specs.State.{State}
use Rattle.graph.proofs.AlikeSteps.{alike_respected}
use Rattle.changes.specs.Parts.{emptied}
use Rattle.flow.specs.declared.instruction.Instr.{Instr}
use Rattle.flow.specs.declared.instruction.Instr.TheVariants.{Number, Address, Move, Read, Write, Shift, ShiftBy, Compute, Convert, IfSame, IfDifferent, Allocate, AllocateNone, Release, Fill, Copy, Enter, Leave, Finish, Input, Call, Return, Close}
use Rattle.heap_steps.specs.Closing.{FaultsClosing}
use Rattle.heap_steps.specs.Leaving.{FaultsLeaving}
use Rattle.heap_steps.specs.Steps.{FaultsFinishing}
use Rattle.heap_steps.proofs.EndedAlike.{AreEndedAlike, all_alike}
use Rattle.edge_steps.specs.EdgeSteps.{EdgeFaults}
use Rattle.alike_steps.proofs.Leaving.{left_with, left_leaves, held_there, emptied_leaves}
use Rattle.alike_steps.proofs.Losses.{some_alike, heap_alike}

module _ (there back : ℕ → ℕ) (paired : ℕ → Bool) (one other : State) (are : AreAlikeStates there back paired one other) where
  same : FaultsAlike there paired one.memory other.memory
  same = alike_respected.faults there back paired one.memory other.memory are.memories

  leaving_faults : (which : List ℕ) (kind : ℕ) → FaultsLeaving which kind one → FaultsLeaving which kind other
  leaving_faults which kind faults = record { next = ended.next'; ends = ended.steps; some = some_alike there back paired faults.next ended.next' ended.alike kind faults.some }
    where
      ended : AreEndedAlike which there back paired other faults.next
      ended = all_alike there back paired which one other faults.next are faults.ends

  finishing_faults : (gone : List ℕ) (kind : ℕ) → FaultsFinishing gone kind one → FaultsFinishing gone kind other
  finishing_faults gone kind faults = record {
    next = next';
    leaves = left_leaves other.memory (emptied gone other.registers) other;
    some = some_alike there back paired faults.next next' (emptied_leaves there back paired one.memory other.memory gone one other faults.next are are.memories faults.leaves) kind faults.some;
  }
    where
      next' : State
      next' = left_with other.memory (emptied gone other.registers) other

  closing_faults : (kind : ℕ) → FaultsClosing kind one → FaultsClosing kind other
  closing_faults kind faults = record { some = heap_alike there back paired one other are faults.some; is = faults.is }

  pub faults_alike : (instr : Instr) (kind : ℕ) → EdgeFaults instr kind one → EdgeFaults instr kind other
  faults_alike (Number into number size) kind faults = faults
  faults_alike (Address into variable) kind faults = faults
  faults_alike (Move into from) kind faults = faults
  faults_alike (Read into at size pointer) kind faults = record {
    to = renumbered_word there faults.to;
    address = held_there there back paired one other at faults.to are faults.address;
    fault = same.accesses faults.to size ∙ faults.fault;
  }
  faults_alike (Write at from size) kind faults = record {
    to = renumbered_word there faults.to;
    word = renumbered_word there faults.word;
    address = held_there there back paired one other at faults.to are faults.address;
    value = held_there there back paired one other from faults.word are faults.value;
    fault = same.accesses faults.to size ∙ faults.fault;
  }
  faults_alike (Shift into at by) kind faults = faults
  faults_alike (ShiftBy into at by scale) kind faults = faults
  faults_alike (Compute into op left right size signed) kind faults = faults
  faults_alike (Convert into from size signed) kind faults = faults
  faults_alike (IfSame left right) kind faults = faults
  faults_alike (IfDifferent left right) kind faults = faults
  faults_alike (Allocate into bytes zeroed) kind faults = faults
  faults_alike (AllocateNone into) kind faults = faults
  faults_alike (Release at) kind faults = record {
    to = renumbered_word there faults.to;
    address = held_there there back paired one other at faults.to are faults.address;
    fault = same.frees faults.to (are.named.registers at faults.to faults.address) ∙ faults.fault;
  }
  faults_alike (Fill at from length) kind faults = record {
    to = renumbered_word there faults.to;
    word = renumbered_word there faults.word;
    address = held_there there back paired one other at faults.to are faults.address;
    value = held_there there back paired one other from faults.word are faults.value;
    fault = same.ranges faults.to length ∙ faults.fault;
  }
  faults_alike (Copy to from length disjoint) kind faults = record {
    target = renumbered_word there faults.target;
    source = renumbered_word there faults.source;
    to_holds = held_there there back paired one other to faults.target are faults.to_holds;
    from_holds = held_there there back paired one other from faults.source are faults.from_holds;
    fault = same.copies faults.target faults.source length disjoint ∙ faults.fault;
  }
  faults_alike (Enter variables) kind faults = faults
  faults_alike (Leave variables) kind faults = leaving_faults variables kind faults
  faults_alike (Finish registers) kind faults = finishing_faults registers kind faults
  faults_alike (Input into size signed truth) kind faults = faults
  faults_alike (Call function arguments into) kind faults = faults
  faults_alike (Return from) kind faults = faults
  faults_alike Close kind faults = closing_faults kind faults

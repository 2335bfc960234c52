-- A write goes in alike states.
use Rattle.std.proofs.Common.{ℕ, Bool, [], ◌∷◌, ◌∙◌}
use Rattle.graph.specs.Alike.{renumbered_word}
use Rattle.graph.specs.AlikeStates.{AreAlikeStates}
use Rattle.graph.specs.State.{State}
use Rattle.graph.proofs.AlikeSteps.{alike_respected}
use Rattle.bytes_core.specs.Access.{stored}
use Rattle.changes.specs.Parts.{emptied}
use Rattle.reinterpret.specs.States.{Writes}
use Rattle.alike_steps.specs.Laws.{GoesAlike}
use Rattle.alike_steps.proofs.Leaving.{left_with, left_leaves, held_there, emptied_leaves}

pub write_alike : (at size from : ℕ) (there back : ℕ → ℕ) (paired : ℕ → Bool) (one other next : State) → AreAlikeStates there back paired one other →
    Writes at size from one next → GoesAlike (Writes at size from) other next
write_alike at size from there back paired one other next are writes = record {
  next' = left_with (stored other.memory (renumbered_word there writes.to) size (renumbered_word there writes.word)) (emptied (at ∷ from ∷ []) other.registers) other;
  steps = record {
    to = renumbered_word there writes.to;
    word = renumbered_word there writes.word;
    address = held_there there back paired one other at writes.to are writes.address;
    value = held_there there back paired one other from writes.word are writes.value;
    room = (alike_respected.faults there back paired one.memory other.memory are.memories).accesses writes.to size ∙ writes.room;
    leaves = left_leaves (stored other.memory (renumbered_word there writes.to) size (renumbered_word there writes.word)) (emptied (at ∷ from ∷ []) other.registers) other;
  };
  there = there;
  back = back;
  paired = paired;
  alike = emptied_leaves there back paired (stored one.memory writes.to size writes.word) (stored other.memory (renumbered_word there writes.to) size (renumbered_word there writes.word)) (at ∷ from ∷ []) one other next are
      ((alike_respected.changes there back paired one.memory other.memory are.memories).stores writes.to size writes.word (are.named.registers from writes.word writes.value)) writes.leaves;
}

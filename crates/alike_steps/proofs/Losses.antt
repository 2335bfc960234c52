-- Alike states lose the same blocks, and have the same live blocks of the heap.
use Rattle.std.proofs.Common.{ℕ, Bool, List, sym, ◌∙◌, ap, subst}
use Rattle.std.specs.Prelude.{option_map, IsTrue, Contains}
use Rattle.bytes_core.specs.declared.block.BlockKind.{BlockKind}
use Rattle.bytes_core.specs.Loss.{holds_pointer_to}
use Rattle.bytes_core.specs.Release.{is_heap}
use Rattle.graph.specs.Alike.{renumbered_word}
use Rattle.graph.specs.AlikeStates.{AreAlikeStates}
use Rattle.graph.specs.State.{State}
use Rattle.graph.proofs.AlikeBlocks.{holds-there}
use Rattle.graph.proofs.AlikeReads.{live_there}
use Rattle.graph.proofs.AlikeStates.{states_turned}
use Rattle.graph.proofs.AlikeTurned.{contains_map}
use Rattle.heap_steps.specs.Closing.{HasHeapBlock}
use Rattle.heap_steps.specs.Reached.{IsRoot, OfVariable, OfRegister, Outside, IsReached, Root, Link, IsLost}
use Rattle.heap_steps.specs.Steps.{LosesNone, LosesSome}

module _ (there back : ℕ → ℕ) (paired : ℕ → Bool) (one other : State) (are : AreAlikeStates there back paired one other) where
  root_there : (number : ℕ) → IsRoot one number → IsRoot other (there number)
  root_there _ (OfVariable variable number is) = OfVariable variable (there number) (are.variables variable ∙ ap (option_map there) is)
  root_there _ (OfRegister register number offset is) = OfRegister register (there number) offset (are.registers register ∙ ap (option_map (renumbered_word there)) is)
  root_there _ (Outside number among) = Outside (there number) (subst (λ (roots : List ℕ). Contains roots (there number)) (sym are.roots) (contains_map there one.roots number among))

  -- a chain leads to the same block
  reached_there : (number : ℕ) → IsReached one number → IsReached other (there number)
  reached_there _ (Root number root) = Root (there number) (root_there number root)
  reached_there _ (Link number target block way stands live holds) =
      let found = live_there there back paired one.memory other.memory are.memories number block stands live in
      let looks = found.2.looks in
      Link (there number) (there target) found.0 (reached_there number way) found.1 looks.live
      (ap (holds_pointer_to (there target)) looks.bytes ∙ (holds-there there back are.memories.same target block.bytes ∙ holds))

module _ (there back : ℕ → ℕ) (paired : ℕ → Bool) (one other : State) (are : AreAlikeStates there back paired one other) where
  -- a block that is lost in one of them is lost in the other
  lost_there : (number : ℕ) → IsLost one number → IsLost other (there number)
  lost_there number lost =
      let found = live_there there back paired one.memory other.memory are.memories number lost.block lost.stands lost.live in
      let looks = found.2.looks in
      record {
        block = found.0;
        stands = found.1;
        allocated = subst (λ (kind : BlockKind). IsTrue (is_heap kind)) (sym looks.kind) lost.allocated;
        live = looks.live;
        unreached = λ way. lost.unreached (subst (IsReached one) (are.memories.same number)
            (reached_there back there (λ place. paired (back place)) other one (states_turned there back paired one other are) (there number) way));
      }

  pub some_alike : (kind : ℕ) → LosesSome kind one → LosesSome kind other
  some_alike kind some = record { number = there some.number; lost = lost_there some.number some.lost; is = some.is }

  -- and so is a live block of the heap
  pub heap_alike : HasHeapBlock one → HasHeapBlock other
  heap_alike has =
      let found = live_there there back paired one.memory other.memory are.memories has.number has.block has.stands has.live in
      let looks = found.2.looks in
      record { number = there has.number; block = found.0; stands = found.1; live = looks.live; heap = ap is_heap looks.kind ∙ has.heap }

module _ (there back : ℕ → ℕ) (paired : ℕ → Bool) (one other : State) (are : AreAlikeStates there back paired one other) where
  turned_states : AreAlikeStates back there (λ place. paired (back place)) other one
  turned_states = states_turned there back paired one other are

  -- where none is lost in one of them, none is lost in the other
  pub none_alike : LosesNone one → LosesNone other
  none_alike none number lost = none (back number) (lost_there back there (λ place. paired (back place)) other one turned_states number lost)

  pub no_heap_alike : ¬ HasHeapBlock one → ¬ HasHeapBlock other
  no_heap_alike none has = none (heap_alike back there (λ place. paired (back place)) other one turned_states has)

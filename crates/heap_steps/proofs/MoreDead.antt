-- Dead blocks more change nothing of what chains lead to.
use Rattle.std.proofs.Common.{◌≡◌, ℕ, zero, suc, false, List, [], ◌∷◌, ◌++◌, map, Some, ◌⊎◌, inl, inr, sym, ap, ◌∙◌, subst}
use Rattle.std.specs.Prelude.{slice_get}
use Rattle.std.proofs.lemmas.Bool.{false≢true}
use Rattle.std.proofs.lemmas.Option.{same_Some, none-some}
use Rattle.bytes_core.specs.declared.block.Block.{Block}
use Rattle.bytes_core.specs.declared.block.BlockKind.{BlockKind}
use Rattle.graph.specs.DeadBlocks.{dead_block, with_memory, IsMoreDead}
use Rattle.graph.specs.State.{State}
use Rattle.heap_steps.specs.Reached.{IsRoot, OfVariable, OfRegister, Outside, IsReached, Root, Link, IsLost}

-- a block of the longer memory is one of the shorter, or dead
before-or-dead : (memory : List Block) (kinds : List BlockKind) (number : ℕ) (block : Block) → slice_get (memory ++ map dead_block kinds) number ≡ Some block → (slice_get memory number ≡ Some block) ⊎ (block.live ≡ false)
before-or-dead [] [] number block is = absurd (none-some block is)
before-or-dead [] (kind ∷ kinds) zero block is = inr (ap (λ (b : Block). b.live) (sym (same_Some _ _ is)))
before-or-dead [] (kind ∷ kinds) (suc number) block is = before-or-dead [] kinds number block is
before-or-dead (first ∷ rest) kinds zero block is = inl is
before-or-dead (first ∷ rest) kinds (suc number) block is = before-or-dead rest kinds number block is

still-there : (memory more : List Block) (number : ℕ) (block : Block) → slice_get memory number ≡ Some block → slice_get (memory ++ more) number ≡ Some block
still-there [] more number block is = absurd (none-some block is)
still-there (first ∷ rest) more zero block is = is
still-there (first ∷ rest) more (suc number) block is = still-there rest more number block is

module _ (state : State) (kinds : List BlockKind) where
  abbrev more : State
  more = with_memory (state.memory ++ map dead_block kinds) state

  root_before : (number : ℕ) → IsRoot more number → IsRoot state number
  root_before number (OfVariable variable number' is) = OfVariable variable number is
  root_before number (OfRegister register number' offset is) = OfRegister register number offset is
  root_before number (Outside number' there) = Outside number there

  reached_before : (number : ℕ) → IsReached more number → IsReached state number
  reached_before number (Root number' root) = Root number (root_before number root)
  reached_before number (Link from target block reached stands live holds) = by_block (before-or-dead state.memory kinds from block stands) (reached_before from reached)
    where
      by_block : (slice_get state.memory from ≡ Some block) ⊎ (block.live ≡ false) → IsReached state from → IsReached state number
      by_block (inl there) before = Link from number block before there live holds
      by_block (inr dead) before = absurd (false≢true (sym dead ∙ live))

  lost_still : (number : ℕ) → IsLost state number → IsLost more number
  lost_still number lost = record {
    block = lost.block;
    stands = still-there state.memory (map dead_block kinds) number lost.block lost.stands;
    allocated = lost.allocated;
    live = lost.live;
    unreached = λ reached. lost.unreached (reached_before number reached);
  }

pub lost_more : (one other : State) → IsMoreDead one other → (number : ℕ) → IsLost one number → IsLost other number
lost_more one other is number lost = subst (λ (s : State). IsLost s number) (sym is.is) (lost_still one is.kinds number lost)

-- Dead blocks of which nothing but a dead object of a graph knows: those that are not there may have other numbers, and all of them
-- may be made to be there.
use Rattle.std.specs.Prelude.{◌≡◌, ℕ, ◌<◌, ◌≤◌, false, List, [], ◌++◌, map, length, slice_get, Some, IsSome}
use Rattle.bytes_core.specs.declared.block.BlockKind.{BlockKind}
use Rattle.bytes_core.specs.declared.block.Block.{Block}
use Rattle.graph.specs.declared.parts.Parts.{Parts}
use Rattle.graph.specs.Alike.{renumbered_word}
use Rattle.graph.specs.Maps.{object_at}
use Rattle.graph.specs.Meaning.{Assignment, Meets, maps_of}
use Rattle.graph.specs.State.{State, IsState}

-- numbers change one to one; those of the first `count` blocks stay, and no other becomes one of them
pub record ChangesAbsent (count : ℕ) (there back : ℕ → ℕ) : Type 0 where
  pub same : (number : ℕ) → back (there number) ≡ number
  pub stay : (number : ℕ) → number < count → there number ≡ number
  pub absent : (number : ℕ) → count ≤ number → count ≤ there number

-- the words and blocks with other numbers
abbrev pub with_numbers : (ℕ → ℕ) → (ℕ → ℕ) → Assignment → Assignment
with_numbers there back given = record {
  word = λ key. renumbered_word there (given.word key);
  blocks = λ key. map there (given.blocks key);
  owner = λ number. given.owner (back number);
  place = λ number. given.place (back number);
}

abbrev pub AbsentBlocksMayHaveOtherNumbers : Type 0
AbsentBlocksMayHaveOtherNumbers = (there back : ℕ → ℕ) (parts : Parts) (state : State) (given : Assignment) → ChangesAbsent (length state.memory) there back → IsState state →
    Meets (maps_of parts) state given → Meets (maps_of parts) state (with_numbers there back given)

-- a dead block without bytes
abbrev pub dead_block : BlockKind → Block
dead_block kind = record { base = 16; kind = kind; live = false; bytes = [] }

abbrev pub with_memory : List Block → State → State
with_memory memory state = record state { memory = memory }

-- the other state has dead blocks of these kinds more, and differs in nothing else
pub record IsMoreDead (one other : State) : Type 0 where
  pub kinds : List BlockKind
  pub is : other ≡ with_memory (one.memory ++ map dead_block kinds) one

-- a state with more dead blocks that the graph stands for, in which each block of each object is there
pub record IsWithAllBlocks (parts : Parts) (state : State) : Type 0 where
  pub next : State
  pub given : Assignment
  pub is : IsState next
  pub more : IsMoreDead state next
  pub meets : Meets (maps_of parts) next given
  pub there : (key place number : ℕ) → IsSome (object_at parts.objects key) → slice_get (given.blocks key) place ≡ Some number → number < length next.memory

abbrev pub AllBlocksMayBeThere : Type 0
AllBlocksMayBeThere = (parts : Parts) (state : State) (given : Assignment) → IsState state → Meets (maps_of parts) state given → IsWithAllBlocks parts state

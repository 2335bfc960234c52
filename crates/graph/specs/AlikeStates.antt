-- Alike states: alike memories, where variables, registers, ports and roots name the same blocks by their numbers there.
use Rattle.std.specs.Prelude.{◌≡◌, ℕ, Bool, map, Some, option_map, IsTrue}
use Rattle.std.specs.List.{All}
use Rattle.bytes_core.specs.declared.word.Word.{Word}
use Rattle.graph.specs.State.{State}
use Rattle.graph.specs.Alike.{renumbered_word}
use Rattle.graph.specs.AlikeMemories.{WordNamesAmong, AreAlike}

-- a state names only blocks of a set
pub record StateNamesAmong (set : ℕ → Bool) (state : State) : Type 0 where
  pub variables : (variable number : ℕ) → state.variables variable ≡ Some number → IsTrue (set number)
  pub registers : (register : ℕ) (word : Word) → state.registers register ≡ Some word → WordNamesAmong set word
  pub ports : All (WordNamesAmong set) state.ports
  pub roots : All (λ root. IsTrue (set root)) state.roots

pub record AreAlikeStates (there back : ℕ → ℕ) (paired : ℕ → Bool) (one other : State) : Type 0 where
  pub memories : AreAlike there back paired one.memory other.memory
  pub named : StateNamesAmong paired one
  pub variables : (variable : ℕ) → other.variables variable ≡ option_map there (one.variables variable)
  pub registers : (register : ℕ) → other.registers register ≡ option_map (renumbered_word there) (one.registers register)
  pub ports : other.ports ≡ map (renumbered_word there) one.ports
  pub roots : other.roots ≡ map there one.roots

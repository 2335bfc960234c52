-- What a graph sees of a state of the flow machine: the frame in work, the static variables and the memory.
--
-- The blocks of the callers are held from outside, and which words are shared with the surroundings is told from outside.
use Rattle.std.specs.Prelude.{◌≡◌, ℕ, List, ◌++◌, Option, Some, option_map, Contains}
use Rattle.bytes_core.specs.declared.word.Word.{Word}
use Rattle.graph.specs.State as graphs
use Rattle.flow.specs.Holding.{Held, Owned, held_by, block_of}
use Rattle.flow.specs.Machine.{State, block_here, caller_roots}

-- the words that registers hold
abbrev pub words_of : List Held → ℕ → Option Word
words_of registers register = option_map (λ held. held.word) (held_by registers register)

abbrev pub seen : List Word → State → graphs.State
seen ports state = record {
  memory = state.memory;
  variables = block_here state;
  registers = words_of state.frame.registers;
  ports = ports;
  roots = caller_roots state.callers ++ state.outer;
}

-- two states of which the same is seen
pub record IsSame (one other : graphs.State) : Type 0 where
  pub memory : other.memory ≡ one.memory
  pub variables : (variable : ℕ) → other.variables variable ≡ one.variables variable
  pub registers : (register : ℕ) → other.registers register ≡ one.registers register
  pub ports : other.ports ≡ one.ports
  pub roots : other.roots ≡ one.roots

-- what registers hold has these sizes
pub record HasSizes (sizes : ℕ → ℕ) (state : State) : Type 0 where
  pub of : (register : ℕ) (held : Held) → held_by state.frame.registers register ≡ Some held → held.size ≡ sizes register

-- each variable of the frame and each static one is the one that is seen by its number, and so is each register
pub record ShowsAll (state : State) : Type 0 where
  pub variables : (owned : Owned) → Contains state.frame.variables owned → block_of state.frame.variables owned.variable ≡ Some owned.block
  pub statics : (owned : Owned) → Contains state.statics owned → block_here state owned.variable ≡ Some owned.block
  pub registers : (held : Held) → Contains state.frame.registers held → held_by state.frame.registers held.register ≡ Some held

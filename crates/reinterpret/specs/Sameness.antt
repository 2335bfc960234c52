-- What a test of two values does with a state, as the flow machine does (C11 6.5.9), and what it leaves of the graph.
use Rattle.std.specs.Prelude.{◌≡◌, ℕ, ◌+◌, ◌≤◌, Bool, true, false, ◌&&◌, List, [], ◌∷◌, map, length, nat_eq, Option, Some, option_map}
use Rattle.std.specs.Option.{option_map_or}
use Rattle.bytes_core.specs.declared.word.Word.{Word}
use Rattle.bytes_core.specs.Value.{is_same_address}
use Rattle.graph.specs.declared.parts.Parts.{Parts}
use Rattle.graph.specs.declared.post.Post.{Post}
use Rattle.graph.specs.declared.value.Value.{Value}
use Rattle.graph.specs.declared.value.Value.TheVariants.{Const, Number, Any, Address}
use Rattle.graph.specs.Maps.{object_at, value_at, held_by}
use Rattle.graph.specs.Meaning.{StandsFor}
use Rattle.graph.specs.Sizes.{value_size}
use Rattle.graph.specs.State.{State, IsState}
use Rattle.graph.specs.WellFormed.{passes_at}
use Rattle.graph.specs.Whole.{IsGraph}
use Rattle.changes.specs.Following.{Leaves, life}
use Rattle.changes.specs.Parts.{emptied}
use Rattle.changes.specs.Posted.{SomeStandsFor}
use Rattle.changes.specs.Reaching.{names_no_segment}

-- a step goes on just where the two registers hold the same, or do not; both are empty then
pub record Equals (left right : ℕ) (same : Bool) (state next : State) : Type 0 where
  pub one : Word
  pub other : Word
  pub left_held : state.registers left ≡ Some one
  pub right_held : state.registers right ≡ Some other
  pub test : is_same_address state.memory one other ≡ same
  pub leaves : Leaves state.memory (emptied (left ∷ right ∷ []) state.registers) state next

-- and meets no fault
abbrev pub NeverFaults : ℕ → State → Type 0
NeverFaults kind state = ⊥

-- the graphs of a post stand for each state that follows
pub record StepSound (parts : Parts) (Steps : State → State → Type 0) (post : Post) : Type 0 where
  pub sound : (state next : State) → IsState state → StandsFor parts state → Steps state next → SomeStandsFor post.graphs next

-- the value is a number, a constant or not
abbrev pub is_plain : Value → Bool
is_plain (Const number size) = true
is_plain (Number size) = true
is_plain Any = false
is_plain (Address object offset target) = false

-- the values with two keys are there, have one size, and are no addresses of nodes of segments
abbrev pub are_of_one_size : Value → Value → Bool
are_of_one_size one other = nat_eq (value_size one) (value_size other) && (names_no_segment one && names_no_segment other)

abbrev pub keys_compare : Parts → Option ℕ → Option ℕ → Bool
keys_compare parts left right = option_map_or (λ one. option_map_or (λ other. passes_at parts (λ value. passes_at parts (are_of_one_size value) other) one) right false) left false

-- two registers hold values of one size, of which none is an address of a node of a segment
abbrev pub may_compare : Parts → ℕ → ℕ → Bool
may_compare parts left right = keys_compare parts (held_by parts.registers left) (held_by parts.registers right)

-- after a test the graph has the same variables, objects and values, one pair more at most, and empty registers; in others, and at ports, a number may have
-- another key
pub record EqualTail (parts : Parts) (gone_registers : List ℕ) (after : Parts) : Type 0 where
  pub graph : IsGraph after
  pub variables : after.variables ≡ parts.variables
  pub values : after.values ≡ parts.values
  pub lives : (key : ℕ) → option_map life (object_at after.objects key) ≡ option_map life (object_at parts.objects key)
  pub key_of : ℕ → ℕ
  pub same : (key : ℕ) → passes_at parts is_plain key ≡ false → key_of key ≡ key
  pub plain : (key : ℕ) → passes_at parts is_plain key ≡ true → passes_at parts is_plain (key_of key) ≡ true
  pub sizes : (key : ℕ) → option_map value_size (value_at parts.values (key_of key)) ≡ option_map value_size (value_at parts.values key)
  pub ports : after.ports ≡ map key_of parts.ports
  pub registers : (register : ℕ) → held_by after.registers register ≡ option_map key_of (emptied gone_registers (held_by parts.registers) register)
  pub pairs : length after.unequal ≤ length parts.unequal + 1

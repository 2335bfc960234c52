-- The post of a step in which a register gets a value: the graphs in which it holds what the line says.
use Rattle.std.specs.Prelude.{◌≡◌, ◌≢◌, ℕ, Bool, true, ◌&&◌, List, [], ◌∷◌, length, Some}
use Rattle.std.specs.Option.{option_map_or}
use Rattle.graph.specs.declared.parts.Parts.{Parts}
use Rattle.graph.specs.declared.value.Value.{Value}
use Rattle.graph.specs.declared.value.Value.TheVariants.{Const}
use Rattle.graph.specs.Maps.{value_at, held_by}
use Rattle.graph.specs.Sizes.{value_size, is_scalar_size, is_sized}
use Rattle.graph.specs.WellFormed.{passes_at, may_be_held, leads_to_object}
use Rattle.changes.specs.Following.{KeepsTail}
use Rattle.changes.specs.Parts.{emptied, with_value, with_register, without_registers}
use Rattle.changes.specs.Posted.{Posted}
use Rattle.register_steps.specs.declared.line.Gain.{Gain}
use Rattle.register_steps.specs.declared.line.Gain.TheVariants.{Nothing, Held, Fresh, Truth}
use Rattle.register_steps.specs.declared.line.Line.{Line}

-- a graph of which one register holds the value with a key, and others hold nothing
abbrev pub gained : List ℕ → ℕ → ℕ → Parts → Parts
gained gone into key parts = with_register into key (without_registers gone parts)

-- one of which it holds a value more
abbrev pub gained_fresh : List ℕ → ℕ → Value → Parts → Parts
gained_fresh gone into value parts = gained gone into (length parts.values) (with_value value parts)

abbrev pub gained_graphs : Parts → List ℕ → ℕ → Gain → List Parts
gained_graphs parts gone into Nothing = []
gained_graphs parts gone into (Held key) = gained gone into key parts ∷ []
gained_graphs parts gone into (Fresh value) = gained_fresh gone into value parts ∷ []
gained_graphs parts gone into (Truth size) = gained_fresh gone into (Const 0 size) parts ∷ gained_fresh gone into (Const 1 size) parts ∷ []

-- what a register may get in a graph
abbrev pub may_gain : Parts → Gain → Bool
may_gain parts Nothing = true
may_gain parts (Held key) = passes_at parts may_be_held key
may_gain parts (Fresh value) = is_sized value && (leads_to_object parts value && may_be_held value)
may_gain parts (Truth size) = is_scalar_size size

abbrev pub line_post : Parts → List ℕ → ℕ → Line → Posted
line_post parts gone into line = record { graphs = gained_graphs parts gone into line.gain; kinds = []; loss = line.loss }

-- after such a step these registers are empty, and one holds a value of this size
pub record GainTail (parts : Parts) (gone : List ℕ) (into size : ℕ) (after : Parts) : Type 0 where
  pub keeps : KeepsTail parts after
  pub registers : (register : ℕ) → register ≢ into → held_by after.registers register ≡ emptied gone (held_by parts.registers) register
  pub key : ℕ
  pub value : Value
  pub held : held_by after.registers into ≡ Some key
  pub is : value_at after.values key ≡ Some value
  pub size_is : value_size value ≡ size

-- how many bytes the value has that a register holds
abbrev pub size_held : Parts → ℕ → ℕ
size_held parts register = option_map_or (λ key. option_map_or value_size (value_at parts.values key) 0) (held_by parts.registers register) 0

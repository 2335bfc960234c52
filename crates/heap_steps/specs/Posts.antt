-- The posts of the steps that change registers alone.
use Rattle.std.specs.Prelude.{ℕ, List, [], ◌∷◌, length, None}
use Rattle.graph.specs.declared.parts.Parts.{Parts}
use Rattle.graph.specs.declared.value.Value.TheVariants.{Const}
use Rattle.changes.specs.Parts.{with_value, with_register, without_registers}
use Rattle.changes.specs.Posted.{Posted}
use Rattle.heap_steps.specs.Looking.{looked}

-- null is a value more, which the register holds
abbrev pub refuse_post : Parts → ℕ → Posted
refuse_post parts into = record { graphs = with_register into (length parts.values) (with_value (Const 0 8) parts) ∷ []; kinds = []; loss = None }

-- lost blocks are looked for where the registers hold nothing
abbrev pub finish_post : Parts → List ℕ → Posted
finish_post parts gone = looked (without_registers gone parts)

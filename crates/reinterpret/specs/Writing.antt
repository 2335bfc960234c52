-- The post of a write: the graph in which the value stands in the bytes that the address leads to.
use Rattle.std.specs.Prelude.{ℕ, List, [], ◌∷◌, Option, None, Some, if◌then◌else◌}
use Rattle.graph.specs.declared.edges.HasValue.{HasValue}
use Rattle.graph.specs.declared.object.Object.{Object}
use Rattle.graph.specs.declared.parts.Parts.{Parts}
use Rattle.graph.specs.declared.value.Value.{Value}
use Rattle.graph.specs.Maps.{value_at, held_by}
use Rattle.changes.specs.Parts.{with_object, without_registers}
use Rattle.changes.specs.Posted.{Posted, no_post, on_held, on_reach}
use Rattle.changes.specs.Ranges.{written_object, cuts_none}
use Rattle.changes.specs.Reaching.{reach_of}

abbrev pub edge_at : ℕ → ℕ → ℕ → HasValue
edge_at from size key = record { at = from; size = size; value = key }

-- a value is written into an object. Where an edge reaches into its bytes from outside, what is known of that edge's other bytes is
-- lost: loss 3
abbrev pub value_written : Parts → List ℕ → ℕ → ℕ → Option Value → ℕ → Object → ℕ → Posted
value_written parts gone size source None key object from = no_post
value_written parts gone size source (Some value) key object from = record {
  graphs = without_registers gone (with_object key (written_object object (edge_at from size source) value) parts) ∷ [];
  kinds = [];
  loss = if cuts_none from size object.edges then None else Some 3;
}

abbrev pub write_post : Parts → ℕ → ℕ → ℕ → Posted
write_post parts at size from =
    on_held (held_by parts.registers at) (λ target. on_held (held_by parts.registers from) (λ source.
    on_reach parts (reach_of parts target size) (value_written parts (at ∷ from ∷ []) size source (value_at parts.values source))))

-- The edges out of a point.
use Rattle.std.specs.Prelude.{◌≡◌, ℕ, [], ◌∷◌}
use Rattle.cbase.specs.declared.place.Place.{Place}
use Rattle.flow.specs.declared.instruction.Instr.{Instr}
use Rattle.flow.specs.declared.flow_graph.Flow.{Flow}
use Rattle.flow.specs.Valid.{edges_out}

-- the one edge out of a point
abbrev pub One : Flow → ℕ → Instr → ℕ → Place → Type 0
One flow from instr to place = edges_out flow from ≡ record { from = from; to = to; instr = instr; place = place } ∷ []

-- the two edges out of a point, in their order
abbrev pub Two : Flow → ℕ → Instr → ℕ → Place → Instr → ℕ → Place → Type 0
Two flow from one to place other to' place' =
    edges_out flow from ≡ record { from = from; to = to; instr = one; place = place } ∷ record { from = from; to = to'; instr = other; place = place' } ∷ []

-- none
abbrev pub NoEdge : Flow → ℕ → Type 0
NoEdge flow from = edges_out flow from ≡ []

-- The numbers of a flow graph name what is there.
use Rattle.std.specs.Prelude.{ℕ, ◌<◌, length, slice_get, All}
use Rattle.std.specs.Option.{option_map_or}
use Rattle.flow.specs.declared.flow_graph.Flow.{Flow}
use Rattle.flow.specs.Counting.{AreEndsBelow}

-- the entry of a function
abbrev pub entry_of : Flow → ℕ → ℕ
entry_of flow function = option_map_or (λ found. found.entry) (slice_get flow.functions function) 0

-- edges, functions and main lie where they should
pub record IsInRange (flow : Flow) : Type 0 where
  pub edges : AreEndsBelow flow.edges flow.points
  pub functions : All (λ function. (function.entry < flow.points) × (function.exit < flow.points)) flow.functions
  pub main : flow.main < length flow.functions

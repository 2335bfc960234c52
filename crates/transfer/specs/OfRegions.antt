-- Graphs of regions, without list segments.
use Rattle.std.specs.Prelude.{◌≡◌, ℕ, List, [], Some, is_some, slice_get}
use Rattle.graph.specs.declared.parts.Parts.{Parts}
use Rattle.graph.specs.Maps.{storage_of}
use Rattle.flow.specs.declared.flow_graph.Flow.{Flow}
use Rattle.flow.specs.Holding.{size_of}
use Rattle.flow.specs.Standing.{stands_at}
use Rattle.heap_steps.specs.Regions.{AreRegions}
use Rattle.transfer.specs.Fitting.{held_size, is_there}

-- the objects of each of these graphs are regions
pub record AreOfRegions (graphs : List Parts) : Type 0 where
  pub each : (place : ℕ) (parts : Parts) → slice_get graphs place ≡ Some parts → AreRegions parts.objects

-- a graph of regions fits a point
pub record FitsOfRegions (flow : Flow) (point : ℕ) (parts : Parts) : Type 0 where
  pub variables : (variable : ℕ) → is_some (storage_of parts.variables variable) ≡ is_there flow point variable
  pub registers : (register : ℕ) → held_size parts register ≡ size_of (stands_at flow point).registers register
  pub ports : parts.ports ≡ []
  pub regions : AreRegions parts.objects

-- so does each of these
pub record FitOfRegions (flow : Flow) (point : ℕ) (graphs : List Parts) : Type 0 where
  pub each : (place : ℕ) (parts : Parts) → slice_get graphs place ≡ Some parts → FitsOfRegions flow point parts

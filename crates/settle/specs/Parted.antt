-- What the cases of a graph are to it.
use Rattle.std.specs.Prelude.{◌↔◌, Bool, false, not, List, Option}
use Rattle.std.specs.List.{All, list_any}
use Rattle.std.specs.Option.{option_map_or}
use Rattle.graph.specs.declared.parts.Parts.{Parts}
use Rattle.graph.specs.Meaning.{StandsFor}
use Rattle.graph.specs.State.{State}
use Rattle.graph.specs.WellFormed.{is_within_limits}
use Rattle.changes.specs.Posted.{SomeStandsFor}
use Rattle.materialise.specs.Kept.{HoldsAsBefore}

-- some case is beyond the limits
abbrev pub is_beyond : Option (List Parts) → Bool
is_beyond cases = option_map_or (list_any (λ case. not (is_within_limits case))) cases false

-- graphs that stand together for the states of a graph, and hold what it does
pub record AreParted (parts : Parts) (graphs : List Parts) : Type 0 where
  pub means : (state : State) → (StandsFor parts state ↔ SomeStandsFor graphs state)
  pub holds : All (HoldsAsBefore parts) graphs

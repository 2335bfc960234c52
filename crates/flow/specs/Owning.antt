-- Which function's entry each point is reached from, as it is noted of the points.
--
-- Of a point that is reached from the entry of a function there is noted one more than the function's number, and 0 of a
-- point that is not reached.
use Rattle.std.specs.Prelude.{◌≡◌, ℕ, suc, ◌<◌, Bool, not, ◌&&◌, List, length, nat_eq, slice_get, slice_index, Some, sum_by, if◌then◌else◌}
use Rattle.flow.specs.declared.flow_graph.Flow.{Flow}
use Rattle.flow.specs.declared.flow_graph.FlowEdge.{FlowEdge}
use Rattle.flow.specs.declared.flow_graph.FlowFunction.{FlowFunction}
use Rattle.flow.specs.Valid.{Reached}

-- a point is reached from the entry of the function of this number
pub record IsReachedFrom (flow : Flow) (number point : ℕ) : Type 0 where
  pub function : FlowFunction
  pub stands : slice_get flow.functions number ≡ Some function
  pub reached : Reached flow function.entry point

-- what is noted of points is so, it names only the first so many functions, and it is noted of their entries
pub record AreOwned (flow : Flow) (count : ℕ) (owners : List ℕ) : Type 0 where
  pub points : length owners ≡ flow.points
  pub reached : (point number : ℕ) → slice_index owners point ≡ suc number → IsReachedFrom flow number point
  pub below : (point number : ℕ) → slice_index owners point ≡ suc number → number < count
  pub entries : (number : ℕ) (function : FlowFunction) → number < count → slice_get flow.functions number ≡ Some function →
      slice_index owners function.entry ≡ suc number

-- an edge that leads from a point that is noted to one of which another thing is, or nothing
abbrev pub is_open : List ℕ → FlowEdge → Bool
is_open owners edge =
    not (nat_eq (slice_index owners edge.from) 0) && not (nat_eq (slice_index owners edge.from) (slice_index owners edge.to))

-- how many points nothing is noted of
abbrev pub count_new : List ℕ → ℕ
count_new owners = sum_by (λ owner. if nat_eq owner 0 then 1 else 0) owners

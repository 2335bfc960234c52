-- What is noted of each point in one pass over a list: whether it is among numbers, and which edges lead out of it.
use Rattle.std.specs.Prelude.{◌≡◌, ℕ, ◌<◌, Bool, false, List, [], ◌∷◌, filter, nat_eq, slice_get, slice_index_or, Some}
use Rattle.std.specs.List.{list_any}
use Rattle.flow.specs.declared.flow_graph.FlowEdge.{FlowEdge}
use Rattle.flow.specs.declared.outs.Out.{Out}
use Rattle.flow.specs.declared.outs.Out.TheVariants.{Nothing, One, Two, More}

-- each number below the length of the marks is marked where it is among the numbers
pub record AreMarks (numbers : List ℕ) (marks : List Bool) : Type 0 where
  pub marked : (point : ℕ) → slice_index_or marks point false ≡ list_any (nat_eq point) numbers

-- the edges of a list out of a point
abbrev pub out_of : List FlowEdge → ℕ → List FlowEdge
out_of edges point = filter (λ edge. nat_eq edge.from point) edges

-- what is noted of the edges of a list out of a point: by their numbers, in their order
abbrev pub SaysOut : List FlowEdge → ℕ → Out → Type 0
SaysOut edges point Nothing = out_of edges point ≡ []
SaysOut edges point (One number) = (edge : FlowEdge) × (slice_get edges number ≡ Some edge) × (out_of edges point ≡ edge ∷ [])
SaysOut edges point (Two number second) = (edge other : FlowEdge) × (slice_get edges number ≡ Some edge) × (slice_get edges second ≡ Some other)
    × (out_of edges point ≡ edge ∷ other ∷ []) × (number < second)
SaysOut edges point More = (one other third : FlowEdge) × ((rest : List FlowEdge) × (out_of edges point ≡ one ∷ other ∷ third ∷ rest))

-- what is noted where the edge of this number is one more
abbrev pub noted : ℕ → Out → Out
noted number Nothing = One number
noted number (One other) = Two other number
noted number (Two one other) = More
noted number More = More

-- the notes of all points
pub record AreOuts (edges : List FlowEdge) (outs : List Out) : Type 0 where
  pub says : (point : ℕ) → SaysOut edges point (slice_index_or outs point Nothing)

-- What is said of a range of an object's bytes, in place of what was said of it.
use Rattle.std.specs.Prelude.{ℕ, ◌+◌, Bool, ◌||◌, ◌&&◌, List, [], ◌∷◌, ◌++◌, take, drop, length, replicate, nat_le, if◌then◌else◌}
use Rattle.std.specs.List.{filter, list_all}
use Rattle.graph.specs.declared.edges.HasValue.{HasValue}
use Rattle.graph.specs.declared.object.Object.{Object}
use Rattle.graph.specs.declared.value.Value.{Value}
use Rattle.graph.specs.Sizes.{value_class, is_zero}

-- from a place on, others in place of as many items
abbrev pub spliced : {A : Type 0} → List A → ℕ → List A → List A
spliced items from new = take from items ++ (new ++ drop (from + length new) items)

-- an edge ends where a range begins, or before
abbrev pub ends_before : ℕ → HasValue → Bool
ends_before from edge = nat_le (edge.at + edge.size) from

-- an edge begins where a range ends, or behind
abbrev pub begins_behind : ℕ → HasValue → Bool
begins_behind end edge = nat_le end edge.at

-- an edge shares no byte with a range
abbrev pub is_beside : ℕ → ℕ → HasValue → Bool
is_beside from count edge = ends_before from edge || begins_behind (from + count) edge

-- an edge lies in a range
abbrev pub is_inside : ℕ → ℕ → HasValue → Bool
is_inside from count edge = nat_le from edge.at && nat_le (edge.at + edge.size) (from + count)

-- no edge overlaps a range in part
abbrev pub cuts_none : ℕ → ℕ → List HasValue → Bool
cuts_none from count edges = list_all (λ edge. is_beside from count edge || is_inside from count edge) edges

-- no edge overlaps a range
abbrev pub meets_none : ℕ → ℕ → List HasValue → Bool
meets_none from count edges = list_all (is_beside from count) edges

-- edges with others in place of those that share a byte with a range
abbrev pub edges_around : List HasValue → ℕ → ℕ → List HasValue → List HasValue
edges_around edges from count new = filter (ends_before from) edges ++ (new ++ filter (begins_behind (from + count)) edges)

-- an object of which other edges and classes are said in a range
abbrev pub with_range : Object → ℕ → ℕ → List HasValue → List ℕ → Object
with_range object from count new classes = record object { edges = edges_around object.edges from count new; plane = spliced object.plane from classes }

-- the edge of a value at a range; the constant 0 has none
abbrev pub edge_for : Value → HasValue → List HasValue
edge_for value edge = if is_zero value then [] else edge ∷ []

-- the class of the bytes that hold a value: those of the constant 0 have class 0
abbrev pub class_for : Value → ℕ
class_for value = if is_zero value then 0 else value_class value

-- an object with a value in place of what a range held
abbrev pub written_object : Object → HasValue → Value → Object
written_object object edge value = with_range object edge.at edge.size (edge_for value edge) (replicate edge.size (class_for value))

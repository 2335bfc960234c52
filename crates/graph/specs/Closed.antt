-- What a graph names is there.
use Rattle.std.specs.Prelude.{◌≡◌, ℕ, List, [], ◌∷◌, ℤ, Some, IsSome, slice_get}
use Rattle.graph.specs.declared.edges.HasValue.{HasValue}
use Rattle.graph.specs.declared.object.Object.{Object}
use Rattle.graph.specs.declared.object.Shape.{Shape}
use Rattle.graph.specs.declared.object.Shape.TheVariants.{Region, Segment}
use Rattle.graph.specs.declared.template.Node.{Node}
use Rattle.graph.specs.declared.value.Target.{Target}
use Rattle.graph.specs.declared.value.Value.TheVariants.{Address}
use Rattle.graph.specs.declared.parts.Pair.{Pair}
use Rattle.graph.specs.Nodes.{own_node, node_in}
use Rattle.graph.specs.Meaning.{Maps}

-- it holds of the value of each of these edges
abbrev pub OnEdges : (ℕ → Type 0) → List HasValue → Type 0
OnEdges P [] = Unit {0}
OnEdges P (edge ∷ rest) = P edge.value × OnEdges P rest

-- it holds of the values beyond the two ends of a segment
abbrev pub OnEnds : (ℕ → Type 0) → Shape → Type 0
OnEnds P Region = Unit {0}
OnEnds P (Segment twofold head next prev back least next_value prev_value node) = P next_value × P prev_value

-- it holds of each value that an object of this shape names, which says this of its own bytes
abbrev pub OnNamed : (ℕ → Type 0) → Shape → Node → Type 0
OnNamed P shape own = OnEdges P (node_in shape own).edges × OnEnds P shape

pub record IsClosed (maps : Maps) : Type 0 where
  pub objects : (key : ℕ) (object : Object) → maps.objects key ≡ Some object → OnNamed (λ value. IsSome (maps.values value)) object.shape (own_node object)
  pub addresses : (key object : ℕ) (offset : ℤ) (target : Target) → maps.values key ≡ Some (Address object offset target) → IsSome (maps.objects object)
  pub variables : (variable key : ℕ) → maps.variables variable ≡ Some key → IsSome (maps.objects key)
  pub registers : (register key : ℕ) → maps.registers register ≡ Some key → IsSome (maps.values key)
  pub ports : (place key : ℕ) → slice_get maps.ports place ≡ Some key → IsSome (maps.values key)
  pub unequal : (place : ℕ) (pair : Pair) → slice_get maps.unequal place ≡ Some pair → IsSome (maps.values pair.left) × IsSome (maps.values pair.right)

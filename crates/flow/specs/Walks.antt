-- Walks within a function, and how many there are.
--
-- A walk goes from point to point along edges. It goes along no `Return`, and a call is one step to the point
-- where the caller goes on. A walk is the list of the numbers of its edges; the empty one stays where it is.
use Rattle.std.specs.Prelude.{◌≡◌, ℕ, ◌<◌, ◌≤◌, Bool, true, false, not, ◌&&◌, List, [], ◌∷◌, length, nat_eq, slice_get, Some, IsTrue, Contains}
use Rattle.flow.specs.declared.instruction.Instr.{Instr}
use Rattle.flow.specs.declared.instruction.Instr.TheVariants.{Return}
use Rattle.flow.specs.declared.flow_graph.FlowEdge.{FlowEdge}
use Rattle.flow.specs.declared.answer.Walks.{Walks}
use Rattle.flow.specs.declared.answer.Walks.TheVariants.{Number, Cycle, More}

-- whether an instruction is a return
abbrev pub is_return : Instr → Bool
is_return (Return from) = true
is_return other = false

-- whether a walk may go along an edge from this point
abbrev pub goes_from : ℕ → FlowEdge → Bool
goes_from point edge = nat_eq edge.from point && not (is_return edge.instr)

-- the edge of this number is a step of a walk from one point to another
pub record IsStep (edges : List FlowEdge) (from number to : ℕ) : Type 0 where
  pub edge : FlowEdge
  pub stands : slice_get edges number ≡ Some edge
  pub goes : IsTrue (goes_from from edge)
  pub leads : edge.to ≡ to

-- the edges of these numbers, in order, are a walk from one point to another
abbrev pub IsWalk : List FlowEdge → ℕ → List ℕ → ℕ → Type 0
IsWalk edges from [] to = from ≡ to
IsWalk edges from (number ∷ rest) to = (middle : ℕ) × IsStep edges from number middle × IsWalk edges middle rest to

-- no walk stands twice in the list
abbrev pub AreDistinct : List (List ℕ) → Type 0
AreDistinct [] = Unit {0}
AreDistinct (walk ∷ rest) = (Contains rest walk → ⊥) × AreDistinct rest

-- the list has all walks from a point, each once
pub record AreAllWalks (edges : List FlowEdge) (from : ℕ) (walks : List (List ℕ)) : Type 0 where
  pub each : (walk : List ℕ) → Contains walks walk → (to : ℕ) × IsWalk edges from walk to
  pub all : (walk : List ℕ) (to : ℕ) → IsWalk edges from walk to → Contains walks walk
  pub once : AreDistinct walks

-- so many walks begin at a point
pub record IsNumberOfWalks (edges : List FlowEdge) (from number : ℕ) : Type 0 where
  pub walks : List (List ℕ)
  pub are_all : AreAllWalks edges from walks
  pub count : length walks ≡ number

-- a walk from a point comes to a cycle: to a point from which a walk of at least one step leads back to it
pub record ReachesCycle (edges : List FlowEdge) (from : ℕ) : Type 0 where
  pub point : ℕ
  pub way : List ℕ
  pub reached : IsWalk edges from way point
  pub first : ℕ
  pub rest : List ℕ
  pub back : IsWalk edges point (first ∷ rest) point

-- what an answer says of the walks from a point
abbrev pub Answers : List FlowEdge → ℕ → Walks → Type 0
Answers edges from (Number number) =
    (ReachesCycle edges from → ⊥) × IsNumberOfWalks edges from number × (number ≤ 200000)
Answers edges from Cycle = ReachesCycle edges from
Answers edges from More =
    (ReachesCycle edges from → ⊥) × ((number : ℕ) × IsNumberOfWalks edges from number × (200000 < number))

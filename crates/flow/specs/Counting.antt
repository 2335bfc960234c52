-- How the walks are counted: in one search that goes into each point once.
use Rattle.std.specs.Prelude.{◌≡◌, ℕ, zero, suc, ◌+◌, ◌<◌, ◌≤◌, Bool, false, List, [], ◌∷◌, length, slice_get, Option, None, Some, Contains, All, if◌then◌else◌, sum_by, ◌⊎◌, slice_index}
use Rattle.flow.specs.declared.flow_graph.FlowEdge.{FlowEdge}
use Rattle.flow.specs.declared.counting.Mark.{Mark}
use Rattle.flow.specs.declared.counting.Mark.TheVariants.{New, Open, Done}
use Rattle.flow.specs.declared.counting.Visit.{Visit}
use Rattle.flow.specs.declared.counting.Turn.{Turn}
use Rattle.flow.specs.declared.counting.Turn.TheVariants.{On, Cycle, Counted}
use Rattle.flow.specs.Walks.{goes_from, IsStep, IsWalk, AreDistinct, IsNumberOfWalks, ReachesCycle}

-- whether a walk may go along the edge, where there is one, from this point
abbrev pub is_way_from : ℕ → Option FlowEdge → Bool
is_way_from point None = false
is_way_from point (Some edge) = goes_from point edge

-- one more than the number of the last edge out of a point among the first so many edges, or 0 where there is none
abbrev pub last_below : List FlowEdge → ℕ → ℕ → ℕ
last_below edges point zero = zero
last_below edges point (suc count) =
    if is_way_from point (slice_get edges count) then suc count else last_below edges point count

-- the walk begins with an edge out of the point whose number is at least `least`
abbrev pub BeginsFrom : List FlowEdge → ℕ → ℕ → List ℕ → Type 0
BeginsFrom edges point least [] = ⊥
BeginsFrom edges point least (number ∷ rest) = (least ≤ number) × ((to : ℕ) × IsWalk edges point (number ∷ rest) to)

-- the list has all walks from a point that begin with an edge of at least this number, each once
pub record ArePart (edges : List FlowEdge) (point least : ℕ) (walks : List (List ℕ)) : Type 0 where
  pub each : (walk : List ℕ) → Contains walks walk → BeginsFrom edges point least walk
  pub all : (walk : List ℕ) → BeginsFrom edges point least walk → Contains walks walk
  pub once : AreDistinct walks

-- a number that is kept up to 200,001 only
pub record IsCapped (kept number : ℕ) : Type 0 where
  pub most : kept ≤ 200001
  pub below : kept ≤ number
  pub exact : kept < 200001 → kept ≡ number

-- what a visit of a point has counted: the walks that begin with the edges that it has looked at
pub record HasCounted (edges : List FlowEdge) (visit : Visit) : Type 0 where
  pub cursor : visit.cursor ≤ length edges
  pub next : last_below edges visit.point visit.cursor ≡ visit.cursor
  pub walks : List (List ℕ)
  pub part : ArePart edges visit.point visit.cursor walks
  pub capped : IsCapped visit.number (length walks)

-- what a mark of a point says
abbrev pub Says : List FlowEdge → ℕ → Mark → Type 0
Says edges point New = Unit {0}
Says edges point Open = Unit {0}
Says edges point (Done kept) = (number : ℕ) × IsNumberOfWalks edges point number × IsCapped kept number

-- the visits are one behind the other on a walk: each stands at the edge that leads to the next, and the last one's
-- leads to `to`
abbrev pub IsTrail : List FlowEdge → ℕ → List Visit → ℕ → Type 0
IsTrail edges from [] to = from ≡ to
IsTrail edges from (visit ∷ rest) to =
    (visit.point ≡ from) × ((number middle : ℕ) × (visit.cursor ≡ suc number) × IsStep edges from number middle × IsTrail edges middle rest to)

-- what the search knows between two steps: of the marks, of the visits that wait and of the visit that goes on
pub record IsSearch (edges : List FlowEdge) (from : ℕ) (marks : List Mark) (earlier : List Visit) (visit : Visit) : Type 0 where
  pub trail : IsTrail edges from earlier visit.point
  pub counted : HasCounted edges visit
  pub earlier_counted : All (HasCounted edges) earlier
  pub inside : visit.point < length marks
  pub earlier_inside : All (λ other. other.point < length marks) earlier
  pub marked : (point : ℕ) (mark : Mark) → slice_get marks point ≡ Some mark → Says edges point mark
  pub opened : (point : ℕ) → slice_get marks point ≡ Some Open →
      (point ≡ visit.point) ⊎ ((other : Visit) × Contains earlier other × (other.point ≡ point))

-- what the search comes to: it goes on, or says what there is to say of the walks
abbrev pub AfterTurn : List FlowEdge → ℕ → Turn → List Mark → List Visit → Visit → Type 0
AfterTurn edges from On marks earlier visit = IsSearch edges from marks earlier visit
AfterTurn edges from Cycle marks earlier visit = ReachesCycle edges from
AfterTurn edges from (Counted kept) marks earlier visit = (number : ℕ) × IsNumberOfWalks edges from number × IsCapped kept number

-- a new point costs no more steps than there are edges, and two more
abbrev pub mark_steps : ℕ → Mark → ℕ
mark_steps most New = most
mark_steps most Open = 0
mark_steps most (Done kept) = 0

-- how many steps the search takes at most
abbrev pub steps_left : List FlowEdge → List Mark → List Visit → Visit → ℕ
steps_left edges marks earlier visit =
    sum_by (mark_steps (length edges + 2)) marks + (sum_by (λ other. other.cursor + 1) earlier + (visit.cursor + 1))

-- what a step of the search does
pub record Turns (edges : List FlowEdge) (marks : List Mark) (earlier : List Visit) (visit : Visit) (turn : Turn)
    (marks' : List Mark) (earlier' : List Visit) (visit' : Visit) : Type 0 where
  pub keeps : (from : ℕ) → IsSearch edges from marks earlier visit → AfterTurn edges from turn marks' earlier' visit'
  pub fewer : turn ≡ On → steps_left edges marks' earlier' visit' < steps_left edges marks earlier visit
  pub points : length marks' ≡ length marks

-- each edge begins and ends at a point
abbrev pub AreEndsBelow : List FlowEdge → ℕ → Type 0
AreEndsBelow edges points = All (λ edge. (edge.from < points) × (edge.to < points)) edges

-- the links of the first so many edges
pub record AreLinks (edges : List FlowEdge) (points count : ℕ) (first next : List ℕ) : Type 0 where
  pub points_are : length first ≡ points
  pub edges_are : length next ≡ count
  pub first_is : (point : ℕ) → point < points → slice_index first point ≡ last_below edges point count
  pub next_is : (number : ℕ) (edge : FlowEdge) → number < count → slice_get edges number ≡ Some edge →
      slice_index next number ≡ last_below edges edge.from number

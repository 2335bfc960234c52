-- What holds while the entries of the trail are followed, one after the other.
use Rattle.std.specs.Prelude.{◌≡◌, ℕ, ◌≤◌, ◌+◌, List, [], Bool, true, false, ◌&&◌, nat_eq, Option, None, Some, slice_get, length}
use Rattle.cbase.specs.declared.stop.Stop.{Stop}
use Rattle.cbase.specs.declared.stop.Stop.TheVariants as stops
use Rattle.graph.specs.declared.post.Post.{Post}
use Rattle.graph.specs.Large.{is_large}
use Rattle.flow.specs.declared.flow_graph.Flow.{Flow}
use Rattle.flow.specs.declared.flow_graph.FlowEdge.{FlowEdge}
use Rattle.transfer.specs.Fitting.{FitAt}
use Rattle.trail.specs.declared.trail.Entry.{Entry}
use Rattle.trail.specs.Seen.{is_ordinary}
use Rattle.trail.specs.Trail.{At, IsHonest, AreHonest}
use Rattle.trail.specs.Work.{IsWorked, AreEdgesDone, AreResultsDone, AreBefore}
use Rattle.driver.specs.declared.verdict.Limits.{Limits}
use Rattle.driver.specs.declared.work.Work.{Work}
use Rattle.driver.specs.Leaving.{IsPostOf}
use Rattle.driver.specs.Driven.{driven, widening}
use Rattle.driver.specs.Growing.{kept_count, IsBooked}
use Rattle.driver.specs.Telling.{AreWarnings, AreKindsTold, AreTold}

-- where an answer is true one thing holds, and else another one
abbrev pub Onward : Bool → Type 0 → Type 0 → Type 0
Onward true One Other = One
Onward false One Other = Other

-- whether an edge leads from a point and is neither a call nor a return, whether an entry is kept and where it stands, and what leads out of a point
abbrev pub leads : ℕ → FlowEdge → Bool
leads point edge = nat_eq point edge.from && is_ordinary edge.instr

abbrev pub is_marked : Option Entry → Bool
is_marked None = false
is_marked (Some entry) = entry.kept

abbrev pub is_kept : List Entry → ℕ → Bool
is_kept trail at = is_marked (slice_get trail at)

abbrev pub point_in : Option Entry → ℕ
point_in None = 0
point_in (Some entry) = entry.point

abbrev pub point_of : List Entry → ℕ → ℕ
point_of trail at = point_in (slice_get trail at)

-- what is known where all entries before one are followed
pub record IsKnown (flow : Flow) (limits : Limits) (work : Work) (at : ℕ) : Type 0 where
  pub worked : IsWorked driven (widening limits.int_limit) flow work.trail at
  pub booked : IsBooked limits.budget work
  pub points : length work.masks.newest.items ≡ flow.points
  pub warnings : AreWarnings flow work.trail work.warnings
  pub told : AreTold flow work.trail work.warnings at

-- nothing is
pub record IsNothingKnown (flow : Flow) (limits : Limits) (work : Work) : Type 0 where
  pub trail : work.trail ≡ []
  pub booked : IsBooked limits.budget work
  pub points : length work.masks.newest.items ≡ flow.points
  pub kept : work.kept ≡ 0
  pub warnings : work.warnings ≡ []
  pub next : work.next ≡ None

-- between two entries
pub record Worked (flow : Flow) (limits : Limits) (work : Work) (at : ℕ) : Type 0 where
  pub known : IsKnown flow limits work at
  pub next : work.next ≡ None
  pub within : at ≤ length work.trail
  pub causes : AreBefore work.trail at 0 0

-- at an entry that is kept and stands at a point
pub record IsOn (flow : Flow) (limits : Limits) (work : Work) (at point : ℕ) : Type 0 where
  pub known : IsKnown flow limits work at
  pub next : work.next ≡ None
  pub entry : Entry
  pub there : At work.trail at entry
  pub kept : entry.kept ≡ true
  pub point_is : entry.point ≡ point

-- between two edges of an entry
pub record OnEntry (flow : Flow) (limits : Limits) (work : Work) (at point number : ℕ) : Type 0 where
  pub on : IsOn flow limits work at point
  pub edges : AreEdgesDone driven flow work.trail at on.entry number
  pub here : AreKindsTold flow work.warnings at on.entry number
  pub causes : AreBefore work.trail at number 0

-- a post along an edge from an entry
pub record IsPostAt (flow : Flow) (trail : List Entry) (at : ℕ) (edge : FlowEdge) (post : Post) : Type 0 where
  pub entry : Entry
  pub there : At trail at entry
  pub is : IsPostOf flow edge entry.graph post
  pub fits : FitAt flow edge.to post.graphs

-- the graph of an entry is large
pub record IsLargeAt (trail : List Entry) (at : ℕ) : Type 0 where
  pub entry : Entry
  pub there : At trail at entry
  pub large : is_large 33554432 entry.graph ≡ true

abbrev pub IsStoppedAt : List Entry → ℕ → Stop → Type 0
IsStoppedAt trail at stops.NoMemory = Unit {0}
IsStoppedAt trail at stops.Large = IsLargeAt trail at

-- before the graphs of a post are put in
pub record AtEdge (flow : Flow) (limits : Limits) (work : Work) (at point number : ℕ) (edge : FlowEdge) (post : Post) : Type 0 where
  pub on : OnEntry flow limits work at point number
  pub stands : slice_get flow.edges number ≡ Some edge
  pub leads : leads point edge ≡ true
  pub post_is : IsPostAt flow work.trail at edge post

-- between two graphs of a post
pub record OnEdge (flow : Flow) (limits : Limits) (work : Work) (at point number : ℕ) (edge : FlowEdge) (post : Post) (count : ℕ) : Type 0 where
  pub on : IsOn flow limits work at point
  pub stands : slice_get flow.edges number ≡ Some edge
  pub ordinary : is_ordinary edge.instr ≡ true
  pub leaves : edge.from ≡ point
  pub is : IsPostOf flow edge on.entry.graph post
  pub fits : FitAt flow edge.to post.graphs
  pub edges : AreEdgesDone driven flow work.trail at on.entry number
  pub here : AreKindsTold flow work.warnings at on.entry (number + 1)
  pub results : AreResultsDone work.trail at number edge post count
  pub causes : AreBefore work.trail at number count

-- an entry would be kept beyond the budget, or the graph of one is large
pub record IsNext (flow : Flow) (limits : Limits) (trail : List Entry) (next : Entry) : Type 0 where
  pub honest : IsHonest driven (widening limits.int_limit) flow trail next
  pub kept : next.kept ≡ true
  pub full : kept_count trail ≡ limits.budget

abbrev pub IsWhy : Flow → Limits → List Entry → ℕ → Option Entry → Type 0
IsWhy flow limits trail at None = IsLargeAt trail at
IsWhy flow limits trail at (Some next) = IsNext flow limits trail next

-- what is known where not all is settled
pub record IsToldOf (flow : Flow) (limits : Limits) (work : Work) (at : ℕ) : Type 0 where
  pub honest : AreHonest driven (widening limits.int_limit) flow work.trail
  pub booked : IsBooked limits.budget work
  pub points : length work.masks.newest.items ≡ flow.points
  pub warnings : AreWarnings flow work.trail work.warnings
  pub told : AreTold flow work.trail work.warnings at

-- it ends at an entry
pub record IsHalted (flow : Flow) (limits : Limits) (work : Work) (at : ℕ) : Type 0 where
  pub known : IsToldOf flow limits work at
  pub why : IsWhy flow limits work.trail at work.next

-- an entry of an honest trail, which is kept and stands at a point
pub record IsEntryAt (flow : Flow) (limits : Limits) (trail : List Entry) (at point : ℕ) : Type 0 where
  pub honest : AreHonest driven (widening limits.int_limit) flow trail
  pub entry : Entry
  pub there : At trail at entry
  pub kept : entry.kept ≡ true
  pub point_is : entry.point ≡ point

-- it has ended, and each kind of a post of the first so many entries is told of
pub record IsResting (flow : Flow) (limits : Limits) (work : Work) (at which : ℕ) : Type 0 where
  pub halted : IsHalted flow limits work at
  pub told : AreTold flow work.trail work.warnings which

-- and so is each along the first so many edges of an entry
pub record OnRest (flow : Flow) (limits : Limits) (work : Work) (at which point number : ℕ) : Type 0 where
  pub resting : IsResting flow limits work at which
  pub is : IsEntryAt flow limits work.trail which point
  pub here : AreKindsTold flow work.warnings which is.entry number

-- where a large graph is met meanwhile it ends there
pub record IsEnded (flow : Flow) (limits : Limits) (trail : List Entry) (which : ℕ) : Type 0 where
  pub honest : AreHonest driven (widening limits.int_limit) flow trail
  pub large : IsLargeAt trail which

abbrev pub RestsSo : Flow → Limits → Work → ℕ → Option ℕ → Type 0
RestsSo flow limits work at None = IsResting flow limits work at (length work.trail)
RestsSo flow limits work at (Some which) = IsEnded flow limits work.trail which

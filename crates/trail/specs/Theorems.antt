-- What trails show.
use Rattle.std.specs.Prelude.{◌≡◌, ℕ, List, Some, slice_get, All}
use Rattle.cbase.specs.declared.place.Place.{Place}
use Rattle.flow.specs.declared.flow_graph.Flow.{Flow}
use Rattle.flow.specs.declared.flow_graph.FlowEdge.{FlowEdge}
use Rattle.flow.specs.Exclusive.{IsExclusive}
use Rattle.flow.specs.Memories.{HasInitialOffset}
use Rattle.flow.specs.Runs.{RunFaults}
use Rattle.flow.specs.Valid.{IsFlow}
use Rattle.trail.specs.declared.trail.Entry.{Entry}
use Rattle.trail.specs.Seen.{HasNoCalls}
use Rattle.trail.specs.Analysis.{Analysis, Widening, Tests, tested, widened, near_by, IsSound, Nearness, IsExact}
use Rattle.trail.specs.Trail.{At, AreHonest, IsClosed, IsClean, AreTame, IsFaultTold, IsReal, HasKind, DoRunsStay}

-- the offsets of what static variables hold at the start are of 64 bits
abbrev pub HaveOffsets : Flow → Type 0
HaveOffsets flow = All (λ scalar. HasInitialOffset scalar.word) flow.initial

-- the theorems, for one analysis and one widening
abbrev pub ShowsSafe : Analysis → Widening → Type 0
ShowsSafe analysis widening = (flow : Flow) (trail : List Entry) → IsFlow flow → HaveOffsets flow → HasNoCalls flow → IsSound analysis widening flow →
    AreHonest analysis widening flow trail → IsClosed analysis flow trail → IsClean analysis flow trail →
    (kind : ℕ) (place : Place) → RunFaults flow kind place → ⊥

-- each state of a run stays within the trail
abbrev pub ShowsStay : Analysis → Widening → Type 0
ShowsStay analysis widening = (flow : Flow) (trail : List Entry) → IsFlow flow → HaveOffsets flow → HasNoCalls flow → IsSound analysis widening flow →
    AreHonest analysis widening flow trail → IsClosed analysis flow trail → AreTame analysis flow trail → DoRunsStay flow trail

-- each fault of a run is a kind of a kept entry
abbrev pub TellsAll : Analysis → Widening → Type 0
TellsAll analysis widening = (flow : Flow) (trail : List Entry) → IsFlow flow → HaveOffsets flow → HasNoCalls flow → IsSound analysis widening flow →
    AreHonest analysis widening flow trail → IsClosed analysis flow trail → AreTame analysis flow trail →
    (kind : ℕ) (place : Place) → RunFaults flow kind place → IsFaultTold analysis flow trail kind place

abbrev pub MeetsErrors : Analysis → Widening → Nearness → Type 0
MeetsErrors analysis widening nearness = (flow : Flow) (trail : List Entry) → IsFlow flow → HaveOffsets flow → HasNoCalls flow → IsExclusive flow → IsExact analysis nearness flow →
    AreHonest analysis widening flow trail → (at : ℕ) (entry : Entry) (number kind : ℕ) (edge : FlowEdge) → IsReal trail at → At trail at entry →
    slice_get flow.edges number ≡ Some edge → HasKind analysis flow entry number kind → RunFaults flow kind edge.place

abbrev pub IsSafeShown : Type 0
IsSafeShown = (tests : Tests) → ShowsSafe (tested tests) (widened tests)

abbrev pub IsStayShown : Type 0
IsStayShown = (tests : Tests) → ShowsStay (tested tests) (widened tests)

abbrev pub IsAllTold : Type 0
IsAllTold = (tests : Tests) → TellsAll (tested tests) (widened tests)

abbrev pub IsErrorMet : Type 0
IsErrorMet = (tests : Tests) → MeetsErrors (tested tests) (widened tests) (near_by tests)

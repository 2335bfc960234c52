-- The first call of a flow graph.
use Rattle.std.specs.Prelude.{◌≡◌, ℕ, ◌<◌, ◌≤◌, List, true, false, if◌then◌else◌, nat_le, Option, None, Some, slice_get, length}
use Rattle.cbase.specs.declared.place.Place.{Place}
use Rattle.flow.specs.declared.flow_graph.Flow.{Flow}
use Rattle.flow.specs.declared.flow_graph.FlowEdge.{FlowEdge}
use Rattle.trail.specs.Seen.{is_call, HasNoCalls}

-- of a place and that of an edge the one that stands first, if the edge is a call
abbrev pub first_of : Option Place → Place → Option Place
first_of None other = Some other
first_of (Some place) other = if nat_le place.at other.at then Some place else Some other

abbrev pub earlier : Option Place → FlowEdge → Option Place
earlier found edge = if is_call edge.instr then first_of found edge.place else found

-- among the first so many edges no call
pub record HasNoCallBelow (edges : List FlowEdge) (count : ℕ) : Type 0 where
  pub none : (number : ℕ) (edge : FlowEdge) → number < count → slice_get edges number ≡ Some edge → is_call edge.instr ≡ false

-- among them the place of a call such that no other one stands before it in the text
pub record IsFirstBelow (edges : List FlowEdge) (count : ℕ) (place : Place) : Type 0 where
  pub number : ℕ
  pub edge : FlowEdge
  pub stands : slice_get edges number ≡ Some edge
  pub call : is_call edge.instr ≡ true
  pub place_is : place ≡ edge.place
  pub first : (other : ℕ) (edge : FlowEdge) → other < count → slice_get edges other ≡ Some edge → is_call edge.instr ≡ true → place.at ≤ edge.place.at

abbrev pub TellsCallBelow : List FlowEdge → ℕ → Option Place → Type 0
TellsCallBelow edges count None = HasNoCallBelow edges count
TellsCallBelow edges count (Some place) = IsFirstBelow edges count place

-- the place of the first call of a flow graph
abbrev pub IsFirstCall : Flow → Place → Type 0
IsFirstCall flow place = IsFirstBelow flow.edges (length flow.edges) place

abbrev pub TellsCall : Flow → Option Place → Type 0
TellsCall flow None = HasNoCalls flow
TellsCall flow (Some place) = IsFirstCall flow place

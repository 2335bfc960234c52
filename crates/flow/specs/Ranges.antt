-- Functions that lie in ranges of points of their own.
use Rattle.std.specs.Prelude.{◌≡◌, ℕ, ◌<◌, ◌≤◌, List, Some, slice_get, All}
use Rattle.flow.specs.declared.flow_graph.Flow.{Flow}
use Rattle.flow.specs.declared.flow_graph.FlowFunction.{FlowFunction}
use Rattle.flow.specs.Valid.{AreSeparate}

-- points from a first one on, up to the one behind the last
pub record Range : Type 0 where
  pub first : ℕ
  pub end : ℕ

abbrev pub LiesIn : Range → ℕ → Type 0
LiesIn range point = (range.first ≤ point) × (point < range.end)

-- a function has the range of its number, in which its entry and its exit lie
pub record HasRange (ranges : List Range) (number : ℕ) (function : FlowFunction) : Type 0 where
  pub range : Range
  pub stands : slice_get ranges number ≡ Some range
  pub entry : LiesIn range function.entry
  pub exit : LiesIn range function.exit

-- each function has a range; no edge leads out of one, and no two share a point
pub record LieApart (flow : Flow) (ranges : List Range) : Type 0 where
  pub each : (number : ℕ) (function : FlowFunction) → slice_get flow.functions number ≡ Some function → HasRange ranges number function
  pub closed : All (λ range. All (λ edge. LiesIn range edge.from → LiesIn range edge.to) flow.edges) ranges
  pub apart : (one other point : ℕ) (range second : Range) → slice_get ranges one ≡ Some range → slice_get ranges other ≡ Some second →
      LiesIn range point → LiesIn second point → one ≡ other

-- then no point is reached from two of them
abbrev pub DoRangesSeparate : Type 0
DoRangesSeparate = (flow : Flow) (ranges : List Range) → LieApart flow ranges → AreSeparate flow

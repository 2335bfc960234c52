-- Where few walks lead on from main's entry, all is followed.
use Rattle.std.specs.Prelude.{◌≡◌, ℕ, ◌<◌, ◌≤◌, List, [], true, Some, slice_get, length}
use Rattle.graph.specs.declared.post.Post.{Post}
use Rattle.graph.specs.Large.{is_large}
use Rattle.flow.specs.declared.flow_graph.Flow.{Flow}
use Rattle.flow.specs.declared.flow_graph.FlowEdge.{FlowEdge}
use Rattle.flow.specs.InRange.{entry_of}
use Rattle.flow.specs.Walks.{IsNumberOfWalks}
use Rattle.trail.specs.declared.trail.Entry.{Entry}
use Rattle.trail.specs.Seen.{HasNoCalls}
use Rattle.trail.specs.Analysis.{IsPost}
use Rattle.trail.specs.Trail.{At}
use Rattle.driver.specs.declared.verdict.Limits.{Limits}
use Rattle.driver.specs.declared.verdict.Verdict.{Verdict}
use Rattle.driver.specs.declared.verdict.Verdict.TheVariants.{Safe, Warned, Spent, Large, NotYet}
use Rattle.driver.specs.Driven.{driven}
use Rattle.driver.specs.Verdicts.{IsVerdict}

-- what was followed
abbrev pub trail_of : Verdict → List Entry
trail_of (Safe trail) = trail
trail_of (Warned warnings trail complete next) = trail
trail_of (Spent trail next) = trail
trail_of (Large trail entry) = trail
trail_of (NotYet place) = []

-- all was followed
abbrev pub IsWhole : Verdict → Type 0
IsWhole (Safe trail) = Unit {0}
IsWhole (Warned warnings trail complete next) = complete ≡ true
IsWhole (Spent trail next) = ⊥
IsWhole (Large trail entry) = ⊥
IsWhole (NotYet place) = ⊥

-- no more walks lead on from main's entry than the budget allows for, no graph of the trail is large, and no post of one along an edge out of its point has more than one graph
pub record AreFew (flow : Flow) (budget : ℕ) (trail : List Entry) : Type 0 where
  pub calls : HasNoCalls flow
  pub variables : length flow.variables < 33554432
  pub number : ℕ
  pub walks : IsNumberOfWalks flow.edges (entry_of flow flow.main) number
  pub within : number ≤ budget
  pub small : (at : ℕ) (entry : Entry) → At trail at entry → is_large 33554432 entry.graph ≡ true → ⊥
  pub single : (at number : ℕ) (entry : Entry) (edge : FlowEdge) (post : Post) → At trail at entry → slice_get flow.edges number ≡ Some edge → edge.from ≡ entry.point →
      IsPost driven flow number entry.graph post → length post.graphs ≤ 1

-- then all was followed
abbrev pub AreFewFollowed : Type 0
AreFewFollowed = (flow : Flow) (limits : Limits) (verdict : Verdict) → IsVerdict flow limits verdict → AreFew flow limits.budget (trail_of verdict) → IsWhole verdict

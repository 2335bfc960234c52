-- The visits that wait are one behind the other on a walk.
use Rattle.std.proofs.Common.{◌≡◌, ℕ, zero, suc, ◌<◌, List, [], ◌∷◌, ◌++◌, length, refl, sym, ap, subst, ◌∙◌, arith}
use Rattle.std.specs.Prelude.{slice_index_or}
use Rattle.flow.specs.declared.flow_graph.FlowEdge.{FlowEdge}
use Rattle.flow.specs.declared.counting.Visit.{Visit}
use Rattle.flow.specs.Walks.{IsStep, IsWalk}
use Rattle.flow.specs.Counting.{IsTrail}

-- the last visit stands at the edge that leads on
pub record EndsWith (edges : List FlowEdge) (from : ℕ) (earlier : List Visit) (visit : Visit) (to : ℕ) : Type 0 where
  pub trail : IsTrail edges from earlier visit.point
  pub number : ℕ
  pub cursor : visit.cursor ≡ suc number
  pub step : IsStep edges visit.point number to

pub IsTrail-push : (edges : List FlowEdge) (from : ℕ) (earlier : List Visit) (visit : Visit) (to : ℕ) →
    EndsWith edges from earlier visit to → IsTrail edges from (earlier ++ visit ∷ []) to
IsTrail-push edges from [] visit to ends =
    let is : from ≡ visit.point = ends.trail in
    (sym is, (ends.number, to, ends.cursor, subst (λ (p : ℕ). IsStep edges p ends.number to) (sym is) ends.step, refl))
IsTrail-push edges from (first ∷ rest) visit to ends =
    let (point, (number, middle, cursor, step, trail)) = ends.trail in (
      point,
      (
        number,
        middle,
        cursor,
        step,
        IsTrail-push edges middle rest visit to
            (record { trail = trail; number = ends.number; cursor = ends.cursor; step = ends.step }),
      ),
    )

pub IsTrail-pop : (edges : List FlowEdge) (from : ℕ) (earlier : List Visit) (visit : Visit) (to : ℕ) →
    IsTrail edges from (earlier ++ visit ∷ []) to → EndsWith edges from earlier visit to
IsTrail-pop edges from [] visit to (point, (number, middle, cursor, step, is)) =
    record {
      trail = sym point;
      number = number;
      cursor = cursor;
      step = subst (λ (p : ℕ). IsStep edges p number to) (sym point) (subst (λ (p : ℕ). IsStep edges from number p) is step);
    }
IsTrail-pop edges from (first ∷ rest) visit to (point, (number, middle, cursor, step, trail)) =
    let ends = IsTrail-pop edges middle rest visit to trail in
    record { trail = (point, (number, middle, cursor, step, ends.trail)); number = ends.number; cursor = ends.cursor; step = ends.step }

-- the walk along the trail
pub trail_walk : (edges : List FlowEdge) (from : ℕ) (earlier : List Visit) (to : ℕ) →
    IsTrail edges from earlier to → (way : List ℕ) × IsWalk edges from way to
trail_walk edges from [] to is = ([], is)
trail_walk edges from (first ∷ rest) to (point, (number, middle, cursor, step, trail)) =
    let (way, walk) = trail_walk edges middle rest to trail in
    (number ∷ way, (middle, step, walk))

-- the walk from a visit of the trail on
pub walk_onward : (edges : List FlowEdge) (from : ℕ) (earlier : List Visit) (to : ℕ) (k : ℕ) (visit : Visit) →
    IsTrail edges from earlier to → k < length earlier → slice_index_or earlier k visit ≡ visit → (way : List ℕ) × IsWalk edges visit.point way to
walk_onward edges from [] to k visit trail below is = absurd (omega arith)
walk_onward edges from (first ∷ rest) to zero visit (point, more) below is =
    let (way, walk) = trail_walk edges from (first ∷ rest) to (point, more) in
    let here : visit.point ≡ from = ap (λ (v : Visit). v.point) (sym is) ∙ point in
    (way, subst (λ (p : ℕ). IsWalk edges p way to) (sym here) walk)
walk_onward edges from (first ∷ rest) to (suc k) visit (point, (number, middle, cursor, step, trail)) below is =
    walk_onward edges middle rest to k visit trail (omega arith) is

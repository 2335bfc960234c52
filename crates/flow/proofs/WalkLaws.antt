-- Laws of walks: they are put one behind the other, and where a cycle is reached no list has all of them.
use Rattle.std.proofs.Common.{◌≡◌, ℕ, zero, suc, ◌+◌, ◌<◌, ◌≤◌, List, [], ◌∷◌, ◌++◌, length, refl, sym, ap, subst, arith}
use Rattle.std.specs.Prelude.{Contains, slice_index_or}
use Rattle.std.proofs.lemmas.List.{length-append}
use Rattle.flow.specs.declared.flow_graph.FlowEdge.{FlowEdge}
use Rattle.flow.specs.Walks.{IsWalk, AreAllWalks, ReachesCycle}

pub IsWalk-append : (edges : List FlowEdge) (from : ℕ) (one : List ℕ) (middle : ℕ) (other : List ℕ) (to : ℕ) →
    IsWalk edges from one middle → IsWalk edges middle other to → IsWalk edges from (one ++ other) to
IsWalk-append edges from [] middle other to is rest = subst (λ (p : ℕ). IsWalk edges p other to) (sym is) rest
IsWalk-append edges from (number ∷ one) middle other to (next, step, walk) rest =
    (next, step, IsWalk-append edges next one middle other to walk rest)

-- a walk that is gone along so many times
abbrev pub repeated : List ℕ → ℕ → List ℕ
repeated walk zero = []
repeated walk (suc count) = walk ++ repeated walk count

IsWalk-repeated : (edges : List FlowEdge) (point : ℕ) (walk : List ℕ) (count : ℕ) →
    IsWalk edges point walk point → IsWalk edges point (repeated walk count) point
IsWalk-repeated edges point walk zero is = refl
IsWalk-repeated edges point walk (suc count) is =
    IsWalk-append edges point walk point (repeated walk count) point is (IsWalk-repeated edges point walk count is)

length-repeated : (first : ℕ) (rest : List ℕ) (count : ℕ) → count ≤ length (repeated (first ∷ rest) count)
length-repeated first rest zero = omega arith
length-repeated first rest (suc count) =
    let below : count ≤ length (repeated (first ∷ rest) count) = length-repeated first rest count in
    let whole : length (rest ++ repeated (first ∷ rest) count) ≡ length rest + length (repeated (first ∷ rest) count)
    = length-append rest (repeated (first ∷ rest) count) in
    omega arith

-- the lengths of all walks of a list together
abbrev pub total : List (List ℕ) → ℕ
total [] = 0
total (walk ∷ rest) = length walk + total rest

-- a walk of the list is no longer than that
length-total : (walks : List (List ℕ)) (k : ℕ) (walk : List ℕ) → k < length walks → slice_index_or walks k walk ≡ walk → length walk ≤ total walks
length-total [] k walk below is = absurd (omega arith)
length-total (first ∷ rest) zero walk below is = let e : length first ≡ length walk = ap length is in omega arith
length-total (first ∷ rest) (suc k) walk below is =
    let shorter : length walk ≤ total rest = length-total rest k walk (omega arith) is in omega arith

-- no list has all walks from a point from which a cycle is reached
pub no_cycle : (edges : List FlowEdge) (from : ℕ) (walks : List (List ℕ)) →
    AreAllWalks edges from walks → ReachesCycle edges from → ⊥
no_cycle edges from walks are cycle =
    let long = repeated (cycle.first ∷ cycle.rest) (suc (total walks)) in
    let found : Contains walks (cycle.way ++ long) = are.all (cycle.way ++ long) cycle.point
    (IsWalk-append edges from cycle.way cycle.point long cycle.point cycle.reached
    (IsWalk-repeated edges cycle.point (cycle.first ∷ cycle.rest) (suc (total walks)) cycle.back)) in
    let short : length (cycle.way ++ long) ≤ total walks = length-total walks found.0 (cycle.way ++ long) found.1 found.2 in
    let longer : suc (total walks) ≤ length long = length-repeated cycle.first cycle.rest (suc (total walks)) in
    let whole : length (cycle.way ++ long) ≡ length cycle.way + length long = length-append cycle.way long in
    omega arith

-- No walk from a point goes along an edge twice where there is a number of them.
use Rattle.std.proofs.Common.{◌≡◌, ℕ, not, List, [], ◌∷◌, ◌++◌, nat_eq, refl, sym, ◌∙◌, ap, subst, eqb-true}
use Rattle.graph.proofs.Tests.{and_left}
use Rattle.flow.specs.declared.flow_graph.FlowEdge.{FlowEdge}
use Rattle.flow.specs.Walks.{is_return, IsStep, IsWalk, IsNumberOfWalks, ReachesCycle}
use Rattle.flow.proofs.WalkLaws.{no_cycle}
use Rattle.trail.proofs.Sound.{same_some}
use Rattle.plain.proofs.Weights.{IsNoneOf, AreOnce}

goes_on : (edges : List FlowEdge) (from number : ℕ) (walk : List ℕ) (to after : ℕ) → IsWalk edges from walk to → IsStep edges to number after → IsWalk edges from (walk ++ number ∷ []) after
goes_on edges from number [] to after walk step = (after, subst (λ (p : ℕ). IsStep edges p number after) (sym walk) step, refl)
goes_on edges from number (first ∷ rest) to after (middle, first_step, later) step = (middle, first_step, goes_on edges middle number rest to after later step)

-- an edge leaves one point
leaves : (edges : List FlowEdge) (from number to : ℕ) → (step : IsStep edges from number to) → step.edge.from ≡ from
leaves edges from number to step = eqb-true step.edge.from from (and_left (nat_eq step.edge.from from) (not (is_return step.edge.instr)) step.goes)

one_beginning : (edges : List FlowEdge) (from from' number to to' : ℕ) → IsStep edges from number to → IsStep edges from' number to' → from' ≡ from
one_beginning edges from from' number to to' step step' =
    sym (leaves edges from' number to' step') ∙ (ap (λ (e : FlowEdge). e.from) (same_some step'.edge step.edge (sym step'.stands ∙ step.stands)) ∙ leaves edges from number to step)

module _ (edges : List FlowEdge) (entry : ℕ) (none : ReachesCycle edges entry → ⊥) where
  -- the edge by which a walk begins is none of those of what follows
  none_again : (point : ℕ) (way : List ℕ) → IsWalk edges entry way point → (number middle : ℕ) → IsStep edges point number middle → (behind : List ℕ) (here : ℕ) → IsWalk edges point (number ∷ behind) here →
      (rest : List ℕ) (to : ℕ) → IsWalk edges here rest to → IsNoneOf number rest
  none_again point way reached number middle step behind here walk [] to later = tt
  none_again point way reached number middle step behind here walk (next ∷ rest) to (after, next_step, later) = (
    λ same.
        let again : IsStep edges here number after = subst (λ (n : ℕ). IsStep edges here n after) (sym same) next_step in
        none (record {
          point = point;
          way = way;
          reached = reached;
          first = number;
          rest = behind;
          back = subst (λ (p : ℕ). IsWalk edges point (number ∷ behind) p) (one_beginning edges point here number middle after step again) walk;
        }),
    none_again point way reached number middle step (behind ++ next ∷ []) after (goes_on edges point next (number ∷ behind) here after walk next_step) rest to later,
  )

  once_from : (point : ℕ) (way : List ℕ) → IsWalk edges entry way point → (walk : List ℕ) (to : ℕ) → IsWalk edges point walk to → AreOnce walk
  once_from point way reached [] to walk = tt
  once_from point way reached (number ∷ rest) to (middle, step, later) = (
    none_again point way reached number middle step [] middle (middle, step, refl) rest to later,
    once_from middle (way ++ number ∷ []) (goes_on edges entry number way point middle reached step) rest to later,
  )

pub walks_once : (edges : List FlowEdge) (entry number : ℕ) → IsNumberOfWalks edges entry number → (walk : List ℕ) (to : ℕ) → IsWalk edges entry walk to → AreOnce walk
walks_once edges entry number are walk to is = once_from edges entry (no_cycle edges entry are.walks are.are_all) entry [] refl walk to is

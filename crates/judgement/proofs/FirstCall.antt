-- A flow graph has one first call, by its token, or none.
use Rattle.std.proofs.Common.{◌≡◌, ◌<◌, ◌≤◌, true, false, length, get_or, sym, ap, subst, ◌∙◌, arith}
use Rattle.std.proofs.lemmas.Option.{slice_get_within, get_or_from_slice_get}
use Rattle.cbase.specs.declared.place.Place.{Place}
use Rattle.flow.specs.declared.flow_graph.Flow.{Flow}
use Rattle.flow.specs.declared.flow_graph.FlowEdge.{FlowEdge}
use Rattle.trail.specs.Seen.{HasNoCalls, is_call}
use Rattle.driver.specs.Calls.{IsFirstCall}

-- all first calls have as many tokens before them
first_at : (flow : Flow) (one other : Place) → IsFirstCall flow one → IsFirstCall flow other → one.at ≤ other.at
first_at flow one other first also =
    subst (λ (p : Place). one.at ≤ p.at) (sym also.place_is)
    (first.first also.number also.edge (slice_get_within flow.edges also.number also.edge also.stands) also.stands also.call)

pub first_same : (flow : Flow) (one other : Place) → IsFirstCall flow one → IsFirstCall flow other → one.at ≡ other.at
first_same flow one other first also =
    let below : one.at ≤ other.at = first_at flow one other first also in
    let above : other.at ≤ one.at = first_at flow other one also first in
    omega (arith, below, above)

true-false : true ≡ false → ⊥
true-false is = cc

-- a graph without calls has no first one
pub first_or_none : (flow : Flow) (place : Place) → IsFirstCall flow place → HasNoCalls flow → ⊥
first_or_none flow place first none =
    let within : first.number < length flow.edges = slice_get_within flow.edges first.number first.edge first.stands in
    let here : get_or flow.edges first.number first.edge ≡ first.edge = get_or_from_slice_get flow.edges first.number first.edge first.edge first.stands in
    true-false (sym first.call ∙ (sym (ap (λ (e : FlowEdge). is_call e.instr) here) ∙ none first.number first.edge within))

use Rattle.std.proofs.Common.{List, subst, refl, arith}
use Rattle.flow.specs.declared.flow_graph.FlowEdge.{FlowEdge}
use Rattle.flow.specs.Marked.{AreOuts}
use Rattle.flow.proofs.OutLaws.{exclusive_all}
use Rattle.flow.proofs.exclusive.is_exclusive.Goals as goal

pub returns : goal.returns
returns c =
    let outs = c.in_ok-outs.outs.items in
    let says : AreOuts c.args.flow.now.edges outs =
    subst (λ (edges : List FlowEdge). AreOuts edges outs) c.as_slice-edges.ensures c.in_ok-outs.ensures.says in
    (λ holds. exclusive_all c.args.flow.now outs says c.in_ok-outs.ensures.points (λ point below. c.loop-point.invariant point (omega arith)), λ exclusive. refl)

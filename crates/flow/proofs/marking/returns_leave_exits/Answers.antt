use Rattle.std.proofs.Common.{map}
use Rattle.flow.specs.declared.flow_graph.FlowFunction.{FlowFunction}
use Rattle.flow.proofs.MarkingLaws.{returns_told}
use Rattle.flow.proofs.marking.returns_leave_exits.Goals as goal

pub returns : goal.returns
returns c =
    returns_told c.args.flow.now.edges (map (λ (function : FlowFunction). function.exit) c.args.flow.now.functions)
    c.in_ok-marks.marks.items c.returns_are_marked.result
    (rw (c.as_slice-2.ensures, c.as_slice-3.ensures.value) at c.returns_are_marked.ensures) (rw c.as_slice.ensures at c.in_ok-marks.ensures)

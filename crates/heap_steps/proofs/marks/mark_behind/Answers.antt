use Rattle.std.proofs.Common.{ap, ◌∙◌}
use Rattle.bytes_core.specs.Marking.{marking}
use Rattle.graph.specs.declared.template.Node.{Node}
use Rattle.graph.specs.Nodes.{own_node}
use Rattle.heap_steps.proofs.Marked.{behind_nodes}
use Rattle.heap_steps.proofs.marks.mark_behind.Goals as goal

pub returns-in_ok-mark_value-in-Segment-2 : goal.returns-in_ok-mark_value-in-Segment-2
returns-in_ok-mark_value-in-Segment-2 c =
    behind_nodes c.args.graph.now c.args.object.now.shape (own_node c.args.object.now) c.args.last
    c.in-Segment.twofold c.in-Segment.head c.in-Segment.next c.in-Segment.prev c.in-Segment.back c.in-Segment.least c.in-Segment.next_value c.in-Segment.prev_value c.in-Segment.node
    c.in-Segment.is c.if-least-eq0.false
    c.as_slice-in-Segment.result.now (c.as_slice-in-Segment.ensures ∙ ap (λ (node : Node). node.edges) c.get.ensures)
    (marking c.args.marks.now.items c.args.waiting.now.items)
    (marking c.mark_edges-in-Segment.new.marks.items c.mark_edges-in-Segment.new.waiting.items)
    (marking c.mark_value-in-Segment.new.marks.items c.mark_value-in-Segment.new.waiting.items)
    (marking c.mark_value-in-Segment-2.new.marks.items c.mark_value-in-Segment-2.new.waiting.items)
    c.in_ok-mark_edges-in-Segment.ensures c.in_ok-mark_value-in-Segment.ensures c.in_ok-mark_value-in-Segment-2.ensures

use Rattle.std.proofs.Common.{ℕ, ◌<◌, ◌∙◌}
use Rattle.std.proofs.lemmas.List.Elements.{All-same, All-map, All-weaker}
use Rattle.flow.specs.declared.flow_graph.FlowEdge.{FlowEdge}
use Rattle.flow.proofs.marking.ends_marked.Goals as goal

pub marks_of-requires : goal.marks_of-requires
marks_of-requires c =
    All-same (λ (number : ℕ). number < c.args.points) _ _ (c.as_slice.ensures.value ∙ c.in_ok-ends.ensures)
    (All-map (λ (number : ℕ). number < c.args.points) (λ (edge : FlowEdge). edge.to) c.args.edges.now
    (All-weaker (λ (edge : FlowEdge). (edge.from < c.args.points) × (edge.to < c.args.points)) (λ edge. edge.to < c.args.points)
    (λ edge h. h.1) c.args.edges.now c.requires))

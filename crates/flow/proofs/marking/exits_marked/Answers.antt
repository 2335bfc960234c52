use Rattle.std.proofs.Common.{ℕ, ◌<◌, ◌∙◌}
use Rattle.std.proofs.lemmas.List.Elements.{All-same, All-map, All-weaker}
use Rattle.flow.specs.declared.flow_graph.FlowFunction.{FlowFunction}
use Rattle.flow.proofs.marking.exits_marked.Goals as goal

pub marks_of-requires : goal.marks_of-requires
marks_of-requires c =
    All-same (λ (number : ℕ). number < c.args.points) _ _ (c.as_slice.ensures.value ∙ c.in_ok-exits.ensures)
    (All-map (λ (number : ℕ). number < c.args.points) (λ (function : FlowFunction). function.exit) c.args.functions.now
    (All-weaker (λ (function : FlowFunction). (function.entry < c.args.points) × (function.exit < c.args.points)) (λ function. function.exit < c.args.points)
    (λ function h. h.1) c.args.functions.now c.requires))

use Rattle.std.proofs.Common.{◌≡◌, ◌≢◌, sym, ◌∙◌, arith}
use Rattle.graph.proofs.Ranges.{range_same, range_differs}
use Rattle.graph.proofs.object_points.has_class.Goals as goal

pub returns-then-class-class_at : goal.returns-then-class-class_at
returns-then-class-class_at c =
    let differ : c.args.class ≢ c.class_at.result = omega arith in
    sym (c.loop-left.invariant ∙ range_differs c.args.class c.args.plane.now c.loop-left.at c.loop-left.left c.class_at.result (omega arith) c.class_at.ensures.value differ)

pub loop-left-preserved : goal.loop-left-preserved
loop-left-preserved c =
    let same : c.args.class ≡ c.class_at.result = omega arith in
    c.loop-left.invariant ∙ range_same c.args.class c.args.plane.now c.loop-left.at c.loop-left.left c.class_at.result (omega arith) c.class_at.ensures.value same

use Rattle.std.proofs.Common.{ap, ◌∙◌, length}
use Rattle.graph.proofs.HowLarge.{length_marks}
use Rattle.graph.proofs.large.is_large.Goals as goal

pub dead_and_marked-requires : goal.dead_and_marked-requires
dead_and_marked-requires c = ap length (c.as_slice.ensures.value ∙ c.in_ok-marks.ensures) ∙ length_marks c.args.contents.now

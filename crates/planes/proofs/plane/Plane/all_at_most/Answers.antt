use Rattle.std.proofs.Common.{◌∙◌}
use Rattle.planes.proofs.Ranges.{range_low}
use Rattle.planes.proofs.plane.Plane.all_at_most.Goals as goal

pub returns : goal.returns
returns c =
    range_low c.args.class c.args.from c.args.count c.low_front.result c.deref.result.now c.args.self.now c.low_front.ensures (c.deref.ensures.value ∙ c.self.view_is) c.requires.range

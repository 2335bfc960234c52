use Rattle.std.proofs.Common.{◌∙◌}
use Rattle.planes.proofs.Ranges.{range_class}
use Rattle.planes.proofs.plane.Plane.all_are.Goals as goal

pub returns : goal.returns
returns c =
    range_class c.args.class c.args.from c.args.count c.same_front.result c.deref.result.now c.args.self.now c.same_front.ensures (c.deref.ensures.value ∙ c.self.view_is) c.requires.range

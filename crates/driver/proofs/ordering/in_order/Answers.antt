use Rattle.std.proofs.Common.{rules, map}
use Rattle.driver.specs.Ordering.{marked}
use Rattle.driver.proofs.InOrder.{put_next, marked_at}
use Rattle.driver.proofs.ordering.in_order.Goals as goal

pub loop-at-preserved : goal.loop-at-preserved
loop-at-preserved c = put_next (map (marked c.args.marks.now) c.args.warnings.now) c.loop-at.ordered.items c.put.new.warnings.items c.loop-at.at c.marked-new.result c.loop-at.invariant
    (marked_at c.args.marks.now c.args.warnings.now c.loop-at.at c.marked-new.result _ (search rules) c.marked-new.ensures) c.in_ok-put.ensures

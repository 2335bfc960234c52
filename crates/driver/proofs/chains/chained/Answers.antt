use Rattle.std.proofs.Common.{rules, refl}
use Rattle.driver.proofs.Chained.{marked_next}
use Rattle.driver.proofs.Followed.{entry_there}
use Rattle.driver.proofs.chains.chained.Goals as goal

pub loop-at-preserved : goal.loop-at-preserved
loop-at-preserved c = marked_next c.args.trail.now c.loop-at.marks.items c.push.new.self.items c.loop-at.at c.index-trail-at.result c.requires.earlier c.loop-at.invariant
    (entry_there c.args.trail.now c.args.trail.now c.loop-at.at c.index-trail-at.result refl (search rules) (search rules)) (search rules)

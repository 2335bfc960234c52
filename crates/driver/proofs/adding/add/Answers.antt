use Rattle.std.proofs.Common.{subst}
use Rattle.driver.specs.declared.work.Put.{Put}
use Rattle.driver.specs.Growing.{AddsSo}
use Rattle.driver.proofs.Looked.{looks_first, has_last, looks_next}
use Rattle.driver.proofs.adding.add.Goals as goal

pub loop-init : goal.loop-init
loop-init c = looks_first c.args.flow.now c.args.limits.now c.args.work.now c.args.point c.args.cause c.args.graph c.look.new.work c.in_ok-put.put c.requires.placed c.in_ok-put.ensures

pub look_on-requires : goal.look_on-requires
look_on-requires c = record {
  last = has_last c.args.flow.now c.args.limits.now c.args.work.now c.args.point c.args.cause c.args.graph c.loop.work c.in-Open.change
      (subst (λ (put : Put). AddsSo c.args.flow.now c.args.limits.now c.args.work.now c.loop.work c.args.point c.args.cause c.args.graph put) c.in-Open.is c.loop.invariant) c.requires.within;
}

pub loop-preserved : goal.loop-preserved
loop-preserved c = looks_next c.args.flow.now c.args.limits.now c.args.work.now c.args.point c.args.cause c.args.graph c.loop.work c.in-Open.change
    (subst (λ (put : Put). AddsSo c.args.flow.now c.args.limits.now c.args.work.now c.loop.work c.args.point c.args.cause c.args.graph put) c.in-Open.is c.loop.invariant)
    c.look_on.new.work c.in_ok-put-in-Open.put c.in_ok-put-in-Open.ensures

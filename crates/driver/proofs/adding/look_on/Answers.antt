use Rattle.std.proofs.Common.{rules, subst, ◌-◌}
use Rattle.trail.specs.declared.trail.Cause.{Cause}
use Rattle.driver.specs.Growing.{LooksSo, MakesSo}
use Rattle.driver.proofs.Followed.{entry_there}
use Rattle.driver.proofs.Looked.{last_placed, last_may, if_put, makes_there}
use Rattle.driver.proofs.adding.look_on.Goals as goal

pub made-requires-clause-placed : goal.made-requires-clause-placed
made-requires-clause-placed c = last_placed c.args.flow.now c.args.limits.now c.args.work.now c.args.point (c.len-count.result - 1) c.in-Some.entry.now c.args.change c.requires.last
    (entry_there c.args.work.now.trail c.as_slice.result.now (c.len-count.result - 1) c.in-Some.entry.now c.as_slice.ensures c.in-Some.ensures.lookup.3.0 c.in-Some.ensures.lookup.1) (search rules)

pub made-requires-clause-may : goal.made-requires-clause-may
made-requires-clause-may c = last_may c.args.flow.now c.args.limits.now c.args.work.now c.args.point (c.len-count.result - 1) c.in-Some.entry.now c.args.change c.requires.last
    (entry_there c.args.work.now.trail c.as_slice.result.now (c.len-count.result - 1) c.in-Some.entry.now c.as_slice.ensures c.in-Some.ensures.lookup.3.0 c.in-Some.ensures.lookup.1) (search rules)

pub returns : goal.returns
returns c = if_put (LooksSo c.args.flow.now c.args.limits.now c.args.work.now c.look.new.work c.args.point c.cause_of-cause.result c.in_ok-made-in-Some.made)
    (λ put. MakesSo c.args.flow.now c.args.limits.now c.args.work.now c.look.new.work c.args.point c.args.change put) c.look.result
    (λ put looks. makes_there c.args.flow.now c.args.limits.now c.args.work.now c.look.new.work c.args.point (c.len-count.result - 1) c.in-Some.entry.now c.args.change c.in_ok-made-in-Some.made put (search rules)
    (entry_there c.args.work.now.trail c.as_slice.result.now (c.len-count.result - 1) c.in-Some.entry.now c.as_slice.ensures c.in-Some.ensures.lookup.3.0 c.in-Some.ensures.lookup.1)
    c.in_ok-made-in-Some.ensures
    (subst (λ (cause : Cause). LooksSo c.args.flow.now c.args.limits.now c.args.work.now c.look.new.work c.args.point cause c.in_ok-made-in-Some.made put) c.cause_of-cause.ensures looks)) c.look.ensures

use Rattle.std.proofs.Common.{subst, sym, List}
use Rattle.trail.specs.declared.trail.Entry.{Entry}
use Rattle.driver.specs.Looping.{IsEntryAt}
use Rattle.driver.proofs.Rested.{rest_entry}
use Rattle.driver.proofs.resting.tell_along.Goals as goal

pub post_at-requires-clause-is : goal.post_at-requires-clause-is
post_at-requires-clause-is c = subst (λ (t : List Entry). IsEntryAt c.args.flow.now c.args.limits.now t c.args.which c.args.point) (sym c.as_slice.ensures)
    (rest_entry c.args.flow.now c.args.limits.now c.args.work.now c.args.at c.args.which c.args.point c.args.number c.requires.so_far)

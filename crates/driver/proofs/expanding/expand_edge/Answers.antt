use Rattle.std.proofs.Common.{subst, sym, List}
use Rattle.trail.specs.declared.trail.Entry.{Entry}
use Rattle.driver.specs.Looping.{IsEntryAt}
use Rattle.driver.proofs.Rested.{entry_of}
use Rattle.driver.proofs.expanding.expand_edge.Goals as goal

pub post_at-requires-clause-is : goal.post_at-requires-clause-is
post_at-requires-clause-is c = subst (λ (t : List Entry). IsEntryAt c.args.flow.now c.args.limits.now t c.args.at c.args.point) (sym c.as_slice.ensures)
    (entry_of c.args.flow.now c.args.limits.now c.args.work.now c.args.at c.args.point c.args.number c.requires.so_far)

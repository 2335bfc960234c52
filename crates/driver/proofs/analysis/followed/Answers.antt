use Rattle.std.proofs.Common.{rules, List, subst, sym}
use Rattle.trail.specs.declared.trail.Entry.{Entry}
use Rattle.trail.specs.Trail.{AreHonest}
use Rattle.driver.specs.Driven.{driven, widening}
use Rattle.driver.proofs.Closing.{safe_there, warned_there}
use Rattle.driver.proofs.analysis.followed.Goals as goal

pub returns-then-is_empty : goal.returns-then-is_empty
returns-then-is_empty c = safe_there c.args.flow.now c.args.limits.now c.args.work c.args.at c.requires.flow c.requires.calls c.requires.offsets c.requires.so_far c.requires.all (search rules)

pub told-requires : goal.told-requires
told-requires c = record { honest = subst (λ (trail : List Entry). AreHonest driven (widening c.args.limits.now.int_limit) c.args.flow.now trail) (sym c.as_slice.ensures) c.requires.so_far.known.worked.honest }

pub returns : goal.returns
returns c = warned_there c.args.flow.now c.args.limits.now c.args.work c.args.at c.as_slice.result.now c.as_slice-2.result.now c.in_ok-ordered.ordered c.requires.flow c.requires.offsets
    c.requires.exclusive c.requires.calls
    c.requires.so_far c.requires.all (search rules) c.as_slice.ensures c.as_slice-2.ensures c.in_ok-ordered.ensures

use Rattle.std.proofs.Common.{rules, List, subst, sym}
use Rattle.trail.specs.declared.trail.Entry.{Entry}
use Rattle.trail.specs.Trail.{AreHonest}
use Rattle.driver.specs.Driven.{driven, widening}
use Rattle.driver.proofs.Closing.{spent_halted, warned_halted}
use Rattle.driver.proofs.analysis.halted.Goals as goal

pub returns-then-is_empty : goal.returns-then-is_empty
returns-then-is_empty c = spent_halted c.args.flow.now c.args.limits.now c.args.work c.args.at c.in-Some.next c.requires.calls c.requires.so_far (search rules) (search rules)

pub told-requires : goal.told-requires
told-requires c = record { honest = subst (λ (trail : List Entry). AreHonest driven (widening c.args.limits.now.int_limit) c.args.flow.now trail) (sym c.as_slice.ensures) c.requires.so_far.halted.known.honest }

pub returns-in_ok-ordered-in-Some : goal.returns-in_ok-ordered-in-Some
returns-in_ok-ordered-in-Some c = warned_halted c.args.flow.now c.args.limits.now c.args.work c.args.at c.in-Some.next c.as_slice.result.now c.as_slice-in-Some.result.now
    c.in_ok-ordered-in-Some.ordered c.requires.flow c.requires.offsets c.requires.exclusive c.requires.calls c.requires.so_far (search rules) (search rules) c.as_slice.ensures c.as_slice-in-Some.ensures c.in_ok-ordered-in-Some.ensures

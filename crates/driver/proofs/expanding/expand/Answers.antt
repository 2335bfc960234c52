use Rattle.std.proofs.Common.{rules, ℕ}
use Rattle.driver.specs.Looping.{OnEntry}
use Rattle.driver.proofs.Followed.{goes_on, entry_passes}
use Rattle.driver.proofs.Leading.{out_nothing, out_one, out_last, out_first, out_second, out_end}
use Rattle.driver.proofs.expanding.expand.Goals as goal

pub expand_any-requires-clause-so_far : goal.expand_any-requires-clause-so_far
expand_any-requires-clause-so_far c = out_one c.args.flow.now (λ (n : ℕ). OnEntry c.args.flow.now c.args.limits.now c.args.work.now c.args.at c.args.point n) c.args.point c.in-One.number c.args.outs.now (entry_passes c.args.flow.now c.args.limits.now c.args.work.now c.args.at c.args.point) c.requires.outs (search rules) c.requires.so_far

pub expand_any-requires-in-Two-clause-so_far : goal.expand_any-requires-in-Two-clause-so_far
expand_any-requires-in-Two-clause-so_far c = out_first c.args.flow.now (λ (n : ℕ). OnEntry c.args.flow.now c.args.limits.now c.args.work.now c.args.at c.args.point n) c.args.point c.in-Two.number c.in-Two.second c.args.outs.now (entry_passes c.args.flow.now c.args.limits.now c.args.work.now c.args.at c.args.point) c.requires.outs (search rules) c.requires.so_far

pub expand_any-requires-in-Two-2-clause-so_far : goal.expand_any-requires-in-Two-2-clause-so_far
expand_any-requires-in-Two-2-clause-so_far c = out_second c.args.flow.now (λ (n : ℕ). OnEntry c.args.flow.now c.args.limits.now c.expand_any-in-Two.new.work c.args.at c.args.point n) c.args.point c.in-Two.number c.in-Two.second c.args.outs.now (entry_passes c.args.flow.now c.args.limits.now c.expand_any-in-Two.new.work c.args.at c.args.point) c.requires.outs (search rules) (goes_on _ _ c.in_ok-expand_any-in-Two.field-0 c.in_ok-expand_any-in-Two.ensures (search rules))

pub returns-in-Nothing : goal.returns-in-Nothing
returns-in-Nothing c = out_nothing c.args.flow.now (λ (n : ℕ). OnEntry c.args.flow.now c.args.limits.now c.args.work.now c.args.at c.args.point n) c.args.point c.args.outs.now (entry_passes c.args.flow.now c.args.limits.now c.args.work.now c.args.at c.args.point) c.requires.outs (search rules) c.requires.so_far

pub returns-else-not-branch : goal.returns-else-not-branch
returns-else-not-branch c = out_last c.args.flow.now (λ (n : ℕ). OnEntry c.args.flow.now c.args.limits.now c.expand_any.new.work c.args.at c.args.point n) c.args.point c.in-One.number c.args.outs.now (entry_passes c.args.flow.now c.args.limits.now c.expand_any.new.work c.args.at c.args.point) c.requires.outs (search rules) (goes_on _ _ c.in_ok-expand_any-in-One.field-0 c.in_ok-expand_any-in-One.ensures (search rules))

pub returns-else-not-branch-3 : goal.returns-else-not-branch-3
returns-else-not-branch-3 c = out_end c.args.flow.now (λ (n : ℕ). OnEntry c.args.flow.now c.args.limits.now c.expand_any-in-Two-2.new.work c.args.at c.args.point n) c.args.point c.in-Two.number c.in-Two.second c.args.outs.now (entry_passes c.args.flow.now c.args.limits.now c.expand_any-in-Two-2.new.work c.args.at c.args.point) c.requires.outs (search rules) (goes_on _ _ c.in_ok-expand_any-in-Two-2.field-0 c.in_ok-expand_any-in-Two-2.ensures (search rules))

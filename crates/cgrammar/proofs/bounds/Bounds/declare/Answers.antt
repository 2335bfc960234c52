use Rattle.std.proofs.Common.{◌-◌, [], get_or, arith}
use Rattle.std.proofs.lemmas.Result.{on_ok_weaker}
use Rattle.cgrammar.proofs.Bounded.{bounded_noted, bounds_stay, bounds_rise, bounded_declared}
use Rattle.cgrammar.proofs.bounds.Bounds.declare.Goals as goal

pub returns-in_err-remember-clause-kept : goal.returns-in_err-remember-clause-kept
returns-in_err-remember-clause-kept c scopes is =
    bounds_stay scopes c.args.self.now.levels.items c.remember.new.earlier.items
    (bounded_noted scopes (get_or c.args.self.now.levels.items 0 []) c.args.self.now.levels.items c.remember.new.earlier.items (c.len-count.result - 1) c.args.name.now
    c.bound-bound.result c.bound-bound.ensures c.remember.ensures.count c.remember.ensures.noted is)
    c.remember.ensures.first

pub returns-clause-kept : goal.returns-clause-kept
returns-clause-kept c scopes is =
    bounds_rise scopes c.remember.new.earlier.items c.raise.new.levels.items
    (bounds_stay scopes c.args.self.now.levels.items c.remember.new.earlier.items
    (bounded_noted scopes (get_or c.args.self.now.levels.items 0 []) c.args.self.now.levels.items c.remember.new.earlier.items (c.len-count.result - 1) c.args.name.now
    c.bound-bound.result c.bound-bound.ensures c.remember.ensures.count c.remember.ensures.noted is)
    c.remember.ensures.first)
    c.raise.ensures.count c.raise.ensures.kept c.raise.ensures.others

pub returns-clause-ok : goal.returns-clause-ok
returns-clause-ok c = on_ok_weaker c.raise.result
    (λ high scopes typedef is. bounded_declared c.args.name.now typedef scopes (get_or c.raise.new.levels.items 0 []) c.raise.new.levels.items
    (returns-clause-kept c scopes is) (omega (arith, c.len-count.ensures, c.remember.ensures.count, c.raise.ensures.count, high))) c.raise.ensures.ok

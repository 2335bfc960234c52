use Rattle.std.proofs.Common.{◌≡◌, ◌-◌, ◌≤◌, ℕ, List, [], Some, get_or, length, subst, sym, arith}
use Rattle.std.proofs.lemmas.Result.{on_ok_weaker}
use Rattle.cgrammar.specs.Scope.{Names}
use Rattle.cgrammar.specs.Bounds.{Numbers, AreBounds}
use Rattle.cgrammar.specs.NameTables.{value_in}
use Rattle.cgrammar.proofs.Scopes.{declared-around_few}
use Rattle.cgrammar.proofs.Bounded.{bounded_noted_around, bounded_grow, bounds_stay, bounds_rise, bounded_around}
use Rattle.cgrammar.proofs.bounds.Bounds.declare_around.Goals as goal

pub returns-then-count-lt2-clause-ok : goal.returns-then-count-lt2-clause-ok
returns-then-count-lt2-clause-ok c scopes typedef is =
    let P : List Names → Type 0 = λ s. AreBounds s c.args.self.now.levels.items in
    subst P (sym (declared-around_few c.args.name.now typedef scopes (omega (arith, is.count, c.len-count.ensures, c.if-count-lt2.true)))) is

pub returns-in_err-remember-clause-kept : goal.returns-in_err-remember-clause-kept
returns-in_err-remember-clause-kept c scopes is =
    bounds_stay scopes c.args.self.now.levels.items c.remember.new.earlier.items
    (bounded_noted_around scopes (get_or c.args.self.now.levels.items 0 []) c.args.self.now.levels.items c.remember.new.earlier.items (c.len-count.result - 2) c.args.name.now
    (c.len-count.result - 1) c.index.result.now c.get.result c.bound-bound.result c.unwrap_or-around.result
    (omega (arith, c.if-count-lt2.false)) (omega (arith, c.len-count.ensures, c.if-count-lt2.false)) c.index.ensures c.get.ensures
    c.bound-bound.ensures c.unwrap_or-around.ensures c.remember.ensures.count c.remember.ensures.noted is)
    c.remember.ensures.first

pub returns-in_err-raise_earlier-clause-kept : goal.returns-in_err-raise_earlier-clause-kept
returns-in_err-raise_earlier-clause-kept c scopes is =
    bounds_stay scopes c.remember.new.earlier.items c.raise_earlier.new.earlier.items
    (bounded_grow scopes (get_or c.remember.new.earlier.items 0 []) c.remember.new.earlier.items c.raise_earlier.new.earlier.items
    (bounds_stay scopes c.args.self.now.levels.items c.remember.new.earlier.items
    (bounded_noted_around scopes (get_or c.args.self.now.levels.items 0 []) c.args.self.now.levels.items c.remember.new.earlier.items (c.len-count.result - 2) c.args.name.now
    (c.len-count.result - 1) c.index.result.now c.get.result c.bound-bound.result c.unwrap_or-around.result
    (omega (arith, c.if-count-lt2.false)) (omega (arith, c.len-count.ensures, c.if-count-lt2.false)) c.index.ensures c.get.ensures
    c.bound-bound.ensures c.unwrap_or-around.ensures c.remember.ensures.count c.remember.ensures.noted is)
    c.remember.ensures.first)
    c.raise_earlier.ensures.count c.raise_earlier.ensures.kept)
    c.raise_earlier.ensures.first

pub returns-clause-kept : goal.returns-clause-kept
returns-clause-kept c scopes is =
    bounds_rise scopes c.raise_earlier.new.earlier.items c.raise.new.levels.items
    (bounds_stay scopes c.remember.new.earlier.items c.raise_earlier.new.earlier.items
    (bounded_grow scopes (get_or c.remember.new.earlier.items 0 []) c.remember.new.earlier.items c.raise_earlier.new.earlier.items
    (bounds_stay scopes c.args.self.now.levels.items c.remember.new.earlier.items
    (bounded_noted_around scopes (get_or c.args.self.now.levels.items 0 []) c.args.self.now.levels.items c.remember.new.earlier.items (c.len-count.result - 2) c.args.name.now
    (c.len-count.result - 1) c.index.result.now c.get.result c.bound-bound.result c.unwrap_or-around.result
    (omega (arith, c.if-count-lt2.false)) (omega (arith, c.len-count.ensures, c.if-count-lt2.false)) c.index.ensures c.get.ensures
    c.bound-bound.ensures c.unwrap_or-around.ensures c.remember.ensures.count c.remember.ensures.noted is)
    c.remember.ensures.first)
    c.raise_earlier.ensures.count c.raise_earlier.ensures.kept)
    c.raise_earlier.ensures.first)
    c.raise.ensures.count c.raise.ensures.kept c.raise.ensures.others

pub returns-clause-ok : goal.returns-clause-ok
returns-clause-ok c = on_ok_weaker c.raise.result
    (λ high scopes typedef is.
    let marked : List Numbers = c.raise_earlier.new.earlier.items in
    let now : List Numbers = c.raise.new.levels.items in
    let last : ℕ = c.len-count.result - 1 in
    let count : last ≡ length now - 1 = omega (arith, c.len-count.ensures, c.remember.ensures.count, c.raise_earlier.ensures.count, c.raise.ensures.count) in
    let P : ℕ → Type 0 = λ at. (bound : ℕ) → value_in c.args.name.now (get_or now at []) ≡ Some bound → at ≤ bound in
    let Q : Numbers → Type 0 = λ numbers. (bound : ℕ) → value_in c.args.name.now numbers ≡ Some bound → last ≤ bound in
    let same : get_or now last [] ≡ get_or marked last [] = c.raise.ensures.others last (omega (arith, c.if-count-lt2.false)) in
    bounded_around c.args.name.now typedef scopes (get_or now 0 []) now (returns-clause-kept c scopes is) (omega (arith, count, high))
    (subst P count (subst Q (sym same) c.in_ok-raise_earlier.ensures.ok))) c.raise.ensures.ok

use Rattle.std.proofs.Common.{ap, ◌∙◌, arith}
use Rattle.std.proofs.lemmas.Result.{on_ok_weaker}
use Rattle.cgrammar.specs.Bounds.{bound_in}
use Rattle.cgrammar.proofs.Bounded.{raise_put, bound_put, first_set}
use Rattle.cgrammar.proofs.bounds.raise.Goals as goal

pub returns-clause-kept : goal.returns-clause-kept
returns-clause-kept c =
    raise_put c.put.result c.args.levels.now.items c.args.name.now c.args.least c.index.result.now c.put.new.self c.index_mut.result.now c.requires
    c.index.ensures c.index_mut.ensures.value (omega (arith, c.bound.ensures, c.if-bound-least.false)) c.put.ensures.ok c.put.ensures.err

pub returns-clause-ok : goal.returns-clause-ok
returns-clause-ok c = on_ok_weaker c.put.result
    (λ is. omega (arith, ap (bound_in c.args.name.now) (first_set c.args.levels.now.items c.put.new.self c.requires ∙ is), bound_put c.args.name.now c.args.least c.index_mut.result.now)) c.put.ensures.ok

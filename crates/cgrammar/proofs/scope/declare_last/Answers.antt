use Rattle.std.proofs.Common.{◌∙◌, ap, ◌-◌, slice_set, arith}
use Rattle.std.proofs.lemmas.Result.{on_ok_weaker}
use Rattle.cgrammar.proofs.Scopes.{declared-last}
use Rattle.cgrammar.proofs.scope.declare_last.Goals as goal

pub returns-clause-ok : goal.returns-clause-ok
returns-clause-ok c = on_ok_weaker c.declare.result
    (λ is. ap (slice_set c.args.sets.now.items (c.len-count.result - 1)) is ∙ declared-last c.args.name.now c.args.typedef c.args.sets.now.items (c.len-count.result - 1) c.index_mut.result.now (omega (arith, c.len-count.ensures, c.if-count-eq0.false)) c.index_mut.ensures.value) c.declare.ensures.ok

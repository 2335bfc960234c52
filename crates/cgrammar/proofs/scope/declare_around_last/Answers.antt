use Rattle.std.proofs.Common.{◌∙◌, ap, sym, ◌-◌, slice_set, arith}
use Rattle.std.proofs.lemmas.Result.{on_ok_weaker}
use Rattle.cgrammar.proofs.Scopes.{declared-around, declared-around_few}
use Rattle.cgrammar.proofs.scope.declare_around_last.Goals as goal

pub returns-clause-ok : goal.returns-clause-ok
returns-clause-ok c = on_ok_weaker c.declare.result
    (λ is. ap (slice_set c.args.sets.now.items (c.len-count.result - 2)) is ∙ declared-around c.args.name.now c.args.typedef c.args.sets.now.items (c.len-count.result - 2) c.index_mut.result.now (omega (arith, c.len-count.ensures, c.if-count-lt2.false)) c.index_mut.ensures.value) c.declare.ensures.ok

pub returns-then-count-lt2-clause-ok : goal.returns-then-count-lt2-clause-ok
returns-then-count-lt2-clause-ok c =
    sym (declared-around_few c.args.name.now c.args.typedef c.args.sets.now.items (omega (arith, c.len-count.ensures, c.if-count-lt2.true)))

-- The last expression of the block has no value, or there is no graph.
use Rattle.lower.specs.Built.{made_of}
use Rattle.lowering.proofs.Onward.{on_ok}
use Rattle.lower.proofs.PiecesPlaced.{inner_fails, inner_void}
use Rattle.lower.proofs.placing.values.place_void_inner.Goals as goal

pub returns-then-not-is_void : goal.returns-then-not-is_void
returns-then-not-is_void c =
    inner_fails c.args.source.now c.args.levels c.args.from c.args.expr.now c.args.body.now c.args.close c.args.into c.args.to c.args.jobs.now c.args.jobs.now
    (made_of c.args.builder.now) _ _ c.in_ok-kind.ensures _ c.is_void.ensures c.if-not-is_void.true c.fail.ensures

pub returns : goal.returns
returns c = on_ok c.place_inner.result
    (inner_void _ _ _ _ _ _ _ _ _ _ _ _ _ c.in_ok-kind.ensures _ c.is_void.ensures c.if-not-is_void.false)
    c.place_inner.ensures

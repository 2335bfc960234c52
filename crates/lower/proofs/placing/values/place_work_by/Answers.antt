-- An expression has a value that is not used, or it makes none, or there is no graph.
use Rattle.lower.specs.Built.{made_of}
use Rattle.lowering.proofs.Onward.{on_ok}
use Rattle.lower.proofs.PiecesPlaced.{work_dropped, work_fails, work_void}
use Rattle.lower.proofs.placing.values.place_work_by.Goals as goal

pub returns-then-not-is_void : goal.returns-then-not-is_void
returns-then-not-is_void c =
    on_ok c.place_line_of_work.result
    (work_dropped _ _ _ _ _ _ _ _ _ _ _ _ c.in_ok-own.ensures _ c.is_void.ensures c.if-not-is_void.true)
    c.place_line_of_work.ensures

pub returns-then-not-is_void-2 : goal.returns-then-not-is_void-2
returns-then-not-is_void-2 c =
    work_fails c.args.source.now c.args.levels c.args.from c.args.expr.now c.args.spare c.args.to _ c.args.jobs.now c.args.jobs.now (made_of c.args.builder.now) _ _ c.in_ok-own.ensures
    _ c.is_void.ensures c.if-not-is_void.false _ c.in_ok-made.ensures _ c.is_void-2.ensures c.if-not-is_void-2.true c.fail.ensures

pub returns : goal.returns
returns c = on_ok c.place_void.result
    (work_void _ _ _ _ _ _ _ _ _ _ _ _ c.in_ok-own.ensures _ c.is_void.ensures c.if-not-is_void.false _ c.in_ok-made.ensures _ c.is_void-2.ensures c.if-not-is_void-2.false)
    c.place_void.ensures

-- The value is made as its type says, or there is no graph.
use Rattle.lower.specs.Built.{made_of}
use Rattle.lowering.proofs.Onward.{on_ok}
use Rattle.lower.proofs.PiecesPlaced.{value_fails, value_made}
use Rattle.lower.proofs.placing.values.place_value_by.Goals as goal

pub returns-then-not-made : goal.returns-then-not-made
returns-then-not-made c =
    value_fails c.args.source.now c.args.levels c.args.from c.args.expr.now c.args.spare c.args.into c.args.to _ c.args.jobs.now c.args.jobs.now (made_of c.args.builder.now) _ _
    c.in_ok-made.ensures c.if-not-made.true c.fail.ensures

pub returns : goal.returns
returns c = on_ok c.place_value_form.result (value_made _ _ _ _ _ _ _ _ _ _ _ _ _ c.in_ok-made.ensures c.if-not-made.false) c.place_value_form.ensures

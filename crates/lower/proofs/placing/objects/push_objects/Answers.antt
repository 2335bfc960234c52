-- One statement after the other.
use Rattle.std.proofs.Common.{◌+◌, drop}
use Rattle.std.proofs.lemmas.List.{drop_all}
use Rattle.expressions.proofs.Loops.{next_item}
use Rattle.c_machine.specs.Trees.{text_of}
use Rattle.lowering.specs.Placing.{objects_of}
use Rattle.lower.proofs.ObjectsHere.{more_listed, none_listed}
use Rattle.lower.proofs.placing.objects.push_objects.Goals as goal

pub loop-stmt-preserved : goal.loop-stmt-preserved
loop-stmt-preserved c = λ p reads.
    more_listed (objects_of (text_of p)) c.stmt-item.result (drop c.loop-stmt.stmt-index c.args.body.now) (drop (c.loop-stmt.stmt-index + 1) c.args.body.now) c.loop-stmt.objects
    c.push_objects_of.new.objects _ (next_item c.args.body.now c.loop-stmt.stmt-index c.stmt-item.result c.loop-stmt-test.true c.stmt-item.is)
    (c.in_ok-push_objects_of.ensures p reads) (c.loop-stmt.invariant p reads)

pub returns : goal.returns
returns c = λ p reads.
    none_listed (objects_of (text_of p)) (drop c.loop-stmt.stmt-index c.args.body.now) c.loop-stmt.objects _ (drop_all c.loop-stmt.stmt-index c.args.body.now c.loop-stmt-test.false)
    (c.loop-stmt.invariant p reads)

-- What is wanted says what is added.
use Rattle.std.proofs.Common.{ap}
use Rattle.c_machine.specs.Trees.{text_of}
use Rattle.lowering.specs.LetGo.{left_by_place, left_by_test, left_by_value, left_by_work, left_within}
use Rattle.lowering.proofs.Lefts.{layer_part}
use Rattle.lowering.proofs.left.add_layer.Goals as goal

pub returns-in-AsValue : goal.returns-in-AsValue
returns-in-AsValue c = layer_part _ _ _ _ _ _ _ _ c.add_value.result c.add_value.ensures
    (λ p is. rw c.in-AsValue.is (ap (left_by_value (text_of p) (left_within c.args.levels (text_of p)) c.args.expr.now c.in-AsValue.in_spare) (c.read_form-form.ensures.of p is.reads)))

pub returns-in-AsPlace : goal.returns-in-AsPlace
returns-in-AsPlace c = layer_part _ _ _ _ _ _ _ _ c.add_place.result c.add_place.ensures
    (λ p is. rw c.in-AsPlace.is (ap (left_by_place (text_of p) (left_within c.args.levels (text_of p)) c.in-AsPlace.in_spare) (c.read_form-form.ensures.of p is.reads)))

pub returns-in-AsWork : goal.returns-in-AsWork
returns-in-AsWork c = layer_part _ _ _ _ _ _ _ _ c.add_work.result c.add_work.ensures
    (λ p is. rw c.in-AsWork.is (ap (left_by_work (text_of p) (left_within c.args.levels (text_of p)) c.args.expr.now) (c.read_form-form.ensures.of p is.reads)))

pub returns-in-AsTest : goal.returns-in-AsTest
returns-in-AsTest c = layer_part _ _ _ _ _ _ _ _ c.add_test.result c.add_test.ensures
    (λ p is. rw c.in-AsTest.is (ap (left_by_test (text_of p) (left_within c.args.levels (text_of p)) c.args.expr.now) (c.read_form-form.ensures.of p is.reads)))

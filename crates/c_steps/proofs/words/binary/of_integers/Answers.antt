use Rattle.std.proofs.Common.{ap, ◌∙◌}
use Rattle.typing.specs.declared.ctypes.kind.IntegerType.{IntegerType}
use Rattle.typing.specs.values.Values.{of_binary}
use Rattle.c_steps.proofs.words.Integers.{of_two}
use Rattle.c_steps.proofs.words.binary.of_integers.Goals as goal

pub returns : goal.returns
returns c =
    of_two c.args.op c.get.result c.args.x c.get-2.result c.args.y c.binary_value.result c.get.ensures.whole c.get-2.ensures.whole c.binary_value.ensures
    ∙ ap (λ (left : IntegerType). of_binary c.args.op left c.args.x c.get-2.result c.args.y) c.get.ensures.is
    ∙ ap (λ (right : IntegerType). of_binary c.args.op c.args.left c.args.x right c.args.y) c.get-2.ensures.is

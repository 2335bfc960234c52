use Rattle.std.proofs.Common.{ap, ◌∙◌}
use Rattle.typing.specs.declared.ctypes.kind.IntegerType.{IntegerType}
use Rattle.typing.specs.values.Values.{of_unary}
use Rattle.c_steps.proofs.words.Integers.{of_one}
use Rattle.c_steps.proofs.words.unary.of_integer.Goals as goal

pub returns : goal.returns
returns c =
    of_one c.args.op c.get.result c.args.bits c.unary_value.result c.get.ensures.whole c.unary_value.ensures
    ∙ ap (λ (of : IntegerType). of_unary c.args.op of c.args.bits) c.get.ensures.is

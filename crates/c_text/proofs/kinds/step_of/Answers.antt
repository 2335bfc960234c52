-- A pointer to `void` counts in bytes, and any other in the size of what it leads to.
use Rattle.std.proofs.Common.{ap, ◌∙◌}
use Rattle.typing.specs.ctypes.Table.{type_at}
use Rattle.typing.specs.Idiom.{at_most}
use Rattle.c_text.proofs.TypeKinds.{void_step, other_step}
use Rattle.c_text.proofs.kinds.step_of.Goals as goal

pub returns-in-Void : goal.returns-in-Void
returns-in-Void c = λ p same. void_step p c.args.types.now.types (type_at c.args.types.now.types c.args.number) c.in-Void.ensures.is

pub returns-in_default : goal.returns-in_default
returns-in_default c = λ p same.
    c.bytes_of.ensures p same
    ∙ ap at_most (other_step p c.args.types.now.types (type_at c.args.types.now.types c.args.number) c.shape.result c.shape.ensures.is c.in_default.not-Void)

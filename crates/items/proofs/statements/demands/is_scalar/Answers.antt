-- Numbers and pointers are neither `void` nor structs.
use Rattle.std.proofs.Common.{◌∙◌, sym}
use Rattle.typing.specs.ctypes.Kinds.{kind_of}
use Rattle.items.proofs.statements.KindsAsked.{no_scalar, scalar_of}
use Rattle.items.proofs.statements.demands.is_scalar.Goals as goal

pub returns-then-is_void : goal.returns-then-is_void
returns-then-is_void c = λ n agrees. no_scalar (kind_of c.args.context.now.structs (n.ctype c.args.number)) (sym (c.is_void.ensures n agrees) ∙ c.if-is_void.true)

pub returns : goal.returns
returns c = λ n agrees. scalar_of (kind_of c.args.context.now.structs (n.ctype c.args.number)) c.is_struct.result (sym (c.is_void.ensures n agrees) ∙ c.if-is_void.false) (c.is_struct.ensures n agrees)

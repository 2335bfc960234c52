-- The type of integers that the table tells is the context's.
use Rattle.std.proofs.Common.{sym, ◌∙◌}
use Rattle.typing.specs.ctypes.Kinds.{kind_of, integer_in}
use Rattle.expressions.proofs.Meanings.{of_one}
use Rattle.expressions.proofs.context.Context.integer_type.Goals as goal

pub returns : goal.returns
returns c = λ n agrees. c.integer_type.ensures ∙ sym (of_one c.self.view_is (λ structs t. integer_in (kind_of structs t)) c.args.number c.requires n agrees)

-- What is found of the table and of the context alike.
use Rattle.std.proofs.Common.{sym, ◌∙◌}
use Rattle.typing.specs.ctypes.Converting.{converts}
use Rattle.typing.specs.ctypes.Kinds.{kind_of, decayed}
use Rattle.expressions.proofs.Meanings.{of_two}
use Rattle.expressions.proofs.context.Context.converts.Goals as goal

pub returns : goal.returns
returns c = λ n agrees.
    c.converts.ensures
    ∙ sym (of_two c.self.view_is (λ structs t u. converts (kind_of structs t) (decayed (kind_of structs u)) c.args.operand.null) c.args.to c.args.operand.ctype c.requires.to c.requires.operand n agrees)

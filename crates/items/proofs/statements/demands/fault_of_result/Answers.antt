-- A value is returned where a result is wanted, and converts to it.
use Rattle.std.proofs.Common.{◌∙◌, sym, ap}
use Rattle.typing.specs.ctypes.Kinds.{kind_of, decayed}
use Rattle.typing.specs.ctypes.Converting.{converts}
use Rattle.expressions.specs.Numbers.{operand_at}
use Rattle.items.proofs.statements.KindsAsked.{void_result_first, other_result_first}
use Rattle.items.proofs.statements.demands.fault_of_result.Goals as goal

pub returns-then-is_void : goal.returns-then-is_void
returns-then-is_void c = λ n agrees.
    void_result_first c.args.word c.args.place (kind_of c.args.context.now.structs (n.ctype c.args.of)) (decayed (kind_of c.args.context.now.structs (n.ctype c.args.known.ctype))) c.args.known.null c.unless.result
    (sym (c.is_void.ensures n agrees) ∙ c.if-is_void.true) c.unless.ensures

pub returns : goal.returns
returns c = λ n agrees.
    other_result_first c.args.word c.args.place (kind_of c.args.context.now.structs (n.ctype c.args.of)) (decayed (kind_of c.args.context.now.structs (n.ctype c.args.known.ctype))) c.args.known.null c.converts.result c.unless-2.result
    (sym (c.is_void.ensures n agrees) ∙ c.if-is_void.false)
    (c.converts.ensures n agrees ∙ ap (λ operand. converts (kind_of c.args.context.now.structs (n.ctype c.args.of)) (decayed (operand_at n c.args.context.now.structs operand).kind) operand.null) c.operand.ensures)
    c.unless-2.ensures

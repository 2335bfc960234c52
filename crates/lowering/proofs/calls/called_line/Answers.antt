-- A function that the program defines, where its arguments have sizes.
use Rattle.std.proofs.Common.{sym, subst}
use Rattle.lowering.specs.declared.called.Called.{Called}
use Rattle.lowering.specs.Calls.{IsLineOfCalled}
use Rattle.lowering.proofs.BuiltInLines.{calls_body}
use Rattle.lowering.proofs.Onward.{on_ok}
use Rattle.lowering.proofs.calls.called_line.Goals as goal

pub returns-else-not-sized : goal.returns-else-not-sized
returns-else-not-sized c = on_ok c.body_line.result
    (λ is. subst
    (λ (called : Called). IsLineOfCalled c.args.source.now called c.args.args.now c.args.spare c.args.kept c.args.into c.args.place c.args.registers.now c.body_line.new.registers
    c.args.line.now c.body_line.new.line)
    (sym c.in-Body.is)
    (calls_body _ _ _ _ _ _ _ _ _ _ _ _ _ _ _ c.as_slice-in-Body.ensures c.if-not-sized.false is))
    c.body_line.ensures

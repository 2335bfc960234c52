-- Each operator has its line.
use Rattle.std.proofs.Common.{[], ◌∷◌, refl, sym, subst}
use Rattle.cbase.specs.declared.tree.operators.BinaryOp.{BinaryOp}
use Rattle.c_machine.specs.Text.{Binary}
use Rattle.lowering.specs.Moves.{Answers}
use Rattle.lowering.specs.Reading.{IsValueLine}
use Rattle.lowering.proofs.Lines.{value_alone}
use Rattle.lowering.proofs.Onward.{on_ok}
use Rattle.lowering.proofs.value.binary_value.Goals as goal

pub returns-in-Both : goal.returns-in-Both
returns-in-Both c = on_ok c.answers.result
    (λ is. subst (λ (op : BinaryOp). IsValueLine c.args.source.now c.args.expr.now c.args.spare c.args.into (Binary op c.args.left.now c.args.right.now) c.args.registers.now
    c.args.registers.now c.args.line.now c.answers.new.line) (sym c.in-Both.is)
    (value_alone _ _ _ _ _ (Answers c.args.expr.now c.args.spare c.args.into 4 ∷ []) _ _ _ (λ p. refl) is))
    c.answers.ensures

pub returns-in-Either : goal.returns-in-Either
returns-in-Either c = on_ok c.answers-in-Either.result
    (λ is. subst (λ (op : BinaryOp). IsValueLine c.args.source.now c.args.expr.now c.args.spare c.args.into (Binary op c.args.left.now c.args.right.now) c.args.registers.now
    c.args.registers.now c.args.line.now c.answers-in-Either.new.line) (sym c.in-Either.is)
    (value_alone _ _ _ _ _ (Answers c.args.expr.now c.args.spare c.args.into 4 ∷ []) _ _ _ (λ p. refl) is))
    c.answers-in-Either.ensures

pub returns-in-Equal : goal.returns-in-Equal
returns-in-Equal c = on_ok c.answers-in-Equal.result
    (λ is. subst (λ (op : BinaryOp). IsValueLine c.args.source.now c.args.expr.now c.args.spare c.args.into (Binary op c.args.left.now c.args.right.now) c.args.registers.now
    c.args.registers.now c.args.line.now c.answers-in-Equal.new.line) (sym c.in-Equal.is)
    (value_alone _ _ _ _ _ (Answers c.args.expr.now c.args.spare c.args.into 4 ∷ []) _ _ _ (λ p. refl) is))
    c.answers-in-Equal.ensures

pub returns-in-NotEqual : goal.returns-in-NotEqual
returns-in-NotEqual c = on_ok c.answers-in-NotEqual.result
    (λ is. subst (λ (op : BinaryOp). IsValueLine c.args.source.now c.args.expr.now c.args.spare c.args.into (Binary op c.args.left.now c.args.right.now) c.args.registers.now
    c.args.registers.now c.args.line.now c.answers-in-NotEqual.new.line) (sym c.in-NotEqual.is)
    (value_alone _ _ _ _ _ (Answers c.args.expr.now c.args.spare c.args.into 4 ∷ []) _ _ _ (λ p. refl) is))
    c.answers-in-NotEqual.ensures

-- Each operator has its line.
use Rattle.std.proofs.Common.{[], ◌∷◌, refl, sym, subst}
use Rattle.cbase.specs.declared.tree.operators.UnaryOp.{UnaryOp}
use Rattle.c_machine.specs.Text.{Unary}
use Rattle.lowering.specs.Moves.{Answers, Locates}
use Rattle.lowering.specs.Reading.{IsValueLine}
use Rattle.lowering.proofs.Lines.{load_follow, value_alone}
use Rattle.lowering.proofs.Onward.{on_ok}
use Rattle.lowering.proofs.value.unary_value.Goals as goal

pub returns-in-Address : goal.returns-in-Address
returns-in-Address c = on_ok c.locates.result
    (λ is. subst (λ (op : UnaryOp). IsValueLine c.args.source.now c.args.expr.now c.args.spare c.args.into (Unary op c.args.arg.now) c.args.registers.now c.args.registers.now
    c.args.line.now c.locates.new.line) (sym c.in-Address.is)
    (value_alone _ _ _ _ _ (Locates c.args.arg.now c.args.spare c.args.into ∷ []) _ _ _ (λ p. refl) is))
    c.locates.ensures

pub returns-in-Follow : goal.returns-in-Follow
returns-in-Follow c = on_ok c.loaded.result
    (λ is. subst (λ (op : UnaryOp). IsValueLine c.args.source.now c.args.expr.now c.args.spare c.args.into (Unary op c.args.arg.now) c.args.registers.now c.loaded.new.registers
    c.args.line.now c.loaded.new.line) (sym c.in-Follow.is)
    (load_follow _ _ _ _ _ _ _ _ _ is))
    c.loaded.ensures

pub returns-in-Not : goal.returns-in-Not
returns-in-Not c = on_ok c.answers.result
    (λ is. subst (λ (op : UnaryOp). IsValueLine c.args.source.now c.args.expr.now c.args.spare c.args.into (Unary op c.args.arg.now) c.args.registers.now c.args.registers.now
    c.args.line.now c.answers.new.line) (sym c.in-Not.is)
    (value_alone _ _ _ _ _ (Answers c.args.expr.now c.args.spare c.args.into 4 ∷ []) _ _ _ (λ p. refl) is))
    c.answers.ensures

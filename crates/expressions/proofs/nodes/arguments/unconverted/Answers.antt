use Rattle.std.proofs.Common.{ℕ, Bool, arith, get_or, ◌∙◌, refl, subst}
use Rattle.cbase.specs.declared.tree.expr.Expr.{Expr as ExprTree}
use Rattle.typing.specs.ctypes.Converting.{converts}
use Rattle.typing.specs.declared.ctypes.found.Broken.TheVariants.{Rule}
use Rattle.typing.specs.ctypes.Kinds.{kind_of, decayed}
use Rattle.typing.specs.Calls.{unconverted}
use Rattle.typing.specs.Faults.{unless}
use Rattle.expressions.specs.declared.known.Known.{Known as KnownByNumber}
use Rattle.expressions.specs.Settled.{IsFirstOf}
use Rattle.expressions.proofs.EachArgument.{past_known, next_asked, all_asked}
use Rattle.expressions.proofs.SoFar.{none_so_far}
use Rattle.expressions.proofs.nodes.arguments.unconverted.Goals as goal

pub loop-at-preserved : goal.loop-at-preserved
loop-at-preserved c n agrees =
    let at : ℕ = c.loop-at.at in
    let one : KnownByNumber = get_or c.args.known.now at past_known in
    let arg : ExprTree = get_or c.args.args.now at c.index-args-at.result in
    let o = c.operand.ensures in
    let h = c.converts-fits.ensures n agrees ∙ (λ i. converts (kind_of c.args.context.now.structs (n.ctype (get_or c.args.params.now at 0))) (decayed (kind_of c.args.context.now.structs (n.ctype (o i).ctype))) (o i).null) in
    next_asked (λ at. unconverted) (λ at param arg. unless (converts param (decayed arg.operand.kind) arg.operand.null) arg.place (Rule 5)) (λ at param params arg args. refl)
    n c.args.context.now.structs c.args.params.now c.args.args.now c.args.known.now at c.index-args-at.result
    _ c.loop-at.first c.unless.result c.first_of-first.result (omega arith) (omega arith) c.requires.count (c.loop-at.invariant n agrees)
    (subst (λ (holds : Bool). IsFirstOf (unless holds arg.place (Rule 5)) c.unless.result) h c.unless.ensures)
    c.first_of-first.ensures

pub returns : goal.returns
returns c n agrees =
    all_asked (λ at. unconverted) (λ at args. refl) (λ at param params. refl)
    n c.args.context.now.structs c.args.params.now c.args.args.now c.args.known.now c.loop-at.at _ c.loop-at.first (omega arith) (c.loop-at.invariant n agrees)

pub converts-fits-requires-clause-to : goal.converts-fits-requires-clause-to
converts-fits-requires-clause-to c = c.requires.params c.loop-at.at 0 (omega arith)

pub converts-fits-requires-clause-operand : goal.converts-fits-requires-clause-operand
converts-fits-requires-clause-operand c = rw c.operand.ensures (c.requires.known c.loop-at.at past_known (omega (arith, c.requires.count)))

pub loop-at-init : goal.loop-at-init
loop-at-init c n agrees = none_so_far _

use Rattle.std.proofs.Common.{◌||◌, not, ℕ, List, Bool, arith, get_or, ap, ◌∙◌, refl, subst}
use Rattle.cbase.specs.declared.tree.expr.Expr.{Expr as ExprTree}
use Rattle.typing.specs.declared.ctypes.found.Broken.TheVariants.{Construct}
use Rattle.typing.specs.Calls.{large_lengths, lengths_of, is_length, is_small, length_in}
use Rattle.typing.specs.Faults.{unless}
use Rattle.expressions.specs.Settled.{IsFirstOf}
use Rattle.expressions.proofs.EachArgument.{past_known, next_asked, all_asked}
use Rattle.expressions.proofs.SoFar.{none_so_far}
use Rattle.expressions.proofs.nodes.arguments.large_length.Goals as goal

pub loop-at-preserved : goal.loop-at-preserved
loop-at-preserved c n agrees =
    let at : ℕ = c.loop-at.at in
    let arg : ExprTree = get_or c.args.args.now at c.index-args-at.result in
    let lengths : List ℕ = lengths_of c.args.name.now in
    let fits = c.is_short-fits.ensures ∙ ap (λ (bytes : _). not (is_length lengths at) || is_small bytes) (c.length_in.ensures n agrees) in
    next_asked (large_lengths lengths) (λ at param arg. unless (not (is_length lengths at) || is_small (length_in param arg)) arg.place (Construct 19)) (λ at param params arg args. refl)
    n c.args.context.now.structs c.args.params.now c.args.args.now c.args.known.now at c.index-args-at.result
    _ c.loop-at.first c.unless.result c.first_of-first.result (omega arith) (omega arith) c.requires.count (c.loop-at.invariant n agrees)
    (subst (λ (holds : Bool). IsFirstOf (unless holds arg.place (Construct 19)) c.unless.result) fits c.unless.ensures)
    c.first_of-first.ensures

pub returns : goal.returns
returns c n agrees =
    all_asked (large_lengths (lengths_of c.args.name.now)) (λ at args. refl) (λ at param params. refl)
    n c.args.context.now.structs c.args.params.now c.args.args.now c.args.known.now c.loop-at.at _ c.loop-at.first (omega arith) (c.loop-at.invariant n agrees)

pub length_in-requires-clause-param : goal.length_in-requires-clause-param
length_in-requires-clause-param c = c.requires.params c.loop-at.at 0 (omega arith)

pub length_in-requires-clause-one : goal.length_in-requires-clause-one
length_in-requires-clause-one c = c.requires.known c.loop-at.at past_known (omega (arith, c.requires.count))

pub loop-at-init : goal.loop-at-init
loop-at-init c n agrees = none_so_far _

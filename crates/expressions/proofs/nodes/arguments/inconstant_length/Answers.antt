use Rattle.std.proofs.Common.{◌||◌, not, ℕ, List, Bool, arith, get_or, refl, subst}
use Rattle.cbase.specs.declared.tree.expr.Expr.{Expr as ExprTree}
use Rattle.typing.specs.declared.ctypes.found.Broken.TheVariants.{Construct}
use Rattle.typing.specs.Calls.{inconstant_lengths, lengths_of, is_length, is_constant}
use Rattle.typing.specs.Faults.{unless}
use Rattle.expressions.specs.Settled.{IsFirstOf}
use Rattle.expressions.proofs.EachArgument.{next_asked, all_asked}
use Rattle.expressions.proofs.SoFar.{none_so_far}
use Rattle.expressions.proofs.nodes.arguments.inconstant_length.Goals as goal

pub loop-at-preserved : goal.loop-at-preserved
loop-at-preserved c n structs =
    let at : ℕ = c.loop-at.at in
    let arg : ExprTree = get_or c.args.args.now at c.index-args-at.result in
    let lengths : List ℕ = lengths_of c.args.name.now in
    let fits = c.is_fixed-fits.ensures in
    next_asked (inconstant_lengths lengths) (λ at param arg. unless (not (is_length lengths at) || is_constant arg.value) arg.place (Construct 14)) (λ at param params arg args. refl)
    n structs c.args.params.now c.args.args.now c.args.known.now at c.index-args-at.result
    _ c.loop-at.first c.unless.result c.first_of-first.result (omega arith) (omega arith) c.requires.count (c.loop-at.invariant n structs)
    (subst (λ (holds : Bool). IsFirstOf (unless holds arg.place (Construct 14)) c.unless.result) fits c.unless.ensures)
    c.first_of-first.ensures

pub returns : goal.returns
returns c n structs =
    all_asked (inconstant_lengths (lengths_of c.args.name.now)) (λ at args. refl) (λ at param params. refl)
    n structs c.args.params.now c.args.args.now c.args.known.now c.loop-at.at _ c.loop-at.first (omega arith) (c.loop-at.invariant n structs)

pub loop-at-init : goal.loop-at-init
loop-at-init c n structs = none_so_far _

-- `return`, with a value or without.
use Rattle.std.proofs.Common.{◌∙◌, ap, sym, subst, Option, Some}
use Rattle.cbase.specs.declared.tree.expr.Expr.{Expr}
use Rattle.typing.specs.Statements.{returned}
use Rattle.expressions.specs.Found.{nothing}
use Rattle.expressions.specs.Walked.{Walked}
use Rattle.items.specs.declared.statements.demands.Demand.TheVariants as by_number
use Rattle.items.specs.statements.Parts.{SaysPart, SaysValue}
use Rattle.items.proofs.statements.Enclosed.{of_result}
use Rattle.items.proofs.statements.ValuesTaken.{value_returned}
use Rattle.items.proofs.statements.jumps.return_value.Goals as goal

pub returns-in-None : goal.returns-in-None
returns-in-None g c =
    let abi = c.args.checker.now.abi in
    subst (λ (expr : Option Expr). Walked (SaysPart abi (returned c.args.word expr)) nothing c.args.context.now c.args.context.now c.return_nothing.result) (sym c.in-None.is) (c.return_nothing.ensures abi)

pub returns-in-Some : goal.returns-in-Some
returns-in-Some g c =
    let abi = c.args.checker.now.abi in
    let new = c.value.new.context in
    of_result (λ found. Walked (SaysValue abi (by_number.Returned c.args.word c.result-result.result) c.get.result.now) nothing c.args.context.now new found)
    (λ found. Walked (SaysPart abi (returned c.args.word c.args.expr.now)) nothing c.args.context.now new found) c.value.result
    (λ found walked. subst (λ (expr : Option Expr). Walked (SaysPart abi (returned c.args.word expr)) nothing c.args.context.now new found) (ap Some c.get.ensures ∙ sym c.in-Some.is)
    (value_returned abi c.args.word c.get.result.now c.result-result.result c.args.context.now new found c.result-result.ensures.is walked))
    c.value.ensures

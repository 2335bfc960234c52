use Rattle.std.proofs.Common.{Bool, subst, sym}
use Rattle.typing.specs.Calls.{length_faults}
use Rattle.expressions.specs.Arguments.{arguments_at}
use Rattle.expressions.specs.Settled.{IsFirstOf}
use Rattle.expressions.proofs.EachArgument.{kinds_at}
use Rattle.expressions.proofs.nodes.arguments.length_fault.Goals as goal

pub returns : goal.returns
returns c n agrees =
    let structs = c.args.context.now.structs in
    subst (λ (built_in : Bool). IsFirstOf (length_faults built_in c.args.callee.name.now c.args.place (kinds_at n structs c.args.params.now) (arguments_at n structs c.args.args.now c.args.known.now)) c.first_of-2.result)
    (sym c.if-not-callee.false)
    (c.first_of-2.ensures _ _ (c.inconstant_length-inconstant.ensures n structs)
    (c.first_of.ensures _ _ (c.large_length-large.ensures n agrees) (c.large_product-product.ensures n c.args.args.now agrees c.requires.count)))

pub inconstant_length-inconstant-requires : goal.inconstant_length-inconstant-requires
inconstant_length-inconstant-requires c = record { count = c.requires.count }

pub large_length-large-requires-clause-count : goal.large_length-large-requires-clause-count
large_length-large-requires-clause-count c = c.requires.count

pub large_length-large-requires-clause-known : goal.large_length-large-requires-clause-known
large_length-large-requires-clause-known c = c.requires.known

pub large_length-large-requires-clause-params : goal.large_length-large-requires-clause-params
large_length-large-requires-clause-params c = c.requires.params

pub large_product-product-requires-clause-known : goal.large_product-product-requires-clause-known
large_product-product-requires-clause-known c = c.requires.known

pub large_product-product-requires-clause-params : goal.large_product-product-requires-clause-params
large_product-product-requires-clause-params c = c.requires.params

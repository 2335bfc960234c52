-- The name of an object or of a typedef: its type, what is broken at it, and what is declared.
use Rattle.cbase.specs.declared.abi.Abi.TheVariants.{Lp64}
use Rattle.expressions.proofs.Growth.{below_only_types}
use Rattle.items.proofs.declarations.GivingNames.{breaks, gives}
use Rattle.items.proofs.declarations.giving.give.Goals as goal

pub given_type-requires : goal.given_type-requires
given_type-requires c = below_only_types c.args.context.now c.found_of_name.new.context (c.in_ok-found.ensures Lp64).only_types c.args.base.ctype c.requires

pub name_fault-requires : goal.name_fault-requires
name_fault-requires c = c.in_ok-ctype.ensures.below

pub returns-in-Some : goal.returns-in-Some
returns-in-Some c abi = breaks abi c.args.storage c.args.base c.args.name.now c.args.sizes.now c.args.context.now c.found_of_name.new.context c.given_type.new.context c.in_ok-ctype.ctype c.in_ok-found.found
    (c.in_ok-found.ensures abi) c.in_ok-ctype.ensures c.in-Some.fault c.name_fault.result c.in-Some.is c.name_fault.ensures

pub declare_name-requires : goal.declare_name-requires
declare_name-requires c = c.in_ok-ctype.ensures.below

pub returns : goal.returns
returns c abi = gives abi c.args.storage c.args.base c.args.name.now c.args.sizes.now c.args.context.now c.found_of_name.new.context c.given_type.new.context c.in_ok-ctype.ctype c.in_ok-found.found
    (c.in_ok-found.ensures abi) c.in_ok-ctype.ensures c.declare_name.new.context c.as_slice.result.now c.name_fault.result c.in_default.is c.name_fault.ensures c.as_slice.ensures
    (λ n agrees. c.in_ok-declare_name.ensures.declared n abi agrees) c.in_ok-declare_name.ensures.bound

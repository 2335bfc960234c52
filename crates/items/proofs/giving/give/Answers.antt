-- The name of an object: its type, what is broken at it, and what is declared.
use Rattle.std.proofs.Common.{length, sym, subst}
use Rattle.cbase.specs.declared.abi.Abi.TheVariants.{Lp64}
use Rattle.typing.specs.environment.Bounds.{DeclaredBelow}
use Rattle.expressions.proofs.Growth.{below_only_types}
use Rattle.items.proofs.GivingObjects.{breaks, gives}
use Rattle.items.proofs.giving.give.Goals as goal

pub given_type-requires : goal.given_type-requires
given_type-requires c = below_only_types c.args.context.now c.found_of_name.new.context (c.in_ok-found.ensures Lp64).only_types c.args.base.ctype c.requires

pub object_of-object-requires : goal.object_of-object-requires
object_of-object-requires c = c.in_ok-given.ensures.below

pub object_fault-requires-clause-given : goal.object_fault-requires-clause-given
object_fault-requires-clause-given c = subst (DeclaredBelow (length c.given_type.new.context.types)) (sym c.object_of-object.ensures.is.given) c.in_ok-given.ensures.below

pub object_fault-requires-clause-whole : goal.object_fault-requires-clause-whole
object_fault-requires-clause-whole c = c.object_of-object.ensures.below

pub returns-in-Some : goal.returns-in-Some
returns-in-Some c abi = breaks abi c.args.storage c.args.base c.args.name.now c.args.sizes.now c.args.context.now c.found_of_name.new.context c.given_type.new.context c.in_ok-given.given c.in_ok-found.found c.object_of-object.result
    (c.in_ok-found.ensures abi) c.in_ok-given.ensures c.object_of-object.ensures.is c.in-Some.fault c.object_fault.result c.in-Some.is c.object_fault.ensures

pub declare-requires : goal.declare-requires
declare-requires c = c.object_of-object.ensures.below

pub returns : goal.returns
returns c abi = gives abi c.args.storage c.args.base c.args.name.now c.args.sizes.now c.args.context.now c.found_of_name.new.context c.given_type.new.context c.in_ok-given.given c.in_ok-found.found c.object_of-object.result
    (c.in_ok-found.ensures abi) c.in_ok-given.ensures c.object_of-object.ensures.is c.declare.new.context c.hand_link.new.context c.object_fault.result c.in_default.is c.object_fault.ensures
    c.object_of-object.ensures.below c.in_ok-declare.ensures.names (λ n agrees. c.in_ok-declare.ensures.declares n abi agrees) c.in_ok-hand_link.ensures

-- What stands behind the name of an object outside of functions.
use Rattle.std.proofs.Common.{length, subst}
use Rattle.typing.specs.declared.environment.entity.DeclaredType.TheVariants.{Whole, UnsizedArray}
use Rattle.typing.specs.environment.Bounds.{DeclaredBelow}
use Rattle.items.proofs.declarations.DeclLevels.{init_within}
use Rattle.items.proofs.FileInitialisers.{not_initialised, some_initialised}
use Rattle.items.proofs.objects.initialised.Goals as goal

pub returns-in_default : goal.returns-in_default
returns-in_default g c = not_initialised c.args.checker.now.abi c.args.name.now c.args.listed c.args.ctype c.args.context.now c.hand_static.new.context c.in_default.is c.in_ok-hand_static.ensures

pub object_initialised-requires-clause-deep : goal.object_initialised-requires-clause-deep
object_initialised-requires-clause-deep g c = init_within c.args.name.now c.in-Some.init c.args.checker.now.depth c.in-Some.is c.requires.deep

pub object_initialised-requires-clause-below : goal.object_initialised-requires-clause-below
object_initialised-requires-clause-below g c = subst (DeclaredBelow (length c.args.context.now.types)) c.in-Whole.is c.requires.below

pub array_initialised-requires-clause-deep : goal.array_initialised-requires-clause-deep
array_initialised-requires-clause-deep g c = init_within c.args.name.now c.in-Some.init c.args.checker.now.depth c.in-Some.is c.requires.deep

pub array_initialised-requires-clause-below : goal.array_initialised-requires-clause-below
array_initialised-requires-clause-below g c = subst (DeclaredBelow (length c.args.context.now.types)) c.in-UnsizedArray.is c.requires.below

pub returns-in-Whole : goal.returns-in-Whole
returns-in-Whole g c = some_initialised c.args.checker.now.abi c.args.name.now c.args.listed c.args.ctype (Whole c.in-Whole.number) c.in-Some.init c.args.context.now c.object_initialised.new.context c.object_initialised.result
    c.in-Some.is c.in-Whole.is c.object_initialised.ensures

pub returns-in-UnsizedArray : goal.returns-in-UnsizedArray
returns-in-UnsizedArray g c = some_initialised c.args.checker.now.abi c.args.name.now c.args.listed c.args.ctype (UnsizedArray c.in-UnsizedArray.item) c.in-Some.init c.args.context.now c.array_initialised.new.context c.array_initialised.result
    c.in-Some.is c.in-UnsizedArray.is c.array_initialised.ensures

-- What stands behind a name.
use Rattle.std.proofs.Common.{length, refl, sym, subst, ◌∙◌, IfOk}
use Rattle.typing.specs.declared.environment.entity.DeclaredType.{DeclaredType}
use Rattle.typing.specs.declared.environment.entity.DeclaredType.TheVariants.{Whole, UnsizedArray}
use Rattle.typing.specs.environment.Bounds.{DeclaredBelow}
use Rattle.expressions.specs.Found.{nothing}
use Rattle.expressions.specs.Walked.{Walked}
use Rattle.items.proofs.declarations.BehindNames.{SaysBehind, not_initialised, surplus_behind, object_behind}
use Rattle.items.proofs.declarations.DeclLevels.{init_within}
use Rattle.items.proofs.declarations.objects.initialised.Goals as goal

pub returns-in_default : goal.returns-in_default
returns-in_default g c = not_initialised c.args.checker.now.abi c.args.storage c.args.ctype c.args.name.now c.args.context.now c.hand_declared.new.context c.in_default.is c.in_ok-hand_declared.ensures

pub ask_surplus-requires-clause-deep : goal.ask_surplus-requires-clause-deep
ask_surplus-requires-clause-deep g c = init_within c.args.name.now c.in-Some.init c.args.checker.now.depth c.in-Some.is c.requires.deep

pub returns-in_default-fixed_of : goal.returns-in_default-fixed_of
returns-in_default-fixed_of g c = surplus_behind c.args.checker.now.abi c.args.storage c.args.ctype c.args.name.now c.args.context.now c.ask_surplus.new.context c.in-Some.init _ c.ask_surplus.result
    c.in-Some.is (sym c.in_default-fixed_of.is ∙ c.fixed_of.ensures) refl c.ask_surplus.ensures

pub object_initialised-requires-clause-deep : goal.object_initialised-requires-clause-deep
object_initialised-requires-clause-deep g c = init_within c.args.name.now c.in-Some.init c.args.checker.now.depth c.in-Some.is c.requires.deep

pub object_initialised-requires-clause-below : goal.object_initialised-requires-clause-below
object_initialised-requires-clause-below g c = subst (DeclaredBelow (length c.args.context.now.types)) c.in-Whole.is c.requires.below

pub array_initialised-requires-clause-deep : goal.array_initialised-requires-clause-deep
array_initialised-requires-clause-deep g c = init_within c.args.name.now c.in-Some.init c.args.checker.now.depth c.in-Some.is c.requires.deep

pub array_initialised-requires-clause-below : goal.array_initialised-requires-clause-below
array_initialised-requires-clause-below g c = subst (DeclaredBelow (length c.args.context.now.types)) c.in-UnsizedArray.is c.requires.below

pub returns-in-Whole : goal.returns-in-Whole
returns-in-Whole g c = subst (λ (t : DeclaredType). IfOk c.object_initialised.result (λ found. Walked (SaysBehind c.args.checker.now.abi c.args.storage t c.args.name.now) nothing c.args.context.now c.object_initialised.new.context found)) (sym c.in-Whole.is)
    (object_behind c.args.checker.now.abi c.args.storage (Whole c.in-Whole.number) c.args.name.now c.args.context.now c.object_initialised.new.context c.in-Some.init c.in-Some-fixed_of.fixed c.object_initialised.result
    c.in-Some.is (sym c.in-Some-fixed_of.is ∙ c.fixed_of.ensures) c.object_initialised.ensures)

pub returns-in-UnsizedArray : goal.returns-in-UnsizedArray
returns-in-UnsizedArray g c = subst (λ (t : DeclaredType). IfOk c.array_initialised.result (λ found. Walked (SaysBehind c.args.checker.now.abi c.args.storage t c.args.name.now) nothing c.args.context.now c.array_initialised.new.context found)) (sym c.in-UnsizedArray.is)
    (object_behind c.args.checker.now.abi c.args.storage (UnsizedArray c.in-UnsizedArray.item) c.args.name.now c.args.context.now c.array_initialised.new.context c.in-Some.init c.in-Some-fixed_of.fixed c.array_initialised.result
    c.in-Some.is (sym c.in-Some-fixed_of.is ∙ c.fixed_of.ensures) c.array_initialised.ensures)

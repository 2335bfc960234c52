-- Two types by their numbers.
use Rattle.std.proofs.Common.{not, eqb, sym, subst}
use Rattle.typing.specs.declared.environment.entity.DeclaredType.{DeclaredType}
use Rattle.typing.specs.declared.environment.entity.DeclaredType.TheVariants.{Whole, UnsizedArray}
use Rattle.typing.specs.environment.Bounds.{DeclaredBelow}
use Rattle.std.proofs.Common.{length}
use Rattle.typing.specs.Declarations.{AreTwoTypes}
use Rattle.expressions.specs.Numbers.{declared_type_at}
use Rattle.items.proofs.declarations.OneNumber.{apart, two_types}
use Rattle.items.proofs.declarations.again.are_two_types.Goals as goal

pub returns-in-Whole-second : goal.returns-in-Whole-second
returns-in-Whole-second c = λ n agrees.
    let test = not (eqb c.in-Whole.number c.in-Whole-second.other) in
    subst (λ (first : DeclaredType). AreTwoTypes (declared_type_at n first) (declared_type_at n c.args.second) test) (sym c.in-Whole.is)
    (subst (λ (second : DeclaredType). AreTwoTypes (declared_type_at n (Whole c.in-Whole.number)) (declared_type_at n second) test) (sym c.in-Whole-second.is)
    (two_types n c.args.context.now agrees c.in-Whole.number c.in-Whole-second.other test
    (subst (DeclaredBelow (length c.args.context.now.types)) c.in-Whole.is c.requires.first) (subst (DeclaredBelow (length c.args.context.now.types)) c.in-Whole-second.is c.requires.second)
    (apart c.in-Whole.number c.in-Whole-second.other)))

pub returns-in-UnsizedArray-second : goal.returns-in-UnsizedArray-second
returns-in-UnsizedArray-second c = λ n agrees.
    subst (λ (first : DeclaredType). AreTwoTypes (declared_type_at n first) (declared_type_at n c.args.second) c.is_of_others.result) (sym c.in-Whole.is)
    (subst (λ (second : DeclaredType). AreTwoTypes (declared_type_at n (Whole c.in-Whole.number)) (declared_type_at n second) c.is_of_others.result) (sym c.in-UnsizedArray-second.is)
    (c.is_of_others.ensures n agrees))

pub returns-in-Whole-second-2 : goal.returns-in-Whole-second-2
returns-in-Whole-second-2 c = λ n agrees.
    subst (λ (first : DeclaredType). AreTwoTypes (declared_type_at n first) (declared_type_at n c.args.second) c.is_of_others-in-Whole-second-2.result) (sym c.in-UnsizedArray.is)
    (subst (λ (second : DeclaredType). AreTwoTypes (declared_type_at n (UnsizedArray c.in-UnsizedArray.item)) (declared_type_at n second) c.is_of_others-in-Whole-second-2.result) (sym c.in-Whole-second-2.is)
    (c.is_of_others-in-Whole-second-2.ensures n agrees))

pub returns-in-UnsizedArray-second-2 : goal.returns-in-UnsizedArray-second-2
returns-in-UnsizedArray-second-2 c = λ n agrees.
    let test = not (eqb c.in-UnsizedArray.item c.in-UnsizedArray-second-2.other) in
    subst (λ (first : DeclaredType). AreTwoTypes (declared_type_at n first) (declared_type_at n c.args.second) test) (sym c.in-UnsizedArray.is)
    (subst (λ (second : DeclaredType). AreTwoTypes (declared_type_at n (UnsizedArray c.in-UnsizedArray.item)) (declared_type_at n second) test) (sym c.in-UnsizedArray-second-2.is)
    (two_types n c.args.context.now agrees c.in-UnsizedArray.item c.in-UnsizedArray-second-2.other test
    (subst (DeclaredBelow (length c.args.context.now.types)) c.in-UnsizedArray.is c.requires.first) (subst (DeclaredBelow (length c.args.context.now.types)) c.in-UnsizedArray-second-2.is c.requires.second)
    (apart c.in-UnsizedArray.item c.in-UnsizedArray-second-2.other)))

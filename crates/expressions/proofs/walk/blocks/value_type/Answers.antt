-- The type of the value of a block.
use Rattle.std.proofs.Common.{◌∙◌, ◌∷◌, refl, sym, subst}
use Rattle.cbase.specs.declared.place.Place.{Place}
use Rattle.typing.specs.declared.ctypes.found.Broken.TheVariants.{Rule}
use Rattle.typing.specs.Faults.{fault}
use Rattle.typing.specs.Typing.{StatementsAre}
use Rattle.expressions.specs.declared.found.Found.TheVariants.{Passes}
use Rattle.expressions.specs.Walked.{Stopped, Says}
use Rattle.expressions.proofs.walk.blocks.value_type.Goals as goal
use Rattle.expressions.proofs.Blocks.{last_struct, last_passes}

pub returns-then-is_struct : goal.returns-then-is_struct
returns-then-is_struct c = λ abi stmt expr rest before at value empty passed.
    subst (λ (place : Place). Stopped (Says abi (λ o. StatementsAre (stmt ∷ rest) o)) before c.args.context.now (fault place (Rule 4))) at
    (last_struct abi stmt rest expr before c.args.context.now c.args.known (Passes c.args.known) value empty refl passed (λ n agrees. sym (c.is_struct.ensures n agrees) ∙ c.if-is_struct.true))

pub returns-in-Ok : goal.returns-in-Ok
returns-in-Ok c = λ abi stmt expr rest before at value empty passed.
    last_passes abi stmt rest expr before c.args.context.now c.value_type.new.self c.args.known (Passes c.args.known) c.in-Ok.ctype value empty refl passed
    (λ n agrees. sym (c.is_struct.ensures n agrees) ∙ c.if-is_struct.false) c.in-Ok.ensures

pub is_struct-requires : goal.is_struct-requires
is_struct-requires c = c.requires

pub value_type-requires : goal.value_type-requires
value_type-requires c = c.requires

-- What the name of an expression stands for, as the code tells it, read by a numbering. The name itself stands in the tree: where the expression is none, no function
-- stands there.
use Rattle.std.specs.Prelude.{ℕ, ◌<◌, List, map, Option, None, Some}
use Rattle.typing.specs.declared.environment.entity.Signature.{Signature}
use Rattle.expressions.specs.Numbers.{Numbering}
use Rattle.c_machine.specs.Program.{Program, functions_in, number_in}
use Rattle.c_machine.specs.Text.{Standing, ObjectStands, ConstantStands, BuiltInStands, NothingStands}
use Rattle.c_machine.specs.Trees.{kind_in, body_stands}
use Rattle.c_text.specs.declared.standing.Standing.{Standing as Told}
use Rattle.c_text.specs.declared.standing.Standing.TheVariants.{Object, Constant, BuiltIn, Body, Nothing}

-- a function that is built in, by the kinds of its parameters and of its result
abbrev pub built_in_by : Numbering → Program → Option (List ℕ) → Signature → Standing
built_in_by n p None signature = NothingStands
built_in_by n p (Some name) signature = BuiltInStands name (map (kind_in p) (map n.ctype signature.parameters)) (kind_in p (n.ctype signature.result))

-- one that has a body, by its number
abbrev pub body_by : Program → Option (List ℕ) → Standing
body_by p None = NothingStands
body_by p (Some name) = body_stands (number_in (functions_in p.items) name)

abbrev pub standing_by : Numbering → Program → Option (List ℕ) → Told → Standing
standing_by n p name (Object token) = ObjectStands token
standing_by n p name (Constant bits) = ConstantStands bits
standing_by n p name (BuiltIn signature) = built_in_by n p name (n.signature signature)
standing_by n p name Body = body_by p name
standing_by n p name Nothing = NothingStands

-- its signature is one of so many
abbrev pub StandingBelow : ℕ → Told → Type 0
StandingBelow count (Object token) = Unit {0}
StandingBelow count (Constant bits) = Unit {0}
StandingBelow count (BuiltIn signature) = signature < count
StandingBelow count Body = Unit {0}
StandingBelow count Nothing = Unit {0}

-- What is told of a part, as that of an expression, of a type, or of neither.
use Rattle.std.specs.Prelude.{Result, Ok, Err}
use Rattle.cbase.specs.declared.no_memory.NoMemory.{NoMemory}
use Rattle.expressions.specs.declared.found.Found.{Found}
use Rattle.expressions.specs.declared.found.Found.TheVariants.{Passes, Refused}
use Rattle.expressions.specs.declared.known.Known.{Known}
use Rattle.expressions.specs.declared.named_type.NamedType.{NamedType}
use Rattle.expressions.specs.declared.part.Told.{Told}
use Rattle.expressions.specs.declared.part.Told.TheVariants as told

abbrev pub IsOfExpression : Found Told → Type 0
IsOfExpression (Passes (told.Expression known)) = Unit {0}
IsOfExpression (Passes (told.TypeName named)) = ⊥
IsOfExpression (Passes told.Nothing) = ⊥
IsOfExpression (Refused first) = Unit {0}

abbrev pub IsOfType : Found Told → Type 0
IsOfType (Passes (told.Expression known)) = ⊥
IsOfType (Passes (told.TypeName named)) = Unit {0}
IsOfType (Passes told.Nothing) = ⊥
IsOfType (Refused first) = Unit {0}

abbrev pub IsOfNothing : Found Told → Type 0
IsOfNothing (Passes (told.Expression known)) = ⊥
IsOfNothing (Passes (told.TypeName named)) = ⊥
IsOfNothing (Passes told.Nothing) = Unit {0}
IsOfNothing (Refused first) = Unit {0}

abbrev pub expression_told : Result (Found Known) NoMemory → Result (Found Told) NoMemory
expression_told (Ok (Passes known)) = Ok (Passes (told.Expression known))
expression_told (Ok (Refused first)) = Ok (Refused first)
expression_told (Err error) = Err error

abbrev pub type_told : Result (Found NamedType) NoMemory → Result (Found Told) NoMemory
type_told (Ok (Passes named)) = Ok (Passes (told.TypeName named))
type_told (Ok (Refused first)) = Ok (Refused first)
type_told (Err error) = Err error

abbrev pub nothing_told : Result (Found (Unit {0})) NoMemory → Result (Found Told) NoMemory
nothing_told (Ok (Passes unit)) = Ok (Passes told.Nothing)
nothing_told (Ok (Refused first)) = Ok (Refused first)
nothing_told (Err error) = Err error

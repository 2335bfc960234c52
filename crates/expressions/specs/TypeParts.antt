-- What is found of the parts that name a type: a type name, a struct or an enum with braces, and `typeof` of an expression.
use Rattle.std.specs.Prelude.{Some, None, Result, Ok, Err}
use Rattle.cbase.specs.declared.abi.Abi.{Abi}
use Rattle.cbase.specs.declared.no_memory.NoMemory.{NoMemory}
use Rattle.cbase.specs.declared.tree.expr.ExprForm.TheOpen.{Struct, Enum}
use Rattle.typing.specs.Typing.{NameOfTypeIs, WordsAre}
use Rattle.expressions.specs.declared.found.Found.{Found}
use Rattle.expressions.specs.declared.found.Found.TheVariants.{Passes, Refused}
use Rattle.expressions.specs.declared.known.Known.{Known}
use Rattle.expressions.specs.declared.named_type.NamedType.{NamedType}
use Rattle.expressions.specs.declared.part.Part.{Part}
use Rattle.expressions.specs.declared.part.Part.TheVariants.{Expression, TypeName as NameOfType, Statement, Initialiser, Members, Enumerators}
use Rattle.expressions.specs.Context.{Context}
use Rattle.expressions.specs.Found.{a_type}
use Rattle.expressions.specs.Walked.{Walked, Says}

abbrev pub IsTypePart : Part → Type 0
IsTypePart (Expression expr) = ⊥
IsTypePart (NameOfType name) = Unit {0}
IsTypePart (Statement stmt) = ⊥
IsTypePart (Initialiser subject slot init) = ⊥
IsTypePart (Members name fields) = Unit {0}
IsTypePart (Enumerators name values) = Unit {0}

abbrev pub IsTypeTold : Abi → Part → Context → Context → Found NamedType → Type 0
IsTypeTold abi (Expression expr) old new found = ⊥
IsTypeTold abi (NameOfType name) old new found = Walked (Says abi (λ o. NameOfTypeIs name.now o)) a_type old new found
IsTypeTold abi (Statement stmt) old new found = ⊥
IsTypeTold abi (Initialiser subject slot init) old new found = ⊥
IsTypeTold abi (Members name fields) old new found = Walked (Says abi (λ o. WordsAre (Struct name.now (Some fields.now)) o)) a_type old new found
IsTypeTold abi (Enumerators name values) old new found = Walked (Says abi (λ o. WordsAre (Enum name.now (Some values.now)) o)) a_type old new found

-- `typeof` has the type of the expression, and nothing more is found of it
abbrev pub typeof_found : Result (Found Known) NoMemory → Result (Found NamedType) NoMemory
typeof_found (Ok (Passes known)) = Ok (Passes (record { ctype = known.ctype; found = None }))
typeof_found (Ok (Refused first)) = Ok (Refused first)
typeof_found (Err error) = Err error

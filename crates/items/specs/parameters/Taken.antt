-- What a parameter is by its type and its sizes, and what declares it.
use Rattle.std.specs.Prelude.{◌≡◌, ◌<◌, ℕ, Bool, true, false, List, [], ◌∷◌, Option, None, Some, is_some, length}
use Rattle.cbase.specs.declared.abi.Abi.{Abi}
use Rattle.cbase.specs.declared.place.Place.{Place}
use Rattle.cbase.specs.declared.tree.decl.Param.{Param}
use Rattle.cbase.specs.declared.tree.expr.ExprForm.TheViews.{out-Param}
use Rattle.cbase.specs.declared.tree.identifier.Identifier.{Identifier}
use Rattle.typing.specs.declared.environment.entity.DeclaredType.TheVariants.{Whole}
use Rattle.typing.specs.declared.environment.entity.Entity.TheVariants.{Object}
use Rattle.typing.specs.declared.environment.entity.Lifetime.TheVariants.{Automatic}
use Rattle.typing.specs.declared.environment.environment.Environment.{Environment}
use Rattle.typing.specs.environment.Linkage.{own_declared}
use Rattle.typing.specs.environment.Scopes.{found_here}
use Rattle.typing.specs.declared.size.Size.{Size}
use Rattle.typing.specs.Declarations.{parameter, parameter_declared, is_named_here}
use Rattle.expressions.specs.declared.named_type.NamedType.{NamedType as NamedByNumber}
use Rattle.expressions.specs.Context.{Context, declared, Agrees, Grows, OnlyTypes}
use Rattle.expressions.specs.Language.{language}
use Rattle.expressions.specs.Numbers.{Numbering, named_at}
use Rattle.items.specs.declared.parameters.parameter.Parameter.{Parameter as ParameterByNumber}
use Rattle.items.specs.parameters.Parameters.{parameter_at}

-- the sizes behind the outermost one
abbrev pub behind_first : List Size → List Size
behind_first [] = []
behind_first (size ∷ sizes) = sizes

-- where a name stands, and whether the innermost scope declares it
abbrev pub place_in : Option Identifier → Option Place
place_in None = None
place_in (Some name) = Some name.place

abbrev pub is_here : Option Identifier → Environment → Bool
is_here None env = false
is_here (Some name) env = is_some (found_here name.name env.names)

-- an object of the type of that number, which is in scope where it has a name
abbrev pub object_named : Option Identifier → ℕ → Context → Context
object_named None ctype context = context
object_named (Some name) ctype context = record context { environment = own_declared name.name (Object (Whole ctype) name.place.at Automatic true) context.environment }

-- what is told of a parameter where nothing but types gets numbers
pub record IsParameter (abi : Abi) (param : Param) (base : NamedByNumber) (sizes : List Size) (old new : Context) (told : ParameterByNumber) : Type 0 where
  pub only_types : OnlyTypes old new
  pub below : told.ctype < length new.types
  pub meant : (n : Numbering) → Agrees n new
      → parameter_at n told ≡ parameter abi old.structs (named_at n base) (out-Param param) sizes (is_named_here (language abi n) (out-Param param).name (declared old))

-- and where it is in scope behind it
pub record IsTaken (abi : Abi) (param : Param) (base : NamedByNumber) (sizes : List Size) (old new : Context) (told : ParameterByNumber) : Type 0 where
  pub grows : Grows old new
  pub handed : new.handed ≡ old.handed
  pub below : told.ctype < length new.types
  pub meant : (n : Numbering) → Agrees n new
      → parameter_at n told ≡ parameter abi old.structs (named_at n base) (out-Param param) sizes (is_named_here (language abi n) (out-Param param).name (declared old))
  pub declares : (n : Numbering) → Agrees n new → declared new ≡ parameter_declared (language abi n) (out-Param param).name (n.ctype told.ctype) (declared old)

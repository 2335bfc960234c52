-- Parameters that pass, as code keeps them, and what is meant by them.
use Rattle.std.specs.Prelude.{◌<◌, ℕ, Bool, not, List, [], ◌++◌, map, All, Option, None, Some}
use Rattle.cbase.specs.declared.place.Place.{Place}
use Rattle.typing.specs.declared.ctypes.found.Broken.TheVariants.{Rule}
use Rattle.typing.specs.declared.fault.Fault.{Fault}
use Rattle.typing.specs.Declarations.{Parameter}
use Rattle.typing.specs.Faults.{unless}
use Rattle.expressions.specs.Found.{Reading}
use Rattle.expressions.specs.Numbers.{Numbering}
use Rattle.items.specs.declared.parameters.parameter.Parameter.{Parameter as ParameterByNumber}

-- what is broken at the name of a parameter, where it has one: whether the list has the name before it, and whether its type is `void`
abbrev pub faults_at : Option Place → Bool → Bool → List Fault
faults_at None again incomplete = []
faults_at (Some place) again incomplete = unless (not again) place (Rule 2) ++ unless (not incomplete) place (Rule 3)

abbrev pub parameter_at : Numbering → ParameterByNumber → Parameter
parameter_at n param = record { ctype = n.ctype param.ctype; found = param.found; faults = faults_at param.place param.again param.incomplete }

-- the numbers of their types
abbrev pub numbers_of : List ParameterByNumber → List ℕ
numbers_of params = map (λ param. param.ctype) params

-- a parameter, and parameters that are kept in a list
abbrev pub a_parameter : Reading ParameterByNumber Parameter
a_parameter = record { means = parameter_at; IsBelow = λ count param. param.ctype < count }

abbrev pub some_parameters : List ParameterByNumber → Reading (Unit {0}) (List Parameter)
some_parameters params = record { means = λ n told. map (parameter_at n) params; IsBelow = λ count told. All (λ param. param.ctype < count) params }

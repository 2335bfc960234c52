-- What is found at a constant, by what its spelling means (C11 6.4.4).
use Rattle.std.specs.Prelude.{List, [], ◌∷◌}
use Rattle.cbase.specs.declared.ctype.CType.TheVariants.{Void}
use Rattle.cbase.specs.declared.place.Place.{Place}
use Rattle.typing.specs.declared.constants.meaning.Meaning.{Meaning}
use Rattle.typing.specs.declared.constants.meaning.Meaning.TheVariants.{NoConstant, FitsNoType, Known as KnownConstant}
use Rattle.typing.specs.declared.ctypes.found.Broken.TheVariants.{Rule}
use Rattle.typing.specs.declared.fault.Fault.{Fault}
use Rattle.typing.specs.Faults.{fault}
use Rattle.typing.specs.Known.{Known, plain}
use Rattle.typing.specs.Nodes.{constant_known}

abbrev pub constant_faults : Place → Meaning → List Fault
constant_faults place NoConstant = fault place (Rule 9) ∷ []
constant_faults place FitsNoType = fault place (Rule 9) ∷ []
constant_faults place (KnownConstant constant) = []

abbrev pub constant_told : Meaning → Known
constant_told NoConstant = plain Void
constant_told FitsNoType = plain Void
constant_told (KnownConstant constant) = constant_known constant

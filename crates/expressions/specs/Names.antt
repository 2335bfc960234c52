-- What is found at a name, by what it stands for (C11 6.5.1p2).
use Rattle.std.specs.Prelude.{◌++◌, List, [], ◌∷◌, Option, None, Some}
use Rattle.cbase.specs.declared.ctype.CType.TheVariants.{Void}
use Rattle.cbase.specs.declared.place.Place.{Place}
use Rattle.cbase.specs.declared.structs.StructDef.{StructDef}
use Rattle.typing.specs.declared.ctypes.found.Broken.TheVariants.{Construct, Rule}
use Rattle.typing.specs.declared.fault.Fault.{Fault}
use Rattle.typing.specs.Entities.{Entity, ObjectIs, FunctionIs, EnumeratorIs, TypedefIs}
use Rattle.typing.specs.Faults.{fault}
use Rattle.typing.specs.Known.{Known, plain}
use Rattle.typing.specs.Nodes.{is_sized, object_faults, object_known, enumerator_known, function_faults}

abbrev pub name_faults : List StructDef → Place → Option Entity → List Fault
name_faults structs place None = fault place (Rule 1) ∷ []
name_faults structs place (Some (TypedefIs t)) = fault place (Rule 1) ∷ []
name_faults structs place (Some (ObjectIs object)) = object_faults place object (is_sized structs object.ctype)
name_faults structs place (Some (EnumeratorIs value)) = []
name_faults structs place (Some (FunctionIs function)) = function_faults place function ++ fault place (Construct 20) ∷ []

abbrev pub name_told : Option Entity → Known
name_told None = plain Void
name_told (Some (TypedefIs t)) = plain Void
name_told (Some (ObjectIs object)) = object_known object
name_told (Some (EnumeratorIs value)) = enumerator_known value
name_told (Some (FunctionIs function)) = plain Void

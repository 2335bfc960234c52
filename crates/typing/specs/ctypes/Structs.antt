-- The structs of a table of types: a member has the number of its type. They are read off as structs of C (C11 6.7.2.1).
use Rattle.std.specs.Prelude.{List, map}
use Rattle.cbase.specs.declared.ctype.CType.{CType}
use Rattle.cbase.specs.declared.structs.Field.{Field}
use Rattle.cbase.specs.declared.structs.StructDef.{StructDef}
use Rattle.typing.specs.declared.ctypes.structs.Member.{Member}
use Rattle.typing.specs.declared.ctypes.structs.Entry.{Entry}
use Rattle.typing.specs.ctypes.Table.{type_at}

-- what a table of types stands for: its types, each at its number, and its structs, each at its number
pub record TypeTable : Type 0 where
  pub types : List CType
  pub structs : List StructDef

-- a member as a field, where `types` are those of the numbers
abbrev pub field_of : List CType → Member → Field
field_of types member = record { name = member.name; ctype = type_at types member.ctype }

-- the members of a struct as its fields
abbrev pub fields_of : List CType → List Member → List Field
fields_of types members = map (field_of types) members

-- a struct of the table as a struct of C
abbrev pub struct_of : List CType → Entry → StructDef
struct_of types entry = record { name = entry.name; complete = entry.complete; fields = fields_of types entry.members }

-- the structs of the table
abbrev pub read_off : List CType → List Entry → List StructDef
read_off types entries = map (struct_of types) entries

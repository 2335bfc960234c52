-- What a type name is (C11 6.7.7): the type, and what is found at the expression that holds it.
use Rattle.std.specs.Prelude.{ℕ, zero, suc, Bool, true, false, List, [], ◌∷◌, Option, None, Some, nat_le, if◌then◌else◌, ℤ, pos, negsuc}
use Rattle.cbase.specs.declared.abi.Abi.{Abi}
use Rattle.cbase.specs.declared.ctype.CType.{CType}
use Rattle.cbase.specs.declared.ctype.CType.TheVariants.{Void as VoidType, Bool as BoolType, Int as IntType, Pointer as PointerType, Array as ArrayType}
use Rattle.cbase.specs.declared.layout.Layout.{Layout}
use Rattle.cbase.specs.declared.structs.StructDef.{StructDef}
use Rattle.cbase.specs.declared.tree.spec.BasicType.{BasicType}
use Rattle.cbase.specs.declared.tree.spec.BasicType.TheVariants.{Void as VoidWord, Bool as BoolWord, Integer as IntegerWords}
use Rattle.cbase.specs.IntegerSizes.{bytes_of_rank}
use Rattle.cbase.specs.Layout.{layout_of}
use Rattle.arithmetic.specs.Value.{value}
use Rattle.typing.specs.declared.ctypes.found.Broken.{Broken}
use Rattle.typing.specs.declared.ctypes.found.Broken.TheVariants.{Construct, Rule}
use Rattle.typing.specs.ctypes.Kinds.{Kind, Integer}
use Rattle.typing.specs.values.Values.{is_whole}
use Rattle.typing.specs.declared.size.Size.{Size}
use Rattle.typing.specs.declared.size.Size.TheVariants.{Counted, NotConstant, LeftOut}
use Rattle.typing.specs.Entities.{Entity, ObjectIs, FunctionIs, EnumeratorIs, TypedefIs}
use Rattle.typing.specs.Faults.{least}

-- the least of what is found is named (`least`). An array whose size is no constant, or is left out, is taken as one of one item, and a
-- name of no type as `void`: what holds them is refused
pub record NamedType : Type 0 where
  pub ctype : CType
  pub found : Option Broken

abbrev pub whole : CType → NamedType
whole t = record { ctype = t; found = None }

-- a type of keywords alone (C11 6.7.2p5)
abbrev pub basic_type : Abi → BasicType → CType
basic_type abi VoidWord = VoidType
basic_type abi BoolWord = BoolType
basic_type abi (IntegerWords rank signed) = IntType (bytes_of_rank abi rank) signed

-- a typedef's type; one that cannot be written down is incomplete
abbrev pub typedef_type : Option CType → NamedType
typedef_type None = record { ctype = VoidType; found = Some (Rule 3) }
typedef_type (Some t) = whole t

-- what names no type is rule 1
abbrev pub no_type : NamedType
no_type = record { ctype = VoidType; found = Some (Rule 1) }

-- a name, by what it stands for, as the name of a type (C11 6.7.8p3)
abbrev pub typedef_of : Option Entity → NamedType
typedef_of None = no_type
typedef_of (Some (ObjectIs object)) = no_type
typedef_of (Some (FunctionIs function)) = no_type
typedef_of (Some (EnumeratorIs value)) = no_type
typedef_of (Some (TypedefIs t)) = typedef_type t

-- the size that a constant is: at least one
abbrev pub at_least_one : ℤ → Option Size
at_least_one (pos zero) = None
at_least_one (pos (suc before)) = Some (Counted (suc before))
at_least_one (negsuc before) = None

-- an expression as a size, judged by its value in its own type
abbrev pub size_of : Kind → Option ℕ → Option Size
size_of (Integer t) (Some bits) = if is_whole t then at_least_one (value t.bytes t.signed bits) else Some NotConstant
size_of kind bits = Some NotConstant

abbrev pub items : Size → ℕ
items (Counted count) = count
items NotConstant = 1
items LeftOut = 1

-- stars behind a type, and sizes behind these, the outermost first
abbrev pub with_stars : ℕ → CType → CType
with_stars zero t = t
with_stars (suc stars) t = with_stars stars (PointerType t)

abbrev pub with_sizes : List Size → CType → CType
with_sizes [] t = t
with_sizes (size ∷ sizes) t = ArrayType (with_sizes sizes t) (items size)

-- what is found of a size: an array whose size is no integer constant expression is construct 18, an array of no size is incomplete
abbrev pub found_of_size : Size → Option Broken
found_of_size (Counted count) = None
found_of_size NotConstant = Some (Construct 18)
found_of_size LeftOut = Some (Rule 3)

abbrev pub found_of_sizes : List Size → Option Broken
found_of_sizes [] = None
found_of_sizes (size ∷ sizes) = least (found_of_size size) (found_of_sizes sizes)

-- whether a type has more than 65,536 bytes, with its padding
abbrev pub is_over : Option Layout → Bool
is_over None = false
is_over (Some layout) = if nat_le layout.size 65536 then false else true

abbrev pub is_large : Abi → List StructDef → CType → Bool
is_large abi structs t = is_over (layout_of abi structs t)

-- the type of stars and sizes behind another one
abbrev pub declared_type : NamedType → ℕ → List Size → CType
declared_type base stars sizes = with_sizes sizes (with_stars stars base.ctype)

-- with what is found of it; a large type is construct 19
abbrev pub declared : NamedType → ℕ → List Size → Bool → NamedType
declared base stars sizes large = record {
  ctype = declared_type base stars sizes;
  found = least base.found (least (found_of_sizes sizes) (if large then Some (Construct 19) else None));
}

-- What code finds of a part of a tree, and what it means by it.
use Rattle.std.specs.Prelude.{◌<◌, ℕ, List, [], ◌∷◌, map, All}
use Rattle.cbase.specs.declared.ctype.CType.{CType}
use Rattle.cbase.specs.declared.structs.Field.{Field}
use Rattle.typing.specs.declared.ctypes.structs.Member.{Member}
use Rattle.typing.specs.declared.size.Size.{Size}
use Rattle.typing.specs.Known.{Known}
use Rattle.typing.specs.NamedTypes.{NamedType}
use Rattle.typing.specs.Told.{Told, OperandIs, TypeIs, IndexIs, SizeIs, ValueIs, NoFunction}
use Rattle.expressions.specs.declared.known.Known.{Known as KnownByNumber}
use Rattle.expressions.specs.declared.named_type.NamedType.{NamedType as NamedByNumber}
use Rattle.expressions.specs.Numbers.{Numbering, known_at, named_at, fields_at}

-- how what is kept with numbers is read: what it means, and that the numbers in it are those of types among so many
pub record Reading (B A : Type 0) : Type 1 where
  pub means : Numbering → B → A
  pub IsBelow : ℕ → B → Type 0

-- an expression; an operand, alone or with others
abbrev pub an_expression : Reading KnownByNumber Known
an_expression = record { means = known_at; IsBelow = λ count known. known.ctype < count }

abbrev pub an_operand : Reading KnownByNumber Told
an_operand = record { means = λ n known. OperandIs (known_at n known); IsBelow = λ count known. known.ctype < count }

abbrev pub one_operand : Reading KnownByNumber (List Told)
one_operand = record { means = λ n known. OperandIs (known_at n known) ∷ []; IsBelow = λ count known. known.ctype < count }

abbrev pub two_operands : Reading (KnownByNumber × KnownByNumber) (List Told)
two_operands = record {
  means = λ n both. OperandIs (known_at n both.0) ∷ OperandIs (known_at n both.1) ∷ [];
  IsBelow = λ count both. (both.0.ctype < count) × (both.1.ctype < count);
}

abbrev pub three_operands : Reading (KnownByNumber × KnownByNumber × KnownByNumber) (List Told)
three_operands = record {
  means = λ n all. OperandIs (known_at n all.0) ∷ OperandIs (known_at n all.1) ∷ OperandIs (known_at n all.2) ∷ [];
  IsBelow = λ count all. (all.0.ctype < count) × ((all.1.ctype < count) × (all.2.ctype < count));
}

-- operands that are kept in a list
abbrev pub operands_at : Numbering → List KnownByNumber → List Told
operands_at n known = map (λ one. OperandIs (known_at n one)) known

abbrev pub some_operands : List KnownByNumber → Reading (Unit {0}) (List Told)
some_operands known = record { means = λ n told. operands_at n known; IsBelow = λ count told. All (λ one. one.ctype < count) known }

-- a callee that names no function
abbrev pub no_function : Reading (Unit {0}) Told
no_function = record { means = λ n told. NoFunction; IsBelow = λ count told. Unit {0} }

-- a type name, alone or with what stands behind it
abbrev pub a_type : Reading NamedByNumber NamedType
a_type = record { means = named_at; IsBelow = λ count named. named.ctype < count }

abbrev pub one_type : Reading NamedByNumber (List Told)
one_type = record { means = λ n named. TypeIs (named_at n named) ∷ []; IsBelow = λ count named. named.ctype < count }

abbrev pub a_type_and_operand : Reading (NamedByNumber × KnownByNumber) (List Told)
a_type_and_operand = record {
  means = λ n both. TypeIs (named_at n both.0) ∷ OperandIs (known_at n both.1) ∷ [];
  IsBelow = λ count both. (both.0.ctype < count) × (both.1.ctype < count);
}

abbrev pub a_type_and_indices : List ℕ → Reading NamedByNumber (List Told)
a_type_and_indices words = record { means = λ n named. TypeIs (named_at n named) ∷ map IndexIs words; IsBelow = λ count named. named.ctype < count }

-- indices that are kept in a list, and one of them
abbrev pub some_indices : List ℕ → Reading (Unit {0}) (List Told)
some_indices words = record { means = λ n told. map IndexIs words; IsBelow = λ count told. Unit {0} }

abbrev pub an_index : Reading ℕ Told
an_index = record { means = λ n word. IndexIs word; IsBelow = λ count word. Unit {0} }

-- the size of an array, and sizes that are kept in a list
abbrev pub a_size : Reading Size Told
a_size = record { means = λ n size. SizeIs size; IsBelow = λ count size. Unit {0} }

abbrev pub some_sizes : List Size → Reading (Unit {0}) (List Size)
some_sizes sizes = record { means = λ n told. sizes; IsBelow = λ count told. Unit {0} }

-- the members of a struct, which are kept in a list
abbrev pub some_members : List Member → Reading (Unit {0}) (List Field)
some_members members = record { means = λ n told. fields_at n members; IsBelow = λ count told. All (λ member. member.ctype < count) members }

-- the value of a constant of an enum, as the bits of an int
abbrev pub some_bits : Reading ℕ ℕ
some_bits = record { means = λ n bits. bits; IsBelow = λ count bits. Unit {0} }

-- the size of a member
abbrev pub a_member_size : Reading Size Size
a_member_size = record { means = λ n size. size; IsBelow = λ count size. Unit {0} }

-- the type of a statement expression's value
abbrev pub a_value_type : Reading ℕ CType
a_value_type = record { means = λ n number. n.ctype number; IsBelow = λ count number. number < count }

abbrev pub one_value : Reading ℕ (List Told)
one_value = record { means = λ n number. ValueIs (n.ctype number) ∷ []; IsBelow = λ count number. number < count }

abbrev pub nothing : Reading (Unit {0}) (Unit {0})
nothing = record { means = λ n told. tt; IsBelow = λ count told. Unit {0} }

-- nothing stands in it
abbrev pub no_parts : Reading (Unit {0}) (List Told)
no_parts = record { means = λ n told. []; IsBelow = λ count told. Unit {0} }

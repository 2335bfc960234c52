-- What a declaration in a block gives a name, by numbers, and what is found there.
use Rattle.std.specs.Prelude.{◌≡◌, ◌++◌, ℕ, Bool, true, false, List, [], ◌∷◌, Option, None, Some, is_some, length, option_map, option_and_then}
use Rattle.cbase.specs.declared.abi.Abi.{Abi}
use Rattle.cbase.specs.declared.ctype.CType.{CType}
use Rattle.cbase.specs.declared.ctype.CType.TheVariants.{Array as ArrayType}
use Rattle.cbase.specs.declared.place.Place.{Place}
use Rattle.cbase.specs.declared.tree.decl.Declared.{Declared}
use Rattle.cbase.specs.declared.tree.decl.Storage.{Storage}
use Rattle.cbase.specs.declared.tree.decl.Storage.TheVariants.{Plain, Typedef, Extern, Static}
use Rattle.cbase.specs.declared.tree.expr.ExprForm.TheViews.{out-Declared}
use Rattle.cbase.specs.declared.tree.identifier.Identifier.{Identifier}
use Rattle.typing.specs.declared.environment.entity.Binding.{Binding}
use Rattle.typing.specs.declared.environment.entity.Binding.TheVariants.{Own, WithLinkage}
use Rattle.typing.specs.declared.environment.entity.DeclaredType.{DeclaredType}
use Rattle.typing.specs.declared.environment.entity.DeclaredType.TheVariants.{Whole, UnsizedArray}
use Rattle.typing.specs.declared.environment.entity.Entity.{Entity}
use Rattle.typing.specs.declared.environment.entity.Entity.TheVariants as entity
use Rattle.typing.specs.declared.environment.entity.Linked.{Linked as LinkedByNumber}
use Rattle.typing.specs.declared.environment.environment.Environment.{Environment}
use Rattle.typing.specs.environment.Bounds.{DeclaredBelow}
use Rattle.typing.specs.environment.Environment.{visible_type}
use Rattle.typing.specs.environment.Linkage.{linked_declared, own_declared}
use Rattle.typing.specs.environment.Names.{value_in}
use Rattle.typing.specs.environment.Scopes.{found_here}
use Rattle.typing.specs.declared.ctypes.found.Broken.{Broken}
use Rattle.typing.specs.declared.fault.Fault.{Fault}
use Rattle.typing.specs.declared.size.Size.{Size}
use Rattle.typing.specs.declared.size.Size.TheVariants.{Counted, NotConstant, LeftOut}
use Rattle.typing.specs.Braces.{Opens, IsTwice}
use Rattle.typing.specs.Declarations.{AreTwo, IsAgain, IsOther, alone, faults_of_name, found_of_name, given, given_type, is_complete, name_declared, name_faults, told_faults}
use Rattle.typing.specs.Entities.{Linked, NameHere, ObjectLinked}
use Rattle.typing.specs.Faults.{IsFirst, all_at}
use Rattle.typing.specs.NamedTypes.{declared_type, is_large}
use Rattle.expressions.specs.declared.found.Found.{Found}
use Rattle.expressions.specs.declared.found.Found.TheVariants.{Passes, Refused}
use Rattle.expressions.specs.declared.handed_row.HandedRow.{HandedRow}
use Rattle.expressions.specs.declared.handed_row.HandedRow.TheVariants.{Object as ObjectRow}
use Rattle.expressions.specs.declared.named_type.NamedType.{NamedType as NamedByNumber}
use Rattle.expressions.specs.Context.{Context, declared, Agrees, Grows, OnlyTypes}
use Rattle.expressions.specs.Language.{language, linked_object, definition_by_now, lifetime_of, token_by_now}
use Rattle.expressions.specs.Numbers.{Numbering, declared_type_at, linked_at, name_here_at, named_at}
use Rattle.expressions.specs.Settled.{IsFirstOf}

-- whether the outermost of some sizes is left out
abbrev pub is_left_out : List Size → Bool
is_left_out [] = false
is_left_out (LeftOut ∷ sizes) = true
is_left_out (Counted count ∷ sizes) = false
is_left_out (NotConstant ∷ sizes) = false

-- the type that a name has by words, stars and sizes
pub record IsGivenType (base : NamedByNumber) (stars : ℕ) (sizes : List Size) (old new : Context) (t : DeclaredType) : Type 0 where
  pub only_types : OnlyTypes old new
  pub below : DeclaredBelow (length new.types) t
  pub meant : (n : Numbering) → Agrees n new → declared_type_at n t ≡ given_type (named_at n base) stars sizes

-- and what is found of it
pub record IsFoundOfName (abi : Abi) (base : NamedByNumber) (stars : ℕ) (sizes : List Size) (old new : Context) (found : Option Broken) : Type 0 where
  pub only_types : OnlyTypes old new
  pub meant : (n : Numbering) → Agrees n new
      → found ≡ found_of_name (named_at n base) sizes (is_large abi old.structs (declared_type (named_at n base) stars sizes))

-- what the innermost scope of a context says of a name, and what has linkage under it
abbrev pub here_at : Numbering → Context → List ℕ → Option NameHere
here_at n context name = option_map (name_here_at n) (found_here name context.environment.names)

abbrev pub linked_now : Numbering → Context → List ℕ → Option Linked
linked_now n context name = option_and_then (linked_at n) (value_in name context.environment.linked)

-- whether a scope says of a name that it stands for something without linkage
abbrev pub is_own : Option Binding → Bool
is_own None = false
is_own (Some (Own entity)) = true
is_own (Some (WithLinkage items)) = false

-- whether a scope says of the name of a typedef that it is something else
abbrev pub IsEntityAgain : Entity → DeclaredType → Bool → Type 0
IsEntityAgain (entity.Typedef before) t again = AreTwo before t again
IsEntityAgain (entity.Object before token lifetime defined) t again = again ≡ true
IsEntityAgain (entity.Enumerator bits) t again = again ≡ true
IsEntityAgain (entity.Function signature defined built_in) t again = again ≡ true

abbrev pub IsTypedefAgain : Option Binding → DeclaredType → Bool → Type 0
IsTypedefAgain None t again = again ≡ false
IsTypedefAgain (Some (WithLinkage items)) t again = again ≡ true
IsTypedefAgain (Some (Own entity)) t again = IsEntityAgain entity t again

-- whether what has linkage is another thing than an object of a type
abbrev pub IsOtherLinked : Numbering → Option LinkedByNumber → DeclaredType → Bool → Type 0
IsOtherLinked n linked t other = IsOther (option_and_then (linked_at n) linked) (ObjectLinked (declared_type_at n t)) other

-- the type that the declarations of an object give together
abbrev pub composite_in : Entity → DeclaredType → DeclaredType
composite_in (entity.Object (Whole number) token lifetime defined) t = Whole number
composite_in (entity.Object (UnsizedArray item) token lifetime defined) t = t
composite_in (entity.Typedef before) t = t
composite_in (entity.Enumerator bits) t = t
composite_in (entity.Function signature defined built_in) t = t

abbrev pub composite_by_now : Option LinkedByNumber → DeclaredType → DeclaredType
composite_by_now None t = t
composite_by_now (Some meaning) t = composite_in meaning.entity t

-- the type that an object has where it is declared, by the number of the type that visible declarations give it, if they give it a whole one; and the number of
-- the type of the items of an array whose size is not known there
abbrev pub seen_in : Option ℕ → DeclaredType → DeclaredType
seen_in None t = t
seen_in (Some number) t = Whole number

abbrev pub unsized_in : DeclaredType → Option ℕ
unsized_in (Whole number) = None
unsized_in (UnsizedArray item) = Some item

-- a name is declared by the storage word of its declaration
abbrev pub linked_by_now : List ℕ → ℕ → DeclaredType → Environment → LinkedByNumber
linked_by_now name token t env = linked_object (composite_by_now (value_in name env.linked) t) (token_by_now (value_in name env.linked) token)
    (is_some (value_in name env.definitions)) (definition_by_now (value_in name env.linked))

abbrev pub bound : List ℕ → ℕ → Storage → DeclaredType → Environment → Environment
bound name token Plain t env = own_declared name (entity.Object t token (lifetime_of false) true) env
bound name token Static t env = own_declared name (entity.Object t token (lifetime_of true) true) env
bound name token Typedef t env = own_declared name (entity.Typedef t) env
bound name token Extern t env = linked_declared name (unsized_in (seen_in (visible_type name env) t)) (linked_by_now name token t env) env

-- what is handed on of an object without an initialiser
abbrev pub object_rows : Place → Storage → DeclaredType → List HandedRow
object_rows place Plain (Whole number) = ObjectRow place.at number false false ∷ []
object_rows place Static (Whole number) = ObjectRow place.at number true false ∷ []
object_rows place Typedef (Whole number) = []
object_rows place Extern (Whole number) = []
object_rows place storage (UnsizedArray item) = []

-- whether an object lives as long as the program runs
abbrev pub fixed_of : Storage → Option Bool
fixed_of Plain = Some false
fixed_of Static = Some true
fixed_of Typedef = None
fixed_of Extern = None

-- what is broken at a name of a type, of which that is found: nothing, or the first of it
pub record IsJudged (n : Numbering) (context : Context) (storage : Storage) (name : Declared) (t : DeclaredType) (found : Option Broken) (first : Option Fault) : Type 0 where
  pub again : Bool
  pub is_again : IsAgain (here_at n context (out-Declared name).name) (linked_now n context (out-Declared name).name) (given storage (declared_type_at n t)) again
  pub is_first : IsFirstOf (name_faults (out-Declared name).place found again
      (is_complete context.structs (is_some (out-Declared name).init) (given storage (declared_type_at n t)))) first

-- a name is declared with its type where nothing is broken at it
abbrev pub IsAsked : Abi → Storage → NamedByNumber → Declared → List Size → Context → Option Fault → Numbering → Type 0
IsAsked abi storage base name sizes old first n = (again : Bool)
    × IsAgain (here_at n old (out-Declared name).name) (linked_now n old (out-Declared name).name) (given storage (given_type (named_at n base) (out-Declared name).stars sizes)) again
    × IsFirstOf (faults_of_name abi old.structs (out-Declared name) (named_at n base) sizes (given storage (given_type (named_at n base) (out-Declared name).stars sizes)) again) first

pub record NameGives (abi : Abi) (storage : Storage) (base : NamedByNumber) (name : Declared) (sizes : List Size) (old new : Context) (t : DeclaredType) : Type 0 where
  pub grows : Grows old new
  pub handed : new.handed ≡ old.handed
  pub below : DeclaredBelow (length new.types) t
  pub meant : (n : Numbering) → Agrees n new → declared_type_at n t ≡ given_type (named_at n base) (out-Declared name).stars sizes
  pub asked : (n : Numbering) → Agrees n new → IsAsked abi storage base name sizes old None n
  pub declares : (n : Numbering) → Agrees n new
      → declared new ≡ name_declared (language abi n) (out-Declared name).name (out-Declared name).place.at (given storage (declared_type_at n t)) (declared old)

pub record NameBreaks (abi : Abi) (storage : Storage) (base : NamedByNumber) (name : Declared) (sizes : List Size) (old new : Context) (first : Fault) : Type 0 where
  pub only_types : OnlyTypes old new
  pub asked : (n : Numbering) → Agrees n new → IsAsked abi storage base name sizes old (Some first) n

abbrev pub IsNameGiven : Abi → Storage → NamedByNumber → Declared → List Size → Context → Context → Found DeclaredType → Type 0
IsNameGiven abi storage base name sizes old new (Passes t) = NameGives abi storage base name sizes old new t
IsNameGiven abi storage base name sizes old new (Refused first) = NameBreaks abi storage base name sizes old new first

-- an array of so many items is declared with its size
pub record SizeTold (abi : Abi) (name : Declared) (fixed : Bool) (number count : ℕ) (old new : Context) : Type 0 where
  pub whole : new ≡ record old {
    environment = own_declared (out-Declared name).name (entity.Object (Whole number) (out-Declared name).place.at (lifetime_of fixed) true) old.environment;
    handed = old.handed ++ ObjectRow (out-Declared name).place.at number fixed true ∷ [];
  }
  pub unbroken : (n : Numbering) (item : CType) → Agrees n old → n.ctype number ≡ ArrayType item count → told_faults abi old.structs (out-Declared name).place item count ≡ []

abbrev pub IsSizeTold : Abi → Declared → Bool → ℕ → ℕ → Context → Context → Found (Unit {0}) → Type 0
IsSizeTold abi name fixed number count old new (Passes told) = SizeTold abi name fixed number count old new
IsSizeTold abi name fixed number count old new (Refused first) = (new ≡ old)
    × ((n : Numbering) (item : CType) → Agrees n old → n.ctype number ≡ ArrayType item count → IsFirst (told_faults abi old.structs (out-Declared name).place item count) first)

-- a tag that stands alone is declared, or refused
pub record TagDeclared (abi : Abi) (tag : Identifier) (old new : Context) : Type 0 where
  pub opens : (n : Numbering) → alone (language abi n) tag (declared old) ≡ Opens (declared new)
  pub grows : Grows old new
  pub handed : new.handed ≡ old.handed

abbrev pub IsAlone : Abi → Identifier → Context → Context → Found (Unit {0}) → Type 0
IsAlone abi tag old new (Passes told) = TagDeclared abi tag old new
IsAlone abi tag old new (Refused first) = ((n : Numbering) → alone (language abi n) tag (declared old) ≡ IsTwice first) × (new ≡ old)

-- where nothing is declared, what the words hold is found at the first token
abbrev pub IsNothingDeclared : Place → Option Broken → Found (Unit {0}) → Type 0
IsNothingDeclared place found (Passes told) = all_at place found ≡ []
IsNothingDeclared place found (Refused first) = IsFirst (all_at place found) first

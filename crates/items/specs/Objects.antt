-- What a declaration outside of functions says of an object, by numbers, and what is found at its name.
use Rattle.std.specs.Prelude.{◌≡◌, ◌++◌, ◌||◌, ℕ, Bool, true, false, List, [], ◌∷◌, Option, None, Some, length}
use Rattle.cbase.specs.declared.abi.Abi.{Abi}
use Rattle.cbase.specs.declared.ctype.CType.{CType}
use Rattle.cbase.specs.declared.ctype.CType.TheVariants.{Array as ArrayType}
use Rattle.cbase.specs.declared.place.Place.{Place}
use Rattle.cbase.specs.declared.tree.decl.Declared.{Declared}
use Rattle.cbase.specs.declared.tree.decl.Storage.{Storage}
use Rattle.cbase.specs.declared.tree.decl.Storage.TheVariants.{Extern}
use Rattle.cbase.specs.declared.tree.expr.ExprForm.TheViews.{out-Declared}
use Rattle.typing.specs.declared.environment.entity.DeclaredType.{DeclaredType}
use Rattle.typing.specs.declared.environment.entity.DeclaredType.TheVariants.{Whole, UnsizedArray}
use Rattle.typing.specs.environment.Bounds.{DeclaredBelow}
use Rattle.typing.specs.environment.Environment.{visible_type}
use Rattle.typing.specs.environment.Names.{value_in}
use Rattle.typing.specs.declared.ctypes.found.Broken.{Broken}
use Rattle.typing.specs.declared.fault.Fault.{Fault}
use Rattle.typing.specs.declared.size.Size.{Size}
use Rattle.typing.specs.Declarations.{IsAgain, IsOther, LinkedGiven, given, given_type, name_declared, name_faults, told_type}
use Rattle.typing.specs.Entities.{ObjectLinked}
use Rattle.typing.specs.FileNames.{definition_in, is_complete_by, is_listed, is_listed_by, is_twice, object_declared, object_faults, object_type, told_faults_in_file}
use Rattle.expressions.specs.declared.found.Found.{Found}
use Rattle.expressions.specs.declared.found.Found.TheVariants.{Passes, Refused}
use Rattle.expressions.specs.declared.handed_row.HandedRow.{HandedRow}
use Rattle.expressions.specs.declared.handed_row.HandedRow.TheVariants.{Object as ObjectRow, Link as LinkRow}
use Rattle.expressions.specs.declared.named_type.NamedType.{NamedType as NamedByNumber}
use Rattle.expressions.specs.Context.{Context, declared, Agrees, Grows, OnlyTypes}
use Rattle.expressions.specs.FileScope.{definition_at, file_scope}
use Rattle.expressions.specs.Language.{definition_by_now, language, token_by_now}
use Rattle.expressions.specs.Numbers.{Numbering, declared_type_at, named_at}
use Rattle.expressions.specs.Settled.{IsFirstOf}
use Rattle.items.specs.declarations.Given.{here_at, linked_now, seen_in}
use Rattle.items.specs.declared.object.Object.{Object}

-- an object of that name which a declaration gives that type, behind those before it
pub record IsObjectOf (context : Context) (storage : Storage) (name : Declared) (t : DeclaredType) (object : Object) : Type 0 where
  pub given : object.given ≡ t
  pub ctype : object.ctype ≡ seen_in (visible_type (out-Declared name).name context.environment) t
  pub before : object.before ≡ definition_by_now (value_in (out-Declared name).name context.environment.linked)
  pub adds : definition_at object.adds ≡ definition_in storage (out-Declared name)

-- nothing but names is declared
pub record OnlyNames (old new : Context) : Type 0 where
  pub types : new.types ≡ old.types
  pub structs : new.structs ≡ old.structs
  pub signatures : new.environment.signatures ≡ old.environment.signatures
  pub handed : new.handed ≡ old.handed

-- what is broken at its name, of whose type that is found: nothing, or the first of it
abbrev pub IsObjectJudged : Numbering → Context → Declared → Object → Option Broken → Option Fault → Type 0
IsObjectJudged n context name object found first = (other : Bool)
    × IsAgain (here_at n context (out-Declared name).name) (linked_now n context (out-Declared name).name) (given Extern (declared_type_at n object.given)) other
    × IsFirstOf (name_faults (out-Declared name).place found (other || is_twice (definition_at object.before) (definition_at object.adds))
    (is_complete_by context.structs (definition_at object.adds) (declared_type_at n object.ctype))) first

-- what is asked of it in the language of a context
abbrev pub IsObjectAsked : Abi → Storage → NamedByNumber → Declared → List Size → Context → Option Fault → Numbering → Type 0
IsObjectAsked abi storage base name sizes old first n = (other : Bool)
    × IsAgain (here_at n old (out-Declared name).name) (linked_now n old (out-Declared name).name) (LinkedGiven (ObjectLinked (given_type (named_at n base) (out-Declared name).stars sizes))) other
    × IsFirstOf (object_faults (language abi n) (file_scope abi n) storage (named_at n base) (out-Declared name) sizes other (declared old)) first

-- the row of the declaration
abbrev pub link_rows : Declared → Context → List HandedRow
link_rows name context = LinkRow (out-Declared name).place.at (token_by_now (value_in (out-Declared name).name context.environment.linked) 0) ∷ []

-- an object is declared where nothing is broken at its name
pub record ObjectGives (abi : Abi) (storage : Storage) (base : NamedByNumber) (name : Declared) (sizes : List Size) (old new : Context) (object : Object) : Type 0 where
  pub grows : Grows old new
  pub handed : new.handed ≡ old.handed ++ link_rows name new
  pub below : DeclaredBelow (length new.types) object.ctype
  pub listed : (n : Numbering) → is_listed (definition_at object.before) (definition_at object.adds) ≡ is_listed_by (language abi n) (file_scope abi n) storage (out-Declared name) (declared old)
  pub meant : (n : Numbering) → Agrees n new → declared_type_at n object.ctype ≡ object_type (language abi n) (named_at n base) (out-Declared name) sizes (declared old)
  pub asked : (n : Numbering) → Agrees n new → IsObjectAsked abi storage base name sizes old None n
  pub declares : (n : Numbering) → Agrees n new
      → declared new ≡ object_declared (language abi n) (file_scope abi n) storage (named_at n base) (out-Declared name) sizes (declared old)

pub record ObjectBreaks (abi : Abi) (storage : Storage) (base : NamedByNumber) (name : Declared) (sizes : List Size) (old new : Context) (first : Fault) : Type 0 where
  pub only_types : OnlyTypes old new
  pub asked : (n : Numbering) → Agrees n new → IsObjectAsked abi storage base name sizes old (Some first) n

abbrev pub IsObjectGiven : Abi → Storage → NamedByNumber → Declared → List Size → Context → Context → Found Object → Type 0
IsObjectGiven abi storage base name sizes old new (Passes object) = ObjectGives abi storage base name sizes old new object
IsObjectGiven abi storage base name sizes old new (Refused first) = ObjectBreaks abi storage base name sizes old new first

-- what is handed on of an object that lives as long as the program runs, where this declaration is the first that defines it
abbrev pub static_rows : Bool → Place → DeclaredType → Bool → List HandedRow
static_rows true place (Whole number) zeroed = ObjectRow place.at number true zeroed ∷ []
static_rows true place (UnsizedArray item) zeroed = []
static_rows false place t zeroed = []

-- what is broken at the name of an array of so many items, whose size its initialiser tells
abbrev pub IsArrayAsked : Abi → Declared → ℕ → CType → Numbering → Context → Option Fault → Type 0
IsArrayAsked abi name count item n old first = (other : Bool)
    × IsOther (linked_now n old (out-Declared name).name) (ObjectLinked (told_type item count)) other
    × IsFirstOf (told_faults_in_file abi old.structs (out-Declared name).place item count other) first

-- it is declared with its size where nothing is
pub record ArrayTold (abi : Abi) (name : Declared) (listed : Bool) (number count : ℕ) (old new : Context) : Type 0 where
  pub grows : Grows old new
  pub handed : new.handed ≡ old.handed ++ static_rows listed (out-Declared name).place (Whole number) true
  pub asked : (n : Numbering) (item : CType) → Agrees n old → n.ctype number ≡ ArrayType item count → IsArrayAsked abi name count item n old None
  pub declares : (n : Numbering) (item : CType) → Agrees n old → n.ctype number ≡ ArrayType item count
      → declared new ≡ name_declared (language abi n) (out-Declared name).name (out-Declared name).place.at (LinkedGiven (ObjectLinked (told_type item count))) (declared old)

abbrev pub IsArrayTold : Abi → Declared → Bool → ℕ → ℕ → Context → Context → Found (Unit {0}) → Type 0
IsArrayTold abi name listed number count old new (Passes told) = ArrayTold abi name listed number count old new
IsArrayTold abi name listed number count old new (Refused first) = (new ≡ old)
    × ((n : Numbering) (item : CType) → Agrees n old → n.ctype number ≡ ArrayType item count → IsArrayAsked abi name count item n old (Some first))

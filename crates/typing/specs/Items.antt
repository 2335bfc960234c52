-- What is found of an item of the file (C11 6.9), or of items one behind the other: of a declaration outside of functions, and of a function with its
-- body.
--
-- `FindsInFile before saying after` says what is found of a part of an item, where `before` is declared in front of it and `after` behind it. What stands in
-- the items, `Finds` says.
use Rattle.std.specs.Prelude.{◌≡◌, Bool, true, false, List, [], ◌∷◌, ◌++◌, Option, None, Some, length}
use Rattle.cbase.specs.declared.ctype.CType.{CType}
use Rattle.cbase.specs.declared.ctype.CType.TheVariants.{Array as ArrayType}
use Rattle.cbase.specs.declared.place.Place.{Place}
use Rattle.cbase.specs.declared.tree.decl.Decl.{Decl}
use Rattle.cbase.specs.declared.tree.decl.Declared.{Declared}
use Rattle.cbase.specs.declared.tree.decl.Param.{Param}
use Rattle.cbase.specs.declared.tree.decl.Storage.{Storage}
use Rattle.cbase.specs.declared.tree.expr.Expr.{Expr}
use Rattle.cbase.specs.declared.tree.expr.ExprForm.TheOpen.{Value, Braces}
use Rattle.cbase.specs.declared.tree.expr.ExprForm.TheViews.{out-TypeSpec, out-Decl, out-Declared, out-Init}
use Rattle.cbase.specs.declared.tree.identifier.Identifier.{Identifier}
use Rattle.cbase.specs.declared.tree.init.Init.{Init}
use Rattle.cbase.specs.declared.tree.init.InitPart.{InitPart}
use Rattle.cbase.specs.declared.tree.item.Item.{Item}
use Rattle.cbase.specs.declared.tree.item.Item.TheVariants.{Empty, Declare, Function}
use Rattle.cbase.specs.declared.tree.spec.TypeSpec.{TypeSpec}
use Rattle.cbase.specs.declared.tree.stmt.Stmt.{Stmt}
use Rattle.typing.specs.declared.fault.Fault.{Fault}
use Rattle.typing.specs.declared.size.Size.{Size}
use Rattle.typing.specs.Declarations.{LinkedGiven, Parameter, given_type, is_typedef, IsAgain, IsOther, name_declared, name_of, in_braces, told_type, function_given}
use Rattle.typing.specs.Entities.{DeclaredType, WholeType, ItemsOf, ObjectLinked}
use Rattle.typing.specs.Faults.{IsFirst}
use Rattle.typing.specs.FileNames.{object_type, object_faults, object_declared, link_row, is_listed_by, static_row, initialised_in_file, told_faults_in_file}
use Rattle.typing.specs.FileScope.{FileScope}
use Rattle.typing.specs.Forms.{Words, NamesParts, DeclaratorParts, Initialiser}
use Rattle.typing.specs.Heads.{result_of, head_faults, params_of, names_in, head_declared, head_rows}
use Rattle.typing.specs.Language.{Language}
use Rattle.typing.specs.NamedTypes.{NamedType}
use Rattle.typing.specs.Outcomes.{Outcome, Handed, Passes, Refused, with_front}
use Rattle.typing.specs.Statements.{without_value}
use Rattle.typing.specs.Typing.{Finds, WordsAre, MemberSizesAre, StatementsAre, DeclaredIs, DeclaredNameIs, ParametersAre, InitialiserIs, SurplusIs}

-- what is said of which part of an item
pub data ItemSaying : Type 0 where
  -- items, each with the place of its first token, and one of them
  ItemsAre : List (Place × Item) → Outcome (Unit {0}) → ItemSaying
  ItemIs : Place → Item → Outcome (Unit {0}) → ItemSaying
  -- the names of a declaration, one behind the other, and one of them
  FileNamesAre : Storage → NamedType → List Declared → Outcome (Unit {0}) → ItemSaying
  FileNameIs : Storage → NamedType → Declared → Outcome (Unit {0}) → ItemSaying
  -- what stands behind the name of an object, which is handed on by this declaration or not
  FileInitialisedIs : Identifier → Bool → DeclaredType → Option Init → Outcome (Unit {0}) → ItemSaying
  -- the head of a function, which has a body or none: its result; the scope of its parameters is not left behind it
  HeadIs : Bool → Storage → NamedType → Declared → Outcome CType → ItemSaying
  -- a head with its body, behind which that scope is not left
  DefinitionIs : Storage → NamedType → Declared → List Stmt → Outcome (Unit {0}) → ItemSaying

pub data FindsInFile (l : Language) (file : FileScope l) : l.Environment → ItemSaying → l.Environment → Type 0 where
  -- what is refused in an item is refused in the whole, and nothing behind it counts
  NoItems : {env : l.Environment} → FindsInFile l file env (ItemsAre [] (Passes tt [])) env
  MoreItems : {before middle after : l.Environment} {place : Place} {item : Item} {items : List (Place × Item)} {handed : List Handed} {outcome : Outcome (Unit {0})}
      → FindsInFile l file before (ItemIs place item (Passes tt handed)) middle
      → FindsInFile l file middle (ItemsAre items outcome) after
      → FindsInFile l file before (ItemsAre ((place, item) ∷ items) (with_front handed outcome)) after
  ItemRefused : {before after : l.Environment} {place : Place} {item : Item} {items : List (Place × Item)} {first : Fault}
      → FindsInFile l file before (ItemIs place item (Refused first)) after
      → FindsInFile l file before (ItemsAre ((place, item) ∷ items) (Refused first)) after
  -- a `;` alone
  EmptyItem : {env : l.Environment} {place : Place} → FindsInFile l file env (ItemIs place Empty (Passes tt [])) env
  -- a declaration without names is what it is in a block
  NamelessItem : {before after : l.Environment} {place : Place} {decl : Decl} {parts : NamesParts} {outcome : Outcome (Unit {0})}
      → out-Decl decl ≡ parts
      → parts.names ≡ []
      → Finds l before (DeclaredIs place decl outcome) after
      → FindsInFile l file before (ItemIs place (Declare decl) outcome) after
  -- any other one: its words, then its names
  ItemWithNames : {before middle after : l.Environment} {place : Place} {decl : Decl} {parts : NamesParts} {words : Words} {base : NamedType} {name : Declared} {names : List Declared} {handed : List Handed} {outcome : Outcome (Unit {0})}
      → out-Decl decl ≡ parts
      → out-TypeSpec parts.spec ≡ words
      → parts.names ≡ name ∷ names
      → Finds l before (WordsAre words (Passes base handed)) middle
      → FindsInFile l file middle (FileNamesAre parts.storage base (name ∷ names) outcome) after
      → FindsInFile l file before (ItemIs place (Declare decl) (with_front handed outcome)) after
  ItemWordsRefused : {before after : l.Environment} {place : Place} {decl : Decl} {parts : NamesParts} {words : Words} {name : Declared} {names : List Declared} {first : Fault}
      → out-Decl decl ≡ parts
      → out-TypeSpec parts.spec ≡ words
      → parts.names ≡ name ∷ names
      → Finds l before (WordsAre words (Refused first)) after
      → FindsInFile l file before (ItemIs place (Declare decl) (Refused first)) after
  -- a function with its body (6.9.1): the words of its result, then its head and its body. Behind it the scope of its parameters is left
  FunctionItem : {before middle inside : l.Environment} {place close : Place} {spec : TypeSpec} {storage : Storage} {head : Declared} {body : List Stmt} {words : Words} {base : NamedType} {handed : List Handed} {outcome : Outcome (Unit {0})}
      → out-TypeSpec spec ≡ words
      → Finds l before (WordsAre words (Passes base handed)) middle
      → FindsInFile l file middle (DefinitionIs storage base head body outcome) inside
      → FindsInFile l file before (ItemIs place (Function spec storage head body close) (with_front handed outcome)) (file.result_set None (l.left inside))
  FunctionWordsRefused : {before after : l.Environment} {place close : Place} {spec : TypeSpec} {storage : Storage} {head : Declared} {body : List Stmt} {words : Words} {first : Fault}
      → out-TypeSpec spec ≡ words
      → Finds l before (WordsAre words (Refused first)) after
      → FindsInFile l file before (ItemIs place (Function spec storage head body close) (Refused first)) after
  -- names, one behind the other
  NoMoreFileNames : {env : l.Environment} {storage : Storage} {base : NamedType} → FindsInFile l file env (FileNamesAre storage base [] (Passes tt [])) env
  MoreFileNames : {before middle after : l.Environment} {storage : Storage} {base : NamedType} {name : Declared} {names : List Declared} {handed : List Handed} {outcome : Outcome (Unit {0})}
      → FindsInFile l file before (FileNameIs storage base name (Passes tt handed)) middle
      → FindsInFile l file middle (FileNamesAre storage base names outcome) after
      → FindsInFile l file before (FileNamesAre storage base (name ∷ names) (with_front handed outcome)) after
  FileNameRefused : {before after : l.Environment} {storage : Storage} {base : NamedType} {name : Declared} {names : List Declared} {first : Fault}
      → FindsInFile l file before (FileNameIs storage base name (Refused first)) after
      → FindsInFile l file before (FileNamesAre storage base (name ∷ names) (Refused first)) after
  -- a typedef is what it is in a block (6.7.8), but that of a function, which is refused at its head
  FileTypedef : {before after : l.Environment} {storage : Storage} {base : NamedType} {name : Declared} {parts : DeclaratorParts} {outcome : Outcome (Unit {0})}
      → out-Declared name ≡ parts
      → parts.params ≡ None
      → is_typedef storage ≡ true
      → Finds l before (DeclaredNameIs storage base name outcome) after
      → FindsInFile l file before (FileNameIs storage base name outcome) after
  -- an object: its sizes, which are integer constant expressions, or it is rule 9 at them (6.7.6.2p2); then what is found at its name; then its
  -- initialiser, in which it is in scope (6.2.1p7)
  FileSizesRefused : {before after : l.Environment} {storage : Storage} {base : NamedType} {name : Declared} {parts : DeclaratorParts} {first : Fault}
      → out-Declared name ≡ parts
      → parts.params ≡ None
      → is_typedef storage ≡ false
      → Finds l before (MemberSizesAre parts.sizes (Refused first)) after
      → FindsInFile l file before (FileNameIs storage base name (Refused first)) after
  FileNameBroken : {before after : l.Environment} {storage : Storage} {base : NamedType} {name : Declared} {parts : DeclaratorParts} {counts : List Size} {faults : List Fault} {handed : List Handed} {first : Fault} (other : Bool)
      → out-Declared name ≡ parts
      → parts.params ≡ None
      → is_typedef storage ≡ false
      → Finds l before (MemberSizesAre parts.sizes (Passes counts handed)) after
      → IsAgain (l.name_here parts.name after) (l.linked parts.name after) (LinkedGiven (ObjectLinked (given_type base parts.stars counts))) other
      → object_faults l file storage base parts counts other after ≡ faults
      → IsFirst faults first
      → FindsInFile l file before (FileNameIs storage base name (Refused first)) after
  FileNameGiven : {before middle after : l.Environment} {storage : Storage} {base : NamedType} {name : Declared} {parts : DeclaratorParts} {counts : List Size} {handed : List Handed} {outcome : Outcome (Unit {0})} (other : Bool)
      → out-Declared name ≡ parts
      → parts.params ≡ None
      → is_typedef storage ≡ false
      → Finds l before (MemberSizesAre parts.sizes (Passes counts handed)) middle
      → IsAgain (l.name_here parts.name middle) (l.linked parts.name middle) (LinkedGiven (ObjectLinked (given_type base parts.stars counts))) other
      → object_faults l file storage base parts counts other middle ≡ []
      → FindsInFile l file (object_declared l file storage base parts counts middle)
      (FileInitialisedIs (name_of parts) (is_listed_by l file storage parts middle) (object_type l base parts counts middle) parts.init outcome) after
      → FindsInFile l file before
      (FileNameIs storage base name (with_front (handed ++ link_row l file parts (object_declared l file storage base parts counts middle)) outcome)) after
  -- a function without a body is declared by its head
  FileFunction : {before inside : l.Environment} {storage : Storage} {base : NamedType} {name : Declared} {parts : DeclaratorParts} {params : List Param} {found : Outcome CType}
      → out-Declared name ≡ parts
      → parts.params ≡ Some params
      → FindsInFile l file before (HeadIs false storage base name found) inside
      → FindsInFile l file before (FileNameIs storage base name (without_value found)) (l.left inside)
  -- what stands behind the name of an object: no initialiser
  FileNotInitialised : {env : l.Environment} {name : Identifier} {listed : Bool} {t : DeclaredType}
      → FindsInFile l file env (FileInitialisedIs name listed t None (Passes tt (static_row listed name.place t false))) env
  -- that of an object of a whole type
  FileInitialised : {before after : l.Environment} {name : Identifier} {listed : Bool} {t : CType} {init : Init} {form : Initialiser} {found : Outcome (Unit {0})}
      → out-Init init ≡ form
      → Finds l before (InitialiserIs (record { place = name.place; fixed = true }) (record { ctype = t; offset = 0; braces = true }) init found) after
      → FindsInFile l file before (FileInitialisedIs name listed (WholeType t) (Some init) (initialised_in_file listed name.place (WholeType t) (in_braces form) found)) after
  -- that of an array whose size no declaration has told yet (6.7.9p22)
  FileArrayInitialised : {before after : l.Environment} {name : Identifier} {listed : Bool} {item : CType} {init : Init} {parts : List InitPart} {handed : List Handed} (other : Bool)
      → out-Init init ≡ Braces parts
      → Finds l before (InitialiserIs (record { place = name.place; fixed = true }) (record { ctype = ArrayType item (length parts); offset = 0; braces = true }) init (Passes tt handed)) after
      → IsOther (l.linked name.name after) (ObjectLinked (told_type item (length parts))) other
      → told_faults_in_file l.abi (l.structs after) name.place item (length parts) other ≡ []
      → FindsInFile l file before (FileInitialisedIs name listed (ItemsOf item) (Some init)
      (Passes tt (handed ++ static_row listed name.place (told_type item (length parts)) true)))
      (name_declared l name.name name.place.at (LinkedGiven (ObjectLinked (told_type item (length parts)))) after)
  FileArrayOfWrongSize : {before after : l.Environment} {name : Identifier} {listed : Bool} {item : CType} {init : Init} {parts : List InitPart} {handed : List Handed} {faults : List Fault} {first : Fault} (other : Bool)
      → out-Init init ≡ Braces parts
      → Finds l before (InitialiserIs (record { place = name.place; fixed = true }) (record { ctype = ArrayType item (length parts); offset = 0; braces = true }) init (Passes tt handed)) after
      → IsOther (l.linked name.name after) (ObjectLinked (told_type item (length parts))) other
      → told_faults_in_file l.abi (l.structs after) name.place item (length parts) other ≡ faults
      → IsFirst faults first
      → FindsInFile l file before (FileInitialisedIs name listed (ItemsOf item) (Some init) (Refused first)) after
  FileArrayPartsRefused : {before after : l.Environment} {name : Identifier} {listed : Bool} {item : CType} {init : Init} {parts : List InitPart} {first : Fault}
      → out-Init init ≡ Braces parts
      → Finds l before (InitialiserIs (record { place = name.place; fixed = true }) (record { ctype = ArrayType item (length parts); offset = 0; braces = true }) init (Refused first)) after
      → FindsInFile l file before (FileInitialisedIs name listed (ItemsOf item) (Some init) (Refused first)) after
  -- by an expression no array is initialised
  FileArrayByValue : {before after : l.Environment} {name : Identifier} {listed : Bool} {item : CType} {init : Init} {value : Expr} {behind_it : Place} {outcome : Outcome (Unit {0})}
      → out-Init init ≡ Value value behind_it
      → Finds l before (SurplusIs name.place init outcome) after
      → FindsInFile l file before (FileInitialisedIs name listed (ItemsOf item) (Some init) outcome) after
  -- the head of a function (6.7.6.3): its parameters, in a scope of their own, then what is found at its name, which is declared around that scope
  HeadRefused : {before after : l.Environment} {bodied : Bool} {storage : Storage} {base : NamedType} {name : Declared} {parts : DeclaratorParts} {first : Fault}
      → out-Declared name ≡ parts
      → Finds l (l.entered before) (ParametersAre (params_of parts.params) (Refused first)) after
      → FindsInFile l file before (HeadIs bodied storage base name (Refused first)) after
  HeadBroken : {before after : l.Environment} {bodied : Bool} {storage : Storage} {base : NamedType} {name : Declared} {parts : DeclaratorParts} {told : List Parameter} {faults : List Fault} {handed : List Handed} {first : Fault} (other : Bool)
      → out-Declared name ≡ parts
      → Finds l (l.entered before) (ParametersAre (params_of parts.params) (Passes told handed)) after
      → IsAgain (l.name_here parts.name (l.left after)) (l.linked parts.name after) (LinkedGiven (function_given parts base told)) other
      → head_faults l file bodied storage base parts told other after ≡ faults
      → IsFirst faults first
      → FindsInFile l file before (HeadIs bodied storage base name (Refused first)) after
  HeadGiven : {before after : l.Environment} {bodied : Bool} {storage : Storage} {base : NamedType} {name : Declared} {parts : DeclaratorParts} {told : List Parameter} {handed : List Handed} (other : Bool)
      → out-Declared name ≡ parts
      → Finds l (l.entered before) (ParametersAre (params_of parts.params) (Passes told handed)) after
      → IsAgain (l.name_here parts.name (l.left after)) (l.linked parts.name after) (LinkedGiven (function_given parts base told)) other
      → head_faults l file bodied storage base parts told other after ≡ []
      → FindsInFile l file before (HeadIs bodied storage base name (Passes (result_of base parts) (handed ++ head_rows bodied base parts (names_in parts) told))) (head_declared l file bodied base parts (names_in parts) told after)
  -- its body stands in the scope of its parameters (6.2.1p4), in no loop
  DefinitionHeadRefused : {before after : l.Environment} {storage : Storage} {base : NamedType} {head : Declared} {body : List Stmt} {first : Fault}
      → FindsInFile l file before (HeadIs true storage base head (Refused first)) after
      → FindsInFile l file before (DefinitionIs storage base head body (Refused first)) after
  DefinitionWithBody : {before middle after : l.Environment} {storage : Storage} {base : NamedType} {head : Declared} {body : List Stmt} {result : CType} {handed : List Handed} {found : Outcome CType}
      → FindsInFile l file before (HeadIs true storage base head (Passes result handed)) middle
      → Finds l (l.loop_set false (file.result_set (Some result) middle)) (StatementsAre body found) after
      → FindsInFile l file before (DefinitionIs storage base head body (with_front handed (without_value found))) after

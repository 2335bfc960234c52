-- What a derivation of each part of an item of the file holds (C11 6.9).
use Rattle.std.proofs.Common.{◌≡◌, Bool, true, false, List, [], ◌∷◌, ◌++◌, length, Option, Some, None, refl, sym, subst}
use Rattle.cbase.specs.declared.ctype.CType.{CType}
use Rattle.cbase.specs.declared.place.Place.{Place}
use Rattle.cbase.specs.declared.tree.decl.Decl.{Decl}
use Rattle.cbase.specs.declared.tree.decl.Declared.{Declared}
use Rattle.cbase.specs.declared.tree.decl.Param.{Param}
use Rattle.cbase.specs.declared.tree.decl.Storage.{Storage}
use Rattle.cbase.specs.declared.tree.expr.ExprForm.TheOpen.{Value, Braces}
use Rattle.cbase.specs.declared.tree.expr.ExprForm.TheViews.{out-TypeSpec, out-Decl, out-Declared, out-Init}
use Rattle.cbase.specs.declared.tree.identifier.Identifier.{Identifier}
use Rattle.cbase.specs.declared.tree.init.Init.{Init}
use Rattle.cbase.specs.declared.tree.init.InitPart.{InitPart}
use Rattle.cbase.specs.declared.tree.item.Item.{Item}
use Rattle.cbase.specs.declared.tree.item.Item.TheVariants.{Empty, Declare, Function}
use Rattle.cbase.specs.declared.tree.spec.TypeSpec.{TypeSpec}
use Rattle.cbase.specs.declared.tree.stmt.Stmt.{Stmt}
use Rattle.typing.specs.declared.fault.Fault.{Fault}
use Rattle.typing.specs.declared.size.Size.{Size}
use Rattle.typing.specs.Declarations.{LinkedGiven, Parameter, given_type, is_typedef, IsAgain, IsOther, name_declared, name_of, in_braces, told_type, function_given}
use Rattle.typing.specs.Entities.{DeclaredType, WholeType, ItemsOf, ObjectLinked}
use Rattle.typing.specs.Faults.{IsFirst}
use Rattle.typing.specs.FileNames.{object_type, object_faults, object_declared, link_row, is_listed_by, static_row, initialised_in_file, told_faults_in_file}
use Rattle.typing.specs.FileScope.{FileScope}
use Rattle.typing.specs.Forms.{Words, NamesParts, DeclaratorParts, Initialiser}
use Rattle.typing.specs.Heads.{result_of, head_faults, params_of, names_in, head_declared, head_rows}
use Rattle.typing.specs.Items.{FindsInFile, ItemsAre, ItemIs, FileNamesAre, FileNameIs, FileInitialisedIs, HeadIs, DefinitionIs, NoItems, MoreItems, ItemRefused, EmptyItem, NamelessItem, ItemWithNames, ItemWordsRefused, FunctionItem, FunctionWordsRefused, NoMoreFileNames, MoreFileNames, FileNameRefused, FileTypedef, FileSizesRefused, FileNameBroken, FileNameGiven, FileFunction, FileNotInitialised, FileInitialised, FileArrayInitialised, FileArrayOfWrongSize, FileArrayPartsRefused, FileArrayByValue, HeadRefused, HeadBroken, HeadGiven, DefinitionHeadRefused, DefinitionWithBody}
use Rattle.typing.specs.Language.{Language}
use Rattle.typing.specs.NamedTypes.{NamedType}
use Rattle.typing.specs.Outcomes.{Outcome, Handed, Passes, Refused, with_front}
use Rattle.typing.specs.Statements.{without_value}
use Rattle.typing.specs.Typing.{Finds, StatementsAre}
use Rattle.typing.proofs.DeclarationRows.{WordsFound, FixedSizesFound, DeclarationFound, NameFound, ParametersFound}
use Rattle.typing.proofs.InitialiserRows.{InitialiserFound, SurplusFound, ArrayFound, subject_of, whole_slot}
use Rattle.typing.proofs.Sequences.{Given, Made, Both, Inside, Asked, Judged, Sound, Broken, named_so, so_named}

-- what is found of each part, by the part
abbrev pub ItemsFound : (l : Language) (file : FileScope l) → l.Environment → List (Place × Item) → Outcome (Unit {0}) → l.Environment → Type 0
ItemsFound l file before items outcome after = FindsInFile l file before (ItemsAre items outcome) after

abbrev pub ItemFound : (l : Language) (file : FileScope l) → l.Environment → Place → Item → Outcome (Unit {0}) → l.Environment → Type 0
ItemFound l file before place item outcome after = FindsInFile l file before (ItemIs place item outcome) after

abbrev pub FileNamesFound : (l : Language) (file : FileScope l) → l.Environment → Storage → NamedType → List Declared → Outcome (Unit {0}) → l.Environment → Type 0
FileNamesFound l file before storage base names outcome after = FindsInFile l file before (FileNamesAre storage base names outcome) after

abbrev pub FileNameFound : (l : Language) (file : FileScope l) → l.Environment → Storage → NamedType → Declared → Outcome (Unit {0}) → l.Environment → Type 0
FileNameFound l file before storage base name outcome after = FindsInFile l file before (FileNameIs storage base name outcome) after

abbrev pub InitialisedFound : (l : Language) (file : FileScope l) → l.Environment → Identifier → Bool → DeclaredType → Option Init → Outcome (Unit {0}) → l.Environment → Type 0
InitialisedFound l file before name listed t init outcome after = FindsInFile l file before (FileInitialisedIs name listed t init outcome) after

abbrev pub HeadFound : (l : Language) (file : FileScope l) → l.Environment → Bool → Storage → NamedType → Declared → Outcome CType → l.Environment → Type 0
HeadFound l file before bodied storage base name outcome after = FindsInFile l file before (HeadIs bodied storage base name outcome) after

abbrev pub DefinitionFound : (l : Language) (file : FileScope l) → l.Environment → Storage → NamedType → Declared → List Stmt → Outcome (Unit {0}) → l.Environment → Type 0
DefinitionFound l file before storage base head body outcome after = FindsInFile l file before (DefinitionIs storage base head body outcome) after

abbrev pub BodyFound : (l : Language) → l.Environment → List Stmt → Outcome CType → l.Environment → Type 0
BodyFound l before body found after = Finds l before (StatementsAre body found) after

-- items, one behind the other
abbrev pub ItemsBehind : (l : Language) (file : FileScope l) → List (Place × Item) → Unit {0} → List Handed → l.Environment → Outcome (Unit {0}) → l.Environment → Type 0
ItemsBehind l file items told handed middle outcome after = Made (with_front handed) (ItemsFound l file middle items) outcome after

abbrev pub AreItems : (l : Language) (file : FileScope l) → l.Environment → Place → Item → List (Place × Item) → Outcome (Unit {0}) → l.Environment → Type 0
AreItems l file before place item items outcome after = Both (ItemFound l file before place item) (ItemsBehind l file items) outcome after

pub no_items : {l : Language} {file : FileScope l} {before after : l.Environment} {outcome : Outcome (Unit {0})}
    → FindsInFile l file before (ItemsAre [] outcome) after → Given (Passes tt []) before outcome after
no_items NoItems = (refl, refl)

pub items_row : {l : Language} {file : FileScope l} {before after : l.Environment} {place : Place} {item : Item} {items : List (Place × Item)} {outcome : Outcome (Unit {0})}
    → FindsInFile l file before (ItemsAre ((place, item) ∷ items) outcome) after → AreItems l file before place item items outcome after
items_row (MoreItems {middle = middle} {handed = handed} {outcome = inner} found rest) = (Passes tt handed, middle, found, (inner, rest, refl))
items_row {after = after} (ItemRefused {first = first} found) = (Refused first, after, found, (refl, refl))

-- one of them: a declaration
abbrev pub NamesBehind : (l : Language) (file : FileScope l) → Storage → List Declared → NamedType → List Handed → l.Environment → Outcome (Unit {0}) → l.Environment → Type 0
NamesBehind l file storage names base handed middle outcome after = Made (with_front handed) (FileNamesFound l file middle storage base names) outcome after

abbrev pub WithNames : (l : Language) (file : FileScope l) → l.Environment → NamesParts → List Declared → Outcome (Unit {0}) → l.Environment → Words → Type 0
WithNames l file before parts names outcome after words = Both (WordsFound l before words) (NamesBehind l file parts.storage names) outcome after

abbrev pub IsDeclaration : (l : Language) (file : FileScope l) → l.Environment → Place → Decl → Outcome (Unit {0}) → l.Environment → NamesParts → List Declared → Type 0
IsDeclaration l file before place decl outcome after parts [] = DeclarationFound l before place decl outcome after
IsDeclaration l file before place decl outcome after parts (name ∷ names) = WithNames l file before parts (name ∷ names) outcome after (out-TypeSpec parts.spec)

abbrev declared_names : NamesParts → List Declared
declared_names parts = parts.names

pub empty_row : {l : Language} {file : FileScope l} {before after : l.Environment} {place : Place} {outcome : Outcome (Unit {0})}
    → FindsInFile l file before (ItemIs place Empty outcome) after → Given (Passes tt []) before outcome after
empty_row EmptyItem = (refl, refl)

pub declaration_row : {l : Language} {file : FileScope l} {before after : l.Environment} {place : Place} {decl : Decl} {outcome : Outcome (Unit {0})}
    → FindsInFile l file before (ItemIs place (Declare decl) outcome) after → IsDeclaration l file before place decl outcome after (out-Decl decl) (out-Decl decl).names
declaration_row {l} {file} {before} {after} {place} {decl} {outcome} (NamelessItem e f found) = named_so declared_names (IsDeclaration l file before place decl outcome after) e f found
declaration_row {l} {file} {before} {after} {place} {decl} {outcome} (ItemWithNames {middle = middle} {parts = parts} {base = base} {name = name} {names = names} {handed = handed} {outcome = inner} e w f found rest) =
    named_so declared_names (IsDeclaration l file before place decl outcome after) e f
    (subst (WithNames l file before parts (name ∷ names) outcome after) (sym w) (Passes base handed, middle, found, (inner, rest, refl)))
declaration_row {l} {file} {before} {after} {place} {decl} {outcome} (ItemWordsRefused {parts = parts} {name = name} {names = names} {first = first} e w f found) =
    named_so declared_names (IsDeclaration l file before place decl outcome after) e f
    (subst (WithNames l file before parts (name ∷ names) outcome after) (sym w) (Refused first, after, found, (refl, refl)))

pub declaration_by : (l : Language) (file : FileScope l) (before after : l.Environment) (place : Place) (decl : Decl) (parts : NamesParts) (names : List Declared) (outcome : Outcome (Unit {0}))
    → out-Decl decl ≡ parts → parts.names ≡ names → FindsInFile l file before (ItemIs place (Declare decl) outcome) after → IsDeclaration l file before place decl outcome after parts names
declaration_by l file before after place decl parts names outcome e f found = so_named declared_names (IsDeclaration l file before place decl outcome after) e f (declaration_row found)

-- or a function with its body
abbrev pub outside : (l : Language) (file : FileScope l) → l.Environment → l.Environment
outside l file env = file.result_set None (l.left env)

abbrev pub DefinitionMade : (l : Language) (file : FileScope l) → l.Environment → Storage → NamedType → Declared → List Stmt → List Handed → Outcome (Unit {0}) → l.Environment → Type 0
DefinitionMade l file middle storage base head body handed outcome inside = Made (with_front handed) (DefinitionFound l file middle storage base head body) outcome inside

abbrev pub DefinitionBehind : (l : Language) (file : FileScope l) → Storage → Declared → List Stmt → NamedType → List Handed → l.Environment → Outcome (Unit {0}) → l.Environment → Type 0
DefinitionBehind l file storage head body base handed middle outcome after = Inside (outside l file) (DefinitionMade l file middle storage base head body handed) outcome after

abbrev pub IsFunction : (l : Language) (file : FileScope l) → l.Environment → Storage → Declared → List Stmt → Outcome (Unit {0}) → l.Environment → Words → Type 0
IsFunction l file before storage head body outcome after words = Both (WordsFound l before words) (DefinitionBehind l file storage head body) outcome after

pub function_row : {l : Language} {file : FileScope l} {before after : l.Environment} {place close : Place} {spec : TypeSpec} {storage : Storage} {head : Declared} {body : List Stmt} {outcome : Outcome (Unit {0})}
    → FindsInFile l file before (ItemIs place (Function spec storage head body close) outcome) after → IsFunction l file before storage head body outcome after (out-TypeSpec spec)
function_row {l} {file} {before} {after} {storage = storage} {head = head} {body = body} {outcome = outcome} (FunctionItem {middle = middle} {inside = inside} {base = base} {handed = handed} {outcome = inner} w found defined) =
    subst (IsFunction l file before storage head body outcome after) (sym w) (Passes base handed, middle, found, (inside, (inner, defined, refl), refl))
function_row {l} {file} {before} {after} {storage = storage} {head = head} {body = body} {outcome = outcome} (FunctionWordsRefused {first = first} w found) =
    subst (IsFunction l file before storage head body outcome after) (sym w) (Refused first, after, found, (refl, refl))

pub function_by : {l : Language} {file : FileScope l} {before after : l.Environment} {place close : Place} {spec : TypeSpec} {storage : Storage} {head : Declared} {body : List Stmt} {outcome : Outcome (Unit {0})} {words : Words}
    → out-TypeSpec spec ≡ words → FindsInFile l file before (ItemIs place (Function spec storage head body close) outcome) after → IsFunction l file before storage head body outcome after words
function_by {l} {file} {before} {after} {storage = storage} {head = head} {body = body} {outcome = outcome} w found =
    subst (IsFunction l file before storage head body outcome after) w (function_row found)

-- the names of a declaration
abbrev pub MoreBehind : (l : Language) (file : FileScope l) → Storage → NamedType → List Declared → Unit {0} → List Handed → l.Environment → Outcome (Unit {0}) → l.Environment → Type 0
MoreBehind l file storage base names told handed middle outcome after = Made (with_front handed) (FileNamesFound l file middle storage base names) outcome after

abbrev pub AreFileNames : (l : Language) (file : FileScope l) → l.Environment → Storage → NamedType → Declared → List Declared → Outcome (Unit {0}) → l.Environment → Type 0
AreFileNames l file before storage base name names outcome after = Both (FileNameFound l file before storage base name) (MoreBehind l file storage base names) outcome after

pub no_file_names : {l : Language} {file : FileScope l} {before after : l.Environment} {storage : Storage} {base : NamedType} {outcome : Outcome (Unit {0})}
    → FindsInFile l file before (FileNamesAre storage base [] outcome) after → Given (Passes tt []) before outcome after
no_file_names NoMoreFileNames = (refl, refl)

pub file_names_row : {l : Language} {file : FileScope l} {before after : l.Environment} {storage : Storage} {base : NamedType} {name : Declared} {names : List Declared} {outcome : Outcome (Unit {0})}
    → FindsInFile l file before (FileNamesAre storage base (name ∷ names) outcome) after → AreFileNames l file before storage base name names outcome after
file_names_row (MoreFileNames {middle = middle} {handed = handed} {outcome = inner} found rest) = (Passes tt handed, middle, found, (inner, rest, refl))
file_names_row {after = after} (FileNameRefused {first = first} found) = (Refused first, after, found, (refl, refl))

-- one of them
abbrev pub AskedInFile : (l : Language) → NamedType → DeclaratorParts → List Size → l.Environment → Bool → Type 0
AskedInFile l base parts counts env other = IsAgain (l.name_here parts.name env) (l.linked parts.name env) (LinkedGiven (ObjectLinked (given_type base parts.stars counts))) other

abbrev pub GivenInFile : (l : Language) (file : FileScope l) → Storage → NamedType → DeclaratorParts → List Size → List Handed → l.Environment → Outcome (Unit {0}) → l.Environment → Type 0
GivenInFile l file storage base parts counts handed middle outcome after =
    Made (with_front (handed ++ link_row l file parts (object_declared l file storage base parts counts middle)))
    (InitialisedFound l file (object_declared l file storage base parts counts middle) (name_of parts) (is_listed_by l file storage parts middle) (object_type l base parts counts middle) parts.init) outcome after

abbrev pub NameJudged : (l : Language) (file : FileScope l) → Storage → NamedType → DeclaratorParts → List Size → List Handed → l.Environment → Bool → Outcome (Unit {0}) → l.Environment → Type 0
NameJudged l file storage base parts counts handed middle other outcome after =
    Judged (object_faults l file storage base parts counts other middle) middle (GivenInFile l file storage base parts counts handed middle) outcome after

abbrev pub NameBehind : (l : Language) (file : FileScope l) → Storage → NamedType → DeclaratorParts → List Size → List Handed → l.Environment → Outcome (Unit {0}) → l.Environment → Type 0
NameBehind l file storage base parts counts handed middle outcome after =
    Asked (AskedInFile l base parts counts middle) (NameJudged l file storage base parts counts handed middle) outcome after

abbrev pub HeadMade : (l : Language) (file : FileScope l) → l.Environment → Storage → NamedType → Declared → Outcome (Unit {0}) → l.Environment → Type 0
HeadMade l file before storage base name outcome inside = Made without_value (HeadFound l file before false storage base name) outcome inside

abbrev pub ByStorage : (l : Language) (file : FileScope l) → l.Environment → Storage → NamedType → Declared → DeclaratorParts → Outcome (Unit {0}) → l.Environment → Bool → Type 0
ByStorage l file before storage base name parts outcome after true = NameFound l before storage base name outcome after
ByStorage l file before storage base name parts outcome after false = Both (FixedSizesFound l before parts.sizes) (NameBehind l file storage base parts) outcome after

abbrev pub IsFileName : (l : Language) (file : FileScope l) → l.Environment → Storage → NamedType → Declared → Outcome (Unit {0}) → l.Environment → DeclaratorParts → Option (List Param) → Type 0
IsFileName l file before storage base name outcome after parts (Some params) = Inside l.left (HeadMade l file before storage base name) outcome after
IsFileName l file before storage base name outcome after parts None = ByStorage l file before storage base name parts outcome after (is_typedef storage)

abbrev params_in : DeclaratorParts → Option (List Param)
params_in parts = parts.params

pub file_name_row : {l : Language} {file : FileScope l} {before after : l.Environment} {storage : Storage} {base : NamedType} {name : Declared} {outcome : Outcome (Unit {0})}
    → FindsInFile l file before (FileNameIs storage base name outcome) after → IsFileName l file before storage base name outcome after (out-Declared name) (out-Declared name).params
file_name_row {l} {file} {before} {after} {storage} {base} {name} {outcome} (FileTypedef {parts = parts} e p s found) =
    named_so params_in (IsFileName l file before storage base name outcome after) e p (subst (ByStorage l file before storage base name parts outcome after) (sym s) found)
file_name_row {l} {file} {before} {after} {storage} {base} {name} {outcome} (FileSizesRefused {parts = parts} {first = first} e p s sizes) =
    named_so params_in (IsFileName l file before storage base name outcome after) e p
    (subst (ByStorage l file before storage base name parts outcome after) (sym s) (Refused first, after, sizes, (refl, refl)))
file_name_row {l} {file} {before} {after} {storage} {base} {name} {outcome} (FileNameBroken {parts = parts} {counts = counts} {handed = handed} {first = first} other e p s sizes asked f is) =
    named_so params_in (IsFileName l file before storage base name outcome after) e p
    (subst (ByStorage l file before storage base name parts outcome after) (sym s)
    (Passes counts handed, after, sizes, (other, asked, Broken first (subst (λ (fs : List Fault). IsFirst fs first) (sym f) is) refl refl)))
file_name_row {l} {file} {before} {after} {storage} {base} {name} {outcome} (FileNameGiven {middle = middle} {parts = parts} {counts = counts} {handed = handed} {outcome = inner} other e p s sizes asked f found) =
    named_so params_in (IsFileName l file before storage base name outcome after) e p
    (subst (ByStorage l file before storage base name parts outcome after) (sym s) (Passes counts handed, middle, sizes, (other, asked, Sound f (inner, found, refl))))
file_name_row {l} {file} {before} {storage = storage} {base = base} {name = name} {outcome = outcome} (FileFunction {inside = inside} {found = inner} e p found) =
    named_so params_in (IsFileName l file before storage base name outcome (l.left inside)) e p (inside, (inner, found, refl), refl)

pub file_name_by : (l : Language) (file : FileScope l) (before after : l.Environment) (storage : Storage) (base : NamedType) (name : Declared) (parts : DeclaratorParts) (params : Option (List Param)) (outcome : Outcome (Unit {0}))
    → out-Declared name ≡ parts → parts.params ≡ params → FindsInFile l file before (FileNameIs storage base name outcome) after → IsFileName l file before storage base name outcome after parts params
file_name_by l file before after storage base name parts params outcome e p found = so_named params_in (IsFileName l file before storage base name outcome after) e p (file_name_row found)

pub object_by : (l : Language) (file : FileScope l) (before after : l.Environment) (storage : Storage) (base : NamedType) (name : Declared) (parts : DeclaratorParts) (typedef : Bool) (outcome : Outcome (Unit {0}))
    → out-Declared name ≡ parts → parts.params ≡ None → is_typedef storage ≡ typedef → FindsInFile l file before (FileNameIs storage base name outcome) after
    → ByStorage l file before storage base name parts outcome after typedef
object_by l file before after storage base name parts typedef outcome e p s found =
    subst (ByStorage l file before storage base name parts outcome after) s (file_name_by l file before after storage base name parts None outcome e p found)

-- what stands behind the name of an object
abbrev pub AskedOther : (l : Language) → Identifier → CType → List InitPart → l.Environment → Bool → Type 0
AskedOther l name item parts env other = IsOther (l.linked name.name env) (ObjectLinked (told_type item (length parts))) other

abbrev pub ArrayGiven : (l : Language) → Identifier → Bool → CType → List InitPart → List Handed → l.Environment → Outcome (Unit {0}) → l.Environment → Type 0
ArrayGiven l name listed item parts handed middle outcome after =
    Given (Passes tt (handed ++ static_row listed name.place (told_type item (length parts)) true)) (name_declared l name.name name.place.at (LinkedGiven (ObjectLinked (told_type item (length parts)))) middle) outcome after

abbrev pub ArrayJudged : (l : Language) → Identifier → Bool → CType → List InitPart → List Handed → l.Environment → Bool → Outcome (Unit {0}) → l.Environment → Type 0
ArrayJudged l name listed item parts handed middle other outcome after =
    Judged (told_faults_in_file l.abi (l.structs middle) name.place item (length parts) other) middle (ArrayGiven l name listed item parts handed middle) outcome after

abbrev pub ArrayBehind : (l : Language) → Identifier → Bool → CType → List InitPart → Unit {0} → List Handed → l.Environment → Outcome (Unit {0}) → l.Environment → Type 0
ArrayBehind l name listed item parts told handed middle outcome after = Asked (AskedOther l name item parts middle) (ArrayJudged l name listed item parts handed middle) outcome after

abbrev pub IsTold : (l : Language) → l.Environment → Identifier → Bool → CType → Init → Outcome (Unit {0}) → l.Environment → Initialiser → Type 0
IsTold l before name listed item init outcome after (Value value behind_it) = SurplusFound l before name.place init outcome after
IsTold l before name listed item init outcome after (Braces parts) = Both (ArrayFound l before name true item init parts) (ArrayBehind l name listed item parts) outcome after

abbrev pub WholeFound : (l : Language) → l.Environment → Identifier → Bool → CType → Init → Outcome (Unit {0}) → l.Environment → Initialiser → Type 0
WholeFound l before name listed t init outcome after form =
    Made (initialised_in_file listed name.place (WholeType t) (in_braces form)) (InitialiserFound l before (subject_of name true) (whole_slot t) init) outcome after

abbrev pub IsInitialised : (l : Language) → l.Environment → Identifier → Bool → DeclaredType → Option Init → Outcome (Unit {0}) → l.Environment → Type 0
IsInitialised l before name listed t None outcome after = Given (Passes tt (static_row listed name.place t false)) before outcome after
IsInitialised l before name listed (WholeType t) (Some init) outcome after = WholeFound l before name listed t init outcome after (out-Init init)
IsInitialised l before name listed (ItemsOf item) (Some init) outcome after = IsTold l before name listed item init outcome after (out-Init init)

pub initialised_row : {l : Language} {file : FileScope l} {before after : l.Environment} {name : Identifier} {listed : Bool} {t : DeclaredType} {init : Option Init} {outcome : Outcome (Unit {0})}
    → FindsInFile l file before (FileInitialisedIs name listed t init outcome) after → IsInitialised l before name listed t init outcome after
initialised_row FileNotInitialised = (refl, refl)
initialised_row {l} {file} {before} {after} {outcome = outcome} (FileInitialised {name = name} {listed = listed} {t = t} {init = init} {found = inner} e found) =
    subst (WholeFound l before name listed t init outcome after) (sym e) (inner, found, refl)
initialised_row {l} {file} {before} {after} {outcome = outcome} (FileArrayInitialised {after = middle} {name = name} {listed = listed} {item = item} {init = init} {handed = handed} other e found asked f) =
    subst (IsTold l before name listed item init outcome after) (sym e) (Passes tt handed, middle, found, (other, asked, Sound f (refl, refl)))
initialised_row {l} {file} {before} {after} {outcome = outcome} (FileArrayOfWrongSize {name = name} {listed = listed} {item = item} {init = init} {handed = handed} {first = first} other e found asked f is) =
    subst (IsTold l before name listed item init outcome after) (sym e)
    (Passes tt handed, after, found, (other, asked, Broken first (subst (λ (fs : List Fault). IsFirst fs first) (sym f) is) refl refl))
initialised_row {l} {file} {before} {after} {outcome = outcome} (FileArrayPartsRefused {name = name} {listed = listed} {item = item} {init = init} {first = first} e found) =
    subst (IsTold l before name listed item init outcome after) (sym e) (Refused first, after, found, (refl, refl))
initialised_row {l} {file} {before} {after} {outcome = outcome} (FileArrayByValue {name = name} {listed = listed} {item = item} {init = init} e found) =
    subst (IsTold l before name listed item init outcome after) (sym e) found

pub whole_by : {l : Language} {file : FileScope l} {before after : l.Environment} {name : Identifier} {listed : Bool} {t : CType} {init : Init} {outcome : Outcome (Unit {0})} {form : Initialiser}
    → out-Init init ≡ form → FindsInFile l file before (FileInitialisedIs name listed (WholeType t) (Some init) outcome) after → WholeFound l before name listed t init outcome after form
whole_by {l} {file} {before} {after} {name} {listed} {t} {init} {outcome} e found = subst (WholeFound l before name listed t init outcome after) e (initialised_row found)

pub told_by : {l : Language} {file : FileScope l} {before after : l.Environment} {name : Identifier} {listed : Bool} {item : CType} {init : Init} {outcome : Outcome (Unit {0})} {form : Initialiser}
    → out-Init init ≡ form → FindsInFile l file before (FileInitialisedIs name listed (ItemsOf item) (Some init) outcome) after → IsTold l before name listed item init outcome after form
told_by {l} {file} {before} {after} {name} {listed} {item} {init} {outcome} e found = subst (IsTold l before name listed item init outcome after) e (initialised_row found)

-- the head of a function
abbrev pub AskedOfHead : (l : Language) → NamedType → DeclaratorParts → List Parameter → l.Environment → Bool → Type 0
AskedOfHead l base parts told env other = IsAgain (l.name_here parts.name (l.left env)) (l.linked parts.name env) (LinkedGiven (function_given parts base told)) other

abbrev pub HeadMeant : (l : Language) (file : FileScope l) → Bool → NamedType → DeclaratorParts → List Parameter → List Handed → l.Environment → Outcome CType → l.Environment → Type 0
HeadMeant l file bodied base parts told handed middle outcome after =
    Given (Passes (result_of base parts) (handed ++ head_rows bodied base parts (names_in parts) told)) (head_declared l file bodied base parts (names_in parts) told middle) outcome after

abbrev pub HeadJudged : (l : Language) (file : FileScope l) → Bool → Storage → NamedType → DeclaratorParts → List Parameter → List Handed → l.Environment → Bool → Outcome CType → l.Environment → Type 0
HeadJudged l file bodied storage base parts told handed middle other outcome after =
    Judged (head_faults l file bodied storage base parts told other middle) middle (HeadMeant l file bodied base parts told handed middle) outcome after

abbrev pub HeadBehind : (l : Language) (file : FileScope l) → Bool → Storage → NamedType → DeclaratorParts → List Parameter → List Handed → l.Environment → Outcome CType → l.Environment → Type 0
HeadBehind l file bodied storage base parts told handed middle outcome after =
    Asked (AskedOfHead l base parts told middle) (HeadJudged l file bodied storage base parts told handed middle) outcome after

abbrev pub IsHead : (l : Language) (file : FileScope l) → l.Environment → Bool → Storage → NamedType → Outcome CType → l.Environment → DeclaratorParts → Type 0
IsHead l file before bodied storage base outcome after parts = Both (ParametersFound l (l.entered before) (params_of parts.params)) (HeadBehind l file bodied storage base parts) outcome after

pub head_row : {l : Language} {file : FileScope l} {before after : l.Environment} {bodied : Bool} {storage : Storage} {base : NamedType} {name : Declared} {outcome : Outcome CType}
    → FindsInFile l file before (HeadIs bodied storage base name outcome) after → IsHead l file before bodied storage base outcome after (out-Declared name)
head_row {l} {file} {before} {after} {bodied} {storage} {base} {name} {outcome} (HeadRefused {first = first} e found) =
    subst (IsHead l file before bodied storage base outcome after) (sym e) (Refused first, after, found, (refl, refl))
head_row {l} {file} {before} {after} {bodied} {storage} {base} {name} {outcome} (HeadBroken {told = told} {handed = handed} {first = first} other e found asked f is) =
    subst (IsHead l file before bodied storage base outcome after) (sym e)
    (Passes told handed, after, found, (other, asked, Broken first (subst (λ (fs : List Fault). IsFirst fs first) (sym f) is) refl refl))
head_row {l} {file} {before} {after} {bodied} {storage} {base} {name} {outcome} (HeadGiven {after = middle} {told = told} {handed = handed} other e found asked f) =
    subst (IsHead l file before bodied storage base outcome after) (sym e) (Passes told handed, middle, found, (other, asked, Sound f (refl, refl)))

pub head_by : {l : Language} {file : FileScope l} {before after : l.Environment} {bodied : Bool} {storage : Storage} {base : NamedType} {name : Declared} {outcome : Outcome CType} {parts : DeclaratorParts}
    → out-Declared name ≡ parts → FindsInFile l file before (HeadIs bodied storage base name outcome) after → IsHead l file before bodied storage base outcome after parts
head_by {l} {file} {before} {after} {bodied} {storage} {base} {name} {outcome} e found = subst (IsHead l file before bodied storage base outcome after) e (head_row found)

-- a head with its body
abbrev pub body_made : List Handed → Outcome CType → Outcome (Unit {0})
body_made handed found = with_front handed (without_value found)

abbrev pub BodyBehind : (l : Language) (file : FileScope l) → List Stmt → CType → List Handed → l.Environment → Outcome (Unit {0}) → l.Environment → Type 0
BodyBehind l file body result handed middle outcome after = Made (body_made handed) (BodyFound l (l.loop_set false (file.result_set (Some result) middle)) body) outcome after

abbrev pub IsDefinition : (l : Language) (file : FileScope l) → l.Environment → Storage → NamedType → Declared → List Stmt → Outcome (Unit {0}) → l.Environment → Type 0
IsDefinition l file before storage base head body outcome after = Both (HeadFound l file before true storage base head) (BodyBehind l file body) outcome after

pub definition_row : {l : Language} {file : FileScope l} {before after : l.Environment} {storage : Storage} {base : NamedType} {head : Declared} {body : List Stmt} {outcome : Outcome (Unit {0})}
    → FindsInFile l file before (DefinitionIs storage base head body outcome) after → IsDefinition l file before storage base head body outcome after
definition_row {after = after} (DefinitionHeadRefused {first = first} found) = (Refused first, after, found, (refl, refl))
definition_row (DefinitionWithBody {middle = middle} {result = result} {handed = handed} {found = inner} found body) = (Passes result handed, middle, found, (inner, body, refl))

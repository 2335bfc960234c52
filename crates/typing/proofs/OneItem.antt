-- An item of the file has at most one outcome where it stands, and so have items one behind the other.
use Rattle.std.proofs.Common.{◌≡◌, Bool, true, false, List, [], ◌∷◌, ◌++◌, length, Some, sym, subst}
use Rattle.cbase.specs.declared.ctype.CType.{CType}
use Rattle.cbase.specs.declared.tree.identifier.Identifier.{Identifier}
use Rattle.cbase.specs.declared.tree.init.InitPart.{InitPart}
use Rattle.cbase.specs.declared.tree.decl.Storage.{Storage}
use Rattle.typing.specs.declared.fault.Fault.{Fault}
use Rattle.typing.specs.declared.size.Size.{Size}
use Rattle.typing.specs.Declarations.{LinkedGiven, Parameter, given_type, name_declared, name_of, in_braces, told_type, function_given}
use Rattle.typing.specs.Entities.{WholeType, ObjectLinked}
use Rattle.typing.specs.Faults.{IsFirst}
use Rattle.typing.specs.FileNames.{object_type, object_faults, object_declared, link_row, is_listed_by, static_row, initialised_in_file, told_faults_in_file}
use Rattle.typing.specs.FileScope.{FileScope}
use Rattle.typing.specs.Forms.{DeclaratorParts}
use Rattle.typing.specs.Heads.{result_of, head_faults, params_of, names_in, head_declared, head_rows}
use Rattle.typing.specs.Items.{FindsInFile, ItemSaying, ItemsAre, ItemIs, FileNamesAre, FileNameIs, FileInitialisedIs, HeadIs, DefinitionIs, NoItems, MoreItems, ItemRefused, EmptyItem, NamelessItem, ItemWithNames, ItemWordsRefused, FunctionItem, FunctionWordsRefused, NoMoreFileNames, MoreFileNames, FileNameRefused, FileTypedef, FileSizesRefused, FileNameBroken, FileNameGiven, FileFunction, FileNotInitialised, FileInitialised, FileArrayInitialised, FileArrayOfWrongSize, FileArrayPartsRefused, FileArrayByValue, HeadRefused, HeadBroken, HeadGiven, DefinitionHeadRefused, DefinitionWithBody}
use Rattle.typing.specs.Language.{Language}
use Rattle.typing.specs.Laws.{ItemsHaveOneOutcome}
use Rattle.typing.specs.NamedTypes.{NamedType}
use Rattle.typing.specs.Outcomes.{Outcome, Handed, Passes, Refused, with_front}
use Rattle.typing.specs.Statements.{without_value}
use Rattle.typing.proofs.DeclarationRows.{WordsFound, FixedSizesFound, ParametersFound, one_again, one_other}
use Rattle.typing.proofs.InitialiserRows.{InitialiserFound, ArrayFound, subject_of, whole_slot}
use Rattle.typing.proofs.ItemRows as row
use Rattle.typing.proofs.OneOutcome as part
use Rattle.typing.proofs.Sequences.{OneOf, one_given, one_made, one_refused, one_both, one_inside, one_asked, one_sound, one_broken}

-- at the name of an object, where what stands behind it has one outcome
one_given_name : (l : Language) (file : FileScope l) (storage : Storage) (base : NamedType) (parts : DeclaratorParts) (counts : List Size) (handed : List Handed) (middle : l.Environment) (other : Bool) (inner : Outcome (Unit {0})) (after : l.Environment)
    → row.AskedInFile l base parts counts middle other → object_faults l file storage base parts counts other middle ≡ []
    → OneOf (row.InitialisedFound l file (object_declared l file storage base parts counts middle) (name_of parts) (is_listed_by l file storage parts middle) (object_type l base parts counts middle) parts.init) inner after
    → OneOf (row.NameBehind l file storage base parts counts handed middle) (with_front (handed ++ link_row l file parts (object_declared l file storage base parts counts middle)) inner) after
one_given_name l file storage base parts counts handed middle other inner after asked none one =
    one_asked (row.AskedInFile l base parts counts middle) (row.NameJudged l file storage base parts counts handed middle) other _ after
    (λ answer also. one_again (l.name_here parts.name middle) (l.linked parts.name middle) (LinkedGiven (ObjectLinked (given_type base parts.stars counts))) other answer asked also)
    (one_sound (object_faults l file storage base parts counts other middle) middle (row.GivenInFile l file storage base parts counts handed middle) _ after none
    (one_made (with_front (handed ++ link_row l file parts (object_declared l file storage base parts counts middle)))
    (row.InitialisedFound l file (object_declared l file storage base parts counts middle) (name_of parts) (is_listed_by l file storage parts middle) (object_type l base parts counts middle) parts.init) inner after one))

one_broken_name : (l : Language) (file : FileScope l) (storage : Storage) (base : NamedType) (parts : DeclaratorParts) (counts : List Size) (handed : List Handed) (middle : l.Environment) (other : Bool) (faults : List Fault) (first : Fault)
    → row.AskedInFile l base parts counts middle other → object_faults l file storage base parts counts other middle ≡ faults → IsFirst faults first
    → OneOf (row.NameBehind l file storage base parts counts handed middle) (Refused first) middle
one_broken_name l file storage base parts counts handed middle other faults first asked e is =
    one_asked (row.AskedInFile l base parts counts middle) (row.NameJudged l file storage base parts counts handed middle) other (Refused first) middle
    (λ answer also. one_again (l.name_here parts.name middle) (l.linked parts.name middle) (LinkedGiven (ObjectLinked (given_type base parts.stars counts))) other answer asked also)
    (one_broken (object_faults l file storage base parts counts other middle) middle (row.GivenInFile l file storage base parts counts handed middle) first
    (subst (λ (fs : List Fault). IsFirst fs first) (sym e) is))

-- an array whose size is told
one_array : (l : Language) (name : Identifier) (listed : Bool) (item : CType) (parts : List InitPart) (handed : List Handed) (middle : l.Environment) (other : Bool)
    → row.AskedOther l name item parts middle other → told_faults_in_file l.abi (l.structs middle) name.place item (length parts) other ≡ []
    → OneOf (row.ArrayBehind l name listed item parts tt handed middle) (Passes tt (handed ++ static_row listed name.place (told_type item (length parts)) true))
    (name_declared l name.name name.place.at (LinkedGiven (ObjectLinked (told_type item (length parts)))) middle)
one_array l name listed item parts handed middle other asked none =
    one_asked (row.AskedOther l name item parts middle) (row.ArrayJudged l name listed item parts handed middle) other _ _
    (λ answer also. one_other (l.linked name.name middle) (ObjectLinked (told_type item (length parts))) other answer asked also)
    (one_sound (told_faults_in_file l.abi (l.structs middle) name.place item (length parts) other) middle (row.ArrayGiven l name listed item parts handed middle) _ _ none
    (one_given (Passes tt (handed ++ static_row listed name.place (told_type item (length parts)) true)) (name_declared l name.name name.place.at (LinkedGiven (ObjectLinked (told_type item (length parts)))) middle)))

one_wrong_size : (l : Language) (name : Identifier) (listed : Bool) (item : CType) (parts : List InitPart) (handed : List Handed) (middle : l.Environment) (other : Bool) (faults : List Fault) (first : Fault)
    → row.AskedOther l name item parts middle other → told_faults_in_file l.abi (l.structs middle) name.place item (length parts) other ≡ faults → IsFirst faults first
    → OneOf (row.ArrayBehind l name listed item parts tt handed middle) (Refused first) middle
one_wrong_size l name listed item parts handed middle other faults first asked e is =
    one_asked (row.AskedOther l name item parts middle) (row.ArrayJudged l name listed item parts handed middle) other (Refused first) middle
    (λ answer also. one_other (l.linked name.name middle) (ObjectLinked (told_type item (length parts))) other answer asked also)
    (one_broken (told_faults_in_file l.abi (l.structs middle) name.place item (length parts) other) middle (row.ArrayGiven l name listed item parts handed middle) first
    (subst (λ (fs : List Fault). IsFirst fs first) (sym e) is))

-- the head of a function
one_given_head : (l : Language) (file : FileScope l) (bodied : Bool) (storage : Storage) (base : NamedType) (parts : DeclaratorParts) (told : List Parameter) (handed : List Handed) (middle : l.Environment) (other : Bool)
    → row.AskedOfHead l base parts told middle other → head_faults l file bodied storage base parts told other middle ≡ []
    → OneOf (row.HeadBehind l file bodied storage base parts told handed middle) (Passes (result_of base parts) (handed ++ head_rows bodied base parts (names_in parts) told)) (head_declared l file bodied base parts (names_in parts) told middle)
one_given_head l file bodied storage base parts told handed middle other asked none =
    one_asked (row.AskedOfHead l base parts told middle) (row.HeadJudged l file bodied storage base parts told handed middle) other _ _
    (λ answer also. one_again (l.name_here parts.name (l.left middle)) (l.linked parts.name middle) (LinkedGiven (function_given parts base told)) other answer asked also)
    (one_sound (head_faults l file bodied storage base parts told other middle) middle (row.HeadMeant l file bodied base parts told handed middle) _ _ none
    (one_given (Passes (result_of base parts) (handed ++ head_rows bodied base parts (names_in parts) told)) (head_declared l file bodied base parts (names_in parts) told middle)))

one_broken_head : (l : Language) (file : FileScope l) (bodied : Bool) (storage : Storage) (base : NamedType) (parts : DeclaratorParts) (told : List Parameter) (handed : List Handed) (middle : l.Environment) (other : Bool) (faults : List Fault) (first : Fault)
    → row.AskedOfHead l base parts told middle other → head_faults l file bodied storage base parts told other middle ≡ faults → IsFirst faults first
    → OneOf (row.HeadBehind l file bodied storage base parts told handed middle) (Refused first) middle
one_broken_head l file bodied storage base parts told handed middle other faults first asked e is =
    one_asked (row.AskedOfHead l base parts told middle) (row.HeadJudged l file bodied storage base parts told handed middle) other (Refused first) middle
    (λ answer also. one_again (l.name_here parts.name (l.left middle)) (l.linked parts.name middle) (LinkedGiven (function_given parts base told)) other answer asked also)
    (one_broken (head_faults l file bodied storage base parts told other middle) middle (row.HeadMeant l file bodied base parts told handed middle) first
    (subst (λ (fs : List Fault). IsFirst fs first) (sym e) is))

-- every other derivation of the same part finds the same
abbrev One : (l : Language) (file : FileScope l) → l.Environment → ItemSaying → l.Environment → Type 0
One l file before (ItemsAre items first) after = OneOf (row.ItemsFound l file before items) first after
One l file before (ItemIs place item first) after = OneOf (row.ItemFound l file before place item) first after
One l file before (FileNamesAre storage base names first) after = OneOf (row.FileNamesFound l file before storage base names) first after
One l file before (FileNameIs storage base name first) after = OneOf (row.FileNameFound l file before storage base name) first after
One l file before (FileInitialisedIs name listed t init first) after = OneOf (row.InitialisedFound l file before name listed t init) first after
One l file before (HeadIs bodied storage base name first) after = OneOf (row.HeadFound l file before bodied storage base name) first after
One l file before (DefinitionIs storage base head body first) after = OneOf (row.DefinitionFound l file before storage base head body) first after

one : (l : Language) (file : FileScope l) (before : l.Environment) (saying : ItemSaying) (after : l.Environment) → FindsInFile l file before saying after → One l file before saying after
one l file before _ after NoItems = λ second other found. one_given (Passes tt []) before second other (row.no_items found)
one l file before _ after (MoreItems {middle = middle} {place = place} {item = item} {items = items} {handed = handed} {outcome = inner} found rest) = λ second other also.
    one_both (row.ItemFound l file before place item) (row.ItemsBehind l file items) tt handed middle (with_front handed inner) after (one l file before _ middle found)
    (one_made (with_front handed) (row.ItemsFound l file middle items) inner after (one l file middle _ after rest)) second other (row.items_row also)
one l file before _ after (ItemRefused {place = place} {item = item} {items = items} {first = first} found) = λ second other also.
    one_refused (row.ItemFound l file before place item) (row.ItemsBehind l file items) first after (one l file before _ after found) second other (row.items_row also)
one l file before _ after EmptyItem = λ second other found. one_given (Passes tt []) before second other (row.empty_row found)
one l file before _ after (NamelessItem {place = place} {decl = decl} {parts = parts} e f found) = λ second other also.
    part.one l before _ after found second other (row.declaration_by l file before other place decl parts [] second e f also)
one l file before _ after (ItemWithNames {middle = middle} {place = place} {decl = decl} {parts = parts} {words = words} {base = base} {name = name} {names = names} {handed = handed} {outcome = inner} e w f found rest) = λ second other also.
    one_both (WordsFound l before words) (row.NamesBehind l file parts.storage (name ∷ names)) base handed middle (with_front handed inner) after (part.one l before _ middle found)
    (one_made (with_front handed) (row.FileNamesFound l file middle parts.storage base (name ∷ names)) inner after (one l file middle _ after rest)) second other
    (subst (row.WithNames l file before parts (name ∷ names) second other) w (row.declaration_by l file before other place decl parts (name ∷ names) second e f also))
one l file before _ after (ItemWordsRefused {place = place} {decl = decl} {parts = parts} {words = words} {name = name} {names = names} {first = first} e w f found) = λ second other also.
    one_refused (WordsFound l before words) (row.NamesBehind l file parts.storage (name ∷ names)) first after (part.one l before _ after found) second other
    (subst (row.WithNames l file before parts (name ∷ names) second other) w (row.declaration_by l file before other place decl parts (name ∷ names) second e f also))
one l file before _ after (FunctionItem {middle = middle} {inside = inside} {storage = storage} {head = head} {body = body} {words = words} {base = base} {handed = handed} {outcome = inner} w found defined) = λ second other also.
    one_both (WordsFound l before words) (row.DefinitionBehind l file storage head body) base handed middle (with_front handed inner) after (part.one l before _ middle found)
    (one_inside (row.outside l file) (row.DefinitionMade l file middle storage base head body handed) (with_front handed inner) inside
    (one_made (with_front handed) (row.DefinitionFound l file middle storage base head body) inner inside (one l file middle _ inside defined))) second other (row.function_by w also)
one l file before _ after (FunctionWordsRefused {storage = storage} {head = head} {body = body} {words = words} {first = first} w found) = λ second other also.
    one_refused (WordsFound l before words) (row.DefinitionBehind l file storage head body) first after (part.one l before _ after found) second other (row.function_by w also)
one l file before _ after NoMoreFileNames = λ second other found. one_given (Passes tt []) before second other (row.no_file_names found)
one l file before _ after (MoreFileNames {middle = middle} {storage = storage} {base = base} {name = name} {names = names} {handed = handed} {outcome = inner} found rest) = λ second other also.
    one_both (row.FileNameFound l file before storage base name) (row.MoreBehind l file storage base names) tt handed middle (with_front handed inner) after (one l file before _ middle found)
    (one_made (with_front handed) (row.FileNamesFound l file middle storage base names) inner after (one l file middle _ after rest)) second other (row.file_names_row also)
one l file before _ after (FileNameRefused {storage = storage} {base = base} {name = name} {names = names} {first = first} found) = λ second other also.
    one_refused (row.FileNameFound l file before storage base name) (row.MoreBehind l file storage base names) first after (one l file before _ after found) second other (row.file_names_row also)
one l file before _ after (FileTypedef {storage = storage} {base = base} {name = name} {parts = parts} e p s found) = λ second other also.
    part.one l before _ after found second other (row.object_by l file before other storage base name parts true second e p s also)
one l file before _ after (FileSizesRefused {storage = storage} {base = base} {name = name} {parts = parts} {first = first} e p s sizes) = λ second other also.
    one_refused (FixedSizesFound l before parts.sizes) (row.NameBehind l file storage base parts) first after (part.one l before _ after sizes) second other
    (row.object_by l file before other storage base name parts false second e p s also)
one l file before _ after (FileNameBroken {storage = storage} {base = base} {name = name} {parts = parts} {counts = counts} {faults = faults} {handed = handed} {first = first} again e p s sizes asked f is) = λ second other also.
    one_both (FixedSizesFound l before parts.sizes) (row.NameBehind l file storage base parts) counts handed after (Refused first) after (part.one l before _ after sizes)
    (one_broken_name l file storage base parts counts handed after again faults first asked f is) second other
    (row.object_by l file before other storage base name parts false second e p s also)
one l file before _ after (FileNameGiven {middle = middle} {storage = storage} {base = base} {name = name} {parts = parts} {counts = counts} {handed = handed} {outcome = inner} again e p s sizes asked f found) = λ second other also.
    one_both (FixedSizesFound l before parts.sizes) (row.NameBehind l file storage base parts) counts handed middle
    (with_front (handed ++ link_row l file parts (object_declared l file storage base parts counts middle)) inner) after (part.one l before _ middle sizes)
    (one_given_name l file storage base parts counts handed middle again inner after asked f (one l file (object_declared l file storage base parts counts middle) _ after found)) second other
    (row.object_by l file before other storage base name parts false second e p s also)
one l file before _ _ (FileFunction {inside = inside} {storage = storage} {base = base} {name = name} {parts = parts} {params = params} {found = inner} e p found) = λ second other also.
    one_inside l.left (row.HeadMade l file before storage base name) (without_value inner) inside
    (one_made without_value (row.HeadFound l file before false storage base name) inner inside (one l file before _ inside found)) second other
    (row.file_name_by l file before other storage base name parts (Some params) second e p also)
one l file before _ after (FileNotInitialised {name = name} {listed = listed} {t = t}) = λ second other found.
    one_given (Passes tt (static_row listed name.place t false)) before second other (row.initialised_row found)
one l file before _ after (FileInitialised {name = name} {listed = listed} {t = t} {init = init} {form = form} {found = inner} e found) = λ second other also.
    one_made (initialised_in_file listed name.place (WholeType t) (in_braces form)) (InitialiserFound l before (subject_of name true) (whole_slot t) init) inner after (part.one l before _ after found) second other (row.whole_by e also)
one l file before _ after (FileArrayInitialised {after = middle} {name = name} {listed = listed} {item = item} {init = init} {parts = parts} {handed = handed} again e found asked f) = λ second other also.
    one_both (ArrayFound l before name true item init parts) (row.ArrayBehind l name listed item parts) tt handed middle
    (Passes tt (handed ++ static_row listed name.place (told_type item (length parts)) true)) after (part.one l before _ middle found)
    (one_array l name listed item parts handed middle again asked f) second other (row.told_by e also)
one l file before _ after (FileArrayOfWrongSize {name = name} {listed = listed} {item = item} {init = init} {parts = parts} {handed = handed} {faults = faults} {first = first} again e found asked f is) = λ second other also.
    one_both (ArrayFound l before name true item init parts) (row.ArrayBehind l name listed item parts) tt handed after (Refused first) after (part.one l before _ after found)
    (one_wrong_size l name listed item parts handed after again faults first asked f is) second other (row.told_by e also)
one l file before _ after (FileArrayPartsRefused {name = name} {listed = listed} {item = item} {init = init} {parts = parts} {first = first} e found) = λ second other also.
    one_refused (ArrayFound l before name true item init parts) (row.ArrayBehind l name listed item parts) first after (part.one l before _ after found) second other (row.told_by e also)
one l file before _ after (FileArrayByValue e found) = λ second other also. part.one l before _ after found second other (row.told_by e also)
one l file before _ after (HeadRefused {bodied = bodied} {storage = storage} {base = base} {parts = parts} {first = first} e found) = λ second other also.
    one_refused (ParametersFound l (l.entered before) (params_of parts.params)) (row.HeadBehind l file bodied storage base parts) first after (part.one l (l.entered before) _ after found) second other (row.head_by e also)
one l file before _ after (HeadBroken {bodied = bodied} {storage = storage} {base = base} {parts = parts} {told = told} {faults = faults} {handed = handed} {first = first} again e found asked f is) = λ second other also.
    one_both (ParametersFound l (l.entered before) (params_of parts.params)) (row.HeadBehind l file bodied storage base parts) told handed after (Refused first) after (part.one l (l.entered before) _ after found)
    (one_broken_head l file bodied storage base parts told handed after again faults first asked f is) second other (row.head_by e also)
one l file before _ after (HeadGiven {after = middle} {bodied = bodied} {storage = storage} {base = base} {parts = parts} {told = told} {handed = handed} again e found asked f) = λ second other also.
    one_both (ParametersFound l (l.entered before) (params_of parts.params)) (row.HeadBehind l file bodied storage base parts) told handed middle
    (Passes (result_of base parts) (handed ++ head_rows bodied base parts (names_in parts) told)) after (part.one l (l.entered before) _ middle found)
    (one_given_head l file bodied storage base parts told handed middle again asked f) second other (row.head_by e also)
one l file before _ after (DefinitionHeadRefused {storage = storage} {base = base} {head = head} {body = body} {first = first} found) = λ second other also.
    one_refused (row.HeadFound l file before true storage base head) (row.BodyBehind l file body) first after (one l file before _ after found) second other (row.definition_row also)
one l file before _ after (DefinitionWithBody {middle = middle} {storage = storage} {base = base} {head = head} {body = body} {result = result} {handed = handed} {found = inner} found walked) = λ second other also.
    one_both (row.HeadFound l file before true storage base head) (row.BodyBehind l file body) result handed middle (row.body_made handed inner) after (one l file before _ middle found)
    (one_made (row.body_made handed) (row.BodyFound l (l.loop_set false (file.result_set (Some result) middle)) body) inner after (part.one l (l.loop_set false (file.result_set (Some result) middle)) _ after walked)) second other
    (row.definition_row also)

pub one_item : (l : Language) (file : FileScope l) → ItemsHaveOneOutcome l file
one_item l file = record {
  one = λ before place item first second after other a b. one l file before (ItemIs place item first) after a second other b;
  several = λ before items first second after other a b. one l file before (ItemsAre items first) after a second other b;
}

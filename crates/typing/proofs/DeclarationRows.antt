-- What a derivation of each part of a declaration in a block holds (C11 6.7), and that what is asked of its names has one answer.
use Rattle.std.proofs.Common.{◌≡◌, ℕ, Bool, true, false, List, [], ◌∷◌, ◌++◌, Option, Some, None, refl, sym, ap, ◌∙◌, subst}
use Rattle.cbase.specs.declared.place.Place.{Place}
use Rattle.cbase.specs.declared.tree.decl.Decl.{Decl}
use Rattle.cbase.specs.declared.tree.decl.Declared.{Declared}
use Rattle.cbase.specs.declared.tree.decl.Param.{Param}
use Rattle.cbase.specs.declared.tree.decl.Storage.{Storage}
use Rattle.cbase.specs.declared.tree.expr.Expr.{Expr}
use Rattle.cbase.specs.declared.tree.expr.ExprForm.TheViews.{out-TypeSpec, out-Decl, out-Declared, out-Param}
use Rattle.cbase.specs.declared.tree.identifier.Identifier.{Identifier}
use Rattle.cbase.specs.declared.tree.init.Init.{Init}
use Rattle.typing.specs.declared.fault.Fault.{Fault}
use Rattle.typing.specs.declared.size.Size.{Size}
use Rattle.typing.specs.Braces.{Opening, Opens, IsTwice}
use Rattle.typing.specs.Declarations.{Given as Gives, ObjectGiven, LinkedGiven, TypeGiven, Parameter, tag_alone, alone, is_fixed_size, given, given_type, AreTwo, AreTwoTypes, IsOther, IsAgain, faults_of_name, name_declared, name_of, parameter, with_parameter, is_named_here, parameter_declared, faults_of_function, function_given}
use Rattle.typing.specs.Entities.{DeclaredType, WholeType, ItemsOf, Linked, ObjectLinked, FunctionLinked, NameHere, OwnHere, TypedefHere, LinkedHere}
use Rattle.typing.specs.Faults.{all_at, IsFirst}
use Rattle.typing.specs.Forms.{Words, NamesParts, DeclaratorParts, ParameterParts}
use Rattle.typing.specs.Language.{Language}
use Rattle.typing.specs.NamedTypes.{NamedType}
use Rattle.typing.specs.Outcomes.{Outcome, Handed, Passes, Refused, IsSettled, with_front}
use Rattle.typing.specs.Typing.{Finds, WordsAre, SizesAre, MemberSizesAre, DeclaredIs, DeclaratorsAre, DeclaredNamesAre, DeclaredNameIs, DeclaredSizesAre, ParametersAre, ParameterIs, InitialisedIs, TagAlone, TagAloneOfOther, WordsWithNames, DeclaredWordsRefused, NoDeclarators, SomeDeclarators, NoMoreDeclarators, MoreDeclarators, DeclaratorRefused, NameWithSizesRefused, NameBroken, NameGiven, FixedSizes, AnySizes, ParametersRefused, FunctionBroken, FunctionGiven, NoParameters, MoreParameters, ParameterRefused, ParameterFound, ParameterWordsRefused, ParameterSizesRefused}
use Rattle.typing.proofs.Sequences.{OneOf, Given, Made, Both, Inside, Asked, Here, Judged, Sound, Broken, one_given, one_made, one_asked, one_sound, one_broken, named_so, so_named}

-- what is found of each part, by the part
abbrev pub WordsFound : (l : Language) → l.Environment → Words → Outcome NamedType → l.Environment → Type 0
WordsFound l before words outcome after = Finds l before (WordsAre words outcome) after

abbrev pub AnySizesFound : (l : Language) → l.Environment → List (Option Expr) → Outcome (List Size) → l.Environment → Type 0
AnySizesFound l before sizes outcome after = Finds l before (SizesAre sizes outcome) after

abbrev pub FixedSizesFound : (l : Language) → l.Environment → List (Option Expr) → Outcome (List Size) → l.Environment → Type 0
FixedSizesFound l before sizes outcome after = Finds l before (MemberSizesAre sizes outcome) after

abbrev pub DeclarationFound : (l : Language) → l.Environment → Place → Decl → Outcome (Unit {0}) → l.Environment → Type 0
DeclarationFound l before place decl outcome after = Finds l before (DeclaredIs place decl outcome) after

abbrev pub DeclaratorsFound : (l : Language) → l.Environment → Place → Storage → NamedType → List Declared → Outcome (Unit {0}) → l.Environment → Type 0
DeclaratorsFound l before place storage base names outcome after = Finds l before (DeclaratorsAre place storage base names outcome) after

abbrev pub NamesFound : (l : Language) → l.Environment → Storage → NamedType → List Declared → Outcome (Unit {0}) → l.Environment → Type 0
NamesFound l before storage base names outcome after = Finds l before (DeclaredNamesAre storage base names outcome) after

abbrev pub NameFound : (l : Language) → l.Environment → Storage → NamedType → Declared → Outcome (Unit {0}) → l.Environment → Type 0
NameFound l before storage base name outcome after = Finds l before (DeclaredNameIs storage base name outcome) after

abbrev pub SizesFound : (l : Language) → l.Environment → Bool → List (Option Expr) → Outcome (List Size) → l.Environment → Type 0
SizesFound l before fixed sizes outcome after = Finds l before (DeclaredSizesAre fixed sizes outcome) after

abbrev pub ParametersFound : (l : Language) → l.Environment → List Param → Outcome (List Parameter) → l.Environment → Type 0
ParametersFound l before params outcome after = Finds l before (ParametersAre params outcome) after

abbrev pub OneParameterFound : (l : Language) → l.Environment → Param → Outcome Parameter → l.Environment → Type 0
OneParameterFound l before param outcome after = Finds l before (ParameterIs param outcome) after

abbrev pub InitialisedFound : (l : Language) → l.Environment → Identifier → Gives → Option Init → Outcome (Unit {0}) → l.Environment → Type 0
InitialisedFound l before name gives init outcome after = Finds l before (InitialisedIs name gives init outcome) after

-- a declaration
abbrev pub IsAlone : {E : Type 0} → Opening E → E → Outcome (Unit {0}) → E → Type 0
IsAlone (Opens inside) before outcome after = Given (Passes tt []) inside outcome after
IsAlone (IsTwice first) before outcome after = Given (Refused first) before outcome after

abbrev pub DeclaratorsBehind : (l : Language) → Place → NamesParts → NamedType → List Handed → l.Environment → Outcome (Unit {0}) → l.Environment → Type 0
DeclaratorsBehind l place parts base handed middle outcome after = Made (with_front handed) (DeclaratorsFound l middle place parts.storage base parts.names) outcome after

abbrev pub ByTag : (l : Language) → l.Environment → Place → NamesParts → Words → Option Identifier → Outcome (Unit {0}) → l.Environment → Type 0
ByTag l before place parts words (Some name) outcome after = IsAlone (alone l name before) before outcome after
ByTag l before place parts words None outcome after = Both (WordsFound l before words) (DeclaratorsBehind l place parts) outcome after

abbrev pub IsDeclared : (l : Language) → l.Environment → Place → NamesParts → Words → Outcome (Unit {0}) → l.Environment → Type 0
IsDeclared l before place parts words outcome after = ByTag l before place parts words (tag_alone parts.storage words parts.names) outcome after

abbrev words_in : NamesParts → Words
words_in parts = out-TypeSpec parts.spec

declared_so : (l : Language) (before after : l.Environment) (place : Place) (decl : Decl) (parts : NamesParts) (words : Words) (tag : Option Identifier) (outcome : Outcome (Unit {0}))
    → out-Decl decl ≡ parts → out-TypeSpec parts.spec ≡ words → tag_alone parts.storage words parts.names ≡ tag
    → ByTag l before place parts words tag outcome after → IsDeclared l before place (out-Decl decl) (out-TypeSpec (out-Decl decl).spec) outcome after
declared_so l before after place decl parts words tag outcome e f g is =
    named_so words_in (λ (p : NamesParts) (w : Words). IsDeclared l before place p w outcome after) e f
    (subst (λ (t : Option Identifier). ByTag l before place parts words t outcome after) (sym g) is)

pub declared_row : {l : Language} {before after : l.Environment} {place : Place} {decl : Decl} {outcome : Outcome (Unit {0})}
    → Finds l before (DeclaredIs place decl outcome) after → IsDeclared l before place (out-Decl decl) (out-TypeSpec (out-Decl decl).spec) outcome after
declared_row {l} {before} {after} {place} {decl} (TagAlone {parts = parts} {words = words} {name = name} e f g opens) =
    declared_so l before after place decl parts words (Some name) (Passes tt []) e f g
    (subst (λ (o : Opening l.Environment). IsAlone o before (Passes tt []) after) (sym opens) (refl, refl))
declared_row {l} {before} {place = place} {decl = decl} (TagAloneOfOther {parts = parts} {words = words} {name = name} {first = first} e f g opens) =
    declared_so l before before place decl parts words (Some name) (Refused first) e f g
    (subst (λ (o : Opening l.Environment). IsAlone o before (Refused first) before) (sym opens) (refl, refl))
declared_row {l} {before} {after} {place} {decl} {outcome} (WordsWithNames {middle = middle} {parts = parts} {words = words} {base = base} {handed = handed} {outcome = inner} e f g found names) =
    declared_so l before after place decl parts words None outcome e f g (Passes base handed, middle, found, (inner, names, refl))
declared_row {l} {before} {after} {place} {decl} {outcome} (DeclaredWordsRefused {parts = parts} {words = words} {first = first} e f g found) =
    declared_so l before after place decl parts words None outcome e f g (Refused first, after, found, (refl, refl))

pub declared_by : (l : Language) (before after : l.Environment) (place : Place) (decl : Decl) (parts : NamesParts) (words : Words) (tag : Option Identifier) (outcome : Outcome (Unit {0}))
    → out-Decl decl ≡ parts → out-TypeSpec parts.spec ≡ words → tag_alone parts.storage words parts.names ≡ tag
    → Finds l before (DeclaredIs place decl outcome) after → ByTag l before place parts words tag outcome after
declared_by l before after place decl parts words tag outcome e f g found =
    subst (λ (t : Option Identifier). ByTag l before place parts words t outcome after) g
    (so_named words_in (λ (p : NamesParts) (w : Words). IsDeclared l before place p w outcome after) e f (declared_row found))

pub one_alone : {E : Type 0} (opening : Opening E) (before : E) (first : Outcome (Unit {0})) (after : E)
    → IsAlone opening before first after → OneOf (IsAlone opening before) first after
one_alone (Opens inside) before first after is second other also = (is.0 ∙ sym also.0, sym is.1 ∙ also.1)
one_alone (IsTwice broken) before first after is second other also = (is.0 ∙ sym also.0, sym is.1 ∙ also.1)

pub alone_by : (l : Language) (before after : l.Environment) (name : Identifier) (opening : Opening l.Environment) (outcome : Outcome (Unit {0}))
    → alone l name before ≡ opening → IsAlone (alone l name before) before outcome after → IsAlone opening before outcome after
alone_by l before after name opening outcome e is = subst (λ (o : Opening l.Environment). IsAlone o before outcome after) e is

-- its names
abbrev pub AreDeclarators : (l : Language) → l.Environment → Place → Storage → NamedType → List Declared → Outcome (Unit {0}) → l.Environment → Type 0
AreDeclarators l before place storage base [] outcome after = Here (λ (o : Outcome (Unit {0})). IsSettled (all_at place base.found) tt [] o) before outcome after
AreDeclarators l before place storage base (name ∷ names) outcome after = NamesFound l before storage base (name ∷ names) outcome after

pub declarators_row : {l : Language} {before after : l.Environment} {place : Place} {storage : Storage} {base : NamedType} {names : List Declared} {outcome : Outcome (Unit {0})}
    → Finds l before (DeclaratorsAre place storage base names outcome) after → AreDeclarators l before place storage base names outcome after
declarators_row (NoDeclarators settled) = (settled, refl)
declarators_row (SomeDeclarators found) = found

abbrev pub NamesBehind : (l : Language) → Storage → NamedType → List Declared → Unit {0} → List Handed → l.Environment → Outcome (Unit {0}) → l.Environment → Type 0
NamesBehind l storage base names told handed middle outcome after = Made (with_front handed) (NamesFound l middle storage base names) outcome after

abbrev pub AreNames : (l : Language) → l.Environment → Storage → NamedType → Declared → List Declared → Outcome (Unit {0}) → l.Environment → Type 0
AreNames l before storage base name names outcome after = Both (NameFound l before storage base name) (NamesBehind l storage base names) outcome after

pub no_names : {l : Language} {before after : l.Environment} {storage : Storage} {base : NamedType} {outcome : Outcome (Unit {0})}
    → Finds l before (DeclaredNamesAre storage base [] outcome) after → Given (Passes tt []) before outcome after
no_names NoMoreDeclarators = (refl, refl)

pub names_row : {l : Language} {before after : l.Environment} {storage : Storage} {base : NamedType} {name : Declared} {names : List Declared} {outcome : Outcome (Unit {0})}
    → Finds l before (DeclaredNamesAre storage base (name ∷ names) outcome) after → AreNames l before storage base name names outcome after
names_row (MoreDeclarators {middle = middle} {handed = handed} {outcome = inner} found rest) = (Passes tt handed, middle, found, (inner, rest, refl))
names_row {after = after} (DeclaratorRefused {first = first} found) = (Refused first, after, found, (refl, refl))

-- sizes
abbrev pub AreSizes : (l : Language) → l.Environment → Bool → List (Option Expr) → Outcome (List Size) → l.Environment → Type 0
AreSizes l before true sizes outcome after = FixedSizesFound l before sizes outcome after
AreSizes l before false sizes outcome after = AnySizesFound l before sizes outcome after

pub sizes_row : {l : Language} {before after : l.Environment} {fixed : Bool} {sizes : List (Option Expr)} {outcome : Outcome (List Size)}
    → Finds l before (DeclaredSizesAre fixed sizes outcome) after → AreSizes l before fixed sizes outcome after
sizes_row (FixedSizes found) = found
sizes_row (AnySizes found) = found

-- whether a name is declared again
one_two : {A : Type 0} (a b : A) (first second : Bool) → AreTwo a b first → AreTwo a b second → first ≡ second
one_two a b true true is also = refl
one_two a b true false is also = absurd (is also)
one_two a b false true is also = absurd (also is)
one_two a b false false is also = refl

one_two_types : (a b : DeclaredType) (first second : Bool) → AreTwoTypes a b first → AreTwoTypes a b second → first ≡ second
one_two_types (WholeType a) (WholeType b) first second is also = one_two a b first second is also
one_two_types (ItemsOf a) (ItemsOf b) first second is also = one_two a b first second is also
one_two_types (WholeType a) (ItemsOf b) first second is also = one_two _ _ first second is also
one_two_types (ItemsOf a) (WholeType b) first second is also = one_two _ _ first second is also

pub one_other : (before : Option Linked) (now : Linked) (first second : Bool) → IsOther before now first → IsOther before now second → first ≡ second
one_other None now first second is also = is ∙ sym also
one_other (Some (ObjectLinked a)) (ObjectLinked b) first second is also = one_two_types a b first second is also
one_other (Some (FunctionLinked result params)) (FunctionLinked other_result other_params) first second is also = one_two _ _ first second is also
one_other (Some (ObjectLinked a)) (FunctionLinked result params) first second is also = is ∙ sym also
one_other (Some (FunctionLinked result params)) (ObjectLinked b) first second is also = is ∙ sym also

pub one_again : (here : Option NameHere) (linked : Option Linked) (gives : Gives) (first second : Bool) → IsAgain here linked gives first → IsAgain here linked gives second → first ≡ second
one_again here linked (ObjectGiven fixed t) first second is also = is ∙ sym also
one_again None linked (TypeGiven t) first second is also = is ∙ sym also
one_again (Some OwnHere) linked (TypeGiven t) first second is also = is ∙ sym also
one_again (Some LinkedHere) linked (TypeGiven t) first second is also = is ∙ sym also
one_again (Some (TypedefHere before)) linked (TypeGiven t) first second is also = one_two before t first second is also
one_again (Some OwnHere) linked (LinkedGiven now) first second is also = is ∙ sym also
one_again (Some (TypedefHere before)) linked (LinkedGiven now) first second is also = is ∙ sym also
one_again (Some LinkedHere) linked (LinkedGiven now) first second is also = one_other linked now first second is also
one_again None linked (LinkedGiven now) first second is also = one_other linked now first second is also

-- one name
abbrev pub AskedAgain : (l : Language) → l.Environment → List ℕ → Gives → Bool → Type 0
AskedAgain l env name gives again = IsAgain (l.name_here name env) (l.linked name env) gives again

abbrev pub gives_by : Storage → NamedType → DeclaratorParts → List Size → Gives
gives_by storage base parts counts = given storage (given_type base parts.stars counts)

abbrev pub GivenBehind : (l : Language) → Storage → NamedType → DeclaratorParts → List Size → List Handed → l.Environment → Outcome (Unit {0}) → l.Environment → Type 0
GivenBehind l storage base parts counts handed middle outcome after =
    Made (with_front handed) (InitialisedFound l (name_declared l parts.name parts.place.at (gives_by storage base parts counts) middle) (name_of parts) (gives_by storage base parts counts) parts.init) outcome after

abbrev pub NameJudged : (l : Language) → Storage → NamedType → DeclaratorParts → List Size → List Handed → l.Environment → Bool → Outcome (Unit {0}) → l.Environment → Type 0
NameJudged l storage base parts counts handed middle again outcome after =
    Judged (faults_of_name l.abi (l.structs middle) parts base counts (gives_by storage base parts counts) again) middle (GivenBehind l storage base parts counts handed middle) outcome after

abbrev pub NameBehind : (l : Language) → Storage → NamedType → DeclaratorParts → List Size → List Handed → l.Environment → Outcome (Unit {0}) → l.Environment → Type 0
NameBehind l storage base parts counts handed middle outcome after =
    Asked (AskedAgain l middle parts.name (gives_by storage base parts counts)) (NameJudged l storage base parts counts handed middle) outcome after

abbrev pub FunctionJudged : (l : Language) → Storage → NamedType → DeclaratorParts → List Parameter → List Handed → l.Environment → Bool → Outcome (Unit {0}) → l.Environment → Type 0
FunctionJudged l storage base parts told handed middle again outcome after =
    Judged (faults_of_function (l.structs middle) storage parts base told again) middle
    (Given (Passes tt handed) (name_declared l parts.name parts.place.at (LinkedGiven (function_given parts base told)) middle)) outcome after

abbrev pub FunctionBehind : (l : Language) → Storage → NamedType → DeclaratorParts → List Parameter → List Handed → l.Environment → Outcome (Unit {0}) → l.Environment → Type 0
FunctionBehind l storage base parts told handed middle outcome after =
    Asked (AskedAgain l middle parts.name (LinkedGiven (function_given parts base told))) (FunctionJudged l storage base parts told handed middle) outcome after

abbrev pub ParametersInside : (l : Language) → l.Environment → List Param → Outcome (List Parameter) → l.Environment → Type 0
ParametersInside l before params outcome after = Inside l.left (ParametersFound l (l.entered before) params) outcome after

abbrev pub IsName : (l : Language) → l.Environment → Storage → NamedType → Outcome (Unit {0}) → l.Environment → DeclaratorParts → Option (List Param) → Type 0
IsName l before storage base outcome after parts None = Both (SizesFound l before (is_fixed_size storage) parts.sizes) (NameBehind l storage base parts) outcome after
IsName l before storage base outcome after parts (Some params) = Both (ParametersInside l before params) (FunctionBehind l storage base parts) outcome after

abbrev params_in : DeclaratorParts → Option (List Param)
params_in parts = parts.params

pub name_row : {l : Language} {before after : l.Environment} {storage : Storage} {base : NamedType} {name : Declared} {outcome : Outcome (Unit {0})}
    → Finds l before (DeclaredNameIs storage base name outcome) after → IsName l before storage base outcome after (out-Declared name) (out-Declared name).params
name_row {l} {before} {after} {storage} {base} {name} {outcome} (NameWithSizesRefused {parts = parts} {first = first} e p sizes) =
    named_so params_in (IsName l before storage base outcome after) e p (Refused first, after, sizes, (refl, refl))
name_row {l} {before} {after} {storage} {base} {name} {outcome} (NameBroken {parts = parts} {counts = counts} {faults = faults} {handed = handed} {first = first} again e p sizes asked f is) =
    named_so params_in (IsName l before storage base outcome after) e p
    (Passes counts handed, after, sizes, (again, asked, Broken first (subst (λ (fs : List Fault). IsFirst fs first) (sym f) is) refl refl))
name_row {l} {before} {after} {storage} {base} {name} {outcome} (NameGiven {middle = middle} {parts = parts} {counts = counts} {handed = handed} {outcome = inner} again e p sizes asked f found) =
    named_so params_in (IsName l before storage base outcome after) e p
    (Passes counts handed, middle, sizes, (again, asked, Sound f (inner, found, refl)))
name_row {l} {before} {storage = storage} {base = base} {name = name} {outcome = outcome} (ParametersRefused {after = inside} {parts = parts} {params = params} {first = first} e p found) =
    named_so params_in (IsName l before storage base outcome (l.left inside)) e p (Refused first, l.left inside, (inside, found, refl), (refl, refl))
name_row {l} {before} {storage = storage} {base = base} {name = name} {outcome = outcome} (FunctionBroken {after = inside} {parts = parts} {params = params} {told = told} {faults = faults} {handed = handed} {first = first} again e p found asked f is) =
    named_so params_in (IsName l before storage base outcome (l.left inside)) e p
    (Passes told handed, l.left inside, (inside, found, refl), (again, asked, Broken first (subst (λ (fs : List Fault). IsFirst fs first) (sym f) is) refl refl))
name_row {l} {before} {after} {storage} {base} {name} {outcome} (FunctionGiven {after = inside} {parts = parts} {params = params} {told = told} {handed = handed} again e p found asked f) =
    named_so params_in (IsName l before storage base outcome after) e p
    (Passes told handed, l.left inside, (inside, found, refl), (again, asked, Sound f (refl, refl)))

pub name_by : (l : Language) (before after : l.Environment) (storage : Storage) (base : NamedType) (name : Declared) (parts : DeclaratorParts) (params : Option (List Param)) (outcome : Outcome (Unit {0}))
    → out-Declared name ≡ parts → parts.params ≡ params → Finds l before (DeclaredNameIs storage base name outcome) after → IsName l before storage base outcome after parts params
name_by l before after storage base name parts params outcome e p found = so_named params_in (IsName l before storage base outcome after) e p (name_row found)

-- parameters
abbrev pub ParametersBehind : (l : Language) → List Param → Parameter → List Handed → l.Environment → Outcome (List Parameter) → l.Environment → Type 0
ParametersBehind l params told handed middle outcome after = Made (with_parameter told handed) (ParametersFound l middle params) outcome after

abbrev pub AreParameters : (l : Language) → l.Environment → Param → List Param → Outcome (List Parameter) → l.Environment → Type 0
AreParameters l before param params outcome after = Both (OneParameterFound l before param) (ParametersBehind l params) outcome after

pub no_parameters : {l : Language} {before after : l.Environment} {outcome : Outcome (List Parameter)}
    → Finds l before (ParametersAre [] outcome) after → Given (Passes [] []) before outcome after
no_parameters NoParameters = (refl, refl)

pub parameters_row : {l : Language} {before after : l.Environment} {param : Param} {params : List Param} {outcome : Outcome (List Parameter)}
    → Finds l before (ParametersAre (param ∷ params) outcome) after → AreParameters l before param params outcome after
parameters_row (MoreParameters {middle = middle} {told = told} {handed = handed} {outcome = inner} found rest) = (Passes told handed, middle, found, (inner, rest, refl))
parameters_row {after = after} (ParameterRefused {first = first} found) = (Refused first, after, found, (refl, refl))

abbrev pub told_of : (l : Language) → NamedType → ParameterParts → List Size → l.Environment → Parameter
told_of l base parts counts env = parameter l.abi (l.structs env) base parts counts (is_named_here l parts.name env)

abbrev pub ToldBehind : (l : Language) → ParameterParts → NamedType → List Handed → List Size → List Handed → l.Environment → Outcome Parameter → l.Environment → Type 0
ToldBehind l parts base handed counts further env outcome after =
    Given (Passes (told_of l base parts counts env) (handed ++ further)) (parameter_declared l parts.name (told_of l base parts counts env).ctype env) outcome after

abbrev pub SizesBehind : (l : Language) → ParameterParts → NamedType → List Handed → l.Environment → Outcome Parameter → l.Environment → Type 0
SizesBehind l parts base handed middle outcome after = Both (AnySizesFound l middle parts.sizes) (ToldBehind l parts base handed) outcome after

abbrev pub IsParameter : (l : Language) → l.Environment → Outcome Parameter → l.Environment → ParameterParts → Words → Type 0
IsParameter l before outcome after parts words = Both (WordsFound l before words) (SizesBehind l parts) outcome after

abbrev words_of : ParameterParts → Words
words_of parts = out-TypeSpec parts.spec

pub parameter_row : {l : Language} {before after : l.Environment} {param : Param} {outcome : Outcome Parameter}
    → Finds l before (ParameterIs param outcome) after → IsParameter l before outcome after (out-Param param) (out-TypeSpec (out-Param param).spec)
parameter_row {l} {before} {after} {param} {outcome} (ParameterFound {middle = middle} {after = inside} {parts = parts} {words = words} {base = base} {counts = counts} {told = told} {handed = handed} {further = further} e f found sizes is) =
    named_so words_of (IsParameter l before outcome after) e f
    (Passes base handed, middle, found, (Passes counts further, inside, sizes, (ap (λ (p : Parameter). Passes p (handed ++ further)) (sym is), ap (λ (p : Parameter). parameter_declared l parts.name p.ctype inside) is)))
parameter_row {l} {before} {after} {param} {outcome} (ParameterWordsRefused {parts = parts} {words = words} {first = first} e f found) =
    named_so words_of (IsParameter l before outcome after) e f (Refused first, after, found, (refl, refl))
parameter_row {l} {before} {after} {param} {outcome} (ParameterSizesRefused {middle = middle} {parts = parts} {words = words} {base = base} {handed = handed} {first = first} e f found sizes) =
    named_so words_of (IsParameter l before outcome after) e f (Passes base handed, middle, found, (Refused first, after, sizes, (refl, refl)))

pub parameter_by : (l : Language) (before after : l.Environment) (param : Param) (parts : ParameterParts) (words : Words) (outcome : Outcome Parameter)
    → out-Param param ≡ parts → out-TypeSpec parts.spec ≡ words → Finds l before (ParameterIs param outcome) after → IsParameter l before outcome after parts words
parameter_by l before after param parts words outcome e f found = so_named words_of (IsParameter l before outcome after) e f (parameter_row found)

-- one outcome at a name, where what stands behind it has one
pub one_given_name : (l : Language) (storage : Storage) (base : NamedType) (parts : DeclaratorParts) (counts : List Size) (handed : List Handed) (middle : l.Environment) (again : Bool) (inner : Outcome (Unit {0})) (after : l.Environment)
    → AskedAgain l middle parts.name (gives_by storage base parts counts) again
    → faults_of_name l.abi (l.structs middle) parts base counts (gives_by storage base parts counts) again ≡ []
    → OneOf (InitialisedFound l (name_declared l parts.name parts.place.at (gives_by storage base parts counts) middle) (name_of parts) (gives_by storage base parts counts) parts.init) inner after
    → OneOf (NameBehind l storage base parts counts handed middle) (with_front handed inner) after
one_given_name l storage base parts counts handed middle again inner after asked none one =
    one_asked (AskedAgain l middle parts.name (gives_by storage base parts counts)) (NameJudged l storage base parts counts handed middle) again (with_front handed inner) after
    (λ other also. one_again (l.name_here parts.name middle) (l.linked parts.name middle) (gives_by storage base parts counts) again other asked also)
    (one_sound (faults_of_name l.abi (l.structs middle) parts base counts (gives_by storage base parts counts) again) middle (GivenBehind l storage base parts counts handed middle) (with_front handed inner) after none
    (one_made (with_front handed) (InitialisedFound l (name_declared l parts.name parts.place.at (gives_by storage base parts counts) middle) (name_of parts) (gives_by storage base parts counts) parts.init) inner after one))

pub one_broken_name : (l : Language) (storage : Storage) (base : NamedType) (parts : DeclaratorParts) (counts : List Size) (handed : List Handed) (middle : l.Environment) (again : Bool) (faults : List Fault) (first : Fault)
    → AskedAgain l middle parts.name (gives_by storage base parts counts) again
    → faults_of_name l.abi (l.structs middle) parts base counts (gives_by storage base parts counts) again ≡ faults → IsFirst faults first
    → OneOf (NameBehind l storage base parts counts handed middle) (Refused first) middle
one_broken_name l storage base parts counts handed middle again faults first asked e is =
    one_asked (AskedAgain l middle parts.name (gives_by storage base parts counts)) (NameJudged l storage base parts counts handed middle) again (Refused first) middle
    (λ other also. one_again (l.name_here parts.name middle) (l.linked parts.name middle) (gives_by storage base parts counts) again other asked also)
    (one_broken (faults_of_name l.abi (l.structs middle) parts base counts (gives_by storage base parts counts) again) middle (GivenBehind l storage base parts counts handed middle) first
    (subst (λ (fs : List Fault). IsFirst fs first) (sym e) is))

pub one_given_function : (l : Language) (storage : Storage) (base : NamedType) (parts : DeclaratorParts) (told : List Parameter) (handed : List Handed) (middle : l.Environment) (again : Bool)
    → AskedAgain l middle parts.name (LinkedGiven (function_given parts base told)) again → faults_of_function (l.structs middle) storage parts base told again ≡ []
    → OneOf (FunctionBehind l storage base parts told handed middle) (Passes tt handed) (name_declared l parts.name parts.place.at (LinkedGiven (function_given parts base told)) middle)
one_given_function l storage base parts told handed middle again asked none =
    one_asked (AskedAgain l middle parts.name (LinkedGiven (function_given parts base told))) (FunctionJudged l storage base parts told handed middle) again (Passes tt handed)
    (name_declared l parts.name parts.place.at (LinkedGiven (function_given parts base told)) middle)
    (λ other also. one_again (l.name_here parts.name middle) (l.linked parts.name middle) (LinkedGiven (function_given parts base told)) again other asked also)
    (one_sound (faults_of_function (l.structs middle) storage parts base told again) middle
    (Given (Passes tt handed) (name_declared l parts.name parts.place.at (LinkedGiven (function_given parts base told)) middle)) (Passes tt handed)
    (name_declared l parts.name parts.place.at (LinkedGiven (function_given parts base told)) middle) none
    (one_given (Passes tt handed) (name_declared l parts.name parts.place.at (LinkedGiven (function_given parts base told)) middle)))

pub one_broken_function : (l : Language) (storage : Storage) (base : NamedType) (parts : DeclaratorParts) (told : List Parameter) (handed : List Handed) (middle : l.Environment) (again : Bool) (faults : List Fault) (first : Fault)
    → AskedAgain l middle parts.name (LinkedGiven (function_given parts base told)) again → faults_of_function (l.structs middle) storage parts base told again ≡ faults → IsFirst faults first
    → OneOf (FunctionBehind l storage base parts told handed middle) (Refused first) middle
one_broken_function l storage base parts told handed middle again faults first asked e is =
    one_asked (AskedAgain l middle parts.name (LinkedGiven (function_given parts base told))) (FunctionJudged l storage base parts told handed middle) again (Refused first) middle
    (λ other also. one_again (l.name_here parts.name middle) (l.linked parts.name middle) (LinkedGiven (function_given parts base told)) again other asked also)
    (one_broken (faults_of_function (l.structs middle) storage parts base told again) middle
    (Given (Passes tt handed) (name_declared l parts.name parts.place.at (LinkedGiven (function_given parts base told)) middle)) first
    (subst (λ (fs : List Fault). IsFirst fs first) (sym e) is))

pub one_told : (l : Language) (parts : ParameterParts) (base : NamedType) (handed : List Handed) (counts : List Size) (further : List Handed) (env : l.Environment) (told : Parameter)
    → told_of l base parts counts env ≡ told → OneOf (ToldBehind l parts base handed counts further env) (Passes told (handed ++ further)) (parameter_declared l parts.name told.ctype env)
one_told l parts base handed counts further env told e second other is =
    (ap (λ (p : Parameter). Passes p (handed ++ further)) (sym e) ∙ sym is.0, ap (λ (p : Parameter). parameter_declared l parts.name p.ctype env) (sym e) ∙ is.1)

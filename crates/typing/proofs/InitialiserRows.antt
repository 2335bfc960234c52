-- What a derivation of each part of an initialiser holds (C11 6.7.9).
use Rattle.std.proofs.Common.{◌≡◌, ℕ, suc, Bool, true, false, List, [], ◌∷◌, ◌++◌, length, Option, Some, None, refl, sym, ◌∙◌, subst}
use Rattle.cbase.specs.declared.ctype.CType.{CType}
use Rattle.cbase.specs.declared.ctype.CType.TheVariants.{Array as ArrayType}
use Rattle.cbase.specs.declared.place.Place.{Place}
use Rattle.cbase.specs.declared.tree.expr.ExprForm.TheOpen.{Value, Braces}
use Rattle.cbase.specs.declared.tree.expr.ExprForm.TheViews.{out-Init, out-InitPart}
use Rattle.cbase.specs.declared.tree.identifier.Identifier.{Identifier}
use Rattle.cbase.specs.declared.tree.init.Init.{Init}
use Rattle.cbase.specs.declared.tree.init.InitPart.{InitPart}
use Rattle.typing.specs.declared.ctypes.found.Broken.TheVariants.{Rule}
use Rattle.typing.specs.declared.fault.Fault.{Fault}
use Rattle.typing.specs.Declarations.{Given as Gives, ObjectGiven, LinkedGiven, TypeGiven, name_declared, object_row, in_braces, initialised, told_type, told_faults}
use Rattle.typing.specs.Entities.{WholeType, ItemsOf}
use Rattle.typing.specs.Faults.{fault, IsFirst}
use Rattle.typing.specs.Forms.{Initialiser, PartOfInitialiser}
use Rattle.typing.specs.Initialisers.{Slot, Subject, Filled, Next, Sets, NoMember, Full, filled_of, next_in, ended, stored}
use Rattle.typing.specs.Language.{Language}
use Rattle.typing.specs.Outcomes.{Outcome, Handed, Passes, Refused, with_front}
use Rattle.typing.specs.Statements.{Stored, Surplus}
use Rattle.typing.specs.Typing.{Finds, InitialisedIs, InitialiserIs, PartsFill, SurplusIs, SurplusAre, NotInitialised, ObjectInitialised, ArrayInitialised, ArrayOfWrongSize, ArrayPartsRefused, ArrayByValue, LinkedInitialised, TypeInitialised, ValueStored, BracesFill, BracesTooMany, NoMoreParts, PartSets, PartRefused, NoMemberToSet, NothingToSet, SurplusValue, SurplusBraces, NoSurplusValue, SurplusPart}
use Rattle.typing.proofs.Sequences.{OneOf, Given, Made, Both, Judged, Sound, Broken, one_given, one_sound, one_broken, named_so, so_named}
use Rattle.typing.proofs.StatementRows.{ValueFound}

-- what is found of each part, by the part
abbrev pub InitialiserFound : (l : Language) → l.Environment → Subject → Slot → Init → Outcome (Unit {0}) → l.Environment → Type 0
InitialiserFound l before subject slot init outcome after = Finds l before (InitialiserIs subject slot init outcome) after

abbrev pub PartsFound : (l : Language) → l.Environment → Subject → Filled → ℕ → List InitPart → Outcome (Unit {0}) → l.Environment → Type 0
PartsFound l before subject filled index parts outcome after = Finds l before (PartsFill subject filled index parts outcome) after

abbrev pub SurplusFound : (l : Language) → l.Environment → Place → Init → Outcome (Unit {0}) → l.Environment → Type 0
SurplusFound l before place init outcome after = Finds l before (SurplusIs place init outcome) after

abbrev pub SurplusPartsFound : (l : Language) → l.Environment → Place → List InitPart → Outcome (Unit {0}) → l.Environment → Type 0
SurplusPartsFound l before place parts outcome after = Finds l before (SurplusAre place parts outcome) after

-- what stands behind a name
abbrev pub subject_of : Identifier → Bool → Subject
subject_of name fixed = record { place = name.place; fixed = fixed }

abbrev pub whole_slot : CType → Slot
whole_slot t = record { ctype = t; offset = 0; braces = true }

abbrev pub ArrayFound : (l : Language) → l.Environment → Identifier → Bool → CType → Init → List InitPart → Outcome (Unit {0}) → l.Environment → Type 0
ArrayFound l before name fixed item init parts outcome after = InitialiserFound l before (subject_of name fixed) (whole_slot (ArrayType item (length parts))) init outcome after

abbrev pub ArrayBehind : (l : Language) → Identifier → Bool → CType → List InitPart → Unit {0} → List Handed → l.Environment → Outcome (Unit {0}) → l.Environment → Type 0
ArrayBehind l name fixed item parts told handed middle outcome after =
    Judged (told_faults l.abi (l.structs middle) name.place item (length parts)) middle
    (Given (initialised name.place (ObjectGiven fixed (told_type item (length parts))) true (Passes tt handed))
    (name_declared l name.name name.place.at (ObjectGiven fixed (told_type item (length parts))) middle)) outcome after

abbrev pub IsTold : (l : Language) → l.Environment → Identifier → Bool → CType → Init → Outcome (Unit {0}) → l.Environment → Initialiser → Type 0
IsTold l before name fixed item init outcome after (Value value behind_it) = SurplusFound l before name.place init outcome after
IsTold l before name fixed item init outcome after (Braces parts) = Both (ArrayFound l before name fixed item init parts) (ArrayBehind l name fixed item parts) outcome after

abbrev pub WholeFound : (l : Language) → l.Environment → Identifier → Bool → CType → Init → Initialiser → Outcome (Unit {0}) → l.Environment → Type 0
WholeFound l before name fixed t init form outcome after =
    Made (initialised name.place (ObjectGiven fixed (WholeType t)) (in_braces form)) (InitialiserFound l before (subject_of name fixed) (whole_slot t) init) outcome after

abbrev pub IsInitialised : (l : Language) → l.Environment → Identifier → Gives → Option Init → Outcome (Unit {0}) → l.Environment → Type 0
IsInitialised l before name gives None outcome after = Given (Passes tt (object_row name.place gives false)) before outcome after
IsInitialised l before name (ObjectGiven fixed (WholeType t)) (Some init) outcome after = WholeFound l before name fixed t init (out-Init init) outcome after
IsInitialised l before name (ObjectGiven fixed (ItemsOf item)) (Some init) outcome after = IsTold l before name fixed item init outcome after (out-Init init)
IsInitialised l before name (LinkedGiven linked) (Some init) outcome after = SurplusFound l before name.place init outcome after
IsInitialised l before name (TypeGiven t) (Some init) outcome after = SurplusFound l before name.place init outcome after

pub initialised_row : {l : Language} {before after : l.Environment} {name : Identifier} {gives : Gives} {init : Option Init} {outcome : Outcome (Unit {0})}
    → Finds l before (InitialisedIs name gives init outcome) after → IsInitialised l before name gives init outcome after
initialised_row NotInitialised = (refl, refl)
initialised_row {l} {before} {after} {outcome = outcome} (ObjectInitialised {name = name} {fixed = fixed} {t = t} {init = init} {found = inner} e found) =
    subst (λ (f : Initialiser). WholeFound l before name fixed t init f outcome after) (sym e) (inner, found, refl)
initialised_row {l} {before} {after} {outcome = outcome} (ArrayInitialised {after = middle} {name = name} {fixed = fixed} {item = item} {init = init} {handed = handed} e found f) =
    subst (IsTold l before name fixed item init outcome after) (sym e) (Passes tt handed, middle, found, Sound f (refl, refl))
initialised_row {l} {before} {after} {outcome = outcome} (ArrayOfWrongSize {name = name} {fixed = fixed} {item = item} {init = init} {handed = handed} {first = first} e found f is) =
    subst (IsTold l before name fixed item init outcome after) (sym e) (Passes tt handed, after, found, Broken first (subst (λ (fs : List Fault). IsFirst fs first) (sym f) is) refl refl)
initialised_row {l} {before} {after} {outcome = outcome} (ArrayPartsRefused {name = name} {fixed = fixed} {item = item} {init = init} {first = first} e found) =
    subst (IsTold l before name fixed item init outcome after) (sym e) (Refused first, after, found, (refl, refl))
initialised_row {l} {before} {after} {outcome = outcome} (ArrayByValue {name = name} {fixed = fixed} {item = item} {init = init} e found) =
    subst (IsTold l before name fixed item init outcome after) (sym e) found
initialised_row (LinkedInitialised found) = found
initialised_row (TypeInitialised found) = found

-- an array whose size is left out, by what its initialiser is
pub told_by : (l : Language) (before after : l.Environment) (name : Identifier) (fixed : Bool) (item : CType) (init : Init) (form : Initialiser) (outcome : Outcome (Unit {0}))
    → out-Init init ≡ form → Finds l before (InitialisedIs name (ObjectGiven fixed (ItemsOf item)) (Some init) outcome) after → IsTold l before name fixed item init outcome after form
told_by l before after name fixed item init form outcome e found = subst (IsTold l before name fixed item init outcome after) e (initialised_row found)

-- an initialiser
abbrev pub IsFilling : (l : Language) → l.Environment → Subject → List InitPart → Outcome (Unit {0}) → l.Environment → Option Filled → Type 0
IsFilling l before subject parts outcome after (Some filled) = PartsFound l before subject filled 0 parts outcome after
IsFilling l before subject parts outcome after None = SurplusPartsFound l before subject.place parts outcome after

abbrev pub IsInitialiser : (l : Language) → l.Environment → Subject → Slot → Outcome (Unit {0}) → l.Environment → Initialiser → Type 0
IsInitialiser l before subject slot outcome after (Value value behind_it) = Made (stored subject slot value.number) (ValueFound l before (Stored subject.fixed slot.ctype) value) outcome after
IsInitialiser l before subject slot outcome after (Braces parts) = IsFilling l before subject parts outcome after (filled_of l.abi (l.structs before) slot)

pub initialiser_row : {l : Language} {before after : l.Environment} {subject : Subject} {slot : Slot} {init : Init} {outcome : Outcome (Unit {0})}
    → Finds l before (InitialiserIs subject slot init outcome) after → IsInitialiser l before subject slot outcome after (out-Init init)
initialiser_row {l} {before} {after} {subject} {slot} {init} {outcome} (ValueStored {found = inner} e found) =
    subst (IsInitialiser l before subject slot outcome after) (sym e) (inner, found, refl)
initialiser_row {l} {before} {after} {subject} {slot} {init} {outcome} (BracesFill {parts = parts} e f found) =
    subst (IsInitialiser l before subject slot outcome after) (sym e) (subst (IsFilling l before subject parts outcome after) (sym f) found)
initialiser_row {l} {before} {after} {subject} {slot} {init} {outcome} (BracesTooMany {parts = parts} e f found) =
    subst (IsInitialiser l before subject slot outcome after) (sym e) (subst (IsFilling l before subject parts outcome after) (sym f) found)

pub initialiser_by : (l : Language) (before after : l.Environment) (subject : Subject) (slot : Slot) (init : Init) (form : Initialiser) (outcome : Outcome (Unit {0}))
    → out-Init init ≡ form → Finds l before (InitialiserIs subject slot init outcome) after → IsInitialiser l before subject slot outcome after form
initialiser_by l before after subject slot init form outcome e found = subst (IsInitialiser l before subject slot outcome after) e (initialiser_row found)

pub filling_by : (l : Language) (before after : l.Environment) (subject : Subject) (slot : Slot) (init : Init) (parts : List InitPart) (filled : Option Filled) (outcome : Outcome (Unit {0}))
    → out-Init init ≡ Braces parts → filled_of l.abi (l.structs before) slot ≡ filled → Finds l before (InitialiserIs subject slot init outcome) after
    → IsFilling l before subject parts outcome after filled
filling_by l before after subject slot init parts filled outcome e f found =
    subst (IsFilling l before subject parts outcome after) f (initialiser_by l before after subject slot init (Braces parts) outcome e found)

-- parts in braces
abbrev pub PartsBehind : (l : Language) → Subject → Filled → ℕ → List InitPart → Unit {0} → List Handed → l.Environment → Outcome (Unit {0}) → l.Environment → Type 0
PartsBehind l subject filled at parts told handed middle outcome after = Made (with_front handed) (PartsFound l middle subject filled (suc at) parts) outcome after

abbrev pub ByNext : (l : Language) → l.Environment → Subject → Filled → InitPart → List InitPart → Outcome (Unit {0}) → l.Environment → PartOfInitialiser → Next → Type 0
ByNext l before subject filled part parts outcome after this (Sets at slot) =
    Both (InitialiserFound l before subject slot this.init) (PartsBehind l subject filled at parts) outcome after
ByNext l before subject filled part parts outcome after this (NoMember place) = Given (Refused (fault place (Rule 6))) before outcome after
ByNext l before subject filled part parts outcome after this Full = SurplusPartsFound l before subject.place (part ∷ parts) outcome after

abbrev pub next_of : (l : Language) → l.Environment → Filled → ℕ → PartOfInitialiser → Next
next_of l env filled index this = next_in l.abi (l.structs env) filled index this.member

pub no_parts : {l : Language} {before after : l.Environment} {subject : Subject} {filled : Filled} {index : ℕ} {outcome : Outcome (Unit {0})}
    → Finds l before (PartsFill subject filled index [] outcome) after → Given (ended subject.place filled index) before outcome after
no_parts NoMoreParts = (refl, refl)

pub parts_row : {l : Language} {before after : l.Environment} {subject : Subject} {filled : Filled} {index : ℕ} {part : InitPart} {parts : List InitPart} {outcome : Outcome (Unit {0})}
    → Finds l before (PartsFill subject filled index (part ∷ parts) outcome) after
    → ByNext l before subject filled part parts outcome after (out-InitPart part) (next_of l before filled index (out-InitPart part))
parts_row {l} {before} {after} {subject} {filled} {index} {part} {parts} {outcome} (PartSets {middle = middle} {handed = handed} {outcome = inner} e f found rest) =
    named_so (next_of l before filled index) (ByNext l before subject filled part parts outcome after) e f (Passes tt handed, middle, found, (inner, rest, refl))
parts_row {l} {before} {after} {subject} {filled} {index} {part} {parts} {outcome} (PartRefused {first = first} e f found) =
    named_so (next_of l before filled index) (ByNext l before subject filled part parts outcome after) e f (Refused first, after, found, (refl, refl))
parts_row {l} {before} {after} {subject} {filled} {index} {part} {parts} {outcome} (NoMemberToSet e f) =
    named_so (next_of l before filled index) (ByNext l before subject filled part parts outcome after) e f (refl, refl)
parts_row {l} {before} {after} {subject} {filled} {index} {part} {parts} {outcome} (NothingToSet e f found) =
    named_so (next_of l before filled index) (ByNext l before subject filled part parts outcome after) e f found

pub parts_by : (l : Language) (before after : l.Environment) (subject : Subject) (filled : Filled) (index : ℕ) (part : InitPart) (parts : List InitPart) (this : PartOfInitialiser) (next : Next) (outcome : Outcome (Unit {0}))
    → out-InitPart part ≡ this → next_in l.abi (l.structs before) filled index this.member ≡ next
    → Finds l before (PartsFill subject filled index (part ∷ parts) outcome) after → ByNext l before subject filled part parts outcome after this next
parts_by l before after subject filled index part parts this next outcome e f found =
    so_named (next_of l before filled index) (ByNext l before subject filled part parts outcome after) e f (parts_row found)

-- what there is no place for
abbrev pub IsSurplus : (l : Language) → l.Environment → Place → Outcome (Unit {0}) → l.Environment → Initialiser → Type 0
IsSurplus l before place outcome after (Value value behind_it) = ValueFound l before Surplus value outcome after
IsSurplus l before place outcome after (Braces parts) = SurplusPartsFound l before place parts outcome after

pub surplus_by : {l : Language} {before after : l.Environment} {place : Place} {init : Init} {outcome : Outcome (Unit {0})} (form : Initialiser)
    → out-Init init ≡ form → Finds l before (SurplusIs place init outcome) after → IsSurplus l before place outcome after form
surplus_by {l} {before} {after} {place} {init} {outcome} form e (SurplusValue f found) = subst (IsSurplus l before place outcome after) (sym f ∙ e) found
surplus_by {l} {before} {after} {place} {init} {outcome} form e (SurplusBraces f found) = subst (IsSurplus l before place outcome after) (sym f ∙ e) found

pub no_surplus : {l : Language} {before after : l.Environment} {place : Place} {outcome : Outcome (Unit {0})}
    → Finds l before (SurplusAre place [] outcome) after → Given (Refused (fault place (Rule 5))) before outcome after
no_surplus NoSurplusValue = (refl, refl)

pub surplus_part : {l : Language} {before after : l.Environment} {place : Place} {part : InitPart} {parts : List InitPart} {outcome : Outcome (Unit {0})} (this : PartOfInitialiser)
    → out-InitPart part ≡ this → Finds l before (SurplusAre place (part ∷ parts) outcome) after → SurplusFound l before place this.init outcome after
surplus_part {l} {before} {after} {place} {outcome = outcome} this e (SurplusPart f found) =
    subst (λ (p : PartOfInitialiser). SurplusFound l before place p.init outcome after) (sym f ∙ e) found

-- one outcome of an array whose size is told
pub one_array : (l : Language) (name : Identifier) (fixed : Bool) (item : CType) (parts : List InitPart) (handed : List Handed) (middle : l.Environment)
    → told_faults l.abi (l.structs middle) name.place item (length parts) ≡ []
    → OneOf (ArrayBehind l name fixed item parts tt handed middle) (initialised name.place (ObjectGiven fixed (told_type item (length parts))) true (Passes tt handed))
    (name_declared l name.name name.place.at (ObjectGiven fixed (told_type item (length parts))) middle)
one_array l name fixed item parts handed middle none =
    one_sound (told_faults l.abi (l.structs middle) name.place item (length parts)) middle
    (Given (initialised name.place (ObjectGiven fixed (told_type item (length parts))) true (Passes tt handed)) (name_declared l name.name name.place.at (ObjectGiven fixed (told_type item (length parts))) middle))
    (initialised name.place (ObjectGiven fixed (told_type item (length parts))) true (Passes tt handed)) (name_declared l name.name name.place.at (ObjectGiven fixed (told_type item (length parts))) middle) none
    (one_given (initialised name.place (ObjectGiven fixed (told_type item (length parts))) true (Passes tt handed)) (name_declared l name.name name.place.at (ObjectGiven fixed (told_type item (length parts))) middle))

pub one_wrong_size : (l : Language) (name : Identifier) (fixed : Bool) (item : CType) (parts : List InitPart) (handed : List Handed) (middle : l.Environment) (faults : List Fault) (first : Fault)
    → told_faults l.abi (l.structs middle) name.place item (length parts) ≡ faults → IsFirst faults first
    → OneOf (ArrayBehind l name fixed item parts tt handed middle) (Refused first) middle
one_wrong_size l name fixed item parts handed middle faults first e is =
    one_broken (told_faults l.abi (l.structs middle) name.place item (length parts)) middle
    (Given (initialised name.place (ObjectGiven fixed (told_type item (length parts))) true (Passes tt handed)) (name_declared l name.name name.place.at (ObjectGiven fixed (told_type item (length parts))) middle)) first
    (subst (λ (fs : List Fault). IsFirst fs first) (sym e) is)

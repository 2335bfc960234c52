-- What a derivation of each part of braces holds (C11 6.7.2.1, 6.7.2.2).
use Rattle.std.proofs.Common.{◌≡◌, ℕ, Bool, true, false, List, [], ◌∷◌, ◌++◌, Option, Some, None, refl, sym, ap, ◌∙◌, subst}
use Rattle.cbase.specs.declared.ctype.CType.TheVariants.{Struct as StructType}
use Rattle.cbase.specs.declared.place.Place.{Place}
use Rattle.cbase.specs.declared.structs.Field.{Field}
use Rattle.cbase.specs.declared.structs.StructDef.{StructDef}
use Rattle.cbase.specs.declared.tree.expr.Expr.{Expr}
use Rattle.cbase.specs.declared.tree.expr.ExprForm.TheOpen.{Struct, Enum}
use Rattle.cbase.specs.declared.tree.expr.ExprForm.TheViews.{out-TypeSpec, out-FieldDecl, out-FieldName, out-Enumerator}
use Rattle.cbase.specs.declared.tree.identifier.Identifier.{Identifier}
use Rattle.cbase.specs.declared.tree.spec.Enumerator.{Enumerator}
use Rattle.cbase.specs.declared.tree.spec.FieldDecl.{FieldDecl}
use Rattle.cbase.specs.declared.tree.spec.FieldName.{FieldName}
use Rattle.typing.specs.declared.ctypes.found.Broken.TheVariants.{Rule}
use Rattle.typing.specs.ctypes.Binary.{int_type}
use Rattle.typing.specs.ctypes.Operands.{Operand}
use Rattle.typing.specs.declared.fault.Fault.{Fault}
use Rattle.typing.specs.declared.size.Size.{Size}
use Rattle.typing.specs.declared.size.Size.TheVariants.{LeftOut}
use Rattle.typing.specs.Braces.{Opening, Opens, IsTwice, struct_opening, enum_opening, fixed_size, width_found, member, member_type, faults_of_member}
use Rattle.typing.specs.Faults.{fault}
use Rattle.typing.specs.Forms.{Words, DeclarationParts, MemberParts, EnumeratorParts}
use Rattle.typing.specs.Known.{operand}
use Rattle.typing.specs.Language.{Language}
use Rattle.typing.specs.NamedTypes.{NamedType, whole}
use Rattle.typing.specs.Outcomes.{Outcome, Handed, Passes, Refused, IsSettled, with_front}
use Rattle.typing.specs.Pieces.{Loaded, SizeOfArray}
use Rattle.typing.specs.Told.{Told, OperandIs, SizeIs}
use Rattle.typing.specs.Typing.{Finds, PieceIs, WordsAre, MembersAre, DeclarationIs, NamesAre, MemberIs, MemberSizesAre, MemberSizeIs, WidthIs, EnumeratorsAre, ValueOfEnumerator, StructWithMembers, MembersRefused, StructTwice, EnumWithConstants, EnumTwice, NoDeclarations, MoreDeclarations, DeclarationRefused, MembersDeclared, MemberWordsRefused, NoNames, MoreNames, NameRefused, MemberFound, MemberSizesRefused, MemberWidthRefused, NoMemberSizes, MoreMemberSizes, MemberSizeRefusedHere, MemberSizeRefusedBehind, MemberSizeLeftOut, MemberSizeGiven, MemberSizeRefused, NoWidth, WidthGiven, NoEnumerators, EnumeratorTwice, EnumeratorRefused, EnumeratorTwiceInside, MoreEnumerators, NextValue, NoNextValue, GivenValue, GivenNoInt, GivenRefused}
use Rattle.typing.proofs.Sequences.{Given, Made, Both}
use Rattle.typing.specs.values.Values.{int_value, next_value}

-- what is found of each part, by the part
abbrev pub WordsFound : (l : Language) → l.Environment → Words → Outcome NamedType → l.Environment → Type 0
WordsFound l before words outcome after = Finds l before (WordsAre words outcome) after

abbrev pub MembersFound : (l : Language) → l.Environment → List Field → List FieldDecl → Outcome (List Field) → l.Environment → Type 0
MembersFound l before members fields outcome after = Finds l before (MembersAre members fields outcome) after

abbrev pub DeclarationFound : (l : Language) → l.Environment → List Field → FieldDecl → Outcome (List Field) → l.Environment → Type 0
DeclarationFound l before members field outcome after = Finds l before (DeclarationIs members field outcome) after

abbrev pub NamesFound : (l : Language) → l.Environment → NamedType → List Field → List FieldName → Outcome (List Field) → l.Environment → Type 0
NamesFound l before base members names outcome after = Finds l before (NamesAre base members names outcome) after

abbrev pub OneMemberFound : (l : Language) → l.Environment → NamedType → List Field → FieldName → Outcome (List Field) → l.Environment → Type 0
OneMemberFound l before base members name outcome after = Finds l before (MemberIs base members name outcome) after

abbrev pub SizesFound : (l : Language) → l.Environment → List (Option Expr) → Outcome (List Size) → l.Environment → Type 0
SizesFound l before sizes outcome after = Finds l before (MemberSizesAre sizes outcome) after

abbrev pub SizeFound : (l : Language) → l.Environment → Option Expr → Outcome Size → l.Environment → Type 0
SizeFound l before given outcome after = Finds l before (MemberSizeIs given outcome) after

abbrev pub WidthFound : (l : Language) → l.Environment → Option Expr → Outcome (Unit {0}) → l.Environment → Type 0
WidthFound l before given outcome after = Finds l before (WidthIs given outcome) after

abbrev pub EnumeratorsFound : (l : Language) → l.Environment → Option ℕ → List Enumerator → Outcome NamedType → l.Environment → Type 0
EnumeratorsFound l before next constants outcome after = Finds l before (EnumeratorsAre next constants outcome) after

abbrev pub ValueFound : (l : Language) → l.Environment → Place → Option ℕ → Option Expr → Outcome ℕ → l.Environment → Type 0
ValueFound l before place next given outcome after = Finds l before (ValueOfEnumerator place next given outcome) after

-- a struct
abbrev pub Closes : (l : Language) → ℕ → List Field → List Handed → l.Environment → Outcome NamedType → l.Environment → Type 0
Closes l number members handed middle outcome after = Given (Passes (whole (StructType number)) handed) (l.struct_completed number members middle) outcome after

abbrev pub IsOpened : (l : Language) → l.Environment → Option Identifier → List FieldDecl → Opening (ℕ × l.Environment) → Outcome NamedType → l.Environment → Type 0
IsOpened l before name fields (Opens opened) outcome after = Both (MembersFound l opened.1 [] fields) (Closes l opened.0) outcome after
IsOpened l before name fields (IsTwice first) outcome after = Given (Refused first) before outcome after

pub struct_braces_row : {l : Language} {before after : l.Environment} {name : Option Identifier} {fields : List FieldDecl} {outcome : Outcome NamedType}
    → Finds l before (WordsAre (Struct name (Some fields)) outcome) after → IsOpened l before name fields (struct_opening l name before) outcome after
struct_braces_row {l} {before} {after} {name} {fields} (StructWithMembers {inside = inside} {middle = middle} {number = number} {members = members} {handed = handed} e found) =
    subst (λ (o : Opening (ℕ × l.Environment)). IsOpened l before name fields o (Passes (whole (StructType number)) handed) (l.struct_completed number members middle)) (sym e)
    (Passes members handed, middle, found, (refl, refl))
struct_braces_row {l} {before} {after} {name} {fields} (MembersRefused {first = first} e found) =
    subst (λ (o : Opening (ℕ × l.Environment)). IsOpened l before name fields o (Refused first) after) (sym e) (Refused first, after, found, (refl, refl))
struct_braces_row {l} {before} {after} {name} {fields} (StructTwice {first = first} e) =
    subst (λ (o : Opening (ℕ × l.Environment)). IsOpened l before name fields o (Refused first) before) (sym e) (refl, refl)

-- an enum
abbrev pub IsListed : (l : Language) → l.Environment → List Enumerator → Opening l.Environment → Outcome NamedType → l.Environment → Type 0
IsListed l before values (Opens inside) outcome after = EnumeratorsFound l inside (Some 0) values outcome after
IsListed l before values (IsTwice first) outcome after = Given (Refused first) before outcome after

pub enum_braces_row : {l : Language} {before after : l.Environment} {name : Option Identifier} {values : List Enumerator} {outcome : Outcome NamedType}
    → Finds l before (WordsAre (Enum name (Some values)) outcome) after → IsListed l before values (enum_opening l name before) outcome after
enum_braces_row {l} {before} {after} {name} {values} {outcome} (EnumWithConstants e found) =
    subst (λ (o : Opening l.Environment). IsListed l before values o outcome after) (sym e) found
enum_braces_row {l} {before} {after} {name} {values} (EnumTwice {first = first} e) =
    subst (λ (o : Opening l.Environment). IsListed l before values o (Refused first) before) (sym e) (refl, refl)

-- declarations of members
abbrev pub MembersBehind : (l : Language) → List FieldDecl → List Field → List Handed → l.Environment → Outcome (List Field) → l.Environment → Type 0
MembersBehind l fields more handed middle outcome after = Made (with_front handed) (MembersFound l middle more fields) outcome after

abbrev pub AreMembers : (l : Language) → l.Environment → List Field → FieldDecl → List FieldDecl → Outcome (List Field) → l.Environment → Type 0
AreMembers l before members field fields outcome after = Both (DeclarationFound l before members field) (MembersBehind l fields) outcome after

pub no_members : {l : Language} {before after : l.Environment} {members : List Field} {outcome : Outcome (List Field)}
    → Finds l before (MembersAre members [] outcome) after → Given (Passes members []) before outcome after
no_members NoDeclarations = (refl, refl)

pub members_row : {l : Language} {before after : l.Environment} {members : List Field} {field : FieldDecl} {fields : List FieldDecl} {outcome : Outcome (List Field)}
    → Finds l before (MembersAre members (field ∷ fields) outcome) after → AreMembers l before members field fields outcome after
members_row (MoreDeclarations {middle = middle} {more = more} {handed = handed} {outcome = inner} found rest) = (Passes more handed, middle, found, (inner, rest, refl))
members_row {after = after} (DeclarationRefused {first = first} found) = (Refused first, after, found, (refl, refl))

-- one declaration
abbrev pub NamesBehind : (l : Language) → List Field → List FieldName → NamedType → List Handed → l.Environment → Outcome (List Field) → l.Environment → Type 0
NamesBehind l members names base handed middle outcome after = Made (with_front handed) (NamesFound l middle base members names) outcome after

abbrev pub IsDeclaration : (l : Language) → l.Environment → List Field → DeclarationParts → Words → Outcome (List Field) → l.Environment → Type 0
IsDeclaration l before members parts words outcome after = Both (WordsFound l before words) (NamesBehind l members parts.names) outcome after

declaration_moved : (l : Language) (before after : l.Environment) (members : List Field) (field : FieldDecl) (parts : DeclarationParts) (words : Words) (outcome : Outcome (List Field))
    → out-FieldDecl field ≡ parts → out-TypeSpec parts.spec ≡ words → IsDeclaration l before members parts words outcome after
    → IsDeclaration l before members (out-FieldDecl field) (out-TypeSpec (out-FieldDecl field).spec) outcome after
declaration_moved l before after members field parts words outcome e f is =
    subst (λ (p : DeclarationParts). IsDeclaration l before members p (out-TypeSpec p.spec) outcome after) (sym e)
    (subst (λ (w : Words). IsDeclaration l before members parts w outcome after) (sym f) is)

pub declaration_by : (l : Language) (before after : l.Environment) (members : List Field) (field : FieldDecl) (parts : DeclarationParts) (words : Words) (outcome : Outcome (List Field))
    → out-FieldDecl field ≡ parts → out-TypeSpec parts.spec ≡ words
    → IsDeclaration l before members (out-FieldDecl field) (out-TypeSpec (out-FieldDecl field).spec) outcome after → IsDeclaration l before members parts words outcome after
declaration_by l before after members field parts words outcome e f is =
    subst (λ (w : Words). IsDeclaration l before members parts w outcome after) f
    (subst (λ (p : DeclarationParts). IsDeclaration l before members p (out-TypeSpec p.spec) outcome after) e is)

pub declaration_row : {l : Language} {before after : l.Environment} {members : List Field} {field : FieldDecl} {outcome : Outcome (List Field)}
    → Finds l before (DeclarationIs members field outcome) after → IsDeclaration l before members (out-FieldDecl field) (out-TypeSpec (out-FieldDecl field).spec) outcome after
declaration_row {l} {before} {after} (MembersDeclared {middle = middle} {members = members} {field = field} {parts = parts} {words = words} {base = base} {handed = handed} {outcome = inner} e f found names) =
    declaration_moved l before after members field parts words _ e f (Passes base handed, middle, found, (inner, names, refl))
declaration_row {l} {before} {after} (MemberWordsRefused {members = members} {field = field} {parts = parts} {words = words} {first = first} e f found) =
    declaration_moved l before after members field parts words _ e f (Refused first, after, found, (refl, refl))

-- names
abbrev pub MoreNamesBehind : (l : Language) → NamedType → List FieldName → List Field → List Handed → l.Environment → Outcome (List Field) → l.Environment → Type 0
MoreNamesBehind l base names more handed middle outcome after = Made (with_front handed) (NamesFound l middle base more names) outcome after

abbrev pub AreNames : (l : Language) → l.Environment → NamedType → List Field → FieldName → List FieldName → Outcome (List Field) → l.Environment → Type 0
AreNames l before base members name names outcome after = Both (OneMemberFound l before base members name) (MoreNamesBehind l base names) outcome after

pub no_names : {l : Language} {before after : l.Environment} {base : NamedType} {members : List Field} {outcome : Outcome (List Field)}
    → Finds l before (NamesAre base members [] outcome) after → Given (Passes members []) before outcome after
no_names NoNames = (refl, refl)

pub names_row : {l : Language} {before after : l.Environment} {base : NamedType} {members : List Field} {name : FieldName} {names : List FieldName} {outcome : Outcome (List Field)}
    → Finds l before (NamesAre base members (name ∷ names) outcome) after → AreNames l before base members name names outcome after
names_row (MoreNames {middle = middle} {more = more} {handed = handed} {outcome = inner} found rest) = (Passes more handed, middle, found, (inner, rest, refl))
names_row {after = after} (NameRefused {first = first} found) = (Refused first, after, found, (refl, refl))

-- one member
abbrev pub IsJudgedMember : (l : Language) → l.Environment → List Field → MemberParts → NamedType → List Handed → Outcome (List Field) → Type 0
IsJudgedMember l env members parts named handed outcome =
    IsSettled (faults_of_member l.abi (l.structs env) members parts named) (members ++ member parts.name named.ctype ∷ []) handed outcome

abbrev pub IsBehindWidth : (l : Language) → NamedType → List Field → MemberParts → List Size → List Handed → Unit {0} → List Handed → l.Environment → Outcome (List Field) → l.Environment → Type 0
IsBehindWidth l base members parts counts handed told further env outcome after =
    IsJudgedMember l env members parts (member_type l.abi (l.structs env) base parts counts) (handed ++ further) outcome × (env ≡ after)

abbrev pub IsBehindSizes : (l : Language) → NamedType → List Field → MemberParts → List Size → List Handed → l.Environment → Outcome (List Field) → l.Environment → Type 0
IsBehindSizes l base members parts counts handed middle outcome after =
    Both (WidthFound l middle parts.bits) (IsBehindWidth l base members parts counts handed) outcome after

abbrev pub IsMember : (l : Language) → l.Environment → NamedType → List Field → MemberParts → Outcome (List Field) → l.Environment → Type 0
IsMember l before base members parts outcome after = Both (SizesFound l before parts.sizes) (IsBehindSizes l base members parts) outcome after

-- whatever its type and its faults are called
pub judged_member : (l : Language) (env : l.Environment) (base named : NamedType) (members : List Field) (parts : MemberParts) (counts : List Size) (faults : List Fault) (handed : List Handed) (outcome : Outcome (List Field))
    → member_type l.abi (l.structs env) base parts counts ≡ named → faults_of_member l.abi (l.structs env) members parts named ≡ faults
    → IsSettled faults (members ++ member parts.name named.ctype ∷ []) handed outcome
    → IsJudgedMember l env members parts (member_type l.abi (l.structs env) base parts counts) handed outcome
judged_member l env base named members parts counts faults handed outcome e f settled =
    subst (λ (t : NamedType). IsJudgedMember l env members parts t handed outcome) (sym e)
    (subst (λ (fs : List Fault). IsSettled fs (members ++ member parts.name named.ctype ∷ []) handed outcome) (sym f) settled)

pub member_row : {l : Language} {before after : l.Environment} {base : NamedType} {members : List Field} {name : FieldName} {outcome : Outcome (List Field)}
    → Finds l before (MemberIs base members name outcome) after → IsMember l before base members (out-FieldName name) outcome after
member_row {l} {before} {after} {base} {members} {name} {outcome} (MemberFound {middle = middle} {named = named} {parts = parts} {counts = counts} {faults = faults} {handed = handed} {further = further} e sizes width t f settled) =
    subst (λ (p : MemberParts). IsMember l before base members p outcome after) (sym e)
    (Passes counts handed, middle, sizes, (Passes tt further, after, width, (judged_member l after base named members parts counts faults (handed ++ further) outcome t f settled, refl)))
member_row {l} {before} {after} {base} {members} (MemberSizesRefused {first = first} e sizes) =
    subst (λ (p : MemberParts). IsMember l before base members p (Refused first) after) (sym e) (Refused first, after, sizes, (refl, refl))
member_row {l} {before} {after} {base} {members} (MemberWidthRefused {middle = middle} {counts = counts} {handed = handed} {first = first} e sizes width) =
    subst (λ (p : MemberParts). IsMember l before base members p (Refused first) after) (sym e)
    (Passes counts handed, middle, sizes, (Refused first, after, width, (refl, refl)))

-- its sizes
abbrev pub size_joined : Size → List Handed → Outcome (List Size) → Outcome (List Size)
size_joined size handed (Passes others further) = Passes (size ∷ others) (handed ++ further)
size_joined size handed (Refused first) = Refused first

abbrev pub SizesBehind : (l : Language) → List (Option Expr) → Size → List Handed → l.Environment → Outcome (List Size) → l.Environment → Type 0
SizesBehind l sizes size handed middle outcome after = Made (size_joined size handed) (SizesFound l middle sizes) outcome after

abbrev pub AreSizes : (l : Language) → l.Environment → Option Expr → List (Option Expr) → Outcome (List Size) → l.Environment → Type 0
AreSizes l before given sizes outcome after = Both (SizeFound l before given) (SizesBehind l sizes) outcome after

pub no_member_sizes : {l : Language} {before after : l.Environment} {outcome : Outcome (List Size)}
    → Finds l before (MemberSizesAre [] outcome) after → Given (Passes [] []) before outcome after
no_member_sizes NoMemberSizes = (refl, refl)

pub member_sizes_row : {l : Language} {before after : l.Environment} {given : Option Expr} {sizes : List (Option Expr)} {outcome : Outcome (List Size)}
    → Finds l before (MemberSizesAre (given ∷ sizes) outcome) after → AreSizes l before given sizes outcome after
member_sizes_row (MoreMemberSizes {middle = middle} {size = size} {others = others} {handed = handed} {further = further} found rest) = (Passes size handed, middle, found, (Passes others further, rest, refl))
member_sizes_row {after = after} (MemberSizeRefusedHere {first = first} found) = (Refused first, after, found, (refl, refl))
member_sizes_row (MemberSizeRefusedBehind {middle = middle} {size = size} {handed = handed} {first = first} found rest) = (Passes size handed, middle, found, (Refused first, rest, refl))

-- one size, which is told of as a size
abbrev pub fixed_found : Expr → Outcome Told → Outcome Size
fixed_found expr (Passes (SizeIs size) handed) = fixed_size expr.place size handed
fixed_found expr (Passes other handed) = Refused (fault expr.place (Rule 9))
fixed_found expr (Refused first) = Refused first

abbrev pub IsMemberSize : (l : Language) → l.Environment → Option Expr → Outcome Size → l.Environment → Type 0
IsMemberSize l before None outcome after = Given (Passes LeftOut []) before outcome after
IsMemberSize l before (Some expr) outcome after = Made (fixed_found expr) (λ (o : Outcome Told) (e : l.Environment). Finds l before (PieceIs (SizeOfArray expr) o) e) outcome after

pub member_size_row : {l : Language} {before after : l.Environment} {given : Option Expr} {outcome : Outcome Size}
    → Finds l before (MemberSizeIs given outcome) after → IsMemberSize l before given outcome after
member_size_row MemberSizeLeftOut = (refl, refl)
member_size_row (MemberSizeGiven {size = size} {handed = handed} found) = (Passes (SizeIs size) handed, found, refl)
member_size_row (MemberSizeRefused {first = first} found) = (Refused first, found, refl)

-- its width
abbrev pub IsWidth : (l : Language) → l.Environment → Option Expr → Outcome (Unit {0}) → l.Environment → Type 0
IsWidth l before None outcome after = Given (Passes tt []) before outcome after
IsWidth l before (Some expr) outcome after = Made width_found (λ (o : Outcome Told) (e : l.Environment). Finds l before (PieceIs (Loaded expr) o) e) outcome after

pub width_row : {l : Language} {before after : l.Environment} {given : Option Expr} {outcome : Outcome (Unit {0})}
    → Finds l before (WidthIs given outcome) after → IsWidth l before given outcome after
width_row NoWidth = (refl, refl)
width_row (WidthGiven {found = inner} found) = (inner, found, refl)

-- the constants of an enum
abbrev pub IsDeclaredBehind : (l : Language) → EnumeratorParts → List Enumerator → ℕ → List Handed → l.Environment → Bool → Outcome NamedType → l.Environment → Type 0
IsDeclaredBehind l parts constants bits handed middle true outcome after = Given (Refused (fault parts.place (Rule 2))) middle outcome after
IsDeclaredBehind l parts constants bits handed middle false outcome after =
    Made (with_front handed) (EnumeratorsFound l (l.constant_declared parts.name bits middle) (next_value bits) constants) outcome after

abbrev pub IsBehindValue : (l : Language) → EnumeratorParts → List Enumerator → ℕ → List Handed → l.Environment → Outcome NamedType → l.Environment → Type 0
IsBehindValue l parts constants bits handed middle outcome after =
    IsDeclaredBehind l parts constants bits handed middle (l.is_declared_here parts.name middle) outcome after

abbrev pub IsEnumeratorIf : (l : Language) → l.Environment → Option ℕ → EnumeratorParts → List Enumerator → Bool → Outcome NamedType → l.Environment → Type 0
IsEnumeratorIf l before next parts constants true outcome after = Given (Refused (fault parts.place (Rule 2))) before outcome after
IsEnumeratorIf l before next parts constants false outcome after =
    Both (ValueFound l before parts.place next parts.value) (IsBehindValue l parts constants) outcome after

abbrev pub AreEnumerators : (l : Language) → l.Environment → Option ℕ → EnumeratorParts → List Enumerator → Outcome NamedType → l.Environment → Type 0
AreEnumerators l before next parts constants outcome after = IsEnumeratorIf l before next parts constants (l.is_declared_here parts.name before) outcome after

pub no_enumerators : {l : Language} {before after : l.Environment} {next : Option ℕ} {outcome : Outcome NamedType}
    → Finds l before (EnumeratorsAre next [] outcome) after → Given (Passes (whole int_type) []) before outcome after
no_enumerators NoEnumerators = (refl, refl)

enumerators_moved : (l : Language) (before after : l.Environment) (next : Option ℕ) (constant : Enumerator) (parts : EnumeratorParts) (constants : List Enumerator) (outcome : Outcome NamedType) (here : Bool)
    → out-Enumerator constant ≡ parts → l.is_declared_here parts.name before ≡ here
    → IsEnumeratorIf l before next parts constants here outcome after → AreEnumerators l before next (out-Enumerator constant) constants outcome after
enumerators_moved l before after next constant parts constants outcome here e f is =
    subst (λ (p : EnumeratorParts). AreEnumerators l before next p constants outcome after) (sym e)
    (subst (λ (b : Bool). IsEnumeratorIf l before next parts constants b outcome after) (sym f) is)

pub enumerators_by : (l : Language) (before after : l.Environment) (next : Option ℕ) (constant : Enumerator) (parts : EnumeratorParts) (constants : List Enumerator) (outcome : Outcome NamedType) (here : Bool)
    → out-Enumerator constant ≡ parts → l.is_declared_here parts.name before ≡ here
    → AreEnumerators l before next (out-Enumerator constant) constants outcome after → IsEnumeratorIf l before next parts constants here outcome after
enumerators_by l before after next constant parts constants outcome here e f is =
    subst (λ (b : Bool). IsEnumeratorIf l before next parts constants b outcome after) f
    (subst (λ (p : EnumeratorParts). AreEnumerators l before next p constants outcome after) e is)

pub enumerators_row : {l : Language} {before after : l.Environment} {next : Option ℕ} {constant : Enumerator} {constants : List Enumerator} {outcome : Outcome NamedType}
    → Finds l before (EnumeratorsAre next (constant ∷ constants) outcome) after → AreEnumerators l before next (out-Enumerator constant) constants outcome after
enumerators_row {l} {before} {after} {next} (EnumeratorTwice {constant = constant} {parts = parts} {constants = constants} e here) =
    enumerators_moved l before after next constant parts constants _ true e here (refl, refl)
enumerators_row {l} {before} {after} {next} (EnumeratorRefused {constant = constant} {parts = parts} {constants = constants} {first = first} e here found) =
    enumerators_moved l before after next constant parts constants _ false e here (Refused first, after, found, (refl, refl))
enumerators_row {l} {before} {after} {next} (EnumeratorTwiceInside {constant = constant} {parts = parts} {constants = constants} {bits = bits} {handed = handed} e here found inside) =
    enumerators_moved l before after next constant parts constants _ false e here
    (Passes bits handed, after, found, subst (λ (b : Bool). IsDeclaredBehind l parts constants bits handed after b (Refused (fault parts.place (Rule 2))) after) (sym inside) (refl, refl))
enumerators_row {l} {before} {after} {next} (MoreEnumerators {middle = middle} {constant = constant} {parts = parts} {constants = constants} {bits = bits} {handed = handed} {outcome = inner} e here found inside rest) =
    enumerators_moved l before after next constant parts constants _ false e here
    (Passes bits handed, middle, found, subst (λ (b : Bool). IsDeclaredBehind l parts constants bits handed middle b (with_front handed inner) after) (sym inside) (inner, rest, refl))

-- the value of one
abbrev pub if_value : Expr → Option ℕ → List Handed → Outcome ℕ
if_value expr (Some bits) handed = Passes bits handed
if_value expr None handed = Refused (fault expr.place (Rule 9))

abbrev pub value_found : List StructDef → Expr → Outcome Told → Outcome ℕ
value_found structs expr (Refused first) = Refused first
value_found structs expr (Passes (OperandIs known) handed) = if_value expr (int_value (operand structs known).kind known.value) handed
value_found structs expr (Passes other handed) = Refused (fault expr.place (Rule 9))

abbrev pub IsGivenValue : (l : Language) → l.Environment → Expr → Outcome ℕ → l.Environment → Type 0
IsGivenValue l before expr outcome after = (inner : Outcome Told) × Finds l before (PieceIs (Loaded expr) inner) after × (outcome ≡ value_found (l.structs after) expr inner)

pub given_row : {l : Language} {before after : l.Environment} {place : Place} {next : Option ℕ} {expr : Expr} {outcome : Outcome ℕ}
    → Finds l before (ValueOfEnumerator place next (Some expr) outcome) after → IsGivenValue l before expr outcome after
given_row (GivenValue {expr = expr} {known = known} {handed = handed} found e is) =
    (Passes (OperandIs known) handed, found, ap (λ (o : Option ℕ). if_value expr o handed) (sym (ap (λ (op : Operand). int_value op.kind known.value) e ∙ is)))
given_row (GivenNoInt {expr = expr} {known = known} {handed = handed} found e is) =
    (Passes (OperandIs known) handed, found, ap (λ (o : Option ℕ). if_value expr o handed) (sym (ap (λ (op : Operand). int_value op.kind known.value) e ∙ is)))
given_row (GivenRefused {first = first} found) = (Refused first, found, refl)

pub next_row : {l : Language} {before after : l.Environment} {place : Place} {bits : ℕ} {outcome : Outcome ℕ}
    → Finds l before (ValueOfEnumerator place (Some bits) None outcome) after → Given (Passes bits []) before outcome after
next_row NextValue = (refl, refl)

pub no_next_row : {l : Language} {before after : l.Environment} {place : Place} {outcome : Outcome ℕ}
    → Finds l before (ValueOfEnumerator place None None outcome) after → Given (Refused (fault place (Rule 9))) before outcome after
no_next_row NoNextValue = (refl, refl)

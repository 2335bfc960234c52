-- Items of the examples.
use Rattle.std.proofs.Common.{◌≡◌, Bool, true, false, List, [], ◌∷◌, ◌++◌, Option, Some, None, refl, ap, ◌∙◌, subst}
use Rattle.std.specs.Prelude.{◌||◌}
use Rattle.cbase.specs.declared.abi.Abi.TheVariants.{Lp64}
use Rattle.cbase.specs.declared.ctype.CType.{CType}
use Rattle.cbase.specs.declared.ctype.CType.TheOpen.{CType-F}
use Rattle.cbase.specs.declared.ctype.CType.TheViews.{out-CType}
use Rattle.cbase.specs.declared.layout.Layout.{Layout}
use Rattle.cbase.specs.declared.tree.decl.Declared.{Declared}
use Rattle.cbase.specs.declared.tree.decl.Param.{Param}
use Rattle.cbase.specs.declared.tree.decl.Storage.{Storage}
use Rattle.cbase.specs.declared.tree.expr.ExprForm.TheViews.{out-TypeSpec, out-roll-Decl, out-roll-Declared, out-roll-Param, roll-Declared, roll-Param}
use Rattle.cbase.specs.declared.tree.identifier.Identifier.{Identifier}
use Rattle.cbase.specs.declared.tree.item.Item.{Item}
use Rattle.cbase.specs.declared.tree.item.Item.TheVariants.{Declare, Function}
use Rattle.cbase.specs.declared.tree.spec.TypeSpec.{TypeSpec}
use Rattle.cbase.specs.declared.tree.stmt.Stmt.{Stmt}
use Rattle.cbase.specs.Layout.{layout_of}
use Rattle.typing.specs.ctypes.Kinds.{Kind, kind_of}
use Rattle.typing.specs.declared.fault.Fault.{Fault}
use Rattle.typing.specs.declared.size.Size.{Size}
use Rattle.typing.specs.Declarations.{LinkedGiven, Parameter, given_type, IsAgain, found_of_name, name_faults, name_of, function_name_faults, function_given, found_of_all, faults_of_all, is_array, is_typedef}
use Rattle.typing.specs.Entities.{DeclaredType, ObjectLinked}
use Rattle.typing.specs.Faults.{least, IsFirst}
use Rattle.typing.specs.FileNames.{definition_in, is_twice, is_complete_by, object_type, object_faults, object_declared, link_row, is_listed_by}
use Rattle.typing.specs.Forms.{Words, DeclaratorParts, ParameterParts}
use Rattle.typing.specs.Heads.{result_of, has_struct, body_faults, is_main, main_faults, definition_of_head, head_faults, params_of, names_of, names_in, head_declared, head_rows}
use Rattle.typing.specs.Items.{FindsInFile, ItemsAre, ItemIs, FileNameIs, FileInitialisedIs, HeadIs, NoItems, MoreItems, ItemWithNames, FunctionItem, NoMoreFileNames, MoreFileNames, FileNameRefused, FileNameBroken, FileNameGiven, FileFunction, HeadBroken, HeadGiven, DefinitionHeadRefused, DefinitionWithBody}
use Rattle.typing.specs.NamedTypes.{NamedType, declared_type, is_over}
use Rattle.typing.specs.Outcomes.{Handed, Passes, Refused}
use Rattle.typing.specs.Sample.{sample, Declarations, scope_entered, scope_left, said_here, named_in, declare, token}
use Rattle.typing.specs.SampleFile.{file, placed}
use Rattle.typing.specs.Typing.{Finds, WordsAre, MemberSizesAre, StatementsAre, ParametersAre}

-- one item, and more
pub one_item : {env after : Declarations} {item : Item} {handed : List Handed}
    → FindsInFile sample file env (ItemIs (token 0) item (Passes tt handed)) after → FindsInFile sample file env (ItemsAre (placed (item ∷ [])) (Passes tt (handed ++ []))) after
one_item found = MoreItems {outcome = Passes tt []} found NoItems

pub more_items : {env middle after : Declarations} {item : Item} (items : List Item) {handed further : List Handed}
    → FindsInFile sample file env (ItemIs (token 0) item (Passes tt handed)) middle → FindsInFile sample file middle (ItemsAre (placed items) (Passes tt further)) after
    → FindsInFile sample file env (ItemsAre (placed (item ∷ items)) (Passes tt (handed ++ further))) after
more_items items {further = further} found rest = MoreItems {outcome = Passes tt further} found rest

pub refused_behind : {env middle after : Declarations} {item : Item} (items : List Item) {handed : List Handed} {first : Fault}
    → FindsInFile sample file env (ItemIs (token 0) item (Passes tt handed)) middle → FindsInFile sample file middle (ItemsAre (placed items) (Refused first)) after
    → FindsInFile sample file env (ItemsAre (placed (item ∷ items)) (Refused first)) after
refused_behind items {first = first} found rest = MoreItems {outcome = Refused first} found rest

-- a declaration of one name
pub names_one : {env middle after : Declarations} (storage : Storage) (spec : TypeSpec) (name : Declared) {words : Words} {base : NamedType} {handed further : List Handed}
    → out-TypeSpec spec ≡ words → Finds sample env (WordsAre words (Passes base handed)) middle
    → FindsInFile sample file middle (FileNameIs storage base name (Passes tt further)) after
    → FindsInFile sample file env (ItemIs (token 0) (Declare (declare storage spec (name ∷ []))) (Passes tt (handed ++ (further ++ [])))) after
names_one storage spec name {further = further} w words found =
    ItemWithNames {outcome = Passes tt (further ++ [])} (out-roll-Decl _) w refl words (MoreFileNames {outcome = Passes tt []} found NoMoreFileNames)

pub names_badly : {env middle after : Declarations} (storage : Storage) (spec : TypeSpec) (name : Declared) (names : List Declared) {words : Words} {base : NamedType} {handed : List Handed} {first : Fault}
    → out-TypeSpec spec ≡ words → Finds sample env (WordsAre words (Passes base handed)) middle
    → FindsInFile sample file middle (FileNameIs storage base name (Refused first)) after
    → FindsInFile sample file env (ItemIs (token 0) (Declare (declare storage spec (name ∷ names))) (Refused first)) after
names_badly storage spec name names {first = first} w words found = ItemWithNames {outcome = Refused first} (out-roll-Decl _) w refl words (FileNameRefused found)

-- what is broken at the name of an object, by its type so far and the layout that is asked
faults_by : (env : Declarations) (storage : Storage) (base : NamedType) (parts : DeclaratorParts) (counts : List Size) (t : DeclaredType) (layout : Option Layout) (other complete : Bool)
    → object_type sample base parts counts env ≡ t → layout_of Lp64 env.structs (declared_type base parts.stars counts) ≡ layout
    → is_complete_by env.structs (definition_in storage parts) t ≡ complete
    → object_faults sample file storage base parts counts other env
    ≡ name_faults parts.place (found_of_name base counts (is_over layout)) (other || is_twice (file.definition parts.name env) (definition_in storage parts)) complete
faults_by env storage base parts counts t layout other complete typed laid e =
    (λ i. name_faults parts.place (found_of_name base counts (is_over (laid i))) (other || is_twice (file.definition parts.name env) (definition_in storage parts))
    (is_complete_by env.structs (definition_in storage parts) (typed i)))
    ∙ ap (name_faults parts.place (found_of_name base counts (is_over layout)) (other || is_twice (file.definition parts.name env) (definition_in storage parts))) e

-- an object, and one whose initialiser is refused, or at whose name something is broken
pub file_object : {env middle after : Declarations} {storage : Storage} (parts : DeclaratorParts) (base : NamedType) (counts : List Size) (t : DeclaredType) (layout : Option Layout) {handed further : List Handed}
    → parts.params ≡ None → is_typedef storage ≡ false → Finds sample env (MemberSizesAre parts.sizes (Passes counts handed)) middle
    → IsAgain (said_here middle parts.name) (named_in middle.linked parts.name) (LinkedGiven (ObjectLinked (given_type base parts.stars counts))) false
    → object_type sample base parts counts middle ≡ t → layout_of Lp64 middle.structs (declared_type base parts.stars counts) ≡ layout
    → is_complete_by middle.structs (definition_in storage parts) t ≡ true
    → name_faults parts.place (found_of_name base counts (is_over layout)) (is_twice (file.definition parts.name middle) (definition_in storage parts)) true ≡ []
    → FindsInFile sample file (object_declared sample file storage base parts counts middle)
    (FileInitialisedIs (name_of parts) (is_listed_by sample file storage parts middle) (object_type sample base parts counts middle) parts.init (Passes tt further)) after
    → FindsInFile sample file env (FileNameIs storage base (roll-Declared parts) (Passes tt ((handed ++ link_row sample file parts (object_declared sample file storage base parts counts middle)) ++ further))) after
file_object {middle = middle} {storage = storage} parts base counts t layout {further = further} p s sizes asked typed laid complete none found =
    FileNameGiven {outcome = Passes tt further} false (out-roll-Declared parts) p s sizes asked (faults_by middle storage base parts counts t layout false true typed laid complete ∙ none) found

pub file_object_refused : {env middle after : Declarations} {storage : Storage} (parts : DeclaratorParts) (base : NamedType) (counts : List Size) (t : DeclaredType) (layout : Option Layout) {handed : List Handed} {first : Fault}
    → parts.params ≡ None → is_typedef storage ≡ false → Finds sample env (MemberSizesAre parts.sizes (Passes counts handed)) middle
    → IsAgain (said_here middle parts.name) (named_in middle.linked parts.name) (LinkedGiven (ObjectLinked (given_type base parts.stars counts))) false
    → object_type sample base parts counts middle ≡ t → layout_of Lp64 middle.structs (declared_type base parts.stars counts) ≡ layout
    → is_complete_by middle.structs (definition_in storage parts) t ≡ true
    → name_faults parts.place (found_of_name base counts (is_over layout)) (is_twice (file.definition parts.name middle) (definition_in storage parts)) true ≡ []
    → FindsInFile sample file (object_declared sample file storage base parts counts middle)
    (FileInitialisedIs (name_of parts) (is_listed_by sample file storage parts middle) (object_type sample base parts counts middle) parts.init (Refused first)) after
    → FindsInFile sample file env (FileNameIs storage base (roll-Declared parts) (Refused first)) after
file_object_refused {middle = middle} {storage = storage} parts base counts t layout {first = first} p s sizes asked typed laid complete none found =
    FileNameGiven {outcome = Refused first} false (out-roll-Declared parts) p s sizes asked (faults_by middle storage base parts counts t layout false true typed laid complete ∙ none) found

pub file_object_broken : {env middle : Declarations} {storage : Storage} (parts : DeclaratorParts) (base : NamedType) (counts : List Size) (t : DeclaredType) (layout : Option Layout) (other complete : Bool) {handed : List Handed} {first : Fault}
    → parts.params ≡ None → is_typedef storage ≡ false → Finds sample env (MemberSizesAre parts.sizes (Passes counts handed)) middle
    → IsAgain (said_here middle parts.name) (named_in middle.linked parts.name) (LinkedGiven (ObjectLinked (given_type base parts.stars counts))) other
    → object_type sample base parts counts middle ≡ t → layout_of Lp64 middle.structs (declared_type base parts.stars counts) ≡ layout
    → is_complete_by middle.structs (definition_in storage parts) t ≡ complete
    → IsFirst (name_faults parts.place (found_of_name base counts (is_over layout)) (other || is_twice (file.definition parts.name middle) (definition_in storage parts)) complete) first
    → FindsInFile sample file env (FileNameIs storage base (roll-Declared parts) (Refused first)) middle
file_object_broken {middle = middle} {storage = storage} parts base counts t layout other complete p s sizes asked typed laid e is =
    FileNameBroken other (out-roll-Declared parts) p s sizes asked (faults_by middle storage base parts counts t layout other complete typed laid e) is

-- the names of parameters
pub one_named : (param : ParameterParts) → names_of (roll-Param param ∷ []) ≡ param.name ∷ []
one_named param = λ i. (out-roll-Param param i).name ∷ []

pub two_named : (param next : ParameterParts) → names_of (roll-Param param ∷ roll-Param next ∷ []) ≡ param.name ∷ next.name ∷ []
two_named param next = λ i. (out-roll-Param param i).name ∷ (out-roll-Param next i).name ∷ []

-- what is broken at the head of a function, by the kind and the form of its result
abbrev pub faults_of_head : Bool → Storage → NamedType → DeclaratorParts → List Parameter → Bool → Kind → Bool → CType-F CType → List Fault
faults_of_head bodied storage base parts told again kind struct shape =
    (function_name_faults parts.place (least base.found (found_of_all told)) (is_typedef storage) again (is_array kind) ++ faults_of_all told)
    ++ (body_faults bodied parts.place struct ++ main_faults (is_main parts.name) parts.place shape)

head_by : (env : Declarations) (bodied : Bool) (storage : Storage) (base : NamedType) (parts : DeclaratorParts) (told : List Parameter) (other : Bool) (kind : Kind) (struct : Bool) (shape : CType-F CType)
    → kind_of env.structs (result_of base parts) ≡ kind → has_struct env.structs (result_of base parts) told ≡ struct → out-CType (result_of base parts) ≡ shape
    → head_faults sample file bodied storage base parts told other env
    ≡ faults_of_head bodied storage base parts told (other || is_twice (file.definition parts.name env) (definition_of_head bodied)) kind struct shape
head_by env bodied storage base parts told other kind struct shape k takes formed =
    λ i. faults_of_head bodied storage base parts told (other || is_twice (file.definition parts.name env) (definition_of_head bodied)) (k i) (takes i) (formed i)

pub file_head : {env inside : Declarations} {bodied : Bool} {storage : Storage} (parts : DeclaratorParts) (base : NamedType) (kind : Kind) (struct : Bool) (shape : CType-F CType) {names : List (Option Identifier)} {told : List Parameter} {handed : List Handed}
    → names_in parts ≡ names → Finds sample (scope_entered env) (ParametersAre (params_of parts.params) (Passes told handed)) inside
    → IsAgain (said_here (scope_left inside) parts.name) (named_in inside.linked parts.name) (LinkedGiven (function_given parts base told)) false
    → kind_of inside.structs (result_of base parts) ≡ kind → has_struct inside.structs (result_of base parts) told ≡ struct → out-CType (result_of base parts) ≡ shape
    → faults_of_head bodied storage base parts told (is_twice (file.definition parts.name inside) (definition_of_head bodied)) kind struct shape ≡ []
    → FindsInFile sample file env (HeadIs bodied storage base (roll-Declared parts) (Passes (result_of base parts) (handed ++ head_rows bodied base parts names told))) (head_declared sample file bodied base parts names told inside)
file_head {env} {inside} {bodied} {storage} parts base kind struct shape {told = told} {handed = handed} named found asked k takes formed none =
    subst (λ (ns : List (Option Identifier)). FindsInFile sample file env (HeadIs bodied storage base (roll-Declared parts) (Passes (result_of base parts) (handed ++ head_rows bodied base parts ns told))) (head_declared sample file bodied base parts ns told inside))
    named (HeadGiven false (out-roll-Declared parts) found asked (head_by inside bodied storage base parts told false kind struct shape k takes formed ∙ none))

pub file_head_broken : {env inside : Declarations} {bodied : Bool} {storage : Storage} (parts : DeclaratorParts) (base : NamedType) (kind : Kind) (struct : Bool) (shape : CType-F CType) (other : Bool) {told : List Parameter} {handed : List Handed} {first : Fault}
    → Finds sample (scope_entered env) (ParametersAre (params_of parts.params) (Passes told handed)) inside
    → IsAgain (said_here (scope_left inside) parts.name) (named_in inside.linked parts.name) (LinkedGiven (function_given parts base told)) other
    → kind_of inside.structs (result_of base parts) ≡ kind → has_struct inside.structs (result_of base parts) told ≡ struct → out-CType (result_of base parts) ≡ shape
    → IsFirst (faults_of_head bodied storage base parts told (other || is_twice (file.definition parts.name inside) (definition_of_head bodied)) kind struct shape) first
    → FindsInFile sample file env (HeadIs bodied storage base (roll-Declared parts) (Refused first)) inside
file_head_broken {inside = inside} {bodied = bodied} {storage = storage} parts base kind struct shape other {told = told} found asked k takes formed is =
    HeadBroken other (out-roll-Declared parts) found asked (head_by inside bodied storage base parts told other kind struct shape k takes formed) is

-- a function without a body, and one with it
pub file_function : {env inside : Declarations} {storage : Storage} {base : NamedType} (parts : DeclaratorParts) {params : List Param} {result : CType} {handed : List Handed}
    → parts.params ≡ Some params → FindsInFile sample file env (HeadIs false storage base (roll-Declared parts) (Passes result handed)) inside
    → FindsInFile sample file env (FileNameIs storage base (roll-Declared parts) (Passes tt handed)) (scope_left inside)
file_function parts {result = result} {handed = handed} p found = FileFunction {found = Passes result handed} (out-roll-Declared parts) p found

pub file_function_refused : {env inside : Declarations} {storage : Storage} {base : NamedType} (parts : DeclaratorParts) {params : List Param} {first : Fault}
    → parts.params ≡ Some params → FindsInFile sample file env (HeadIs false storage base (roll-Declared parts) (Refused first)) inside
    → FindsInFile sample file env (FileNameIs storage base (roll-Declared parts) (Refused first)) (scope_left inside)
file_function_refused parts {first = first} p found = FileFunction {found = Refused first} (out-roll-Declared parts) p found

abbrev in_body : CType → Declarations → Declarations
in_body result env = sample.loop_set false (file.result_set (Some result) env)

abbrev behind_body : Declarations → Declarations
behind_body env = file.result_set None (scope_left env)

pub defines : {env middle inside after : Declarations} (storage : Storage) (spec : TypeSpec) (head : Declared) (body : List Stmt) {words : Words} {base : NamedType} {result t : CType} {handed further rest : List Handed}
    → out-TypeSpec spec ≡ words → Finds sample env (WordsAre words (Passes base handed)) middle
    → FindsInFile sample file middle (HeadIs true storage base head (Passes result further)) inside
    → Finds sample (in_body result inside) (StatementsAre body (Passes t rest)) after
    → FindsInFile sample file env (ItemIs (token 0) (Function spec storage head body (token 0)) (Passes tt (handed ++ (further ++ rest)))) (behind_body after)
defines storage spec head body {t = t} {further = further} {rest = rest} w words found walked =
    FunctionItem {outcome = Passes tt (further ++ rest)} w words (DefinitionWithBody {found = Passes t rest} found walked)

pub body_refused : {env middle inside after : Declarations} (storage : Storage) (spec : TypeSpec) (head : Declared) (body : List Stmt) {words : Words} {base : NamedType} {result : CType} {handed further : List Handed} {first : Fault}
    → out-TypeSpec spec ≡ words → Finds sample env (WordsAre words (Passes base handed)) middle
    → FindsInFile sample file middle (HeadIs true storage base head (Passes result further)) inside
    → Finds sample (in_body result inside) (StatementsAre body (Refused first)) after
    → FindsInFile sample file env (ItemIs (token 0) (Function spec storage head body (token 0)) (Refused first)) (behind_body after)
body_refused storage spec head body {first = first} w words found walked =
    FunctionItem {outcome = Refused first} w words (DefinitionWithBody {found = Refused first} found walked)

pub head_refused : {env middle inside : Declarations} (storage : Storage) (spec : TypeSpec) (head : Declared) (body : List Stmt) {words : Words} {base : NamedType} {handed : List Handed} {first : Fault}
    → out-TypeSpec spec ≡ words → Finds sample env (WordsAre words (Passes base handed)) middle
    → FindsInFile sample file middle (HeadIs true storage base head (Refused first)) inside
    → FindsInFile sample file env (ItemIs (token 0) (Function spec storage head body (token 0)) (Refused first)) (behind_body inside)
head_refused storage spec head body {first = first} w words found = FunctionItem {outcome = Refused first} w words (DefinitionHeadRefused found)

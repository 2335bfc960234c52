-- Declarations of the examples.
use Rattle.std.proofs.Common.{◌≡◌, ℕ, Bool, true, false, List, [], ◌∷◌, ◌++◌, Option, Some, None, refl, sym, ap, ◌∙◌}
use Rattle.std.specs.Prelude.{◌&&◌, not, is_some}
use Rattle.cbase.specs.declared.abi.Abi.TheVariants.{Lp64}
use Rattle.cbase.specs.declared.ctype.CType.{CType}
use Rattle.cbase.specs.declared.ctype.CType.TheOpen.{Int as IntOpen}
use Rattle.cbase.specs.declared.ctype.CType.TheViews.{out-CType, outs-Int}
use Rattle.cbase.specs.declared.layout.Layout.{Layout}
use Rattle.cbase.specs.declared.structs.StructDef.{StructDef}
use Rattle.cbase.specs.declared.tree.decl.Declared.{Declared}
use Rattle.cbase.specs.declared.tree.decl.Param.{Param}
use Rattle.cbase.specs.declared.tree.decl.Storage.{Storage}
use Rattle.cbase.specs.declared.tree.decl.Storage.TheVariants.{Plain, Typedef, Extern, Static}
use Rattle.cbase.specs.declared.tree.expr.ExprForm.TheViews.{out-TypeSpec, outs-Declare, out-roll-Decl, out-roll-Declared, out-roll-Param, roll-Declared, roll-Param}
use Rattle.cbase.specs.declared.tree.spec.TypeSpec.{TypeSpec}
use Rattle.cbase.specs.declared.tree.stmt.StmtForm.TheVariants.{Declare}
use Rattle.cbase.specs.Layout.{layout_of}
use Rattle.typing.specs.ctypes.Binary.{int_type}
use Rattle.typing.specs.ctypes.Kinds.{Kind, kind_of}
use Rattle.typing.specs.declared.fault.Fault.{Fault}
use Rattle.typing.specs.declared.size.Size.{Size}
use Rattle.typing.specs.Declarations.{ObjectGiven, LinkedGiven, TypeGiven, Parameter, tag_alone, given_type, IsAgain, found_of_name, name_faults, faults_of_name, name_declared, name_of, parameter_found, parameter_faults, asked_type, is_named_here, parameter_declared, function_name_faults, function_given, found_of_all, faults_of_all, is_array, is_typedef}
use Rattle.typing.specs.Entities.{DeclaredType, WholeType, ItemsOf, ObjectLinked}
use Rattle.typing.specs.Faults.{least, IsFirst}
use Rattle.typing.specs.Forms.{Words, DeclaratorParts, ParameterParts}
use Rattle.typing.specs.NamedTypes.{NamedType, with_stars, declared_type, is_over}
use Rattle.typing.specs.Known.{value_type}
use Rattle.typing.specs.Outcomes.{Handed, Passes, Refused}
use Rattle.typing.specs.Sample.{sample, Declarations, scope_entered, scope_left, said_here, named_in, declare, statement_at, char_type}
use Rattle.typing.specs.Statements.{is_void}
use Rattle.typing.specs.Typing.{Finds, WordsAre, SizesAre, StatementIs, DeclaredNameIs, DeclaredSizesAre, ParametersAre, ParameterIs, InitialisedIs, DeclarationInside, WordsWithNames, SomeDeclarators, NoMoreDeclarators, MoreDeclarators, DeclaratorRefused, NameBroken, NameGiven, FunctionBroken, FunctionGiven, MoreParameters, ParameterFound, StatementOfParts, StatementPartRefused}
use Rattle.typing.proofs.StatementFacts.{one_part}

-- a declaration of one name
pub declares : {env middle after : Declarations} (storage : Storage) (spec : TypeSpec) (name : Declared) {words : Words} {base : NamedType} {at : ℕ} {handed further : List Handed}
    → out-TypeSpec spec ≡ words → tag_alone storage words (name ∷ []) ≡ None → Finds sample env (WordsAre words (Passes base handed)) middle
    → Finds sample middle (DeclaredNameIs storage base name (Passes tt further)) after
    → Finds sample env (StatementIs (statement_at at (Declare (declare storage spec (name ∷ [])))) (Passes tt ((handed ++ (further ++ [])) ++ []))) after
declares storage spec name {further = further} e t words found =
    StatementOfParts (outs-Declare (declare storage spec (name ∷ []))) refl
    (one_part (DeclarationInside (WordsWithNames {outcome = Passes tt (further ++ [])} (out-roll-Decl _) e t words (SomeDeclarators (MoreDeclarators {outcome = Passes tt []} found NoMoreDeclarators)))))

pub refuses : {env middle after : Declarations} (storage : Storage) (spec : TypeSpec) (name : Declared) {words : Words} {base : NamedType} {at : ℕ} {handed : List Handed} {first : Fault}
    → out-TypeSpec spec ≡ words → tag_alone storage words (name ∷ []) ≡ None → Finds sample env (WordsAre words (Passes base handed)) middle
    → Finds sample middle (DeclaredNameIs storage base name (Refused first)) after
    → Finds sample env (StatementIs (statement_at at (Declare (declare storage spec (name ∷ [])))) (Refused first)) after
refuses storage spec name {first = first} e t words found =
    StatementOfParts (outs-Declare (declare storage spec (name ∷ []))) refl
    (StatementPartRefused (DeclarationInside (WordsWithNames {outcome = Refused first} (out-roll-Decl _) e t words (SomeDeclarators (DeclaratorRefused found)))))

-- what is broken at the name of an object of a whole type
own_faults : (among : List StructDef) (parts : DeclaratorParts) (base : NamedType) (counts : List Size) (fixed again : Bool) (layout : Option Layout)
    → given_type base parts.stars counts ≡ WholeType (declared_type base parts.stars counts) → layout_of Lp64 among (declared_type base parts.stars counts) ≡ layout
    → faults_of_name Lp64 among parts base counts (ObjectGiven fixed (given_type base parts.stars counts)) again
    ≡ name_faults parts.place (found_of_name base counts (is_over layout)) again (is_some layout)
own_faults among parts base counts fixed again layout g laid =
    ap (λ (d : DeclaredType). faults_of_name Lp64 among parts base counts (ObjectGiven fixed d) again) g
    ∙ ap (λ (o : Option Layout). name_faults parts.place (found_of_name base counts (is_over o)) again (is_some o)) laid

-- of an array whose size is left out, without an initialiser
items_faults : (among : List StructDef) (parts : DeclaratorParts) (base : NamedType) (counts : List Size) (fixed again : Bool) (item : CType) (layout laid_item : Option Layout)
    → given_type base parts.stars counts ≡ ItemsOf item → layout_of Lp64 among (declared_type base parts.stars counts) ≡ layout → layout_of Lp64 among item ≡ laid_item
    → faults_of_name Lp64 among parts base counts (ObjectGiven fixed (given_type base parts.stars counts)) again
    ≡ name_faults parts.place (found_of_name base counts (is_over layout)) again (is_some parts.init && is_some laid_item)
items_faults among parts base counts fixed again item layout laid_item g laid of_item =
    ap (λ (d : DeclaredType). faults_of_name Lp64 among parts base counts (ObjectGiven fixed d) again) g
    ∙ (λ i. name_faults parts.place (found_of_name base counts (is_over (laid i))) again (is_some parts.init && is_some (of_item i)))

-- of what has linkage, and of a typedef
linked_faults : (among : List StructDef) (parts : DeclaratorParts) (base : NamedType) (counts : List Size) (again : Bool) (layout : Option Layout) (kind : Kind)
    → given_type base parts.stars counts ≡ WholeType (declared_type base parts.stars counts) → layout_of Lp64 among (declared_type base parts.stars counts) ≡ layout
    → kind_of among (declared_type base parts.stars counts) ≡ kind
    → faults_of_name Lp64 among parts base counts (LinkedGiven (ObjectLinked (given_type base parts.stars counts))) again
    ≡ name_faults parts.place (found_of_name base counts (is_over layout)) again (not (is_void kind))
linked_faults among parts base counts again layout kind g laid k =
    ap (λ (d : DeclaredType). faults_of_name Lp64 among parts base counts (LinkedGiven (ObjectLinked d)) again) g
    ∙ (λ i. name_faults parts.place (found_of_name base counts (is_over (laid i))) again (not (is_void (k i))))

linked_items_faults : (among : List StructDef) (parts : DeclaratorParts) (base : NamedType) (counts : List Size) (again : Bool) (item : CType) (layout : Option Layout)
    → given_type base parts.stars counts ≡ ItemsOf item → layout_of Lp64 among (declared_type base parts.stars counts) ≡ layout
    → faults_of_name Lp64 among parts base counts (LinkedGiven (ObjectLinked (given_type base parts.stars counts))) again
    ≡ name_faults parts.place (found_of_name base counts (is_over layout)) again true
linked_items_faults among parts base counts again item layout g laid =
    ap (λ (d : DeclaredType). faults_of_name Lp64 among parts base counts (LinkedGiven (ObjectLinked d)) again) g
    ∙ ap (λ (o : Option Layout). name_faults parts.place (found_of_name base counts (is_over o)) again true) laid

typedef_faults : (among : List StructDef) (parts : DeclaratorParts) (base : NamedType) (counts : List Size) (again : Bool) (layout : Option Layout)
    → layout_of Lp64 among (declared_type base parts.stars counts) ≡ layout
    → faults_of_name Lp64 among parts base counts (TypeGiven (given_type base parts.stars counts)) again
    ≡ name_faults parts.place (found_of_name base counts (is_over layout)) again true
typedef_faults among parts base counts again layout laid =
    ap (λ (o : Option Layout). name_faults parts.place (found_of_name base counts (is_over o)) again true) laid

-- an automatic object and a static one
pub automatic : {env middle after : Declarations} (parts : DeclaratorParts) (base : NamedType) (counts : List Size) (layout : Option Layout) {handed further : List Handed}
    → parts.params ≡ None → Finds sample env (DeclaredSizesAre false parts.sizes (Passes counts handed)) middle
    → IsAgain (said_here middle parts.name) (named_in middle.linked parts.name) (ObjectGiven false (given_type base parts.stars counts)) false
    → given_type base parts.stars counts ≡ WholeType (declared_type base parts.stars counts)
    → layout_of Lp64 middle.structs (declared_type base parts.stars counts) ≡ layout
    → name_faults parts.place (found_of_name base counts (is_over layout)) false (is_some layout) ≡ []
    → Finds sample (name_declared sample parts.name parts.place.at (ObjectGiven false (given_type base parts.stars counts)) middle) (InitialisedIs (name_of parts) (ObjectGiven false (given_type base parts.stars counts)) parts.init (Passes tt further)) after
    → Finds sample env (DeclaredNameIs Plain base (roll-Declared parts) (Passes tt (handed ++ further))) after
automatic {middle = middle} parts base counts layout {further = further} p sizes asked g laid none found =
    NameGiven {outcome = Passes tt further} false (out-roll-Declared parts) p sizes asked (own_faults middle.structs parts base counts false false layout g laid ∙ none) found

pub not_automatic : {env middle : Declarations} (parts : DeclaratorParts) (base : NamedType) (counts : List Size) (layout : Option Layout) (again : Bool) {handed : List Handed} {first : Fault}
    → parts.params ≡ None → Finds sample env (DeclaredSizesAre false parts.sizes (Passes counts handed)) middle
    → IsAgain (said_here middle parts.name) (named_in middle.linked parts.name) (ObjectGiven false (given_type base parts.stars counts)) again
    → given_type base parts.stars counts ≡ WholeType (declared_type base parts.stars counts)
    → layout_of Lp64 middle.structs (declared_type base parts.stars counts) ≡ layout
    → IsFirst (name_faults parts.place (found_of_name base counts (is_over layout)) again (is_some layout)) first
    → Finds sample env (DeclaredNameIs Plain base (roll-Declared parts) (Refused first)) middle
not_automatic {middle = middle} parts base counts layout again p sizes asked g laid is =
    NameBroken again (out-roll-Declared parts) p sizes asked (own_faults middle.structs parts base counts false again layout g laid) is

pub static : {env middle after : Declarations} (parts : DeclaratorParts) (base : NamedType) (counts : List Size) (layout : Option Layout) {handed further : List Handed}
    → parts.params ≡ None → Finds sample env (DeclaredSizesAre true parts.sizes (Passes counts handed)) middle
    → IsAgain (said_here middle parts.name) (named_in middle.linked parts.name) (ObjectGiven true (given_type base parts.stars counts)) false
    → given_type base parts.stars counts ≡ WholeType (declared_type base parts.stars counts)
    → layout_of Lp64 middle.structs (declared_type base parts.stars counts) ≡ layout
    → name_faults parts.place (found_of_name base counts (is_over layout)) false (is_some layout) ≡ []
    → Finds sample (name_declared sample parts.name parts.place.at (ObjectGiven true (given_type base parts.stars counts)) middle) (InitialisedIs (name_of parts) (ObjectGiven true (given_type base parts.stars counts)) parts.init (Passes tt further)) after
    → Finds sample env (DeclaredNameIs Static base (roll-Declared parts) (Passes tt (handed ++ further))) after
static {middle = middle} parts base counts layout {further = further} p sizes asked g laid none found =
    NameGiven {outcome = Passes tt further} false (out-roll-Declared parts) p sizes asked (own_faults middle.structs parts base counts true false layout g laid ∙ none) found

-- an automatic array whose size is left out
pub left_open : {env middle after : Declarations} (parts : DeclaratorParts) (base : NamedType) (counts : List Size) (item : CType) (laid_item : Option Layout) (layout : Option Layout) {handed further : List Handed}
    → parts.params ≡ None → Finds sample env (DeclaredSizesAre false parts.sizes (Passes counts handed)) middle
    → IsAgain (said_here middle parts.name) (named_in middle.linked parts.name) (ObjectGiven false (given_type base parts.stars counts)) false
    → given_type base parts.stars counts ≡ ItemsOf item
    → layout_of Lp64 middle.structs (declared_type base parts.stars counts) ≡ layout → layout_of Lp64 middle.structs item ≡ laid_item
    → name_faults parts.place (found_of_name base counts (is_over layout)) false (is_some parts.init && is_some laid_item) ≡ []
    → Finds sample (name_declared sample parts.name parts.place.at (ObjectGiven false (given_type base parts.stars counts)) middle) (InitialisedIs (name_of parts) (ObjectGiven false (given_type base parts.stars counts)) parts.init (Passes tt further)) after
    → Finds sample env (DeclaredNameIs Plain base (roll-Declared parts) (Passes tt (handed ++ further))) after
left_open {middle = middle} parts base counts item laid_item layout {further = further} p sizes asked g laid of_item none found =
    NameGiven {outcome = Passes tt further} false (out-roll-Declared parts) p sizes asked (items_faults middle.structs parts base counts false false item layout laid_item g laid of_item ∙ none) found

pub not_left_open : {env middle : Declarations} (parts : DeclaratorParts) (base : NamedType) (counts : List Size) (item : CType) (laid_item : Option Layout) (layout : Option Layout) (again : Bool) {handed : List Handed} {first : Fault}
    → parts.params ≡ None → Finds sample env (DeclaredSizesAre false parts.sizes (Passes counts handed)) middle
    → IsAgain (said_here middle parts.name) (named_in middle.linked parts.name) (ObjectGiven false (given_type base parts.stars counts)) again
    → given_type base parts.stars counts ≡ ItemsOf item
    → layout_of Lp64 middle.structs (declared_type base parts.stars counts) ≡ layout → layout_of Lp64 middle.structs item ≡ laid_item
    → IsFirst (name_faults parts.place (found_of_name base counts (is_over layout)) again (is_some parts.init && is_some laid_item)) first
    → Finds sample env (DeclaredNameIs Plain base (roll-Declared parts) (Refused first)) middle
not_left_open {middle = middle} parts base counts item laid_item layout again p sizes asked g laid of_item is =
    NameBroken again (out-roll-Declared parts) p sizes asked (items_faults middle.structs parts base counts false again item layout laid_item g laid of_item) is

-- what has linkage, of a whole type and as an array of any size, and a typedef
pub linked : {env middle after : Declarations} (parts : DeclaratorParts) (base : NamedType) (counts : List Size) (kind : Kind) (layout : Option Layout) {handed further : List Handed}
    → parts.params ≡ None → Finds sample env (DeclaredSizesAre true parts.sizes (Passes counts handed)) middle
    → IsAgain (said_here middle parts.name) (named_in middle.linked parts.name) (LinkedGiven (ObjectLinked (given_type base parts.stars counts))) false
    → given_type base parts.stars counts ≡ WholeType (declared_type base parts.stars counts)
    → layout_of Lp64 middle.structs (declared_type base parts.stars counts) ≡ layout → kind_of middle.structs (declared_type base parts.stars counts) ≡ kind
    → name_faults parts.place (found_of_name base counts (is_over layout)) false (not (is_void kind)) ≡ []
    → Finds sample (name_declared sample parts.name parts.place.at (LinkedGiven (ObjectLinked (given_type base parts.stars counts))) middle) (InitialisedIs (name_of parts) (LinkedGiven (ObjectLinked (given_type base parts.stars counts))) parts.init (Passes tt further)) after
    → Finds sample env (DeclaredNameIs Extern base (roll-Declared parts) (Passes tt (handed ++ further))) after
linked {middle = middle} parts base counts kind layout {further = further} p sizes asked g laid k none found =
    NameGiven {outcome = Passes tt further} false (out-roll-Declared parts) p sizes asked (linked_faults middle.structs parts base counts false layout kind g laid k ∙ none) found

pub not_linked : {env middle : Declarations} (parts : DeclaratorParts) (base : NamedType) (counts : List Size) (kind : Kind) (layout : Option Layout) (again : Bool) {handed : List Handed} {first : Fault}
    → parts.params ≡ None → Finds sample env (DeclaredSizesAre true parts.sizes (Passes counts handed)) middle
    → IsAgain (said_here middle parts.name) (named_in middle.linked parts.name) (LinkedGiven (ObjectLinked (given_type base parts.stars counts))) again
    → given_type base parts.stars counts ≡ WholeType (declared_type base parts.stars counts)
    → layout_of Lp64 middle.structs (declared_type base parts.stars counts) ≡ layout → kind_of middle.structs (declared_type base parts.stars counts) ≡ kind
    → IsFirst (name_faults parts.place (found_of_name base counts (is_over layout)) again (not (is_void kind))) first
    → Finds sample env (DeclaredNameIs Extern base (roll-Declared parts) (Refused first)) middle
not_linked {middle = middle} parts base counts kind layout again p sizes asked g laid k is =
    NameBroken again (out-roll-Declared parts) p sizes asked (linked_faults middle.structs parts base counts again layout kind g laid k) is

pub linked_items : {env middle after : Declarations} (parts : DeclaratorParts) (base : NamedType) (counts : List Size) (item : CType) (layout : Option Layout) {handed further : List Handed}
    → parts.params ≡ None → Finds sample env (DeclaredSizesAre true parts.sizes (Passes counts handed)) middle
    → IsAgain (said_here middle parts.name) (named_in middle.linked parts.name) (LinkedGiven (ObjectLinked (given_type base parts.stars counts))) false
    → given_type base parts.stars counts ≡ ItemsOf item
    → layout_of Lp64 middle.structs (declared_type base parts.stars counts) ≡ layout
    → name_faults parts.place (found_of_name base counts (is_over layout)) false true ≡ []
    → Finds sample (name_declared sample parts.name parts.place.at (LinkedGiven (ObjectLinked (given_type base parts.stars counts))) middle) (InitialisedIs (name_of parts) (LinkedGiven (ObjectLinked (given_type base parts.stars counts))) parts.init (Passes tt further)) after
    → Finds sample env (DeclaredNameIs Extern base (roll-Declared parts) (Passes tt (handed ++ further))) after
linked_items {middle = middle} parts base counts item layout {further = further} p sizes asked g laid none found =
    NameGiven {outcome = Passes tt further} false (out-roll-Declared parts) p sizes asked (linked_items_faults middle.structs parts base counts false item layout g laid ∙ none) found

pub typedef : {env middle after : Declarations} (parts : DeclaratorParts) (base : NamedType) (counts : List Size) (layout : Option Layout) {handed further : List Handed}
    → parts.params ≡ None → Finds sample env (DeclaredSizesAre false parts.sizes (Passes counts handed)) middle
    → IsAgain (said_here middle parts.name) (named_in middle.linked parts.name) (TypeGiven (given_type base parts.stars counts)) false
    → layout_of Lp64 middle.structs (declared_type base parts.stars counts) ≡ layout
    → name_faults parts.place (found_of_name base counts (is_over layout)) false true ≡ []
    → Finds sample (name_declared sample parts.name parts.place.at (TypeGiven (given_type base parts.stars counts)) middle) (InitialisedIs (name_of parts) (TypeGiven (given_type base parts.stars counts)) parts.init (Passes tt further)) after
    → Finds sample env (DeclaredNameIs Typedef base (roll-Declared parts) (Passes tt (handed ++ further))) after
typedef {middle = middle} parts base counts layout {further = further} p sizes asked laid none found =
    NameGiven {outcome = Passes tt further} false (out-roll-Declared parts) p sizes asked (typedef_faults middle.structs parts base counts false layout laid ∙ none) found

pub not_typedef : {env middle : Declarations} (parts : DeclaratorParts) (base : NamedType) (counts : List Size) (layout : Option Layout) (again : Bool) {handed : List Handed} {first : Fault}
    → parts.params ≡ None → Finds sample env (DeclaredSizesAre false parts.sizes (Passes counts handed)) middle
    → IsAgain (said_here middle parts.name) (named_in middle.linked parts.name) (TypeGiven (given_type base parts.stars counts)) again
    → layout_of Lp64 middle.structs (declared_type base parts.stars counts) ≡ layout
    → IsFirst (name_faults parts.place (found_of_name base counts (is_over layout)) again true) first
    → Finds sample env (DeclaredNameIs Typedef base (roll-Declared parts) (Refused first)) middle
not_typedef {middle = middle} parts base counts layout again p sizes asked laid is =
    NameBroken again (out-roll-Declared parts) p sizes asked (typedef_faults middle.structs parts base counts again layout laid) is

-- an int is no char
pub int_or_char : int_type ≡ char_type → ⊥
int_or_char e = let both : IntOpen 4 true ≡ IntOpen 1 true = sym (outs-Int 4 true) ∙ (ap out-CType e ∙ outs-Int 1 true) in absurd (cc both)

-- a parameter, by the kind of its type and the layout that is asked
abbrev pub parameter_by : NamedType → ParameterParts → List Size → Bool → Kind → Option Layout → Parameter
parameter_by base parts counts again kind layout = record {
  ctype = value_type kind (declared_type base parts.stars counts);
  found = parameter_found parts.name (found_of_name base counts (is_over layout)) (is_void kind);
  faults = parameter_faults parts.name (is_void kind) again;
}

pub one_parameter : {env middle after : Declarations} (parts : ParameterParts) (base : NamedType) (counts : List Size) (kind : Kind) (layout : Option Layout) {words : Words} {handed further : List Handed}
    → out-TypeSpec parts.spec ≡ words → Finds sample env (WordsAre words (Passes base handed)) middle → Finds sample middle (SizesAre parts.sizes (Passes counts further)) after
    → kind_of after.structs (declared_type base parts.stars counts) ≡ kind → layout_of Lp64 after.structs (asked_type base parts.stars counts) ≡ layout
    → Finds sample env (ParameterIs (roll-Param parts) (Passes (parameter_by base parts counts (is_named_here sample parts.name after) kind layout) (handed ++ further)))
    (parameter_declared sample parts.name (value_type kind (declared_type base parts.stars counts)) after)
one_parameter {after = after} parts base counts kind layout e words sizes k laid =
    ParameterFound (out-roll-Param parts) e words sizes (λ i. parameter_by base parts counts (is_named_here sample parts.name after) (k i) (laid i))

pub more_parameters : {env middle after : Declarations} {param : Param} {params : List Param} {told : Parameter} {others : List Parameter} {handed further : List Handed}
    → Finds sample env (ParameterIs param (Passes told handed)) middle → Finds sample middle (ParametersAre params (Passes others further)) after
    → Finds sample env (ParametersAre (param ∷ params) (Passes (told ∷ others) (handed ++ further))) after
more_parameters {others = others} {further = further} found rest = MoreParameters {outcome = Passes others further} found rest

-- a function
pub function_passes : {env inside : Declarations} {storage : Storage} (parts : DeclaratorParts) (base : NamedType) (kind : Kind) {params : List Param} {told : List Parameter} {handed : List Handed}
    → parts.params ≡ Some params → Finds sample (scope_entered env) (ParametersAre params (Passes told handed)) inside
    → IsAgain (said_here (scope_left inside) parts.name) (named_in inside.linked parts.name) (LinkedGiven (function_given parts base told)) false
    → kind_of inside.structs (with_stars parts.stars base.ctype) ≡ kind
    → function_name_faults parts.place (least base.found (found_of_all told)) (is_typedef storage) false (is_array kind) ++ faults_of_all told ≡ []
    → Finds sample env (DeclaredNameIs storage base (roll-Declared parts) (Passes tt handed)) (name_declared sample parts.name parts.place.at (LinkedGiven (function_given parts base told)) (scope_left inside))
function_passes {storage = storage} parts base kind {told = told} p found asked k none =
    FunctionGiven false (out-roll-Declared parts) p found asked
    (ap (λ (r : Kind). function_name_faults parts.place (least base.found (found_of_all told)) (is_typedef storage) false (is_array r) ++ faults_of_all told) k ∙ none)

pub function_refused : {env inside : Declarations} {storage : Storage} (parts : DeclaratorParts) (base : NamedType) (kind : Kind) (again : Bool) {params : List Param} {told : List Parameter} {handed : List Handed} {first : Fault}
    → parts.params ≡ Some params → Finds sample (scope_entered env) (ParametersAre params (Passes told handed)) inside
    → IsAgain (said_here (scope_left inside) parts.name) (named_in inside.linked parts.name) (LinkedGiven (function_given parts base told)) again
    → kind_of inside.structs (with_stars parts.stars base.ctype) ≡ kind
    → IsFirst (function_name_faults parts.place (least base.found (found_of_all told)) (is_typedef storage) again (is_array kind) ++ faults_of_all told) first
    → Finds sample env (DeclaredNameIs storage base (roll-Declared parts) (Refused first)) (scope_left inside)
function_refused {storage = storage} parts base kind again {told = told} p found asked k is =
    FunctionBroken again (out-roll-Declared parts) p found asked
    (ap (λ (r : Kind). function_name_faults parts.place (least base.found (found_of_all told)) (is_typedef storage) again (is_array r) ++ faults_of_all told) k) is

-- the same where something is refused in the initialiser
pub automatic_refused : {env middle after : Declarations} (parts : DeclaratorParts) (base : NamedType) (counts : List Size) (layout : Option Layout) {handed : List Handed} {first : Fault}
    → parts.params ≡ None → Finds sample env (DeclaredSizesAre false parts.sizes (Passes counts handed)) middle
    → IsAgain (said_here middle parts.name) (named_in middle.linked parts.name) (ObjectGiven false (given_type base parts.stars counts)) false
    → given_type base parts.stars counts ≡ WholeType (declared_type base parts.stars counts)
    → layout_of Lp64 middle.structs (declared_type base parts.stars counts) ≡ layout
    → name_faults parts.place (found_of_name base counts (is_over layout)) false (is_some layout) ≡ []
    → Finds sample (name_declared sample parts.name parts.place.at (ObjectGiven false (given_type base parts.stars counts)) middle) (InitialisedIs (name_of parts) (ObjectGiven false (given_type base parts.stars counts)) parts.init (Refused first)) after
    → Finds sample env (DeclaredNameIs Plain base (roll-Declared parts) (Refused first)) after
automatic_refused {middle = middle} parts base counts layout {first = first} p sizes asked g laid none found =
    NameGiven {outcome = Refused first} false (out-roll-Declared parts) p sizes asked (own_faults middle.structs parts base counts false false layout g laid ∙ none) found

pub static_refused : {env middle after : Declarations} (parts : DeclaratorParts) (base : NamedType) (counts : List Size) (layout : Option Layout) {handed : List Handed} {first : Fault}
    → parts.params ≡ None → Finds sample env (DeclaredSizesAre true parts.sizes (Passes counts handed)) middle
    → IsAgain (said_here middle parts.name) (named_in middle.linked parts.name) (ObjectGiven true (given_type base parts.stars counts)) false
    → given_type base parts.stars counts ≡ WholeType (declared_type base parts.stars counts)
    → layout_of Lp64 middle.structs (declared_type base parts.stars counts) ≡ layout
    → name_faults parts.place (found_of_name base counts (is_over layout)) false (is_some layout) ≡ []
    → Finds sample (name_declared sample parts.name parts.place.at (ObjectGiven true (given_type base parts.stars counts)) middle) (InitialisedIs (name_of parts) (ObjectGiven true (given_type base parts.stars counts)) parts.init (Refused first)) after
    → Finds sample env (DeclaredNameIs Static base (roll-Declared parts) (Refused first)) after
static_refused {middle = middle} parts base counts layout {first = first} p sizes asked g laid none found =
    NameGiven {outcome = Refused first} false (out-roll-Declared parts) p sizes asked (own_faults middle.structs parts base counts true false layout g laid ∙ none) found

pub left_open_refused : {env middle after : Declarations} (parts : DeclaratorParts) (base : NamedType) (counts : List Size) (item : CType) (laid_item : Option Layout) (layout : Option Layout) {handed : List Handed} {first : Fault}
    → parts.params ≡ None → Finds sample env (DeclaredSizesAre false parts.sizes (Passes counts handed)) middle
    → IsAgain (said_here middle parts.name) (named_in middle.linked parts.name) (ObjectGiven false (given_type base parts.stars counts)) false
    → given_type base parts.stars counts ≡ ItemsOf item
    → layout_of Lp64 middle.structs (declared_type base parts.stars counts) ≡ layout → layout_of Lp64 middle.structs item ≡ laid_item
    → name_faults parts.place (found_of_name base counts (is_over layout)) false (is_some parts.init && is_some laid_item) ≡ []
    → Finds sample (name_declared sample parts.name parts.place.at (ObjectGiven false (given_type base parts.stars counts)) middle) (InitialisedIs (name_of parts) (ObjectGiven false (given_type base parts.stars counts)) parts.init (Refused first)) after
    → Finds sample env (DeclaredNameIs Plain base (roll-Declared parts) (Refused first)) after
left_open_refused {middle = middle} parts base counts item laid_item layout {first = first} p sizes asked g laid of_item none found =
    NameGiven {outcome = Refused first} false (out-roll-Declared parts) p sizes asked (items_faults middle.structs parts base counts false false item layout laid_item g laid of_item ∙ none) found

pub linked_refused : {env middle after : Declarations} (parts : DeclaratorParts) (base : NamedType) (counts : List Size) (kind : Kind) (layout : Option Layout) {handed : List Handed} {first : Fault}
    → parts.params ≡ None → Finds sample env (DeclaredSizesAre true parts.sizes (Passes counts handed)) middle
    → IsAgain (said_here middle parts.name) (named_in middle.linked parts.name) (LinkedGiven (ObjectLinked (given_type base parts.stars counts))) false
    → given_type base parts.stars counts ≡ WholeType (declared_type base parts.stars counts)
    → layout_of Lp64 middle.structs (declared_type base parts.stars counts) ≡ layout → kind_of middle.structs (declared_type base parts.stars counts) ≡ kind
    → name_faults parts.place (found_of_name base counts (is_over layout)) false (not (is_void kind)) ≡ []
    → Finds sample (name_declared sample parts.name parts.place.at (LinkedGiven (ObjectLinked (given_type base parts.stars counts))) middle) (InitialisedIs (name_of parts) (LinkedGiven (ObjectLinked (given_type base parts.stars counts))) parts.init (Refused first)) after
    → Finds sample env (DeclaredNameIs Extern base (roll-Declared parts) (Refused first)) after
linked_refused {middle = middle} parts base counts kind layout {first = first} p sizes asked g laid k none found =
    NameGiven {outcome = Refused first} false (out-roll-Declared parts) p sizes asked (linked_faults middle.structs parts base counts false layout kind g laid k ∙ none) found

pub typedef_refused : {env middle after : Declarations} (parts : DeclaratorParts) (base : NamedType) (counts : List Size) (layout : Option Layout) {handed : List Handed} {first : Fault}
    → parts.params ≡ None → Finds sample env (DeclaredSizesAre false parts.sizes (Passes counts handed)) middle
    → IsAgain (said_here middle parts.name) (named_in middle.linked parts.name) (TypeGiven (given_type base parts.stars counts)) false
    → layout_of Lp64 middle.structs (declared_type base parts.stars counts) ≡ layout
    → name_faults parts.place (found_of_name base counts (is_over layout)) false true ≡ []
    → Finds sample (name_declared sample parts.name parts.place.at (TypeGiven (given_type base parts.stars counts)) middle) (InitialisedIs (name_of parts) (TypeGiven (given_type base parts.stars counts)) parts.init (Refused first)) after
    → Finds sample env (DeclaredNameIs Typedef base (roll-Declared parts) (Refused first)) after
typedef_refused {middle = middle} parts base counts layout {first = first} p sizes asked laid none found =
    NameGiven {outcome = Refused first} false (out-roll-Declared parts) p sizes asked (typedef_faults middle.structs parts base counts false layout laid ∙ none) found

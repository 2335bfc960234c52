-- Initialisers of the examples.
use Rattle.std.proofs.Common.{◌≡◌, ℕ, suc, Bool, true, false, List, [], ◌∷◌, ◌++◌, length, Option, Some, None, refl, ap, ◌∙◌}
use Rattle.std.specs.Prelude.{◌+◌, ◌&&◌, not, if◌then◌else◌}
use Rattle.std.specs.Option.{option_map_or}
use Rattle.cbase.specs.declared.abi.Abi.TheVariants.{Lp64}
use Rattle.cbase.specs.declared.ctype.CType.{CType}
use Rattle.cbase.specs.declared.ctype.CType.TheVariants.{Pointer as PointerType, Struct as StructType, Array as ArrayType}
use Rattle.cbase.specs.declared.ctype.CType.TheViews.{out-CType, outs-Int, outs-Struct, outs-Array}
use Rattle.cbase.specs.declared.layout.Layout.{Layout}
use Rattle.cbase.specs.declared.structs.StructDef.{StructDef}
use Rattle.cbase.specs.declared.tree.expr.Expr.{Expr}
use Rattle.cbase.specs.declared.tree.expr.ExprForm.TheViews.{out-ExprForm, outs-Name, outs-Unary, outs-Binary, outs-Cast, outs-Index, outs-Value, outs-Braces, out-roll-InitPart}
use Rattle.cbase.specs.declared.tree.expr.ExprForm.TheVariants.{Unary, Binary, Cast, Index}
use Rattle.cbase.specs.declared.tree.decl.TypeName.{TypeName}
use Rattle.cbase.specs.declared.tree.operators.BinaryOp.{BinaryOp}
use Rattle.cbase.specs.declared.tree.operators.UnaryOp.TheVariants.{Address}
use Rattle.cbase.specs.declared.tree.init.Init.{Init}
use Rattle.cbase.specs.declared.tree.init.Init.TheVariants.{Braces}
use Rattle.cbase.specs.declared.tree.init.InitPart.{InitPart}
use Rattle.cbase.specs.Layout.{no_fields}
use Rattle.cbase.specs.Offset.{fields_of, offset_of, offset_behind}
use Rattle.typing.specs.declared.ctypes.found.Broken.TheVariants.{Rule}
use Rattle.typing.specs.ctypes.Binary.{int_type}
use Rattle.typing.specs.ctypes.Converting.{converts}
use Rattle.typing.specs.ctypes.Kinds.{Kind, kind_of, decayed}
use Rattle.typing.specs.declared.fault.Fault.{Fault}
use Rattle.typing.specs.Faults.{fault, IsFirst}
use Rattle.typing.specs.Initialisers.{Slot, Subject, Filled, One, Members, Items, Sets, Full, AsValue, AsPlace, Ends, IsConstant, EndsThere, LeadsOn, filled_in, filled_of, next_in, items_of, row_of, is_fixed, is_array_row, is_pointer_row, is_constant_row, if_constant, if_cast, if_item, value_leads, place_leads}
use Rattle.typing.specs.Known.{Known}
use Rattle.typing.specs.Outcomes.{Outcome, Handed, StoreHanded, Passes, Refused}
use Rattle.typing.specs.Pieces.{Loaded}
use Rattle.typing.specs.Sample.{sample, Declarations, token, node, name, char_type, value_of, part, part_named}
use Rattle.typing.specs.Statements.{Stored, Surplus, stored_faults, is_test_of_pointer}
use Rattle.typing.specs.Told.{OperandIs}
use Rattle.typing.specs.Typing.{Finds, PieceIs, ValueUsed, InitialiserIs, PartsFill, ValueStored, BracesFill, PartSets, NothingToSet, SurplusPart, SurplusValue, ValueTaken}
use Rattle.typing.proofs.SampleFacts.{structs, both, alone, laid_4, laid_pointer}

-- values that are stored: one that converts, and one that does not
pub stored_well : {env after : Declarations} {expr : Expr} {known : Known} {handed : List Handed} {t : CType} {to from : Kind}
    → Finds sample env (PieceIs (Loaded expr) (Passes (OperandIs known) handed)) after → kind_of after.structs t ≡ to → kind_of after.structs known.ctype ≡ from
    → converts to (decayed from) known.null ≡ true → Finds sample env (ValueUsed (Stored false t) expr (Passes tt handed)) after
stored_well {expr = expr} {known = known} found k f e =
    ValueTaken true found refl ((λ i. stored_faults false true expr.place (converts (k i) (decayed (f i)) known.null)) ∙ ap (stored_faults false true expr.place) e) (refl, refl, refl)

pub stored_badly : {env after : Declarations} {expr : Expr} {known : Known} {handed : List Handed} {t : CType} {to from : Kind}
    → Finds sample env (PieceIs (Loaded expr) (Passes (OperandIs known) handed)) after → kind_of after.structs t ≡ to → kind_of after.structs known.ctype ≡ from
    → converts to (decayed from) known.null ≡ false → Finds sample env (ValueUsed (Stored false t) expr (Refused (fault expr.place (Rule 5)))) after
stored_badly {expr = expr} {known = known} found k f e =
    ValueTaken true found refl ((λ i. stored_faults false true expr.place (converts (k i) (decayed (f i)) known.null)) ∙ ap (stored_faults false true expr.place) e) (alone _)

-- of a static object: one that is a constant, one that is none, and one that does not convert either
pub fixed_well : {env after : Declarations} {expr : Expr} {known : Known} {handed : List Handed} {t : CType} {to from : Kind}
    → Finds sample env (PieceIs (Loaded expr) (Passes (OperandIs known) handed)) after → kind_of after.structs t ≡ to → kind_of after.structs known.ctype ≡ from
    → converts to (decayed from) known.null ≡ true → is_test_of_pointer to (decayed from) ≡ false → IsConstant handed AsValue expr true
    → Finds sample env (ValueUsed (Stored true t) expr (Passes tt handed)) after
fixed_well {expr = expr} {known = known} found k f e is constant =
    ValueTaken true found constant
    ((λ i. stored_faults true (not (is_test_of_pointer (k i) (decayed (f i)))) expr.place (converts (k i) (decayed (f i)) known.null)) ∙ (λ i. stored_faults true (not (is i)) expr.place (e i)))
    (refl, refl, refl)

-- a pointer that becomes a `_Bool`
pub fixed_test : {env after : Declarations} {expr : Expr} {known : Known} {handed : List Handed} {t : CType} {to from : Kind}
    → Finds sample env (PieceIs (Loaded expr) (Passes (OperandIs known) handed)) after → kind_of after.structs t ≡ to → kind_of after.structs known.ctype ≡ from
    → converts to (decayed from) known.null ≡ true → is_test_of_pointer to (decayed from) ≡ true → IsConstant handed AsValue expr true
    → Finds sample env (ValueUsed (Stored true t) expr (Refused (fault expr.place (Rule 9)))) after
fixed_test {expr = expr} {known = known} found k f e is constant =
    ValueTaken true found constant
    ((λ i. stored_faults true (not (is_test_of_pointer (k i) (decayed (f i)))) expr.place (converts (k i) (decayed (f i)) known.null)) ∙ (λ i. stored_faults true (not (is i)) expr.place (e i)))
    (alone _)

pub fixed_not : {env after : Declarations} {expr : Expr} {known : Known} {handed : List Handed} {t : CType} {to from : Kind}
    → Finds sample env (PieceIs (Loaded expr) (Passes (OperandIs known) handed)) after → kind_of after.structs t ≡ to → kind_of after.structs known.ctype ≡ from
    → converts to (decayed from) known.null ≡ true → IsConstant handed AsValue expr false → Finds sample env (ValueUsed (Stored true t) expr (Refused (fault expr.place (Rule 9)))) after
fixed_not {expr = expr} {known = known} found k f e constant =
    ValueTaken false found constant ((λ i. stored_faults true false expr.place (converts (k i) (decayed (f i)) known.null)) ∙ ap (stored_faults true false expr.place) e) (alone _)

pub fixed_badly : {env after : Declarations} {expr : Expr} {known : Known} {handed : List Handed} {t : CType} {to from : Kind}
    → Finds sample env (PieceIs (Loaded expr) (Passes (OperandIs known) handed)) after → kind_of after.structs t ≡ to → kind_of after.structs known.ctype ≡ from
    → converts to (decayed from) known.null ≡ false → IsConstant handed AsValue expr false
    → IsFirst (fault expr.place (Rule 5) ∷ fault expr.place (Rule 9) ∷ []) (fault expr.place (Rule 5)) → Finds sample env (ValueUsed (Stored true t) expr (Refused (fault expr.place (Rule 5)))) after
fixed_badly {expr = expr} {known = known} found k f e constant first =
    ValueTaken false found constant ((λ i. stored_faults true false expr.place (converts (k i) (decayed (f i)) known.null)) ∙ ap (stored_faults true false expr.place) e) first

-- one for which there is no place
pub for_nothing : {env after : Declarations} {expr : Expr} {known : Known} {handed : List Handed}
    → Finds sample env (PieceIs (Loaded expr) (Passes (OperandIs known) handed)) after → Finds sample env (ValueUsed Surplus expr (Refused (fault expr.place (Rule 5)))) after
for_nothing found = ValueTaken true found refl refl (alone _)

-- an initialiser that is a value
pub by_value : {env after : Declarations} {subject : Subject} {slot : Slot} (expr : Expr) {handed : List Handed}
    → Finds sample env (ValueUsed (Stored subject.fixed slot.ctype) expr (Passes tt handed)) after
    → Finds sample env (InitialiserIs subject slot (value_of expr) (Passes tt (handed ++ StoreHanded (record { object = subject.place.at; offset = slot.offset; ctype = slot.ctype; number = expr.number }) ∷ []))) after
by_value expr {handed = handed} used = ValueStored {found = Passes tt handed} (outs-Value expr _) used

pub not_by_value : {env after : Declarations} {subject : Subject} {slot : Slot} (expr : Expr) {first : Fault}
    → Finds sample env (ValueUsed (Stored subject.fixed slot.ctype) expr (Refused first)) after → Finds sample env (InitialiserIs subject slot (value_of expr) (Refused first)) after
not_by_value expr {first = first} used = ValueStored {found = Refused first} (outs-Value expr _) used

-- what braces fill
pub int_filled : (slot : Slot) → slot.ctype ≡ int_type → slot.braces ≡ true → filled_of Lp64 structs slot ≡ Some (One (record slot { braces = false }))
int_filled slot t b = ap (filled_in Lp64 structs slot) (ap (λ (u : CType). out-CType u) t ∙ outs-Int 4 true) ∙ ap (λ (c : Bool). if c then Some (One (record slot { braces = false })) else None) b

pub struct_filled : (offset : ℕ) → filled_of Lp64 structs (record { ctype = StructType 0; offset = offset; braces = true }) ≡ Some (Members offset (fields_of structs 0))
struct_filled offset = ap (filled_in Lp64 structs (record { ctype = StructType 0; offset = offset; braces = true })) (outs-Struct 0)

pub ints_items : (count : ℕ) → items_of Lp64 structs 0 int_type count ≡ Items 0 int_type count 4
ints_items count = ap (λ (o : Option Layout). Items 0 int_type count (option_map_or (λ (layout : Layout). layout.size) o 0)) (laid_4 true)

pub ints_filled : (count : ℕ) → filled_of Lp64 structs (record { ctype = ArrayType int_type count; offset = 0; braces = true }) ≡ Some (Items 0 int_type count 4)
ints_filled count = ap (filled_in Lp64 structs (record { ctype = ArrayType int_type count; offset = 0; braces = true })) (outs-Array int_type count) ∙ ap Some (ints_items count)

-- the members of `struct s`
abbrev pub a_slot : Slot
a_slot = record { ctype = int_type; offset = 0; braces = true }

abbrev pub b_slot : Slot
b_slot = record { ctype = PointerType char_type; offset = 8; braces = true }

pub a_at : offset_of Lp64 structs (fields_of structs 0) 0 ≡ Some 0
a_at = both (λ (o p : Option Layout). offset_behind no_fields (o ∷ p ∷ []) 0) _ _ _ _ (laid_4 true) (laid_pointer char_type)

pub b_at : offset_of Lp64 structs (fields_of structs 0) 1 ≡ Some 8
b_at = both (λ (o p : Option Layout). offset_behind no_fields (o ∷ p ∷ []) 1) _ _ _ _ (laid_4 true) (laid_pointer char_type)

pub sets_a : Sets 0 (record { ctype = int_type; offset = 0 + option_map_or (λ (bytes : ℕ). bytes) (offset_of Lp64 structs (fields_of structs 0) 0) 0; braces = true }) ≡ Sets 0 a_slot
sets_a = ap (λ (o : Option ℕ). Sets 0 (record { ctype = int_type; offset = 0 + option_map_or (λ (bytes : ℕ). bytes) o 0; braces = true })) a_at

pub sets_b : Sets 1 (record { ctype = PointerType char_type; offset = 0 + option_map_or (λ (bytes : ℕ). bytes) (offset_of Lp64 structs (fields_of structs 0) 1) 0; braces = true }) ≡ Sets 1 b_slot
sets_b = ap (λ (o : Option ℕ). Sets 1 (record { ctype = PointerType char_type; offset = 0 + option_map_or (λ (bytes : ℕ). bytes) o 0; braces = true })) b_at

-- parts, one behind the other
pub set_part : {env middle after : Declarations} {subject : Subject} {filled : Filled} {index at : ℕ} {parts : List InitPart} (slot : Slot) {init : Init} {handed further : List Handed}
    → next_in Lp64 env.structs filled index None ≡ Sets at slot → Finds sample env (InitialiserIs subject slot init (Passes tt handed)) middle
    → Finds sample middle (PartsFill subject filled (suc at) parts (Passes tt further)) after
    → Finds sample env (PartsFill subject filled index (part init ∷ parts) (Passes tt (handed ++ further))) after
set_part slot {further = further} e found rest = PartSets {outcome = Passes tt further} (out-roll-InitPart _) e found rest

pub broken_behind_part : {env middle after : Declarations} {subject : Subject} {filled : Filled} {index at : ℕ} {parts : List InitPart} (slot : Slot) {init : Init} {handed : List Handed} {first : Fault}
    → next_in Lp64 env.structs filled index None ≡ Sets at slot → Finds sample env (InitialiserIs subject slot init (Passes tt handed)) middle
    → Finds sample middle (PartsFill subject filled (suc at) parts (Refused first)) after
    → Finds sample env (PartsFill subject filled index (part init ∷ parts) (Refused first)) after
broken_behind_part slot {first = first} e found rest = PartSets {outcome = Refused first} (out-roll-InitPart _) e found rest

pub set_named : {env middle after : Declarations} {subject : Subject} {filled : Filled} {index at : ℕ} {parts : List InitPart} (slot : Slot) (bytes : List ℕ) (place : ℕ) {init : Init} {handed further : List Handed}
    → next_in Lp64 env.structs filled index (Some (record { place = token place; name = bytes })) ≡ Sets at slot
    → Finds sample env (InitialiserIs subject slot init (Passes tt handed)) middle
    → Finds sample middle (PartsFill subject filled (suc at) parts (Passes tt further)) after
    → Finds sample env (PartsFill subject filled index (part_named bytes place init ∷ parts) (Passes tt (handed ++ further))) after
set_named slot bytes place {further = further} e found rest = PartSets {outcome = Passes tt further} (out-roll-InitPart _) e found rest

pub broken_behind_named : {env middle after : Declarations} {subject : Subject} {filled : Filled} {index at : ℕ} {parts : List InitPart} (slot : Slot) (bytes : List ℕ) (place : ℕ) {init : Init} {handed : List Handed} {first : Fault}
    → next_in Lp64 env.structs filled index (Some (record { place = token place; name = bytes })) ≡ Sets at slot
    → Finds sample env (InitialiserIs subject slot init (Passes tt handed)) middle
    → Finds sample middle (PartsFill subject filled (suc at) parts (Refused first)) after
    → Finds sample env (PartsFill subject filled index (part_named bytes place init ∷ parts) (Refused first)) after
broken_behind_named slot bytes place {first = first} e found rest = PartSets {outcome = Refused first} (out-roll-InitPart _) e found rest

-- a part too many, which is a value
pub too_many : {env after : Declarations} {subject : Subject} {filled : Filled} {index : ℕ} {parts : List InitPart} (expr : Expr) {known : Known} {handed : List Handed}
    → next_in Lp64 env.structs filled index None ≡ Full → Finds sample env (PieceIs (Loaded expr) (Passes (OperandIs known) handed)) after
    → Finds sample env (PartsFill subject filled index (part (value_of expr) ∷ parts) (Refused (fault expr.place (Rule 5)))) after
too_many expr e found = NothingToSet (out-roll-InitPart _) e (SurplusPart (out-roll-InitPart _) (SurplusValue (outs-Value expr _) (for_nothing found)))

-- an array whose size is left out, of ints
pub of_ints : {env after : Declarations} {subject : Subject} (parts : List InitPart) {outcome : Outcome (Unit {0})} → env.structs ≡ structs
    → Finds sample env (PartsFill subject (Items 0 int_type (length parts) 4) 0 parts outcome) after
    → Finds sample env (InitialiserIs subject (record { ctype = ArrayType int_type (length parts); offset = 0; braces = true }) (Braces parts) outcome) after
of_ints {env} parts e found =
    BracesFill (outs-Braces parts)
    (ap (λ (among : List StructDef). filled_of Lp64 among (record { ctype = ArrayType int_type (length parts); offset = 0; braces = true })) e ∙ ints_filled (length parts)) found

-- forms of constants: what has a value, `&`, a cast to a pointer, and other operators
pub of_value : {handed : List Handed} {expr : Expr} → is_constant_row (row_of expr.number handed) ≡ true → IsConstant handed AsValue expr true
of_value {handed} {expr} e = EndsThere (ap (λ (c : Bool). if_constant c (value_leads handed expr.number (out-ExprForm expr.form))) e)

pub of_address : {handed : List Handed} {number at : ℕ} (arg : Expr) {constant : Bool} → is_constant_row (row_of number handed) ≡ false
    → IsConstant handed AsPlace arg constant → IsConstant handed AsValue (node number at (Unary Address arg)) constant
of_address {handed} {number} arg e on =
    LeadsOn {next = AsPlace} {inner = arg} (ap (λ (c : Bool). if_constant c (value_leads handed number (out-ExprForm (Unary Address arg)))) e ∙ ap (value_leads handed number) (outs-Unary Address arg)) on

pub of_cast : {handed : List Handed} {number at : ℕ} (to : TypeName) (arg : Expr) {constant : Bool} → is_constant_row (row_of number handed) ≡ false → is_pointer_row (row_of number handed) ≡ true
    → IsConstant handed AsValue arg constant → IsConstant handed AsValue (node number at (Cast to arg)) constant
of_cast {handed} {number} to arg e pointer on =
    LeadsOn {next = AsValue} {inner = arg}
    (ap (λ (c : Bool). if_constant c (value_leads handed number (out-ExprForm (Cast to arg)))) e ∙ (ap (value_leads handed number) (outs-Cast to arg) ∙ ap (λ (c : Bool). if_cast c arg) pointer)) on

pub of_binary : {handed : List Handed} {number at : ℕ} (op : BinaryOp) (one other : Expr) → is_constant_row (row_of number handed) ≡ false
    → IsConstant handed AsValue (node number at (Binary op one other)) false
of_binary {handed} {number} op one other e =
    EndsThere (ap (λ (c : Bool). if_constant c (value_leads handed number (out-ExprForm (Binary op one other)))) e ∙ ap (value_leads handed number) (outs-Binary op one other))

-- and of what `&` stands at
pub of_name : {handed : List Handed} {number at : ℕ} (bytes : List ℕ) {fixed : Bool} → is_fixed (row_of number handed) ≡ fixed → IsConstant handed AsPlace (name bytes number at) fixed
of_name {handed} {number} bytes e = EndsThere (ap (place_leads handed number) (outs-Name bytes) ∙ ap Ends e)

pub of_item : {handed : List Handed} {number at : ℕ} (base index : Expr) {constant : Bool} → is_array_row (row_of base.number handed) ≡ true → is_constant_row (row_of index.number handed) ≡ true
    → IsConstant handed AsPlace base constant → IsConstant handed AsPlace (node number at (Index base index)) constant
of_item {handed} {number} base index array value on =
    LeadsOn {next = AsPlace} {inner = base} (ap (place_leads handed number) (outs-Index base index) ∙ (λ i. if_item (array i && value i) base)) on

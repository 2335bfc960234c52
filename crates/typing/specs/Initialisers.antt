-- Initialisers (C11 6.7.9): what braces fill, in which order, and which forms the values of static objects have.
use Rattle.std.specs.Prelude.{◌≡◌, ℕ, ◌+◌, ◌*◌, ◌&&◌, Bool, true, false, List, [], ◌∷◌, ◌++◌, Option, None, Some, is_some, option_map, slice_get, nat_eq, nat_lt, if◌then◌else◌}
use Rattle.std.specs.Option.{option_map_or}
use Rattle.cbase.specs.declared.abi.Abi.{Abi}
use Rattle.cbase.specs.declared.ctype.CType.{CType}
use Rattle.cbase.specs.declared.ctype.CType.TheOpen.{CType-F, Void as VoidOpen, Bool as BoolOpen, Int as IntOpen, Pointer as PointerOpen, Struct as StructOpen, Array as ArrayOpen}
use Rattle.cbase.specs.declared.ctype.CType.TheViews.{out-CType}
use Rattle.cbase.specs.declared.place.Place.{Place}
use Rattle.cbase.specs.declared.structs.Field.{Field}
use Rattle.cbase.specs.declared.structs.StructDef.{StructDef}
use Rattle.cbase.specs.declared.tree.expr.Expr.{Expr}
use Rattle.cbase.specs.declared.tree.expr.ExprForm.TheOpen.{Name, Unary, Cast, Index, ExprForm::Member}
use Rattle.cbase.specs.declared.tree.expr.ExprForm.TheViews.{out-ExprForm}
use Rattle.cbase.specs.declared.tree.identifier.Identifier.{Identifier}
use Rattle.cbase.specs.declared.tree.operators.UnaryOp.TheVariants.{Address}
use Rattle.cbase.specs.Layout.{layout_of}
use Rattle.cbase.specs.Offset.{fields_of, index_of, offset_of}
use Rattle.typing.specs.declared.ctypes.found.Broken.TheVariants.{Rule}
use Rattle.typing.specs.Entities.{Entity, ObjectIs}
use Rattle.typing.specs.Faults.{fault}
use Rattle.typing.specs.Forms.{Form}
use Rattle.typing.specs.Outcomes.{Outcome, Handed, ExpressionRow, ExpressionHanded, StoreHanded, ObjectHanded, LinkHanded, FunctionHanded, ParameterHanded, Passes, Refused}
use Rattle.typing.specs.Statements.{Demand, Condition, Dropped, Returned, Stored, Surplus}

-- an object that is set, or a part of one: its type; how many bytes stand before it in the object that is declared; and whether it may stand in
-- braces. A number or a pointer may stand in one pair of them (6.7.9p11)
pub record Slot : Type 0 where
  pub ctype : CType
  pub offset : ℕ
  pub braces : Bool

-- the object that is declared: the place of its name, and whether it lives as long as the program runs
pub record Subject : Type 0 where
  pub place : Place
  pub fixed : Bool

-- what braces fill: one number or pointer, the members of a struct, or the items of an array, of so many bytes each
pub data Filled : Type 0 where
  One : Slot → Filled
  Members : ℕ → List Field → Filled
  Items : ℕ → CType → ℕ → ℕ → Filled

-- how many bytes a type has; a type without a size is declared nowhere
abbrev pub bytes_of : Abi → List StructDef → CType → ℕ
bytes_of abi structs t = option_map_or (λ layout. layout.size) (layout_of abi structs t) 0

abbrev pub items_of : Abi → List StructDef → ℕ → CType → ℕ → Filled
items_of abi structs offset item count = Items offset item count (bytes_of abi structs item)

-- what braces fill in an object of a type, where there is something
abbrev pub one_of : Slot → Option Filled
one_of slot = if slot.braces then Some (One (record slot { braces = false })) else None

abbrev pub filled_in : Abi → List StructDef → Slot → CType-F CType → Option Filled
filled_in abi structs slot VoidOpen = None
filled_in abi structs slot BoolOpen = one_of slot
filled_in abi structs slot (IntOpen bytes signed) = one_of slot
filled_in abi structs slot (PointerOpen item) = one_of slot
filled_in abi structs slot (StructOpen number) = Some (Members slot.offset (fields_of structs number))
filled_in abi structs slot (ArrayOpen item count) = Some (items_of abi structs slot.offset item count)

abbrev pub filled_of : Abi → List StructDef → Slot → Option Filled
filled_of abi structs slot = filled_in abi structs slot (out-CType slot.ctype)

-- what stands at an index of it
abbrev pub member_slot : Abi → List StructDef → ℕ → List Field → ℕ → Field → Slot
member_slot abi structs offset fields index field = record {
  ctype = field.ctype;
  offset = offset + option_map_or (λ bytes. bytes) (offset_of abi structs fields index) 0;
  braces = true;
}

abbrev pub slot_at : Abi → List StructDef → Filled → ℕ → Option Slot
slot_at abi structs (One slot) index = if nat_eq index 0 then Some slot else None
slot_at abi structs (Members offset fields) index = option_map (member_slot abi structs offset fields index) (slice_get fields index)
slot_at abi structs (Items offset item count bytes) index =
    if nat_lt index count then Some (record { ctype = item; offset = offset + index * bytes; braces = true }) else None

-- what the next part sets: what stands at an index, a designator that names no member, or nothing (6.7.9p2, p7, p17)
pub data Next : Type 0 where
  Sets : ℕ → Slot → Next
  NoMember : Place → Next
  Full : Next

abbrev pub at_index : ℕ → Option Slot → Next
at_index index None = Full
at_index index (Some slot) = Sets index slot

abbrev pub at_member : Abi → List StructDef → Filled → Place → Option ℕ → Next
at_member abi structs filled place None = NoMember place
at_member abi structs filled place (Some index) = at_index index (slot_at abi structs filled index)

abbrev pub designated : Abi → List StructDef → Filled → Identifier → Next
designated abi structs (One slot) name = NoMember name.place
designated abi structs (Items offset item count bytes) name = NoMember name.place
designated abi structs (Members offset fields) name = at_member abi structs (Members offset fields) name.place (index_of name.name fields)

abbrev pub next_in : Abi → List StructDef → Filled → ℕ → Option Identifier → Next
next_in abi structs filled index None = at_index index (slot_at abi structs filled index)
next_in abi structs filled index (Some name) = designated abi structs filled name

-- where no part is left: a number or a pointer wants one, which is rule 5 at the declared name
abbrev pub ended : Place → Filled → ℕ → Outcome (Unit {0})
ended place (One slot) index = if nat_eq index 0 then Refused (fault place (Rule 5)) else Passes tt []
ended place (Members offset fields) index = Passes tt []
ended place (Items offset item count bytes) index = Passes tt []

-- a value is stored behind what is handed on of it
abbrev pub stored : Subject → Slot → ℕ → Outcome (Unit {0}) → Outcome (Unit {0})
stored subject slot number (Passes told handed) =
    Passes tt (handed ++ StoreHanded (record { object = subject.place.at; offset = slot.offset; ctype = slot.ctype; number = number }) ∷ [])
stored subject slot number (Refused first) = Refused first

-- what is handed on of the expression of a number: the last that there is, since an expression stands behind its parts
abbrev pub row_here : ℕ → Handed → Option ExpressionRow
row_here number (ExpressionHanded row) = if nat_eq number row.number then Some row else None
row_here number (StoreHanded store) = None
row_here number (ObjectHanded object) = None
row_here number (LinkHanded link) = None
row_here number (FunctionHanded function) = None
row_here number (ParameterHanded param) = None

abbrev pub or_else : Option ExpressionRow → Option ExpressionRow → Option ExpressionRow
or_else (Some row) other = Some row
or_else None other = other

abbrev pub row_of : ℕ → List Handed → Option ExpressionRow
row_of number [] = None
row_of number (row ∷ handed) = or_else (row_of number handed) (row_here number row)

-- whether its name stands for an object that lives as long as the program runs; whether its type is an array, and a pointer; and whether it is an
-- integer constant expression
abbrev pub names_fixed : Option Entity → Bool
names_fixed (Some (ObjectIs object)) = object.fixed
names_fixed other = false

abbrev pub is_fixed : Option ExpressionRow → Bool
is_fixed None = false
is_fixed (Some row) = names_fixed row.stands

abbrev pub is_array_type : CType-F CType → Bool
is_array_type (ArrayOpen item count) = true
is_array_type other = false

abbrev pub is_pointer_type : CType-F CType → Bool
is_pointer_type (PointerOpen item) = true
is_pointer_type other = false

abbrev pub is_array_row : Option ExpressionRow → Bool
is_array_row None = false
is_array_row (Some row) = is_array_type (out-CType row.ctype)

abbrev pub is_pointer_row : Option ExpressionRow → Bool
is_pointer_row None = false
is_pointer_row (Some row) = is_pointer_type (out-CType row.ctype)

abbrev pub is_constant_row : Option ExpressionRow → Bool
is_constant_row None = false
is_constant_row (Some row) = is_some row.value

-- a static initialiser (6.6p7, p9) is an integer constant expression; `&` of an object that lives as long as the program runs, with `.` and
-- `[constant]` behind it; or the name of such an array; these and a constant 0 also under casts to pointers. Whether it is one is told by what it
-- is, or it goes on in one part
pub data Use : Type 0 where
  AsValue : Use
  AsPlace : Use

pub data Leading : Type 0 where
  Ends : Bool → Leading
  GoesOn : Use → Expr → Leading

abbrev pub if_cast : Bool → Expr → Leading
if_cast true arg = GoesOn AsValue arg
if_cast false arg = Ends false

abbrev pub if_item : Bool → Expr → Leading
if_item true base = GoesOn AsPlace base
if_item false base = Ends false

abbrev pub value_leads : List Handed → ℕ → Form → Leading
value_leads handed number (Name name) = Ends (is_fixed (row_of number handed) && is_array_row (row_of number handed))
value_leads handed number (Unary Address arg) = GoesOn AsPlace arg
value_leads handed number (Cast to arg) = if_cast (is_pointer_row (row_of number handed)) arg
value_leads handed number other = Ends false

abbrev pub place_leads : List Handed → ℕ → Form → Leading
place_leads handed number (Name name) = Ends (is_fixed (row_of number handed))
place_leads handed number (ExprForm::Member base name false) = GoesOn AsPlace base
place_leads handed number (Index base index) = if_item (is_array_row (row_of base.number handed) && is_constant_row (row_of index.number handed)) base
place_leads handed number other = Ends false

abbrev pub if_constant : Bool → Leading → Leading
if_constant true leading = Ends true
if_constant false leading = leading

abbrev pub leads : List Handed → Use → ℕ → Form → Leading
leads handed AsValue number form = if_constant (is_constant_row (row_of number handed)) (value_leads handed number form)
leads handed AsPlace number form = place_leads handed number form

-- of what is handed on of it, an expression is one or not
pub data IsConstant (handed : List Handed) : Use → Expr → Bool → Type 0 where
  EndsThere : {manner : Use} {expr : Expr} {constant : Bool}
      → leads handed manner expr.number (out-ExprForm expr.form) ≡ Ends constant
      → IsConstant handed manner expr constant
  LeadsOn : {manner next : Use} {expr inner : Expr} {constant : Bool}
      → leads handed manner expr.number (out-ExprForm expr.form) ≡ GoesOn next inner
      → IsConstant handed next inner constant
      → IsConstant handed manner expr constant

-- where it is asked
abbrev pub IsAsked : Demand → List Handed → Expr → Bool → Type 0
IsAsked (Stored true t) handed expr constant = IsConstant handed AsValue expr constant
IsAsked (Stored false t) handed expr constant = constant ≡ true
IsAsked Condition handed expr constant = constant ≡ true
IsAsked Dropped handed expr constant = constant ≡ true
IsAsked (Returned word t) handed expr constant = constant ≡ true
IsAsked Surplus handed expr constant = constant ≡ true

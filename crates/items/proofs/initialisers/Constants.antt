-- What was handed on of an expression is looked up from the back, and its type is that of a shape.
use denote.Ref.{Bor}
use Rattle.std.proofs.Common.{◌≡◌, ◌<◌, ◌≤◌, ◌+◌, ◌-◌, ◌∙◌, ℕ, zero, suc, true, false, List, [], ◌∷◌, map, drop, length, get_or, refl, sym, ap, subst, arith, Option, None, Some, Bool, Result, Ok, Err, IfOk}
use Rattle.std.specs.Prelude.{option_map, ◌&&◌}
use Rattle.std.proofs.lemmas.List.{drop_all}
use Rattle.cbase.specs.declared.ctype.CType.{CType}
use Rattle.cbase.specs.declared.ctype.CType.TheViews.{out-CType, outs-Void, outs-Bool, outs-Int, outs-Pointer, outs-Struct, outs-Array}
use Rattle.typing.specs.declared.ctypes.shape.Shape.{Shape}
use Rattle.typing.specs.declared.ctypes.shape.Shape.TheVariants.{Void as VoidShape, Bool as BoolShape, Int as IntShape, Pointer as PointerShape, Struct as StructShape, Array as ArrayShape}
use Rattle.typing.specs.ctypes.Table.{type_at, type_of}
use Rattle.cbase.specs.declared.no_memory.NoMemory.{NoMemory}
use Rattle.cbase.specs.declared.tree.expr.Expr.{Expr}
use Rattle.cbase.specs.declared.tree.expr.ExprForm.TheViews.{out-ExprForm}
use Rattle.ctrees.specs.Levels.{expr_levels, form_levels}
use Rattle.cbase.specs.declared.tree.expr.ExprForm.TheOpen.{Name, Index}
use Rattle.cbase.specs.declared.tree.expr.ExprForm.TheVariants.{Index as IndexForm}
use Rattle.typing.specs.Forms.{Form}
use Rattle.typing.specs.Initialisers.{is_fixed, is_array_row, is_constant_row, AsValue, AsPlace, Ends, GoesOn, if_item, if_constant, value_leads, place_leads, row_here, or_else, row_of, is_array_type, is_pointer_type, leads, EndsThere, LeadsOn}
use Rattle.typing.specs.Outcomes.{Handed, ExpressionRow}
use Rattle.expressions.specs.declared.handed_row.HandedRow.{HandedRow}
use Rattle.expressions.specs.Context.{Context, Agrees}
use Rattle.expressions.specs.Numbers.{Numbering, handed_at}
use Rattle.expressions.proofs.Growth.{agrees_at}
use Rattle.expressions.proofs.Levels.{index_levels}
use Rattle.expressions.proofs.Loops.{next_item}
use Rattle.items.specs.declared.initialisers.rows.Row.{Row}
use Rattle.items.specs.declared.initialisers.constant.Leading.{Leading as LeadingByCode}
use Rattle.items.specs.declared.initialisers.constant.Leading.TheVariants as told
use Rattle.items.specs.declared.initialisers.constant.Use.{Use as UseByCode}
use Rattle.items.specs.declared.initialisers.constant.Use.TheVariants.{Value as ByValue}
use Rattle.items.specs.initialisers.Constants.{row_at, use_at, leading_at, IsLower, IsLeading, IsConstantBy}
use Rattle.items.proofs.initialisers.InitLevels.{levels_of_expr}

-- the last row of an expression is the last of all
behind_front : (number : ℕ) (handed : List Handed) (front : ℕ) (row : ExpressionRow) → row_of number (drop front handed) ≡ Some row → row_of number handed ≡ Some row
behind_front number handed zero row is = is
behind_front number [] (suc front) row is = is
behind_front number (first ∷ handed) (suc front) row is = ap (λ (later : Option ExpressionRow). or_else later (row_here number first)) (behind_front number handed front row is)

map_drop : {A B : Type 0} (f : A → B) (items : List A) (front : ℕ) → map f (drop front items) ≡ drop front (map f items)
map_drop f items zero = refl
map_drop f [] (suc front) = refl
map_drop f (first ∷ items) (suc front) = map_drop f items front

-- an item of a list, in place of what is answered past its end
pub get_again : {A : Type 0} (items : List A) (index : ℕ) (default : A) → get_or items index default ≡ get_or items index (get_or items index default)
get_again [] index default = refl
get_again (first ∷ items) zero default = refl
get_again (first ∷ items) (suc index) default = get_again items index default

module _ (number : ℕ) (rows : List HandedRow) where
  -- the last so many rows are those of other expressions
  pub record IsNone (at : ℕ) : Type 0 where
    pub none : (n : Numbering) → row_of number (map (handed_at n) (drop (length rows - at) rows)) ≡ None

  pub none_yet : IsNone 0
  none_yet = record { none = λ n. ap (λ (these : List HandedRow). row_of number (map (handed_at n) these)) (drop_all (length rows - 0) rows (omega arith)) }

  module _ (at : ℕ) (row : HandedRow) (found : Option Row) (within : at < length rows) (is : row ≡ get_or rows (length rows - 1 - at) row)
      (here : (n : Numbering) → row_here number (handed_at n row) ≡ option_map (row_at n) found) (before : IsNone at) where
    with_row : drop (length rows - (at + 1)) rows ≡ row ∷ drop (length rows - at) rows
    with_row =
        let inside : length rows - 1 - at < length rows = omega (arith, within) in
        let this : length rows - (at + 1) ≡ length rows - 1 - at = omega arith in
        let next : length rows - 1 - at + 1 ≡ length rows - at = omega (arith, within) in
        ap (λ (front : ℕ). drop front rows) this ∙ (next_item rows (length rows - 1 - at) row inside is ∙ ap (λ (front : ℕ). row ∷ drop front rows) next)

    at_row : (n : Numbering) → row_of number (map (handed_at n) (drop (length rows - (at + 1)) rows)) ≡ option_map (row_at n) found
    at_row n = ap (λ (these : List HandedRow). row_of number (map (handed_at n) these)) with_row
        ∙ (ap (λ (later : Option ExpressionRow). or_else later (row_here number (handed_at n row))) (before.none n) ∙ here n)

    pub none_further : found ≡ None → IsNone (at + 1)
    none_further nothing = record { none = λ n. at_row n ∙ ap (option_map (row_at n)) nothing }

    pub row_there : (one : Row) → found ≡ Some one → (n : Numbering) → row_of number (map (handed_at n) rows) ≡ Some (row_at n one)
    row_there one there n = behind_front number (map (handed_at n) rows) (length rows - (at + 1)) (row_at n one)
        (ap (row_of number) (sym (map_drop (handed_at n) rows (length rows - (at + 1)))) ∙ (at_row n ∙ ap (option_map (row_at n)) there))

  pub none_at_all : (at : ℕ) → length rows ≤ at → IsNone at → (n : Numbering) → row_of number (map (handed_at n) rows) ≡ None
  none_at_all at past before n =
      let all : length rows - at ≡ 0 = omega (arith, past) in
      ap (λ (front : ℕ). row_of number (map (handed_at n) (drop front rows))) (sym all) ∙ before.none n

-- whether the type of a shape is an array, and a pointer
array_type : (types : List CType) (item count : ℕ) → is_array_type (out-CType (type_of types (ArrayShape item count))) ≡ true
array_type types item count = ap is_array_type (outs-Array (type_at types item) count)

pointer_type : (types : List CType) (item : ℕ) → is_pointer_type (out-CType (type_of types (PointerShape item))) ≡ true
pointer_type types item = ap is_pointer_type (outs-Pointer (type_at types item))

no_array_type : (types : List CType) (shape : Shape) → ((item count : ℕ) → shape ≡ ArrayShape item count → ⊥) → is_array_type (out-CType (type_of types shape)) ≡ false
no_array_type types VoidShape not = ap is_array_type outs-Void
no_array_type types BoolShape not = ap is_array_type outs-Bool
no_array_type types (IntShape bytes signed) not = ap is_array_type (outs-Int bytes signed)
no_array_type types (PointerShape item) not = ap is_array_type (outs-Pointer (type_at types item))
no_array_type types (StructShape number) not = ap is_array_type (outs-Struct number)
no_array_type types (ArrayShape item count) not = absurd (not item count refl)

no_pointer_type : (types : List CType) (shape : Shape) → ((item : ℕ) → shape ≡ PointerShape item → ⊥) → is_pointer_type (out-CType (type_of types shape)) ≡ false
no_pointer_type types VoidShape not = ap is_pointer_type outs-Void
no_pointer_type types BoolShape not = ap is_pointer_type outs-Bool
no_pointer_type types (IntShape bytes signed) not = ap is_pointer_type (outs-Int bytes signed)
no_pointer_type types (PointerShape item) not = absurd (not item refl)
no_pointer_type types (StructShape number) not = ap is_pointer_type (outs-Struct number)
no_pointer_type types (ArrayShape item count) not = ap is_pointer_type (outs-Array (type_at types item) count)

module _ (now : Context) (number : ℕ) (shape : Shape) (below : number < length now.types) (reads : type_at now.types number ≡ type_of now.types shape) (n : Numbering) (agrees : Agrees n now) where
  as_shape : n.ctype number ≡ type_of now.types shape
  as_shape = agrees_at n now number agrees below ∙ reads

  pub array_there : (item count : ℕ) → shape ≡ ArrayShape item count → is_array_type (out-CType (n.ctype number)) ≡ true
  array_there item count is = ap (λ (t : CType). is_array_type (out-CType t)) (as_shape ∙ ap (type_of now.types) is) ∙ array_type now.types item count

  pub array_not : ((item count : ℕ) → shape ≡ ArrayShape item count → ⊥) → is_array_type (out-CType (n.ctype number)) ≡ false
  array_not not = ap (λ (t : CType). is_array_type (out-CType t)) as_shape ∙ no_array_type now.types shape not

  pub pointer_there : (item : ℕ) → shape ≡ PointerShape item → is_pointer_type (out-CType (n.ctype number)) ≡ true
  pointer_there item is = ap (λ (t : CType). is_pointer_type (out-CType t)) (as_shape ∙ ap (type_of now.types) is) ∙ pointer_type now.types item

  pub pointer_not : ((item : ℕ) → shape ≡ PointerShape item → ⊥) → is_pointer_type (out-CType (n.ctype number)) ≡ false
  pointer_not not = ap (λ (t : CType). is_pointer_type (out-CType t)) as_shape ∙ no_pointer_type now.types shape not

-- a name whose object does not live as long as the program runs, and an item
module _ (handed : List Handed) (number : ℕ) (form : Form) where
  pub no_fixed_name : (name : List ℕ) (row : Option ExpressionRow) → form ≡ Name name → row_of number handed ≡ row → is_fixed row ≡ false → value_leads handed number form ≡ Ends false
  no_fixed_name name row is there fixed = ap (value_leads handed number) is
      ∙ (ap (λ (found : Option ExpressionRow). Ends (is_fixed found && is_array_row found)) there ∙ ap (λ (test : Bool). Ends (test && is_array_row row)) fixed)

  pub place_of_name : (name : List ℕ) (row : Option ExpressionRow) (fixed : Bool) → form ≡ Name name → row_of number handed ≡ row → is_fixed row ≡ fixed → place_leads handed number form ≡ Ends fixed
  place_of_name name row fixed is there test = ap (place_leads handed number) is ∙ (ap (λ (found : Option ExpressionRow). Ends (is_fixed found)) there ∙ ap Ends test)

  if_no_item : (array : Bool) (base : Expr) → if_item (array && false) base ≡ Ends false
  if_no_item true base = refl
  if_no_item false base = refl

  module _ (base index at : Expr) (row : Option ExpressionRow) (is : form ≡ Index base index) (same : at ≡ index) (there : row_of at.number handed ≡ row) where
    pub no_constant_index : is_constant_row row ≡ false → place_leads handed number form ≡ Ends false
    no_constant_index test = ap (place_leads handed number) is
        ∙ (ap (λ (constant : Bool). if_item (is_array_row (row_of base.number handed) && constant) base) (ap (λ (e : Expr). is_constant_row (row_of e.number handed)) (sym same) ∙ (ap is_constant_row there ∙ test))
        ∙ if_no_item (is_array_row (row_of base.number handed)) base)

    pub item_of : (array : Expr) (other : Option ExpressionRow) (lower : Expr) → array ≡ base → lower ≡ base → row_of array.number handed ≡ other → is_constant_row row ≡ true → is_array_row other ≡ true
        → place_leads handed number form ≡ GoesOn AsPlace lower
    item_of array other lower alike again found test tested =
        let first : is_array_row (row_of base.number handed) ≡ true = ap (λ (e : Expr). is_array_row (row_of e.number handed)) (sym alike) ∙ (ap is_array_row found ∙ tested) in
        let second : is_constant_row (row_of index.number handed) ≡ true = ap (λ (e : Expr). is_constant_row (row_of e.number handed)) (sym same) ∙ (ap is_constant_row there ∙ test) in
        ap (place_leads handed number) is ∙ ((λ i. if_item (first i && second i) base) ∙ ap (GoesOn AsPlace) (sym again))

-- a value that is an integer constant expression, and one that is none
pub constant_leads : (handed : List Handed) (number : ℕ) (form : Form) (row : Option ExpressionRow) → row_of number handed ≡ row → is_constant_row row ≡ true → leads handed AsValue number form ≡ Ends true
constant_leads handed number form row there test = ap (λ (found : Option ExpressionRow). if_constant (is_constant_row found) (value_leads handed number form)) there ∙ ap (λ (constant : Bool). if_constant constant (value_leads handed number form)) test

other_leads : (handed : List Handed) (number : ℕ) (form : Form) (row : Option ExpressionRow) → row_of number handed ≡ row → is_constant_row row ≡ false → leads handed AsValue number form ≡ value_leads handed number form
other_leads handed number form row there test = ap (λ (found : Option ExpressionRow). if_constant (is_constant_row found) (value_leads handed number form)) there ∙ ap (λ (constant : Bool). if_constant constant (value_leads handed number form)) test

pub value_led : (now : Context) (rows : List HandedRow) (manner : UseByCode) (expr : Expr) (row : Option Row) (r : Result LeadingByCode NoMemory) → manner ≡ ByValue
    → ((n : Numbering) → row_of expr.number (map (handed_at n) rows) ≡ option_map (row_at n) row) → ((n : Numbering) → is_constant_row (option_map (row_at n) row) ≡ false)
    → IfOk r (λ leading. IsLeading now expr (λ n. value_leads (map (handed_at n) rows) expr.number (out-ExprForm expr.form)) leading)
    → IfOk r (λ leading. IsLeading now expr (λ n. leads (map (handed_at n) rows) (use_at manner) expr.number (out-ExprForm expr.form)) leading)
value_led now rows manner expr row (Ok leading) is there test led = (
  led.0,
  λ n agrees. ap (λ (one : UseByCode). leads (map (handed_at n) rows) (use_at one) expr.number (out-ExprForm expr.form)) is
      ∙ (other_leads (map (handed_at n) rows) expr.number (out-ExprForm expr.form) (option_map (row_at n) row) (there n) (test n) ∙ led.1 n agrees),
)
value_led now rows manner expr row (Err error) is there test led = tt

-- the array of an item has fewer levels
pub array_lower : (expr base index lower : Expr) → expr.form ≡ IndexForm base index → lower ≡ base → expr_levels lower < expr_levels expr
array_lower expr base index lower is same = omega (arith, levels_of_expr expr, ap form_levels is, index_levels base index, ap expr_levels same)

-- how far the form of an expression leads
module _ (now : Context) (rows : List HandedRow) (manner : UseByCode) (expr : Expr) (leading : LeadingByCode) where
  abbrev pub Led : Type 0
  Led = IsLeading now expr (λ n. leads (map (handed_at n) rows) (use_at manner) expr.number (out-ExprForm expr.form)) leading

  pub ends_there : (constant : Bool) → leading ≡ told.Ends constant → Led → IsConstantBy now rows (use_at manner) expr constant
  ends_there constant is led = λ n agrees. EndsThere (led.1 n agrees ∙ ap leading_at is)

  pub lower_there : (next : UseByCode) (inner : Bor Expr) → leading ≡ told.GoesOn next inner → Led → expr_levels inner.now < expr_levels expr
  lower_there next inner is led = subst (IsLower (expr_levels expr)) is led.0

  pub leads_on : (next : UseByCode) (inner : Bor Expr) (r : Result Bool NoMemory) → leading ≡ told.GoesOn next inner → Led
      → IfOk r (λ constant. IsConstantBy now rows (use_at next) inner.now constant) → IfOk r (λ constant. IsConstantBy now rows (use_at manner) expr constant)
  leads_on next inner (Ok constant) is led further = λ n agrees. LeadsOn (led.1 n agrees ∙ ap leading_at is) (further n agrees)
  leads_on next inner (Err error) is led further = tt

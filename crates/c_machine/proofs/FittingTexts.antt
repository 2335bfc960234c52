-- The text of a program has the numbers that typing hands on, and no larger ones.
use Rattle.std.proofs.Common.{◌≡◌, ℕ, ◌≤◌, List, [], ◌∷◌, map, Bool, true, false, refl, Option, None, Some, arith}
use Rattle.std.specs.Prelude.{nat_eq, nat_lt, nat_le, not, ◌&&◌, option_map, option_and_then, if◌then◌else◌}
use Rattle.std.specs.Option.{option_map_or}
use Rattle.std.proofs.lemmas.Bool.{leb-true}
use Rattle.cbase.specs.declared.abi.Abi.{Abi}
use Rattle.cbase.specs.declared.ctype.CType.{CType}
use Rattle.cbase.specs.declared.ctype.CType as C
use Rattle.cbase.specs.declared.ctype.CType.TheVariants.{Void as VoidType}
use Rattle.cbase.specs.declared.structs.StructDef.{StructDef}
use Rattle.cbase.specs.declared.tree.expr.Expr.{Expr}
use Rattle.cbase.specs.declared.tree.expr.ExprForm.TheOpen as tree
use Rattle.cbase.specs.declared.tree.expr.ExprForm.TheViews.{out-ExprForm}
use Rattle.cbase.specs.Offset.{fields_of, index_of, offset_of}
use Rattle.typing.specs.ctypes.Kinds.{Kind as TypeKind, kind_of}
use Rattle.typing.specs.ctypes.Kinds as type
use Rattle.typing.specs.Entities.{Entity, FunctionEntity, ObjectIs, FunctionIs, EnumeratorIs, TypedefIs}
use Rattle.typing.specs.Forms.{Form as Layer, name_in}
use Rattle.typing.specs.Idiom.{at_most, offset_in_struct}
use Rattle.typing.specs.Initialisers.{row_here, or_else, row_of}
use Rattle.typing.specs.Nodes.{pointed_offset}
use Rattle.typing.specs.Outcomes.{ExpressionRow, ObjectRow, ParameterRow, Handed, ExpressionHanded, StoreHanded, ObjectHanded, LinkHanded, FunctionHanded, ParameterHanded}
use Rattle.c_machine.specs.Fitting.{Each, IfThere, IsNumber, HasSize, IsSized, FormFits, StandingFits, StoreFits, FunctionFits, TypeFits, EntityFits, RowFits, IsFittingProgram, DoTextsFit}
use Rattle.c_machine.specs.Program.{Program, type_of, entity_of, constant_of, is_linked_in, object_in, automatic_row, put_in_order, fixed_in, store_in, leading_parameters, parameters_in, result_in, FunctionItem, functions_in, number_in, main_in}
use Rattle.c_machine.specs.Text.{BuiltInStands, NothingStands}
use Rattle.c_machine.proofs.FittingTasks.{each_both}
use Rattle.c_machine.specs.Trees.{kind_in, body_stands, function_stands, standing, offset, form_of, object_of, store_of, parameter_of, function_as, static_rows}

-- the row of an expression
later_row : (P : ExpressionRow → Type 0) (one other : Option ExpressionRow) → IfThere P one → IfThere P other → IfThere P (or_else one other)
later_row P None other first second = second
later_row P (Some row) other first second = first

row_here_fits : (p : Program) (number : ℕ) (row : Handed) → RowFits p row → IfThere (λ (found : ExpressionRow). RowFits p (ExpressionHanded found)) (row_here number row)
row_here_fits p number (ExpressionHanded row) fits = by_number (nat_eq number row.number)
  where
    by_number : (b : Bool) → IfThere (λ (found : ExpressionRow). RowFits p (ExpressionHanded found)) (if b then Some row else None)
    by_number true = fits
    by_number false = tt
row_here_fits p number (StoreHanded row) fits = tt
row_here_fits p number (ObjectHanded row) fits = tt
row_here_fits p number (LinkHanded row) fits = tt
row_here_fits p number (FunctionHanded row) fits = tt
row_here_fits p number (ParameterHanded row) fits = tt

row_fits : (p : Program) (number : ℕ) (handed : List Handed) → Each (RowFits p) handed → IfThere (λ (row : ExpressionRow). RowFits p (ExpressionHanded row)) (row_of number handed)
row_fits p number [] fit = tt
row_fits p number (row ∷ handed) fit =
    later_row (λ (row : ExpressionRow). RowFits p (ExpressionHanded row)) (row_of number handed) (row_here number row) (row_fits p number handed fit.1) (row_here_fits p number row fit.0)

void_fits : (p : Program) → HasSize (kind_in p VoidType)
unfolding C.out-CType denote.Hole.Carrier.out
void_fits p = tt

kind_of_row : (p : Program) (row : Option ExpressionRow) → IfThere (λ (row : ExpressionRow). RowFits p (ExpressionHanded row)) row →
    HasSize (kind_in p (option_map_or (λ (row : ExpressionRow). row.ctype) row VoidType))
kind_of_row p None fits = void_fits p
kind_of_row p (Some row) fits = fits.0.0

stands_of_row : (p : Program) (row : Option ExpressionRow) → IfThere (λ (row : ExpressionRow). RowFits p (ExpressionHanded row)) row →
    IfThere (EntityFits p) (option_and_then (λ (row : ExpressionRow). row.stands) row)
stands_of_row p None fits = tt
stands_of_row p (Some row) fits = fits.1.0

constant_of_row : (p : Program) (row : Option ExpressionRow) → IfThere (λ (row : ExpressionRow). RowFits p (ExpressionHanded row)) row →
    IfThere IsNumber (option_and_then (λ (row : ExpressionRow). row.value) row)
constant_of_row p None fits = tt
constant_of_row p (Some row) fits = fits.1.1

-- where a member begins
small_offset : (found : Option ℕ) → IsNumber (offset (option_and_then at_most found))
small_offset None = omega arith
small_offset (Some bytes) = by_size (nat_le bytes 65536) refl
  where
    by_size : (b : Bool) → nat_le bytes 65536 ≡ b → IsNumber (offset (if b then Some bytes else None))
    by_size true is = let small : bytes ≤ 65536 = leb-true bytes 65536 is in omega arith
    by_size false is = omega arith

in_struct : (abi : Abi) (structs : List StructDef) (kind : TypeKind) (name : List ℕ) → IsNumber (offset (offset_in_struct abi structs kind name))
in_struct abi structs (type.Integer t) name = omega arith
in_struct abi structs (type.Pointer item target) name = omega arith
in_struct abi structs (type.Array item target) name = omega arith
in_struct abi structs (type.Struct number) name = small_offset (option_and_then (offset_of abi structs (fields_of structs number)) (index_of name (fields_of structs number)))
in_struct abi structs type.Void name = omega arith

behind_pointer : (abi : Abi) (structs : List StructDef) (kind : TypeKind) (name : List ℕ) → IsNumber (offset (pointed_offset abi structs kind name))
behind_pointer abi structs (type.Integer t) name = omega arith
behind_pointer abi structs (type.Pointer item target) name = in_struct abi structs (kind_of structs item) name
behind_pointer abi structs (type.Array item target) name = in_struct abi structs (kind_of structs item) name
behind_pointer abi structs (type.Struct number) name = omega arith
behind_pointer abi structs type.Void name = omega arith

form_fits : (p : Program) (expr : Expr) (layer : Layer) → IfThere IsNumber (constant_of p expr) → FormFits (form_of p expr layer)
form_fits p expr (tree.Name name) fits = tt
form_fits p expr (tree.Constant spelling) fits = fits
form_fits p expr (tree.Unary op arg) fits = tt
form_fits p expr (tree.Binary op left right) fits = tt
form_fits p expr (tree.Assign op left right) fits = tt
form_fits p expr (tree.Count up after arg) fits = tt
form_fits p expr (tree.Choose test one other) fits = tt
form_fits p expr (tree.Cast to arg) fits = tt
form_fits p expr (tree.SizeOf arg) fits = fits
form_fits p expr (tree.SizeOfType to) fits = fits
form_fits p expr (tree.OffsetOf to path) fits = fits
form_fits p expr (tree.Index base index) fits = tt
form_fits p expr (tree.ExprForm::Member base name false) fits = in_struct p.abi p.structs (kind_of p.structs (type_of p base)) name.name
form_fits p expr (tree.ExprForm::Member base name true) fits = behind_pointer p.abi p.structs (kind_of p.structs (type_of p base)) name.name
form_fits p expr (tree.Call callee args) fits = tt
form_fits p expr (tree.Inner body close) fits = tt
form_fits p expr tree.AssertFail fits = tt

-- what a name stands for
all_kinds : (p : Program) (types : List CType) → Each (TypeFits p) types → Each HasSize (map (kind_in p) types)
all_kinds p [] fit = tt
all_kinds p (first ∷ rest) fit = (fit.0.0, all_kinds p rest fit.1)

body_fits : (number : Option ℕ) → StandingFits (body_stands number)
body_fits None = tt
body_fits (Some number) = tt

function_fits : (p : Program) (name : Option (List ℕ)) (function : FunctionEntity) → EntityFits p (FunctionIs function) → StandingFits (function_stands p name function)
function_fits p None function fits = tt
function_fits p (Some name) function fits = by_body function.built_in function.defined
  where
    by_body : (built_in defined : Bool) → StandingFits (if built_in then BuiltInStands name (map (kind_in p) function.params) (kind_in p function.result)
        else (if defined then body_stands (number_in (functions_in p.items) name) else NothingStands))
    by_body true defined = (all_kinds p function.params fits.0, fits.1.0)
    by_body false true = body_fits (number_in (functions_in p.items) name)
    by_body false false = tt

standing_fits : (p : Program) (name : Option (List ℕ)) (entity : Option Entity) → IfThere (EntityFits p) entity → StandingFits (standing p name entity)
standing_fits p name None fits = tt
standing_fits p name (Some (ObjectIs object)) fits = tt
standing_fits p name (Some (FunctionIs function)) fits = function_fits p name function fits
standing_fits p name (Some (EnumeratorIs bits)) fits = fits
standing_fits p name (Some (TypedefIs ctype)) fits = tt

-- objects, and what initialisers set
object_row : (p : Program) (token : ℕ) (handed : List Handed) → Each (RowFits p) handed → IfThere (λ (row : ObjectRow). TypeFits p row.ctype) (object_in handed token)
object_row p token [] fit = tt
object_row p token (ExpressionHanded row ∷ rest) fit = object_row p token rest fit.1
object_row p token (StoreHanded row ∷ rest) fit = object_row p token rest fit.1
object_row p token (ObjectHanded row ∷ rest) fit = by_token (nat_eq row.token token) (object_row p token rest fit.1)
  where
    by_token : (b : Bool) → IfThere (λ (row : ObjectRow). TypeFits p row.ctype) (object_in rest token) → IfThere (λ (row : ObjectRow). TypeFits p row.ctype) (if b then Some row else object_in rest token)
    by_token true later = fit.0
    by_token false later = later
object_row p token (LinkHanded row ∷ rest) fit = object_row p token rest fit.1
object_row p token (FunctionHanded row ∷ rest) fit = object_row p token rest fit.1
object_row p token (ParameterHanded row ∷ rest) fit = object_row p token rest fit.1

automatic_fits : (p : Program) (row : Option ObjectRow) → IfThere (λ (row : ObjectRow). TypeFits p row.ctype) row → IfThere IsSized (option_map (object_of p) (automatic_row row))
automatic_fits p None fits = tt
automatic_fits p (Some row) fits = by_time row.fixed
  where
    by_time : (b : Bool) → IfThere IsSized (option_map (object_of p) (if b then None else Some row))
    by_time true = tt
    by_time false = fits.1

store_row : (p : Program) (token number : ℕ) (handed : List Handed) → Each (RowFits p) handed → IfThere StoreFits (option_map (store_of p) (store_in handed token number))
store_row p token number [] fit = tt
store_row p token number (ExpressionHanded row ∷ rest) fit = store_row p token number rest fit.1
store_row p token number (StoreHanded row ∷ rest) fit = by_value (nat_eq row.object token && nat_eq row.number number) (store_row p token number rest fit.1)
  where
    by_value : (b : Bool) → IfThere StoreFits (option_map (store_of p) (store_in rest token number)) → IfThere StoreFits (option_map (store_of p) (if b then Some row else store_in rest token number))
    by_value true later = record { offset = fit.0.1; kind = fit.0.0.0 }
    by_value false later = later
store_row p token number (ObjectHanded row ∷ rest) fit = store_row p token number rest fit.1
store_row p token number (LinkHanded row ∷ rest) fit = store_row p token number rest fit.1
store_row p token number (FunctionHanded row ∷ rest) fit = store_row p token number rest fit.1
store_row p token number (ParameterHanded row ∷ rest) fit = store_row p token number rest fit.1

-- objects that live as long as the program runs
put_fits : (p : Program) (row : ObjectRow) (rows : List ObjectRow) → TypeFits p row.ctype → Each (λ (row : ObjectRow). TypeFits p row.ctype) rows →
    Each (λ (row : ObjectRow). TypeFits p row.ctype) (put_in_order row rows)
put_fits p row [] fits others = (fits, tt)
put_fits p row (next ∷ rest) fits others = by_order (nat_lt next.token row.token) (put_fits p row rest fits others.1)
  where
    by_order : (b : Bool) → Each (λ (row : ObjectRow). TypeFits p row.ctype) (put_in_order row rest) →
        Each (λ (row : ObjectRow). TypeFits p row.ctype) (if b then next ∷ put_in_order row rest else row ∷ next ∷ rest)
    by_order true later = (others.0, later)
    by_order false later = (fits, others)

fixed_fits : (p : Program) (all : List Handed) (outside : Bool) (handed : List Handed) → Each (RowFits p) handed → Each (λ (row : ObjectRow). TypeFits p row.ctype) (fixed_in all outside handed)
fixed_fits p all outside [] fit = tt
fixed_fits p all outside (ExpressionHanded row ∷ rest) fit = fixed_fits p all outside rest fit.1
fixed_fits p all outside (StoreHanded row ∷ rest) fit = fixed_fits p all outside rest fit.1
fixed_fits p all outside (ObjectHanded row ∷ rest) fit =
    by_place (row.fixed && (if outside then is_linked_in all row.token else not (is_linked_in all row.token))) (fixed_fits p all outside rest fit.1)
  where
    by_place : (b : Bool) → Each (λ (row : ObjectRow). TypeFits p row.ctype) (fixed_in all outside rest) →
        Each (λ (row : ObjectRow). TypeFits p row.ctype) (if b then put_in_order row (fixed_in all outside rest) else fixed_in all outside rest)
    by_place true later = put_fits p row (fixed_in all outside rest) fit.0 later
    by_place false later = later
fixed_fits p all outside (LinkHanded row ∷ rest) fit = fixed_fits p all outside rest fit.1
fixed_fits p all outside (FunctionHanded row ∷ rest) fit = fixed_fits p all outside rest fit.1
fixed_fits p all outside (ParameterHanded row ∷ rest) fit = fixed_fits p all outside rest fit.1

all_sized : (p : Program) (rows : List ObjectRow) → Each (λ (row : ObjectRow). TypeFits p row.ctype) rows → Each IsSized (map (object_of p) rows)
all_sized p [] fit = tt
all_sized p (row ∷ rows) fit = (fit.0.1, all_sized p rows fit.1)

-- functions
leading_fit : (p : Program) (handed : List Handed) → Each (RowFits p) handed → Each (λ (row : ParameterRow). TypeFits p row.ctype) (leading_parameters handed)
leading_fit p [] fit = tt
leading_fit p (ExpressionHanded row ∷ rest) fit = tt
leading_fit p (StoreHanded row ∷ rest) fit = tt
leading_fit p (ObjectHanded row ∷ rest) fit = tt
leading_fit p (LinkHanded row ∷ rest) fit = tt
leading_fit p (FunctionHanded row ∷ rest) fit = tt
leading_fit p (ParameterHanded row ∷ rest) fit = (fit.0, leading_fit p rest fit.1)

parameters_fit : (p : Program) (token : ℕ) (handed : List Handed) → Each (RowFits p) handed → Each (λ (row : ParameterRow). TypeFits p row.ctype) (parameters_in handed token)
parameters_fit p token [] fit = tt
parameters_fit p token (ExpressionHanded row ∷ rest) fit = parameters_fit p token rest fit.1
parameters_fit p token (StoreHanded row ∷ rest) fit = parameters_fit p token rest fit.1
parameters_fit p token (ObjectHanded row ∷ rest) fit = parameters_fit p token rest fit.1
parameters_fit p token (LinkHanded row ∷ rest) fit = parameters_fit p token rest fit.1
parameters_fit p token (FunctionHanded row ∷ rest) fit = by_token (nat_eq row.token token) (parameters_fit p token rest fit.1)
  where
    by_token : (b : Bool) → Each (λ (row : ParameterRow). TypeFits p row.ctype) (parameters_in rest token) →
        Each (λ (row : ParameterRow). TypeFits p row.ctype) (if b then leading_parameters rest else parameters_in rest token)
    by_token true later = leading_fit p rest fit.1
    by_token false later = later
parameters_fit p token (ParameterHanded row ∷ rest) fit = parameters_fit p token rest fit.1

result_fits : (p : Program) (token : ℕ) (handed : List Handed) → Each (RowFits p) handed → HasSize (kind_in p (result_in handed token))
result_fits p token [] fit = void_fits p
result_fits p token (ExpressionHanded row ∷ rest) fit = result_fits p token rest fit.1
result_fits p token (StoreHanded row ∷ rest) fit = result_fits p token rest fit.1
result_fits p token (ObjectHanded row ∷ rest) fit = result_fits p token rest fit.1
result_fits p token (LinkHanded row ∷ rest) fit = result_fits p token rest fit.1
result_fits p token (FunctionHanded row ∷ rest) fit = by_token (nat_eq row.token token) (result_fits p token rest fit.1)
  where
    by_token : (b : Bool) → HasSize (kind_in p (result_in rest token)) → HasSize (kind_in p (if b then row.result else result_in rest token))
    by_token true later = fit.0.0
    by_token false later = later
result_fits p token (ParameterHanded row ∷ rest) fit = result_fits p token rest fit.1

objects_fit : (p : Program) (rows : List ParameterRow) → Each (λ (row : ParameterRow). TypeFits p row.ctype) rows → Each (λ param. IsSized param.object) (map (parameter_of p) rows)
objects_fit p [] fit = tt
objects_fit p (row ∷ rows) fit = (fit.0.1, objects_fit p rows fit.1)

kinds_fit : (p : Program) (rows : List ParameterRow) → Each (λ (row : ParameterRow). TypeFits p row.ctype) rows → Each (λ param. HasSize param.kind) (map (parameter_of p) rows)
kinds_fit p [] fit = tt
kinds_fit p (row ∷ rows) fit = (fit.0.0, kinds_fit p rows fit.1)

function_as_fits : (p : Program) (function : FunctionItem) → IsFittingProgram p → FunctionFits (function_as p function)
function_as_fits p function fit = record {
  objects = objects_fit p (parameters_in p.handed function.token) (parameters_fit p function.token p.handed fit);
  kinds = kinds_fit p (parameters_in p.handed function.token) (parameters_fit p function.token p.handed fit);
  result = result_fits p function.token p.handed fit;
}

functions_fit : (p : Program) (functions : List FunctionItem) → IsFittingProgram p → Each FunctionFits (map (function_as p) functions)
functions_fit p [] fit = tt
functions_fit p (function ∷ rest) fit = (function_as_fits p function fit, functions_fit p rest fit)

main_fits : (p : Program) (main : Option FunctionItem) → IsFittingProgram p → IfThere FunctionFits (option_map (function_as p) main)
main_fits p None fit = tt
main_fits p (Some main) fit = function_as_fits p main fit

pub texts_fit : DoTextsFit
texts_fit p fit = record {
  forms = λ expr. form_fits p expr (out-ExprForm expr.form) (constant_of_row p (row_of expr.number p.handed) (row_fits p expr.number p.handed fit));
  kinds = λ expr. kind_of_row p (row_of expr.number p.handed) (row_fits p expr.number p.handed fit);
  names = λ expr. standing_fits p (name_in (out-ExprForm expr.form)) (entity_of p expr) (stands_of_row p (row_of expr.number p.handed) (row_fits p expr.number p.handed fit));
  objects = λ place. automatic_fits p (object_in p.handed place.at) (object_row p place.at p.handed fit);
  stores = λ place expr. store_row p place.at expr.number p.handed fit;
  statics = all_sized p (static_rows p) (each_both (λ (row : ObjectRow). TypeFits p row.ctype) (fixed_in p.handed true p.handed) (fixed_in p.handed false p.handed)
      (fixed_fits p p.handed true p.handed fit) (fixed_fits p p.handed false p.handed fit));
  functions = functions_fit p (functions_in p.items) fit;
  main = main_fits p (main_in (functions_in p.items)) fit;
}

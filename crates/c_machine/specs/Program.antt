-- Programs of C: the items of a text that typing passes, and what typing hands on of them, with what is found there.
--
-- An expression leads to its row by its number, and an object is known by how many tokens stand before the name that declared it first.
use Rattle.std.specs.Prelude.{ℕ, suc, Bool, false, not, ◌&&◌, ◌||◌, List, [], ◌∷◌, nat_eq, nat_lt, Option, None, Some, option_and_then, option_map, if◌then◌else◌}
use Rattle.std.specs.Str.{bytes_eq}
use Rattle.std.specs.Option.{option_map_or}
use Rattle.cbase.specs.declared.abi.Abi.{Abi}
use Rattle.cbase.specs.declared.ctype.CType.{CType}
use Rattle.cbase.specs.declared.ctype.CType.TheVariants.{Void as VoidType}
use Rattle.cbase.specs.declared.place.Place.{Place}
use Rattle.cbase.specs.declared.structs.StructDef.{StructDef}
use Rattle.cbase.specs.declared.tree.expr.Expr.{Expr}
use Rattle.cbase.specs.declared.tree.expr.ExprForm.TheViews.{out-Declared}
use Rattle.cbase.specs.declared.tree.item.Item.{Item}
use Rattle.cbase.specs.declared.tree.item.Item.TheVariants.{Empty, Declare, Function}
use Rattle.cbase.specs.declared.tree.stmt.Stmt.{Stmt}
use Rattle.typing.specs.Entities.{Entity}
use Rattle.typing.specs.Forms.{DeclaratorParts}
use Rattle.typing.specs.Heads.{is_main}
use Rattle.typing.specs.Initialisers.{row_of, bytes_of}
use Rattle.typing.specs.Outcomes.{Store, ObjectRow, ParameterRow, Handed, StoreHanded, ObjectHanded, LinkHanded, FunctionHanded, ParameterHanded}

pub record Program : Type 0 where
  pub items : List Item
  pub handed : List Handed
  pub structs : List StructDef
  pub abi : Abi
  -- whether main may not return while an allocated block lives
  pub strict : Bool

-- an expression: its own type, before an array becomes a pointer (C11 6.3.2.1p3); what its name stands for; its value, where it
-- is an integer constant expression (6.6p6). Each expression of a program has a row
abbrev pub type_of : Program → Expr → CType
type_of p expr = option_map_or (λ row. row.ctype) (row_of expr.number p.handed) VoidType

abbrev pub entity_of : Program → Expr → Option Entity
entity_of p expr = option_and_then (λ row. row.stands) (row_of expr.number p.handed)

abbrev pub constant_of : Program → Expr → Option ℕ
constant_of p expr = option_and_then (λ row. row.value) (row_of expr.number p.handed)

-- how many bytes an object of a type has
abbrev pub size_of : Program → CType → ℕ
size_of p t = bytes_of p.abi p.structs t

-- the object that a name declares: by how many tokens its first declaration stands, where it has linkage (6.2.2p2)
abbrev pub first_in : List Handed → ℕ → ℕ
first_in [] token = token
first_in (LinkHanded link ∷ rest) token = if nat_eq link.token token then link.first else first_in rest token
first_in (other ∷ rest) token = first_in rest token

abbrev pub first_token : Program → ℕ → ℕ
first_token p token = first_in p.handed token

-- whether a name is declared outside of functions
abbrev pub is_linked_in : List Handed → ℕ → Bool
is_linked_in [] token = false
is_linked_in (LinkHanded link ∷ rest) token = nat_eq link.token token || is_linked_in rest token
is_linked_in (other ∷ rest) token = is_linked_in rest token

-- what is handed on of the object that a name declares
abbrev pub object_in : List Handed → ℕ → Option ObjectRow
object_in [] token = None
object_in (ObjectHanded row ∷ rest) token = if nat_eq row.token token then Some row else object_in rest token
object_in (other ∷ rest) token = object_in rest token

-- an object without linkage that lives as long as its block (6.2.4p5), and one that lives as long as the program runs (6.2.4p3)
abbrev pub automatic_row : Option ObjectRow → Option ObjectRow
automatic_row None = None
automatic_row (Some row) = if row.fixed then None else Some row

abbrev pub automatic : Program → ℕ → Option ObjectRow
automatic p token = automatic_row (object_in p.handed token)

abbrev pub is_fixed_row : Option ObjectRow → Bool
is_fixed_row None = false
is_fixed_row (Some row) = row.fixed

abbrev pub is_static : Program → ℕ → Bool
is_static p token = is_linked_in p.handed token || is_fixed_row (object_in p.handed token)

-- a row before those of names that stand behind its own in the text
abbrev pub put_in_order : ObjectRow → List ObjectRow → List ObjectRow
put_in_order row [] = row ∷ []
put_in_order row (next ∷ rest) = if nat_lt next.token row.token then next ∷ put_in_order row rest else row ∷ next ∷ rest

-- the objects that live as long as the program runs: those of the file, or those inside functions, in order of the text
abbrev pub fixed_in : List Handed → Bool → List Handed → List ObjectRow
fixed_in all outside [] = []
fixed_in all outside (ObjectHanded row ∷ rest) =
    if row.fixed && (if outside then is_linked_in all row.token else not (is_linked_in all row.token)) then put_in_order row (fixed_in all outside rest)
    else fixed_in all outside rest
fixed_in all outside (other ∷ rest) = fixed_in all outside rest

-- what a value of an initialiser sets: the value is the expression of that number, and the object is declared by that name
abbrev pub store_in : List Handed → ℕ → ℕ → Option Store
store_in [] token number = None
store_in (StoreHanded store ∷ rest) token number =
    if nat_eq store.object token && nat_eq store.number number then Some store else store_in rest token number
store_in (other ∷ rest) token number = store_in rest token number

-- the parameters of the function that a name defines
abbrev pub leading_parameters : List Handed → List ParameterRow
leading_parameters (ParameterHanded row ∷ rest) = row ∷ leading_parameters rest
leading_parameters rest = []

abbrev pub parameters_in : List Handed → ℕ → List ParameterRow
parameters_in [] token = []
parameters_in (FunctionHanded row ∷ rest) token = if nat_eq row.token token then leading_parameters rest else parameters_in rest token
parameters_in (other ∷ rest) token = parameters_in rest token

-- the result of the function that a name defines
abbrev pub result_in : List Handed → ℕ → CType
result_in [] token = VoidType
result_in (FunctionHanded row ∷ rest) token = if nat_eq row.token token then row.result else result_in rest token
result_in (other ∷ rest) token = result_in rest token

-- the definition of a function: its name, how many tokens stand before that, its body, and the place of the `}` behind that (6.9.1)
pub record FunctionItem : Type 0 where
  pub name : List ℕ
  pub token : ℕ
  pub body : List Stmt
  pub close : Place

abbrev pub function_of : DeclaratorParts → List Stmt → Place → FunctionItem
function_of parts body close = record { name = parts.name; token = parts.place.at; body = body; close = close }

-- those of the items, in the order of the text
abbrev pub functions_in : List Item → List FunctionItem
functions_in [] = []
functions_in (Empty ∷ rest) = functions_in rest
functions_in (Declare decl ∷ rest) = functions_in rest
functions_in (Function spec storage head body close ∷ rest) = function_of (out-Declared head) body close ∷ functions_in rest

-- the number of the function of a name, of which a text has at most one (6.9p3, p5), and the function with which a program begins (5.1.2.2.1)
abbrev pub number_in : List FunctionItem → List ℕ → Option ℕ
number_in [] name = None
number_in (function ∷ rest) name = if bytes_eq function.name name then Some 0 else option_map suc (number_in rest name)

abbrev pub main_in : List FunctionItem → Option FunctionItem
main_in [] = None
main_in (function ∷ rest) = if is_main function.name then Some function else main_in rest

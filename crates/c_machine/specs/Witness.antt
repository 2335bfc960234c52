-- A program, whole and with what typing hands on of it, that meets what laws of runs ask of programs:
--
--     int f(int a) { return a; }    int main(void) { return f(5); }
use Rattle.std.specs.Prelude.{◌≡◌, true, false, List, [], ◌∷◌, codes, None, Some}
use Rattle.cbase.specs.declared.abi.Abi.TheVariants.{Lp64}
use Rattle.cbase.specs.declared.tree.decl.Storage.TheVariants.{Plain}
use Rattle.cbase.specs.declared.tree.expr.Expr.{Expr}
use Rattle.cbase.specs.declared.tree.expr.ExprForm.TheVariants.{Call}
use Rattle.cbase.specs.declared.tree.item.Item.{Item}
use Rattle.cbase.specs.declared.tree.item.Item.TheVariants.{Function as FunctionIs}
use Rattle.cbase.specs.declared.tree.spec.BasicType.TheVariants.{Integer}
use Rattle.cbase.specs.declared.tree.spec.Rank.TheVariants.{Int}
use Rattle.cbase.specs.declared.tree.spec.TypeSpec.{TypeSpec}
use Rattle.cbase.specs.declared.tree.spec.TypeSpec.TheVariants.{Basic}
use Rattle.cbase.specs.declared.tree.stmt.Stmt.{Stmt}
use Rattle.cbase.specs.declared.tree.stmt.StmtForm.TheVariants.{Return}
use Rattle.typing.specs.ctypes.Binary.{int_type}
use Rattle.typing.specs.Entities.{ObjectIs, FunctionIs as FunctionStands}
use Rattle.typing.specs.Outcomes.{Handed, ExpressionHanded, FunctionHanded, ParameterHanded}
use Rattle.typing.specs.Sample.{token, node, name, constant, identifier, statement, function_declarator, parameter_of}
use Rattle.c_machine.specs.Program.{Program}
use Rattle.c_machine.specs.Run.{main_tasks}
use Rattle.c_machine.specs.RunStates.{IsRunState, IsRight}
use Rattle.c_machine.specs.Standing.{parts_of}
use Rattle.c_machine.specs.State.{StateIn}
use Rattle.c_machine.specs.Text.{Function}
use Rattle.c_machine.specs.Trees.{text_of}

abbrev pub an_int : TypeSpec
an_int = Basic (Integer Int true)

-- `a`, `f`, `5` and `f(5)`
abbrev pub argument : Expr
argument = name (codes "a") 0 8

abbrev pub callee : Expr
callee = name (codes "f") 1 20

abbrev pub five : Expr
five = constant (codes "5") 2 22

abbrev pub call : Expr
call = node 3 20 (Call callee (five ∷ []))

-- the two functions
abbrev pub gives_argument : Stmt
gives_argument = statement (Return (Some argument))

abbrev pub gives_call : Stmt
gives_call = statement (Return (Some call))

abbrev pub function : Item
function = FunctionIs an_int Plain (function_declarator (codes "f") 1 (parameter_of an_int 0 (Some (identifier (codes "a") 4)) [] ∷ [])) (gives_argument ∷ []) (token 10)

abbrev pub main : Item
main = FunctionIs an_int Plain (function_declarator (codes "main") 12 []) (gives_call ∷ []) (token 30)

abbrev pub handed : List Handed
handed =
    FunctionHanded (record { token = 1; result = int_type })
    ∷ ParameterHanded (record { token = Some 4; ctype = int_type })
    ∷ ExpressionHanded (record { number = 0; ctype = int_type; stands = Some (ObjectIs (record { ctype = Some int_type; token = 4; defined = true; of_main = false; fixed = false })); value = None })
    ∷ FunctionHanded (record { token = 12; result = int_type })
    ∷ ExpressionHanded (record { number = 1; ctype = int_type; stands = Some (FunctionStands (record { result = int_type; params = int_type ∷ []; defined = true; built_in = false })); value = None })
    ∷ ExpressionHanded (record { number = 2; ctype = int_type; stands = None; value = Some 5 })
    ∷ ExpressionHanded (record { number = 3; ctype = int_type; stands = None; value = None })
    ∷ []

abbrev pub witness : Program
witness = record { items = function ∷ main ∷ []; handed = handed; structs = []; abi = Lp64; strict = false }

-- the state in which its main begins
abbrev pub begins : Function Stmt → StateIn (text_of witness)
begins first = record { tasks = main_tasks (text_of witness) first; operands = []; frame = []; callers = []; statics = []; memory = [] }

-- it meets what is asked, and that state has all of it
pub record IsMet : Type 0 where
  pub right : IsRight witness
  pub first : Function Stmt
  pub is_first : (text_of witness).main ≡ Some first
  pub has : IsRunState (text_of witness) (parts_of witness) (begins first)

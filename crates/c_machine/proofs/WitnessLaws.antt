-- The program of the witness meets what is asked.
use Rattle.std.proofs.Common.{◌≡◌, ℕ, zero, suc, List, [], ◌∷◌, ◌++◌, map, length, refl, sym, ap, subst, ◌∙◌, ◌⊎◌, inl, inr, Option, None, Some, arith}
use Rattle.std.specs.Prelude.{true, codes, option_map, slice_get}
use Rattle.std.specs.Option.{option_map_or}
use Rattle.cbase.specs.declared.abi.Abi.TheVariants.{Lp64}
use Rattle.cbase.specs.declared.ctype.CType as C
use Rattle.cbase.specs.declared.layout.Layout.{Layout}
use Rattle.cbase.specs.declared.tree.expr.Expr.{Expr}
use Rattle.cbase.specs.declared.tree.expr.ExprForm.TheOpen as tree
use Rattle.cbase.specs.declared.tree.expr.ExprForm.TheViews.{out-ExprForm, out-roll-Declared, out-roll-Param, outs-Name, outs-Constant, outs-Call, outs-Return, outs-Basic}
use Rattle.cbase.specs.declared.tree.item.Item.{Item}
use Rattle.cbase.specs.declared.tree.spec.BasicType.TheVariants.{Integer}
use Rattle.cbase.specs.declared.tree.spec.Rank.TheVariants.{Int}
use Rattle.cbase.specs.Layout.{struct_at}
use Rattle.cbase.proofs.Types.{type_layout-Int}
use Rattle.typing.specs.ctypes.Binary.{int_type}
use Rattle.typing.specs.Forms.{Form as Layer, Clause as StatementLayer, Words, DeclaratorParts, ParameterParts, name_in}
use Rattle.typing.specs.Sample.{token, identifier, parameter_of}
use Rattle.c_machine.specs.Awaiting.{CallsRightly}
use Rattle.c_machine.specs.Fitting.{Each, IfThere, HasSize, IsNumber, TypeFits, IsFittingProgram}
use Rattle.c_machine.specs.Program.{size_of, entity_of, FunctionItem, function_of, functions_in, number_in, main_in}
use Rattle.c_machine.specs.Run.{blank}
use Rattle.c_machine.specs.RunStates.{IsRight}
use Rattle.c_machine.specs.Standing.{Stands, InItem, Within, parts_of}
use Rattle.c_machine.specs.Statics.{Node, AnExpr, AStmt, SomeWords, in_sizes, in_params, in_init, in_form, in_clause, in_words, in_item, in_node}
use Rattle.c_machine.specs.Text.{BodyStands}
use Rattle.c_machine.specs.Trees.{kind_in, body_stands, standing, function_as, text_of}
use Rattle.c_machine.specs.Witness.{an_int, argument, callee, five, call, gives_argument, gives_call, function, main, witness, begins, IsMet}
use Rattle.c_machine.proofs.FittingTexts.{texts_fit}
use Rattle.c_machine.proofs.KeptRuns.{blank_is}
use Rattle.c_machine.proofs.RunStateLaws.{told, goes_on_awaiting}
use Rattle.c_machine.proofs.StandingParts.{are_parts}

int_kind : HasSize (kind_in witness int_type)
unfolding C.out-CType denote.Hole.Carrier.out
int_kind = refl

int_bytes : size_of witness int_type ≡ 4
int_bytes = ap (λ (found : Option Layout). option_map_or (λ (layout : Layout). layout.size) found 0) (type_layout-Int Lp64 (struct_at Lp64 0 []) 4 true)

int_fits : TypeFits witness int_type
int_fits = (int_kind, subst IsNumber (sym int_bytes) (omega arith))

rows_fit : IsFittingProgram witness
rows_fit = (int_fits, (int_fits, ((int_fits, (tt, tt)), (int_fits, ((int_fits, (((int_fits, tt), int_fits), tt)), ((int_fits, (tt, omega arith)), ((int_fits, (tt, tt)), tt)))))))

-- the parts that stand in it
abbrev Known : Node → Type 0
Known node =
    (node ≡ SomeWords an_int) ⊎ ((node ≡ AStmt gives_argument) ⊎ ((node ≡ AStmt gives_call) ⊎ ((node ≡ AnExpr argument) ⊎ ((node ≡ AnExpr call) ⊎ ((node ≡ AnExpr callee) ⊎ (node ≡ AnExpr five))))))

found : (nodes : List Node) (place : ℕ) (node : Node) → Each Known nodes → slice_get nodes place ≡ Some node → Known node
found [] place node are is = absurd cc
found (first ∷ rest) zero node are is = let same : first ≡ node = cc in subst Known same are.0
found (first ∷ rest) (suc place) node are is = found rest place node are.1 is

-- the heads of the two functions
abbrev param_parts : ParameterParts
param_parts = record { spec = an_int; stars = 0; name = Some (identifier (codes "a") 4); sizes = [] }

abbrev function_parts : DeclaratorParts
function_parts = record { place = token 1; name = codes "f"; stars = 0; sizes = []; params = Some (parameter_of an_int 0 (Some (identifier (codes "a") 4)) [] ∷ []); init = None }

abbrev main_parts : DeclaratorParts
main_parts = record { place = token 12; name = codes "main"; stars = 0; sizes = []; params = Some []; init = None }

in_function : Each Known (in_item function)
in_function =
    subst (λ (parts : DeclaratorParts). Each Known (SomeWords an_int ∷ ((in_sizes parts.sizes ++ (in_params parts.params ++ in_init parts.init)) ++ AStmt gives_argument ∷ []))) (sym (out-roll-Declared function_parts))
    (subst (λ (parts : ParameterParts). Each Known (SomeWords an_int ∷ ((((SomeWords parts.spec ∷ in_sizes parts.sizes) ++ []) ++ []) ++ AStmt gives_argument ∷ []))) (sym (out-roll-Param param_parts))
    (inl refl, (inl refl, (inr (inl refl), tt))))

in_main : Each Known (in_item main)
in_main =
    subst (λ (parts : DeclaratorParts). Each Known (SomeWords an_int ∷ ((in_sizes parts.sizes ++ (in_params parts.params ++ in_init parts.init)) ++ AStmt gives_call ∷ []))) (sym (out-roll-Declared main_parts))
    (inl refl, (inr (inr (inl refl)), tt))

in_words_of : Each Known (in_node (SomeWords an_int))
in_words_of = subst (λ (words : Words). Each Known (in_words words)) (sym (outs-Basic (Integer Int true))) tt

in_argument : Each Known (in_node (AnExpr argument))
in_argument = subst (λ (form : Layer). Each Known (in_form form)) (sym (outs-Name (codes "a"))) tt

in_callee : Each Known (in_node (AnExpr callee))
in_callee = subst (λ (form : Layer). Each Known (in_form form)) (sym (outs-Name (codes "f"))) tt

in_five : Each Known (in_node (AnExpr five))
in_five = subst (λ (form : Layer). Each Known (in_form form)) (sym (outs-Constant (codes "5"))) tt

in_call : Each Known (in_node (AnExpr call))
in_call =
    subst (λ (form : Layer). Each Known (in_form form)) (sym (outs-Call callee (five ∷ [])))
    (inr (inr (inr (inr (inr (inl refl))))), (inr (inr (inr (inr (inr (inr refl))))), tt))

in_first : Each Known (in_node (AStmt gives_argument))
in_first = subst (λ (clause : StatementLayer). Each Known (in_clause clause)) (sym (outs-Return (Some argument))) (inr (inr (inr (inl refl))), tt)

in_second : Each Known (in_node (AStmt gives_call))
in_second = subst (λ (clause : StatementLayer). Each Known (in_clause clause)) (sym (outs-Return (Some call))) (inr (inr (inr (inr (inl refl)))), tt)

in_known : (node : Node) → Known node → Each Known (in_node node)
in_known node (inl is) = subst (λ (node : Node). Each Known (in_node node)) (sym is) in_words_of
in_known node (inr (inl is)) = subst (λ (node : Node). Each Known (in_node node)) (sym is) in_first
in_known node (inr (inr (inl is))) = subst (λ (node : Node). Each Known (in_node node)) (sym is) in_second
in_known node (inr (inr (inr (inl is)))) = subst (λ (node : Node). Each Known (in_node node)) (sym is) in_argument
in_known node (inr (inr (inr (inr (inl is))))) = subst (λ (node : Node). Each Known (in_node node)) (sym is) in_call
in_known node (inr (inr (inr (inr (inr (inl is)))))) = subst (λ (node : Node). Each Known (in_node node)) (sym is) in_callee
in_known node (inr (inr (inr (inr (inr (inr is)))))) = subst (λ (node : Node). Each Known (in_node node)) (sym is) in_five

in_items : (number : ℕ) (item : Item) → slice_get (function ∷ main ∷ []) number ≡ Some item → Each Known (in_item item)
in_items zero item is = let same : function ≡ item = cc in subst (λ (item : Item). Each Known (in_item item)) same in_function
in_items (suc zero) item is = let same : main ≡ item = cc in subst (λ (item : Item). Each Known (in_item item)) same in_main
in_items (suc (suc number)) item is = absurd cc

all_known : (node : Node) → Stands witness node → Known node
all_known node (InItem number place item node' is at) = found (in_item item) place node (in_items number item is) at
all_known node (Within outer node' place stands at) = found (in_node outer) place node (in_known outer (all_known outer stands)) at

-- the one call
no_call : (other : Expr) (args : List Expr) → out-ExprForm argument.form ≡ tree.Call other args → ⊥
no_call other args is = let apart : tree.Name (codes "a") ≡ tree.Call other args = sym (outs-Name (codes "a")) ∙ is in absurd cc

no_call_callee : (other : Expr) (args : List Expr) → out-ExprForm callee.form ≡ tree.Call other args → ⊥
no_call_callee other args is = let apart : tree.Name (codes "f") ≡ tree.Call other args = sym (outs-Name (codes "f")) ∙ is in absurd cc

no_call_five : (other : Expr) (args : List Expr) → out-ExprForm five.form ≡ tree.Call other args → ⊥
no_call_five other args is = let apart : tree.Constant (codes "5") ≡ tree.Call other args = sym (outs-Constant (codes "5")) ∙ is in absurd cc

abbrev both : List FunctionItem
both = function_of function_parts (gives_argument ∷ []) (token 10) ∷ function_of main_parts (gives_call ∷ []) (token 30) ∷ []

functions_are : functions_in (function ∷ main ∷ []) ≡ both
functions_are =
    ap (λ (parts : DeclaratorParts). function_of parts (gives_argument ∷ []) (token 10) ∷ functions_in (main ∷ [])) (out-roll-Declared function_parts)
    ∙ ap (λ (parts : DeclaratorParts). function_of function_parts (gives_argument ∷ []) (token 10) ∷ function_of parts (gives_call ∷ []) (token 30) ∷ []) (out-roll-Declared main_parts)

stands_there : (text_of witness).stands callee ≡ BodyStands 0
stands_there =
    ap (λ (form : Layer). standing witness (name_in form) (entity_of witness callee)) (outs-Name (codes "f"))
    ∙ ap (λ (functions : List FunctionItem). body_stands (number_in functions (codes "f"))) functions_are

one_argument : CallsRightly (text_of witness) (five ∷ []) (BodyStands 0)
one_argument =
    subst (λ (functions : List FunctionItem). IfThere (λ function. length (five ∷ []) ≡ length function.params) (slice_get (map (function_as witness) functions) 0)) (sym functions_are) refl

of_call : (other : Expr) (args : List Expr) → out-ExprForm call.form ≡ tree.Call other args → CallsRightly (text_of witness) args ((text_of witness).stands other)
of_call other args is =
    let alike : tree.Call callee (five ∷ []) ≡ tree.Call other args = sym (outs-Call callee (five ∷ [])) ∙ is in
    let one : callee ≡ other = cc in
    let same : five ∷ [] ≡ args = cc in
    subst (λ (other : Expr). CallsRightly (text_of witness) args ((text_of witness).stands other)) one
    (subst (λ (args : List Expr). CallsRightly (text_of witness) args ((text_of witness).stands callee)) same
    (subst (CallsRightly (text_of witness) (five ∷ [])) (sym stands_there) one_argument))

by_known : (expr other : Expr) (args : List Expr) → Known (AnExpr expr) → out-ExprForm expr.form ≡ tree.Call other args → CallsRightly (text_of witness) args ((text_of witness).stands other)
by_known expr other args (inl is) form = absurd cc
by_known expr other args (inr (inl is)) form = absurd cc
by_known expr other args (inr (inr (inl is))) form = absurd cc
by_known expr other args (inr (inr (inr (inl is)))) form =
    let same : expr ≡ argument = cc in absurd (no_call other args (sym (ap (λ (expr : Expr). out-ExprForm expr.form) same) ∙ form))
by_known expr other args (inr (inr (inr (inr (inl is))))) form =
    let same : expr ≡ call = cc in of_call other args (sym (ap (λ (expr : Expr). out-ExprForm expr.form) same) ∙ form)
by_known expr other args (inr (inr (inr (inr (inr (inl is)))))) form =
    let same : expr ≡ callee = cc in absurd (no_call_callee other args (sym (ap (λ (expr : Expr). out-ExprForm expr.form) same) ∙ form))
by_known expr other args (inr (inr (inr (inr (inr (inr is)))))) form =
    let same : expr ≡ five = cc in absurd (no_call_five other args (sym (ap (λ (expr : Expr). out-ExprForm expr.form) same) ∙ form))

is_right : IsRight witness
is_right = record { fits = rows_fit; calls = λ expr other args stands form. by_known expr other args (all_known (AnExpr expr) stands) form }

-- its main
main_there : (text_of witness).main ≡ Some (function_as witness (function_of main_parts (gives_call ∷ []) (token 30)))
main_there = ap (λ (functions : List FunctionItem). option_map (function_as witness) (main_in functions)) functions_are

pub is_met : IsMet
is_met =
    let first = function_as witness (function_of main_parts (gives_call ∷ []) (token 30)) in
    record {
      right = is_right;
      first = first;
      is_first = main_there;
      has = told (text_of witness) (parts_of witness) (begins first)
          (goes_on_awaiting (text_of witness) (parts_of witness) (texts_fit witness is_right.fits) (are_parts witness is_right.calls) first (blank (text_of witness) []) main_there
          (record {
            holds = record {
              fitted = record { lives = blank_is (text_of witness) []; fits = record { tasks = tt; operands = tt; objects = tt; statics = tt } };
              awaits = record { tasks = tt; operands = refl };
            };
            nothing = refl;
          }));
    }

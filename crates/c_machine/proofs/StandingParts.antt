-- The parts that stand in a program are a set as its text asks for.
use Rattle.std.proofs.Common.{◌≡◌, ℕ, zero, suc, List, [], ◌∷◌, ◌++◌, map, Bool, true, false, refl, Option, None, Some}
use Rattle.std.specs.Prelude.{if◌then◌else◌, option_map, slice_get}
use Rattle.std.specs.List.{flat_map}
use Rattle.cbase.specs.declared.place.Place.{Place}
use Rattle.cbase.specs.declared.tree.decl.Declared.{Declared}
use Rattle.cbase.specs.declared.tree.expr.Expr.{Expr}
use Rattle.cbase.specs.declared.tree.expr.ExprForm.TheOpen as tree
use Rattle.cbase.specs.declared.tree.expr.ExprForm.TheViews.{out-ExprForm, out-StmtForm, out-Decl, out-Declared, out-Init, out-InitPart}
use Rattle.cbase.specs.declared.tree.init.Init.{Init}
use Rattle.cbase.specs.declared.tree.init.InitPart.{InitPart}
use Rattle.cbase.specs.declared.tree.item.Item.{Item}
use Rattle.cbase.specs.declared.tree.item.Item.TheVariants.{Empty, Declare as DeclareItem, Function as FunctionItemIs}
use Rattle.typing.specs.Forms.{Form as Layer, Clause as StatementLayer, Initialiser as InitialiserLayer}
use Rattle.typing.specs.Heads.{is_main}
use Rattle.c_machine.specs.Awaiting.{CallsRightly, FormIn, ClauseIn, InitialiserIn, AreParts}
use Rattle.c_machine.specs.Fitting.{Each, IfThere}
use Rattle.c_machine.specs.Program.{Program, is_static, FunctionItem, functions_in, main_in}
use Rattle.c_machine.specs.Standing.{Stands, InItem, Within, parts_of, AreCallsRight}
use Rattle.c_machine.specs.Statics.{Node, AnExpr, AStmt, SomeWords, AnInit, optional, in_sizes, in_type_name, in_form, in_params, in_init, in_name, in_clause, in_initialiser, in_node, in_item, set_of, set_by, sets_in_clause, sets_at, sets_in_item, sets_within, nodes_of, sets_of, static_sets}
use Rattle.c_machine.specs.Text.{Set}
use Rattle.c_machine.specs.Trees.{form_of, name_of, clause_of, initialiser_of, function_as, text_of}
use Rattle.c_machine.proofs.FittingTasks.{each_both}

-- lists
each_places : {X : Type 0} (P : X → Type 0) (items : List X) → ((place : ℕ) (item : X) → slice_get items place ≡ Some item → P item) → Each P items
each_places P [] all = tt
each_places P (item ∷ rest) all = (all 0 item refl, each_places P rest (λ place other is. all (suc place) other is))

pub each_front : {X : Type 0} (P : X → Type 0) (one other : List X) → Each P (one ++ other) → Each P one
each_front P [] other are = tt
each_front P (item ∷ one) other are = (are.0, each_front P one other are.1)

each_back : {X : Type 0} (P : X → Type 0) (one other : List X) → Each P (one ++ other) → Each P other
each_back P [] other are = are
each_back P (item ∷ one) other are = each_back P one other are.1

each_unmapped : {X Y : Type 0} (P : Y → Type 0) (f : X → Y) (items : List X) → Each P (map f items) → Each (λ item. P (f item)) items
each_unmapped P f [] are = tt
each_unmapped P f (item ∷ rest) are = (are.0, each_unmapped P f rest are.1)

-- what stands directly in a part
inside : (p : Program) (outer : Node) → Stands p outer → Each (Stands p) (in_node outer)
inside p outer is = each_places (Stands p) (in_node outer) (λ place node at. Within outer node place is at)

one_there : (p : Program) (expr : Option Expr) → Each (Stands p) (optional expr) → IfThere (λ expr. Stands p (AnExpr expr)) expr
one_there p None are = tt
one_there p (Some expr) are = are.0

init_there : (p : Program) (init : Option Init) → Each (Stands p) (in_init init) → IfThere (λ init. Stands p (AnInit init)) init
init_there p None are = tt
init_there p (Some init) are = are.0

form_in : (p : Program) (expr : Expr) (layer : Layer) → Each (Stands p) (in_form layer) →
    ((callee : Expr) (args : List Expr) → layer ≡ tree.Call callee args → CallsRightly (text_of p) args ((text_of p).stands callee)) → FormIn (text_of p) (parts_of p) (form_of p expr layer)
form_in p expr (tree.Name name) are right = tt
form_in p expr (tree.Constant spelling) are right = tt
form_in p expr (tree.Unary op arg) are right = are.0
form_in p expr (tree.Binary op left other) are right = (are.0, are.1.0)
form_in p expr (tree.Assign op left other) are right = (are.0, are.1.0)
form_in p expr (tree.Count up after arg) are right = are.0
form_in p expr (tree.Choose test one other) are right = (are.0, (are.1.0, are.1.1.0))
form_in p expr (tree.Cast to arg) are right = (each_back (Stands p) (in_type_name to) (AnExpr arg ∷ []) are).0
form_in p expr (tree.SizeOf arg) are right = tt
form_in p expr (tree.SizeOfType to) are right = tt
form_in p expr (tree.OffsetOf to path) are right = tt
form_in p expr (tree.Index base index) are right = (are.0, are.1.0)
form_in p expr (tree.ExprForm::Member base name false) are right = are.0
form_in p expr (tree.ExprForm::Member base name true) are right = are.0
form_in p expr (tree.Call callee args) are right = (each_unmapped (Stands p) AnExpr args are.1, right callee args refl)
form_in p expr (tree.Inner body close) are right = each_unmapped (Stands p) AStmt body are
form_in p expr tree.AssertFail are right = tt

names_in : (p : Program) (names : List Declared) → Each (Stands p) (flat_map in_name names) → Each (λ name. IfThere (λ init. Stands p (AnInit init)) name.init) (map name_of names)
names_in p [] are = tt
names_in p (name ∷ rest) are =
    let own : Each (Stands p) (in_name name) = each_front (Stands p) (in_name name) (flat_map in_name rest) are in (
      init_there p (out-Declared name).init (each_back (Stands p) (in_params (out-Declared name).params) (in_init (out-Declared name).init)
          (each_back (Stands p) (in_sizes (out-Declared name).sizes) (in_params (out-Declared name).params ++ in_init (out-Declared name).init) own)),
      names_in p rest (each_back (Stands p) (in_name name) (flat_map in_name rest) are),
    )

clause_in : (p : Program) (layer : StatementLayer) → Each (Stands p) (in_clause layer) → ClauseIn (text_of p) (parts_of p) (clause_of layer)
clause_in p (tree.Declare decl) are = names_in p (out-Decl decl).names are.1
clause_in p (tree.Eval expr) are = one_there p expr are
clause_in p (tree.Block body) are = each_unmapped (Stands p) AStmt body are
clause_in p (tree.If test close one None) are = (are.0, (are.1.0, tt))
clause_in p (tree.If test close one (Some other)) are = (are.0, (are.1.0, are.1.1.0))
clause_in p (tree.While test close body) are = (are.0, are.1.0)
clause_in p (tree.Do body test close) are = (are.0, are.1.0)
clause_in p (tree.For first test semicolon next close body) are =
    let behind : Each (Stands p) (optional next ++ AStmt body ∷ []) = each_back (Stands p) (optional test) (optional next ++ AStmt body ∷ []) are.1 in
    (are.0, (one_there p test (each_front (Stands p) (optional test) (optional next ++ AStmt body ∷ []) are.1), (one_there p next (each_front (Stands p) (optional next) (AStmt body ∷ []) behind), (each_back (Stands p) (optional next) (AStmt body ∷ []) behind).0)))
clause_in p tree.Break are = tt
clause_in p tree.Continue are = tt
clause_in p (tree.Return expr) are = one_there p expr are

parts_in : (p : Program) (parts : List InitPart) → Each (Stands p) (map (λ part. AnInit (out-InitPart part).init) parts) → Each (λ init. Stands p (AnInit init)) (map (λ part. (out-InitPart part).init) parts)
parts_in p [] are = tt
parts_in p (part ∷ rest) are = (are.0, parts_in p rest are.1)

initialiser_in : (p : Program) (layer : InitialiserLayer) → Each (Stands p) (in_initialiser layer) → InitialiserIn (text_of p) (parts_of p) (initialiser_of layer)
initialiser_in p (tree.Value value after) are = are.0
initialiser_in p (tree.Braces parts) are = parts_in p parts are

-- functions
functions_there : (p : Program) (items : List Item) → Each (λ item. Each (Stands p) (in_item item)) items → Each (λ function. Each (λ stmt. Stands p (AStmt stmt)) function.body) (functions_in items)
functions_there p [] are = tt
functions_there p (Empty ∷ rest) are = functions_there p rest are.1
functions_there p (DeclareItem decl ∷ rest) are = functions_there p rest are.1
functions_there p (FunctionItemIs spec storage head body close ∷ rest) are =
    (each_unmapped (Stands p) AStmt body (each_back (Stands p) (in_name head) (map AStmt body) are.0.1), functions_there p rest are.1)

functions_as : (p : Program) (functions : List FunctionItem) → Each (λ function. Each (λ stmt. Stands p (AStmt stmt)) function.body) functions →
    Each (λ function. Each (λ stmt. Stands p (AStmt stmt)) function.body) (map (function_as p) functions)
functions_as p [] are = tt
functions_as p (function ∷ rest) are = (are.0, functions_as p rest are.1)

main_there : (p : Program) (functions : List FunctionItem) → Each (λ function. Each (λ stmt. Stands p (AStmt stmt)) function.body) functions →
    IfThere (λ function. Each (λ stmt. Stands p (AStmt stmt)) function.body) (option_map (function_as p) (main_in functions))
main_there p [] are = tt
main_there p (function ∷ rest) are = by_name (is_main function.name) (main_there p rest are.1)
  where
    by_name : (b : Bool) → IfThere (λ function. Each (λ stmt. Stands p (AStmt stmt)) function.body) (option_map (function_as p) (main_in rest)) →
        IfThere (λ function. Each (λ stmt. Stands p (AStmt stmt)) function.body) (option_map (function_as p) (if b then Some function else main_in rest))
    by_name true later = are.0
    by_name false later = later

-- initialisers of objects that live as long as the program runs
abbrev SetStands : (p : Program) → Set Init → Type 0
SetStands p set = Stands p (AnInit set.init)

set_there : (p : Program) (place : Place) (init : Option Init) → Each (Stands p) (in_init init) → Each (SetStands p) (set_of place init)
set_there p place None are = tt
set_there p place (Some init) are = (are.0, tt)

sets_of_names : (p : Program) (names : List Declared) → Each (Stands p) (flat_map in_name names) → Each (SetStands p) (flat_map set_by names)
sets_of_names p [] are = tt
sets_of_names p (name ∷ rest) are =
    let own : Each (Stands p) (in_name name) = each_front (Stands p) (in_name name) (flat_map in_name rest) are in
    each_both (SetStands p) (set_by name) (flat_map set_by rest)
    (set_there p (out-Declared name).place (out-Declared name).init (each_back (Stands p) (in_params (out-Declared name).params) (in_init (out-Declared name).init)
    (each_back (Stands p) (in_sizes (out-Declared name).sizes) (in_params (out-Declared name).params ++ in_init (out-Declared name).init) own)))
    (sets_of_names p rest (each_back (Stands p) (in_name name) (flat_map in_name rest) are))

sets_of_clause : (p : Program) (layer : StatementLayer) → Each (Stands p) (in_clause layer) → Each (SetStands p) (sets_in_clause layer)
sets_of_clause p (tree.Declare decl) are = sets_of_names p (out-Decl decl).names are.1
sets_of_clause p other are = tt

sets_of_node : (p : Program) (node : Node) → Stands p node → Each (SetStands p) (sets_at node)
sets_of_node p (AnExpr expr) is = tt
sets_of_node p (AStmt stmt) is = sets_of_clause p (out-StmtForm stmt.form) (inside p (AStmt stmt) is)
sets_of_node p (SomeWords spec) is = tt
sets_of_node p (AnInit init) is = tt

sets_of_nodes : (p : Program) (count : ℕ) (nodes : List Node) → Each (Stands p) nodes → Each (SetStands p) (sets_within count nodes)
sets_of_nodes p zero nodes are = tt
sets_of_nodes p (suc count) [] are = tt
sets_of_nodes p (suc count) (node ∷ nodes) are =
    each_both (SetStands p) (sets_at node) (sets_within count (in_node node ++ nodes)) (sets_of_node p node are.0)
    (sets_of_nodes p count (in_node node ++ nodes) (each_both (Stands p) (in_node node) nodes (inside p node are.0) are.1))

sets_of_item : (p : Program) (item : Item) → Each (Stands p) (in_item item) → Each (SetStands p) (sets_in_item item)
sets_of_item p Empty are = tt
sets_of_item p (DeclareItem decl) are = sets_of_names p (out-Decl decl).names are.1
sets_of_item p (FunctionItemIs spec storage head body close) are = tt

sets_of_items : (p : Program) (items : List Item) → Each (λ item. Each (Stands p) (in_item item)) items → Each (SetStands p) (flat_map sets_of items)
sets_of_items p [] are = tt
sets_of_items p (item ∷ rest) are =
    each_both (SetStands p) (sets_of item) (flat_map sets_of rest)
    (each_both (SetStands p) (sets_in_item item) (sets_within (nodes_of item) (in_item item)) (sets_of_item p item are.0) (sets_of_nodes p (nodes_of item) (in_item item) are.0))
    (sets_of_items p rest are.1)

static_there : (p : Program) (sets : List (Set Init)) → Each (SetStands p) sets → Each (SetStands p) (static_sets p sets)
static_there p [] are = tt
static_there p (set ∷ rest) are = by_time (is_static p set.place.at) (static_there p rest are.1)
  where
    by_time : (b : Bool) → Each (SetStands p) (static_sets p rest) → Each (SetStands p) (if b then set ∷ static_sets p rest else static_sets p rest)
    by_time true later = (are.0, later)
    by_time false later = later

items_there : (p : Program) → Each (λ item. Each (Stands p) (in_item item)) p.items
items_there p =
    each_places (λ item. Each (Stands p) (in_item item)) p.items (λ number item is. each_places (Stands p) (in_item item) (λ place node at. InItem number place item node is at))

pub are_parts : (p : Program) → AreCallsRight p → AreParts (text_of p) (parts_of p)
are_parts p right = record {
  forms = λ expr is. form_in p expr (out-ExprForm expr.form) (inside p (AnExpr expr) is) (λ callee args same. right expr callee args is same);
  clauses = λ stmt is. clause_in p (out-StmtForm stmt.form) (inside p (AStmt stmt) is);
  initialisers = λ init is. initialiser_in p (out-Init init) (inside p (AnInit init) is);
  functions = functions_as p (functions_in p.items) (functions_there p p.items (items_there p));
  main = main_there p (functions_in p.items) (functions_there p p.items (items_there p));
  sets = static_there p (flat_map sets_of p.items) (sets_of_items p p.items (items_there p));
}

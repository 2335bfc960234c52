-- The steps that a program gives to its static initialisers are enough: each takes eight at most for each part of it that is worked out, and no part belongs to
-- two of them.
use Rattle.std.proofs.Common.{◌≡◌, ◌≤◌, ℕ, zero, suc, ◌+◌, ◌*◌, List, [], ◌∷◌, ◌++◌, map, Bool, true, false, refl, sym, ap, arith, subst, Option, None, Some, if◌then◌else◌}
use Rattle.std.specs.List.{flat_map}
use Rattle.std.proofs.lemmas.List.{length-map}
use Rattle.std.proofs.lemmas.Option.{same_Some, none-some}
use Rattle.cbase.specs.declared.place.Place.{Place}
use Rattle.cbase.specs.declared.tree.decl.Declared.{Declared}
use Rattle.cbase.specs.declared.tree.expr.Expr.{Expr}
use Rattle.cbase.specs.declared.tree.expr.ExprForm.TheOpen as tree
use Rattle.cbase.specs.declared.tree.expr.ExprForm.TheOpen.{ExprForm::Member}
use Rattle.cbase.specs.declared.tree.expr.ExprForm.TheViews.{out-ExprForm, out-StmtForm, out-Init, out-InitPart, out-Declared, out-Decl}
use Rattle.cbase.specs.declared.tree.init.Init.{Init}
use Rattle.cbase.specs.declared.tree.init.InitPart.{InitPart}
use Rattle.cbase.specs.declared.tree.item.Item.{Item}
use Rattle.cbase.specs.declared.tree.item.Item.TheVariants.{Empty, Declare as DeclareItem, Function}
use Rattle.typing.specs.Forms.{Form as Layer, Clause, Initialiser as InitialiserLayer}
use Rattle.c_machine.specs.Program.{Program, is_static}
use Rattle.c_machine.specs.Statics.{Node, AnExpr, AStmt, SomeWords, AnInit, in_sizes, in_type_name, in_form, in_params, in_init, in_name, in_clause, in_initialiser, in_node, in_item, set_of, set_by, sets_in_clause, sets_at, sets_in_item, sets_within, nodes_of, sets_of, static_sets}
use Rattle.c_machine.specs.Text.{Initialiser, Value, Braces, Set}
use Rattle.c_machine.specs.Trees.{object_of, form_of, initialiser_of, nodes_in, static_rows, text_of}
use Rattle.c_text.specs.statics.Weights.{weights}
use Rattle.c_text.proofs.statics.Weights.{weights-append, one_more, item_weighs}
use Rattle.lowering.proofs.KnownWords.{parts_of, AllWeigh, Weighing}
use Rattle.lowering.proofs.StaticsLowered.{HasSteps}

-- parts of trees that are counted: some of these and, of one that is counted, some of those in it
data Costs : List Node → ℕ → Type 0 where
  Nothing : Costs [] 0
  Skips : {node : Node} {nodes : List Node} {count : ℕ} → Costs nodes count → Costs (node ∷ nodes) count
  OfExpr : {expr : Expr} {nodes : List Node} (inside others : ℕ) → Costs (in_form (out-ExprForm expr.form)) inside → Costs nodes others → Costs (AnExpr expr ∷ nodes) (suc (inside + others))
  OfInit : {init : Init} {nodes : List Node} (inside others : ℕ) → Costs (in_initialiser (out-Init init)) inside → Costs nodes others → Costs (AnInit init ∷ nodes) (suc (inside + others))

none : (nodes : List Node) → Costs nodes 0
none [] = Nothing
none (node ∷ nodes) = Skips (none nodes)

same_count : {nodes : List Node} {one other : ℕ} → one ≡ other → Costs nodes one → Costs nodes other
same_count {nodes = nodes} is costs = subst (λ (n : ℕ). Costs nodes n) is costs

both : {nodes others : List Node} {one other : ℕ} → Costs nodes one → Costs others other → Costs (nodes ++ others) (one + other)
both {other = other} Nothing more = same_count (let e : other ≡ 0 + other = omega arith in e) more
both (Skips costs) more = Skips (both costs more)
both {other = other} (OfExpr inside others within costs) more =
    same_count (let e : suc (inside + (others + other)) ≡ suc (inside + others) + other = omega arith in e) (OfExpr inside (others + other) within (both costs more))
both {other = other} (OfInit inside others within costs) more =
    same_count (let e : suc (inside + (others + other)) ≡ suc (inside + others) + other = omega arith in e) (OfInit inside (others + other) within (both costs more))

-- there are no more of them than parts
no_more : {nodes : List Node} {count : ℕ} → Costs nodes count → count ≤ weights nodes
no_more Nothing = omega arith
no_more (Skips {node = node} {nodes = nodes} costs) = let less = no_more costs in omega arith
no_more (OfExpr {expr = expr} {nodes = nodes} inside others within costs) =
    let weighs = one_more (AnExpr expr) in let less = no_more within in let less' = no_more costs in omega (arith, weighs)
no_more (OfInit {init = init} {nodes = nodes} inside others within costs) =
    let weighs = one_more (AnInit init) in let less = no_more within in let less' = no_more costs in omega (arith, weighs)

-- initialisers with what is counted of each
abbrev SetCosts : List (Set Init) → ℕ → Type 0
SetCosts sets count = AllWeigh (λ (set : Set Init) (n : ℕ). Costs (AnInit set.init ∷ []) n) sets count

split : (one other : List (Set Init)) (count : ℕ) → SetCosts (one ++ other) count → (first : ℕ) × (second : ℕ) × SetCosts one first × SetCosts other second × (count ≡ first + second)
split [] other count costs = (0, count, refl, costs, (let e : count ≡ 0 + count = omega arith in e))
split (set ∷ one) other count (here, others, cost, costs, is) =
    let rest = split one other others costs in
    let so = rest.4 in
    (here + rest.0, rest.1, (here, rest.0, cost, rest.2, refl), rest.3, (let e : count ≡ here + rest.0 + rest.1 = omega (arith, is, so) in e))

-- those of a declaration stand in it
set_there : (place : Place) (init : Option Init) (count : ℕ) → SetCosts (set_of place init) count → Costs (in_init init) count
set_there place None count is = same_count (sym is) Nothing
set_there place (Some init) count (here, others, cost, nothing, is) = same_count (let e : here ≡ count = omega (arith, nothing, is) in e) cost

names_there : (names : List Declared) (count : ℕ) → SetCosts (flat_map set_by names) count → Costs (flat_map in_name names) count
names_there [] count is = same_count (sym is) Nothing
names_there (name ∷ names) count costs =
    let parts = split (set_by name) (flat_map set_by names) count costs in
    let is = parts.4 in
    let here = set_there (out-Declared name).place (out-Declared name).init parts.0 parts.2 in
    same_count (let e : 0 + (0 + parts.0) + parts.1 ≡ count = omega (arith, is) in e)
    (both (both (none (in_sizes (out-Declared name).sizes)) (both (none (in_params (out-Declared name).params)) here)) (names_there names parts.1 parts.3))

clause_there : (clause : Clause) (count : ℕ) → SetCosts (sets_in_clause clause) count → Costs (in_clause clause) count
clause_there (tree.Declare decl) count costs = Skips (names_there (out-Decl decl).names count costs)
clause_there clause count is = same_count (sym is) (none (in_clause clause))

node_there : (node : Node) (count : ℕ) → SetCosts (sets_at node) count → Costs (in_node node) count
node_there (AStmt stmt) count costs = clause_there (out-StmtForm stmt.form) count costs
node_there (AnExpr expr) count is = same_count (sym is) (none (in_node (AnExpr expr)))
node_there (SomeWords spec) count is = same_count (sym is) (none (in_node (SomeWords spec)))
node_there (AnInit init) count is = same_count (sym is) (none (in_node (AnInit init)))

-- What is counted of all initialisers in parts of trees, and of these parts themselves, is no more than there are parts.
within_parts : (fuel sets : ℕ) {nodes : List Node} {count : ℕ} → Costs nodes count → SetCosts (sets_within fuel nodes) sets → sets + count ≤ weights nodes
within_parts zero sets costs is = let less = no_more costs in omega (arith, is)
within_parts (suc fuel) sets Nothing is = omega (arith, is)
within_parts (suc fuel) sets {count = count} (Skips {node = node} {nodes = nodes} costs) found =
    let parts = split (sets_at node) (sets_within fuel (in_node node ++ nodes)) sets found in
    let is = parts.4 in
    let less = within_parts fuel parts.1 (both (node_there node parts.0 parts.2) costs) parts.3 in
    let weighs = one_more node in
    let append = weights-append (in_node node) nodes in
    omega (arith, is, weighs, append)
within_parts (suc fuel) sets (OfExpr {expr = expr} {nodes = nodes} inside others within costs) found =
    let less = within_parts fuel sets (both within costs) found in
    let weighs = one_more (AnExpr expr) in
    let append = weights-append (in_node (AnExpr expr)) nodes in
    omega (arith, weighs, append)
within_parts (suc fuel) sets (OfInit {init = init} {nodes = nodes} inside others within costs) found =
    let less = within_parts fuel sets (both within costs) found in
    let weighs = one_more (AnInit init) in
    let append = weights-append (in_node (AnInit init)) nodes in
    omega (arith, weighs, append)

-- and so in items
item_there : (item : Item) (count : ℕ) → SetCosts (sets_in_item item) count → Costs (in_item item) count
item_there (DeclareItem decl) count costs = Skips (names_there (out-Decl decl).names count costs)
item_there Empty count is = same_count (sym is) Nothing
item_there (Function spec storage head body close) count is = same_count (sym is) (none (in_item (Function spec storage head body close)))

in_items : (items : List Item) (count : ℕ) → SetCosts (flat_map sets_of items) count → count ≤ nodes_in items
in_items [] count is = omega (arith, is)
in_items (item ∷ items) count costs =
    let parts = split (sets_of item) (flat_map sets_of items) count costs in
    let here = split (sets_in_item item) (sets_within (nodes_of item) (in_item item)) parts.0 parts.2 in
    let less = within_parts (nodes_of item) here.1 (item_there item here.0 here.2) here.3 in
    let more = in_items items parts.1 parts.3 in
    let is = parts.4 in
    let is' = here.4 in
    let weighs = item_weighs item in
    omega (arith, is, is', weighs)

-- of the static ones alone, too
static_costs : (p : Program) (sets : List (Set Init)) (count : ℕ) → SetCosts (static_sets p sets) count → SetCosts sets count
static_costs p [] count is = is
static_costs p (set ∷ sets) count costs = by_test (is_static p set.place.at) costs (static_costs p sets)
  where
    by_test : (static : Bool) → SetCosts (if static then set ∷ static_sets p sets else static_sets p sets) count → ((others : ℕ) → SetCosts (static_sets p sets) others → SetCosts sets others) → SetCosts (set ∷ sets) count
    by_test true (here, others, cost, rest, is) more = (here, others, cost, more others rest, is)
    by_test false costs' more = (0, count, Skips Nothing, more count costs', (let e : count ≡ 0 + count = omega arith in e))

-- What is worked out of an expression and of an initialiser is counted.
exprs_there : (exprs : List Expr) (count : ℕ) → AllWeigh (λ (expr : Expr) (n : ℕ). Costs (AnExpr expr ∷ []) n) exprs count → Costs (map AnExpr exprs) count
exprs_there [] count is = same_count (sym is) Nothing
exprs_there (expr ∷ exprs) count (here, others, cost, rest, is) = same_count (sym is) (both cost (exprs_there exprs others rest))

inits_there : (parts : List InitPart) (count : ℕ) → AllWeigh (λ (init : Init) (n : ℕ). Costs (AnInit init ∷ []) n) (map (λ part. (out-InitPart part).init) parts) count →
    Costs (map (λ part. AnInit (out-InitPart part).init) parts) count
inits_there [] count is = same_count (sym is) Nothing
inits_there (part ∷ parts) count (here, others, cost, rest, is) = same_count (sym is) (both cost (inits_there parts others rest))

layer_there : (p : Program) (expr : Expr) (layer : Layer) (count : ℕ) → AllWeigh (λ (part : Expr) (n : ℕ). Costs (AnExpr part ∷ []) n) (parts_of (form_of p expr layer)) count → Costs (in_form layer) count
layer_there p expr (tree.Unary op arg) count costs = exprs_there (arg ∷ []) count costs
layer_there p expr (tree.Binary op left right) count costs = exprs_there (left ∷ right ∷ []) count costs
layer_there p expr (tree.Choose test one other) count costs = exprs_there (test ∷ one ∷ other ∷ []) count costs
layer_there p expr (tree.Cast to arg) count costs = same_count (let e : 0 + count ≡ count = omega arith in e) (both (none (in_type_name to)) (exprs_there (arg ∷ []) count costs))
layer_there p expr (tree.Index base index) count costs = exprs_there (base ∷ index ∷ []) count costs
layer_there p expr (tree.ExprForm::Member base name false) count costs = exprs_there (base ∷ []) count costs
layer_there p expr (tree.ExprForm::Member base name true) count costs = exprs_there (base ∷ []) count costs
layer_there p expr layer count is = same_count (sym is) (none (in_form layer))

abbrev value_in : Initialiser Expr Init → Option Expr
value_in (Value value after) = Some value
value_in (Braces parts) = None

abbrev parts_in : Initialiser Expr Init → Option (List Init)
parts_in (Value value after) = None
parts_in (Braces parts) = Some parts

value_there : (layer : InitialiserLayer) (value : Expr) (after : Place) (count : ℕ) → initialiser_of layer ≡ Value value after → Costs (AnExpr value ∷ []) count → Costs (in_initialiser layer) count
value_there (tree.Value value' after') value after count is costs = subst (λ (expr : Expr). Costs (AnExpr expr ∷ []) count) (sym (same_Some value' value (ap value_in is))) costs
value_there (tree.Braces parts) value after count is costs = absurd (none-some value (ap value_in is))

braces_there : (layer : InitialiserLayer) (inits : List Init) (count : ℕ) → initialiser_of layer ≡ Braces inits → AllWeigh (λ (init : Init) (n : ℕ). Costs (AnInit init ∷ []) n) inits count → Costs (in_initialiser layer) count
braces_there (tree.Value value after) inits count is costs = absurd (none-some inits (ap parts_in is))
braces_there (tree.Braces parts) inits count is costs =
    inits_there parts count (subst (λ (list : List Init). AllWeigh (λ (init : Init) (n : ℕ). Costs (AnInit init ∷ []) n) list count) (sym (same_Some (map (λ part. (out-InitPart part).init) parts) inits (ap parts_in is))) costs)

alone : (count : ℕ) → suc (count + 0) ≡ suc count
alone count = omega arith

abbrev counted : (p : Program) → Weighing (text_of p)
counted p = record {
  expr = λ expr n. Costs (AnExpr expr ∷ []) n;
  init = λ init n. Costs (AnInit init ∷ []) n;
  nothing = λ expr. Skips Nothing;
  one_more = λ expr count costs. same_count (alone count) (OfExpr count 0 (layer_there p expr (out-ExprForm expr.form) count costs) Nothing);
  value = λ init value after count is costs. same_count (alone count) (OfInit count 0 (value_there (out-Init init) value after count is costs) Nothing);
  braces = λ init parts count is costs. same_count (alone count) (OfInit count 0 (braces_there (out-Init init) parts count is costs) Nothing);
}

pub steps_enough : (p : Program) → HasSteps (text_of p)
steps_enough p = record {
  weighing = counted p;
  steps = 8 * nodes_in p.items;
  enough = ap (λ (n : ℕ). n + 8 * nodes_in p.items) (sym (length-map (static_rows p) (object_of p)));
  few = λ count costs. let less = in_items p.items count (static_costs p (flat_map sets_of p.items) count costs) in omega arith;
}

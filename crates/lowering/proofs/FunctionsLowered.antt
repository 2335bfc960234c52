-- Bodies of functions, from their entries on: the objects of the outermost block are made beside the parameters, and then the statements of the body run.
use Rattle.std.proofs.Common.{◌≡◌, ℕ, zero, suc, ◌+◌, ◌≤◌, true, false, not, List, [], ◌∷◌, ◌++◌, map, length, refl, sym, ap, subst, ◌∙◌, arith, append-nil, append_assoc, Option, Some, nat_eq, slice_get}
use Rattle.std.specs.Option.{option_map_or}
use Rattle.std.proofs.lemmas.Bool.{and_from, not_from_false, ne_eqb}
use Rattle.std.proofs.lemmas.List.{length-append, length-map}
use Rattle.std.proofs.lemmas.Option.{same_Some, none-some}
use Rattle.cbase.specs.declared.place.Place.{Place}
use Rattle.c_machine.specs.declared.object.Object.{Object}
use Rattle.c_machine.specs.declared.task.Task.TheVariants.{Execute, EndOfBody}
use Rattle.c_machine.specs.Calls.{body_tasks}
use Rattle.c_machine.specs.State.{TaskIn}
use Rattle.c_machine.specs.Text.{Function, Text}
use Rattle.flow.specs.declared.flow_graph.Flow.{Flow}
use Rattle.flow.specs.declared.flow_graph.FlowFunction.{FlowFunction}
use Rattle.flow.specs.declared.flow_graph.Variable.{Variable}
use Rattle.flow.specs.declared.instruction.Instr.TheVariants as i
use Rattle.simulation.specs.Edges.{One}
use Rattle.simulation.specs.Functions.{IsFunctionLowered, IsMainLowered}
use Rattle.simulation.specs.Lowered.{Lowered, Widens}
use Rattle.simulation.specs.Names.{Name, variables_of, is_other, are_new, AreMade}
use Rattle.simulation.specs.Running.{Setting, Running, Result}
use Rattle.lowering.specs.Lowering.{flow_function, place_function, place_functions}
use Rattle.simulation.specs.Names.{Name as NameHere}
use Rattle.lowering.specs.Placing.{Made, named_from, objects_in}
use Rattle.lowering.proofs.BlocksMade.{blocks_made}
use Rattle.lowering.proofs.Placings.{IsSound}
use Rattle.lowering.proofs.FunctionsPlaced.{function_placing}
use Rattle.lowering.proofs.StaticsLowered.{told}

-- the variables of objects stand in the graph in order, behind those that were there
abbrev pub locals_of : List Object → List Variable
locals_of objects = map (λ object. record { size = object.bytes; fixed = false }) objects

behind_front : {X : Type 0} (front back : List X) (x : X) → slice_get (front ++ x ∷ back) (length front) ≡ Some x
behind_front [] back x = refl
behind_front (first ∷ front) back x = behind_front front back x

pub objects_are_made : (flow : Flow) (front back : List Variable) (objects : List Object) (first : ℕ) → flow.variables ≡ front ++ (locals_of objects ++ back) → length front ≡ first →
    AreMade flow objects (told (named_from first objects))
objects_are_made flow front back [] first variables count = tt
objects_are_made flow front back (object ∷ objects) first variables count =
    let new : Variable = record { size = object.bytes; fixed = false } in (
      refl,
      ap (λ (found : Option Variable). option_map_or (λ variable. variable.size) found 0)
          (ap (λ (list : List Variable). slice_get list first) variables
          ∙ subst (λ (n : ℕ). slice_get (front ++ new ∷ (locals_of objects ++ back)) n ≡ Some new) count (behind_front front (locals_of objects ++ back) new)),
      objects_are_made flow (front ++ new ∷ []) back objects (suc first) (variables ∙ sym (append_assoc front (new ∷ []) (locals_of objects ++ back)))
          (length-append front (new ∷ []) ∙ (let e : length front + 1 ≡ suc first = omega (arith, count) in e)),
    )

-- numbers that were not taken are new
pub are_new_from : (objects : List Object) (first : ℕ) (others : List Name) → ((variable : ℕ) → first ≤ variable → is_other variable others ≡ true) → are_new (told (named_from first objects)) others ≡ true
are_new_from [] first others each = refl
are_new_from (object ∷ objects) first others each =
    and_from (is_other first others) (are_new (told (named_from (suc first) objects)) (record { token = object.token; variable = first } ∷ others)) (each first (omega arith))
    (are_new_from objects (suc first) (record { token = object.token; variable = first } ∷ others)
    (λ variable least. and_from (not (nat_eq first variable)) (is_other variable others) (not_from_false (nat_eq first variable) (ne_eqb first variable (λ same. absurd (omega arith)))) (each variable (omega arith))))

-- numbers behind those of objects are none of theirs
pub others_behind : (objects : List Object) (first variable : ℕ) → first + length objects ≤ variable → is_other variable (told (named_from first objects)) ≡ true
others_behind [] first variable least = refl
others_behind (object ∷ objects) first variable least =
    and_from (not (nat_eq first variable)) (is_other variable (told (named_from (suc first) objects)))
    (not_from_false (nat_eq first variable) (ne_eqb first variable (λ same. absurd (omega arith)))) (others_behind objects (suc first) variable (omega arith))

-- A body, where its statements are lowered behind the edge that makes its objects.
pub body_lowered : (t : Text) (flow : Flow) (setting : Setting) (running : Running) (function : Function t.Stmt) (front back : List Variable) (params : List Name) (first entry to : ℕ) (place : Place) (held : ℕ) →
    flow.variables ≡ front ++ (locals_of (objects_in t function.body) ++ back) → length front ≡ first → ((variable : ℕ) → first ≤ variable → is_other variable params ≡ true) →
    One flow entry (i.Enter (variables_of (told (named_from first (objects_in t function.body))))) to place →
    Lowered t flow setting running [] [] ((params ++ told (named_from first (objects_in t function.body))) ∷ [])
    (map Execute function.body ++ EndOfBody function.is_main function.result function.close held ∷ []) [] to →
    Lowered t flow setting running [] [] (params ∷ []) (body_tasks t function held) [] entry
body_lowered t flow setting running function front back params first entry to place held variables count apart edge lowered =
    let names : List Name = told (named_from first (objects_in t function.body)) in
    let statements : List (TaskIn t) = map Execute function.body ++ EndOfBody function.is_main function.result function.close held ∷ [] in
    subst (λ (makes : List (TaskIn t)). Lowered t flow setting running [] [] (params ∷ []) (makes ++ statements) [] entry) (sym (blocks_made t function.body))
    (Widens (objects_in t function.body) params names to place refl (objects_are_made flow front back (objects_in t function.body) first variables count)
    (are_new_from (objects_in t function.body) first (params ++ []) (λ variable least. subst (λ (list : List Name). is_other variable list ≡ true) (sym (append-nil params)) (apart variable least)))
    edge lowered)

-- What is made of a function in front of its statements: `before` is what was made before it.
abbrev pub params_of : (t : Text) → Function t.Stmt → List Object
params_of t function = map (λ param. param.object) function.params

abbrev pub params_at : (t : Text) → Made → Function t.Stmt → List Name
params_at t before function = told (named_from (length before.variables) (params_of t function))

abbrev pub locals_at : (t : Text) → Made → Function t.Stmt → List Name
locals_at t before function = told (named_from (length before.variables + length function.params) (objects_in t function.body))

-- the statements of a body are lowered behind the edge that makes its objects, and the variables of the function stand in the graph
pub record IsBodySpelled (t : Text) (flow : Flow) (setting : Setting) (running : Running) (before : Made) (function : Function t.Stmt) (held : ℕ) : Type 0 where
  pub back : List Variable
  pub variables : flow.variables ≡ (before.variables ++ locals_of (params_of t function)) ++ (locals_of (objects_in t function.body) ++ back)
  pub to : ℕ
  pub place : Place
  pub edge : One flow before.points (i.Enter (variables_of (locals_at t before function))) to place
  pub statements : Lowered t flow setting running [] [] ((params_at t before function ++ locals_at t before function) ∷ [])
      (map Execute function.body ++ EndOfBody function.is_main function.result function.close held ∷ []) [] to

variables_told : (names : List NameHere) → variables_of (told names) ≡ map (λ name. name.variable) names
variables_told [] = refl
variables_told (name ∷ names) = ap (λ (rest : List ℕ). name.variable ∷ rest) (variables_told names)

count_params : (t : Text) (before : Made) (function : Function t.Stmt) → length (before.variables ++ locals_of (params_of t function)) ≡ length before.variables + length function.params
count_params t before function =
    length-append before.variables (locals_of (params_of t function))
    ∙ ap (λ (n : ℕ). length before.variables + n)
    (length-map (params_of t function) (λ object. record { size = object.bytes; fixed = false }) ∙ length-map function.params (λ param. param.object))

pub params_made : (t : Text) (flow : Flow) (setting : Setting) (running : Running) (before : Made) (function : Function t.Stmt) (held : ℕ) → IsBodySpelled t flow setting running before function held →
    AreMade flow (params_of t function) (params_at t before function)
params_made t flow setting running before function held body =
    objects_are_made flow before.variables (locals_of (objects_in t function.body) ++ body.back) (params_of t function) (length before.variables)
    (body.variables ∙ append_assoc before.variables (locals_of (params_of t function)) (locals_of (objects_in t function.body) ++ body.back)) refl

pub params_new : (t : Text) (before : Made) (function : Function t.Stmt) → are_new (params_at t before function) [] ≡ true
params_new t before function = are_new_from (params_of t function) (length before.variables) [] (λ variable least. refl)

pub whole_body : (t : Text) (flow : Flow) (setting : Setting) (running : Running) (before : Made) (function : Function t.Stmt) (held : ℕ) → IsBodySpelled t flow setting running before function held →
    Lowered t flow setting running [] [] (params_at t before function ∷ []) (body_tasks t function held) [] before.points
whole_body t flow setting running before function held body =
    body_lowered t flow setting running function (before.variables ++ locals_of (params_of t function)) body.back (params_at t before function) (length before.variables + length function.params)
    before.points body.to body.place held body.variables (count_params t before function)
    (λ variable least. others_behind (params_of t function) (length before.variables) variable
    (let count = length-map function.params (λ param. param.object) in omega (arith, count)))
    body.edge body.statements

-- a function that is called, and the main with which a run begins
pub function_lowered : (t : Text) (flow : Flow) (setting : Setting) (number called : ℕ) (before : Made) (function : Function t.Stmt) → slice_get flow.functions called ≡ Some (flow_function t before function) →
    ((base : ℕ) → IsBodySpelled t flow setting (record { base = base; closes = false; gives = setting.gives number }) before function base) → IsFunctionLowered t flow setting number called function
function_lowered t flow setting number called before function stands body = record {
  there = flow_function t before function;
  stands = stands;
  names = params_at t before function;
  parameters = sym (variables_told (named_from (length before.variables) (params_of t function)));
  made = params_made t flow setting (record { base = 0; closes = false; gives = setting.gives number }) before function 0 (body 0);
  new = params_new t before function;
  body = λ base. whole_body t flow setting (record { base = base; closes = false; gives = setting.gives number }) before function base (body base);
}

pub main_lowered : (t : Text) (flow : Flow) (setting : Setting) (gives : Result) (before : Made) (main : Function t.Stmt) → slice_get flow.functions flow.main ≡ Some (flow_function t before main) →
    IsBodySpelled t flow setting (record { base = 0; closes = t.strict; gives = gives }) before main 0 → IsMainLowered t flow setting main
main_lowered t flow setting gives before main stands body = record {
  there = flow_function t before main;
  stands = stands;
  names = params_at t before main;
  parameters = sym (variables_told (named_from (length before.variables) (params_of t main)));
  made = params_made t flow setting (record { base = 0; closes = t.strict; gives = gives }) before main 0 body;
  new = params_new t before main;
  gives = gives;
  body = whole_body t flow setting (record { base = 0; closes = t.strict; gives = gives }) before main 0 body;
}

-- functions stand in the graph in the order of the text
pub front_found : {X : Type 0} (front back : List X) (number : ℕ) (x : X) → slice_get front number ≡ Some x → slice_get (front ++ back) number ≡ Some x
front_found [] back number x is = absurd (none-some x is)
front_found (first ∷ front) back zero x is = is
front_found (first ∷ front) back (suc number) x is = front_found front back number x is

functions_stay : (t : Text) (statics : List NameHere) (functions : List (Function t.Stmt)) (made : Made) (placed : List FlowFunction) (number : ℕ) (found : FlowFunction) → slice_get placed number ≡ Some found →
    slice_get (place_functions t statics functions made placed).functions number ≡ Some found
functions_stay t statics [] made placed number found is = is
functions_stay t statics (function ∷ functions) made placed number found is =
    functions_stay t statics functions (place_function t statics false made function) (placed ++ flow_function t made function ∷ []) number found (front_found placed (flow_function t made function ∷ []) number found is)

-- each behind those in front of it
pub record IsPlacedAt (t : Text) (statics : List NameHere) (functions : List (Function t.Stmt)) (made : Made) (placed : List FlowFunction) (number : ℕ) (function : Function t.Stmt) : Type 0 where
  pub before : Made
  pub sound : IsSound made → IsSound before
  pub behind : List (Function t.Stmt)
  pub placed' : List FlowFunction
  pub goes_on : place_functions t statics functions made placed ≡ place_functions t statics behind (place_function t statics false before function) placed'
  pub stands : slice_get (place_functions t statics functions made placed).functions (length placed + number) ≡ Some (flow_function t before function)

pub placed_at : (t : Text) (statics : List NameHere) (functions : List (Function t.Stmt)) (made : Made) (placed : List FlowFunction) (number : ℕ) (function : Function t.Stmt) →
    slice_get functions number ≡ Some function → IsPlacedAt t statics functions made placed number function
placed_at t statics [] made placed number function is = absurd (none-some function is)
placed_at t statics (first ∷ functions) made placed zero function is = record {
  before = made;
  sound = λ sound. sound;
  behind = functions;
  placed' = placed ++ flow_function t made first ∷ [];
  goes_on = ap (λ (f : Function t.Stmt). place_functions t statics functions (place_function t statics false made f) (placed ++ flow_function t made first ∷ [])) (same_Some first function is);
  stands = subst (λ (n : ℕ). slice_get (place_functions t statics functions (place_function t statics false made first) (placed ++ flow_function t made first ∷ [])).functions n ≡ Some (flow_function t made function))
      (let e : length placed ≡ length placed + 0 = omega arith in e)
      (functions_stay t statics functions (place_function t statics false made first) (placed ++ flow_function t made first ∷ []) (length placed) (flow_function t made function)
      (behind_front placed [] (flow_function t made first) ∙ ap (λ (f : Function t.Stmt). Some (flow_function t made f)) (same_Some first function is)));
}
placed_at t statics (first ∷ functions) made placed (suc number) function is =
    let more = placed_at t statics functions (place_function t statics false made first) (placed ++ flow_function t made first ∷ []) number function is in
    record {
      before = more.before;
      sound = λ sound. more.sound (function_placing t statics false made first sound).sound;
      behind = more.behind;
      placed' = more.placed';
      goes_on = more.goes_on;
      stands = subst (λ (n : ℕ). slice_get (place_functions t statics functions (place_function t statics false made first) (placed ++ flow_function t made first ∷ [])).functions n ≡ Some (flow_function t more.before function))
          (ap (λ (n : ℕ). n + number) (length-append placed (flow_function t made first ∷ [])) ∙ (let e : length placed + 1 + number ≡ length placed + suc number = omega arith in e)) more.stands;
    }

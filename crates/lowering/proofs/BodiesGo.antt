-- The bodies of functions: their statements go from the edge that makes their objects to their `}`.
use Rattle.std.proofs.Common.{◌≡◌, ◌≤◌, ℕ, suc, ◌+◌, List, [], ◌∷◌, ◌++◌, map, length, Bool, true, false, not, nat_eq, refl, sym, ap, subst, ◌∙◌, arith, append_assoc, append-nil, Option, Some, slice_get, if◌then◌else◌}
use Rattle.std.specs.List.{list_all}
use Rattle.std.specs.Option.{option_map_or}
use Rattle.std.proofs.lemmas.Bool.{false≢true, and_from, and_parts, not_from_false, ne_eqb}
use Rattle.std.proofs.lemmas.List.{length-append, length-map}
use Rattle.std.proofs.lemmas.Option.{same_Some, none-some}
use Rattle.c_machine.specs.declared.kind.Kind.{Kind}
use Rattle.c_machine.specs.declared.kind.Kind.TheVariants.{Integer, Pointer, Array, Struct, Void}
use Rattle.c_machine.specs.declared.object.Object.{Object}
use Rattle.c_machine.specs.declared.task.Task.TheVariants.{Execute, EndOfBody, LeaveFunction}
use Rattle.c_machine.specs.State.{TaskIn, is_named}
use Rattle.c_machine.specs.Statements.{loop_left, body_left}
use Rattle.c_machine.specs.Text.{Function, Text}
use Rattle.flow.specs.declared.flow_graph.Flow.{Flow}
use Rattle.flow.specs.declared.flow_graph.Standing.{Standing as Stood}
use Rattle.flow.specs.declared.flow_graph.Variable.{Variable}
use Rattle.flow.specs.declared.instruction.Instr.TheVariants as i
use Rattle.flow.specs.Valid.{is_local, IsFlow}
use Rattle.simulation.specs.Edges.{One}
use Rattle.simulation.specs.Lowered.{Lowered}
use Rattle.simulation.specs.Names.{Name, variables_of, variable_in, is_other, are_new}
use Rattle.simulation.specs.Running.{Running, Result, given_slot}
use Rattle.simulation.specs.Slots.{InRegister, KnownAs}
use Rattle.lowering.specs.Kinds.{is_void}
use Rattle.lowering.specs.Lowering.{parameter_objects, end_moves}
use Rattle.lowering.specs.Moves.{Move, Does}
use Rattle.lowering.specs.Placing.{Made, Around, stands_at, after, named_from, objects_in, enters, go}
use Rattle.lowering.specs.Table.{result_into}
use Rattle.lowering.proofs.BodiesSpelled.{in_front, locals_named, around_function, IsFunctionSpelled}
use Rattle.lowering.proofs.FunctionsLowered.{IsBodySpelled}
use Rattle.cbase.specs.declared.abi.Abi.{Abi}
use Rattle.lowering.proofs.GraphParts.{IsGraphOf, PlacesLocals, statics_made_of, placed_of}
use Rattle.lowering.proofs.Jumping.{AreApart, given_by, HasExit, AreJumps}
use Rattle.lowering.proofs.Joined.{ExpressionsMore, all_at}
use Rattle.lowering.proofs.Modes.{IsAround}
use Rattle.lowering.proofs.Placed.{go_placing}
use Rattle.lowering.proofs.PlacedForms.{along_placing}
use Rattle.lowering.proofs.ProgramsMeet.{setting_of, DoBodiesGo, told_same}
use Rattle.lowering.proofs.SpellingCalls.{given_of}
use Rattle.lowering.proofs.StaticsLowered.{told}
use Rattle.lowering.proofs.StatementsJumps.{LeavesWith, leave_form, end_slot, end_form, moves_begin}
use Rattle.lowering.proofs.Doing.{IsKept, DoesIs, behind_edge}
use Rattle.lowering.proofs.DoingBlocks.{locals}
use Rattle.lowering.proofs.DoingJumps.{left_at, may_lead}

-- names of objects behind one another
named_more : (first : ℕ) (one other : List Object) → named_from first (one ++ other) ≡ named_from first one ++ named_from (first + length one) other
named_more first [] other = ap (λ (n : ℕ). named_from n other) (let e : first ≡ first + 0 = omega arith in e)
named_more first (object ∷ one) other =
    ap (λ (names : List Name). record { token = object.token; variable = first } ∷ names)
    (named_more (suc first) one other ∙ ap (λ (n : ℕ). named_from (suc first) one ++ named_from n other) (let e : suc first + length one ≡ first + suc (length one) = omega arith in e))

-- numbers that were not taken are new
new_from : (objects : List Object) (first : ℕ) (others : List Name) → ((variable : ℕ) → first ≤ variable → is_other variable others ≡ true) → are_new (named_from first objects) others ≡ true
new_from [] first others each = refl
new_from (object ∷ objects) first others each =
    and_from (is_other first others) (are_new (named_from (suc first) objects) (record { token = object.token; variable = first } ∷ others)) (each first (omega arith))
    (new_from objects (suc first) (record { token = object.token; variable = first } ∷ others)
    (λ variable least. and_from (not (nat_eq first variable)) (is_other variable others) (not_from_false (nat_eq first variable) (ne_eqb first variable (λ same. absurd (omega arith)))) (each variable (omega arith))))

behind_front : {X : Type 0} (front back : List X) (x : X) → slice_get (front ++ x ∷ back) (length front) ≡ Some x
behind_front [] back x = refl
behind_front (first ∷ front) back x = behind_front front back x

found_at : (flow : Flow) (front back : List Variable) (variable : Variable) (number : ℕ) → flow.variables ≡ front ++ variable ∷ back → length front ≡ number → is_local flow number ≡ not variable.fixed
found_at flow front back variable number variables count =
    ap (λ (found : Option Variable). option_map_or (λ one. not one.fixed) found false)
    (ap (λ (list : List Variable). slice_get list number) variables ∙ subst (λ (n : ℕ). slice_get (front ++ variable ∷ back) n ≡ Some variable) count (behind_front front back variable))

-- variables of functions are local, and those of static objects are not
all_local : (flow : Flow) (front back : List Variable) (objects : List Object) (first : ℕ) → flow.variables ≡ front ++ (locals objects ++ back) → length front ≡ first →
    list_all (λ name. is_local flow name.variable) (named_from first objects) ≡ true
all_local flow front back [] first variables count = refl
all_local flow front back (object ∷ objects) first variables count =
    let new : Variable = record { size = object.bytes; fixed = false } in
    and_from (is_local flow first) (list_all (λ name. is_local flow name.variable) (named_from (suc first) objects))
    (found_at flow front (locals objects ++ back) new first variables count)
    (all_local flow (front ++ new ∷ []) back objects (suc first) (variables ∙ sym (append_assoc front (new ∷ []) (locals objects ++ back)))
    (length-append front (new ∷ []) ∙ (let e : length front + 1 ≡ suc first = omega (arith, count) in e)))

abbrev pub fixed_of : List Object → List Variable
fixed_of objects = map (λ object. record { size = object.bytes; fixed = true }) objects

pub none_local : (flow : Flow) (front back : List Variable) (objects : List Object) (first : ℕ) → flow.variables ≡ front ++ (fixed_of objects ++ back) → length front ≡ first →
    (token variable : ℕ) → variable_in (named_from first objects) token ≡ Some variable → is_local flow variable ≡ false
none_local flow front back [] first variables count token variable is = absurd (none-some variable is)
none_local flow front back (object ∷ objects) first variables count token variable is =
    by_name (is_named object.token token) is
    (none_local flow (front ++ record { size = object.bytes; fixed = true } ∷ []) back objects (suc first)
    (variables ∙ sym (append_assoc front (record { size = object.bytes; fixed = true } ∷ []) (fixed_of objects ++ back)))
    (length-append front (record { size = object.bytes; fixed = true } ∷ []) ∙ (let e : length front + 1 ≡ suc first = omega (arith, count) in e)) token variable)
  where
    by_name : (here : Bool) → (if here then Some first else variable_in (named_from (suc first) objects) token) ≡ Some variable →
        (variable_in (named_from (suc first) objects) token ≡ Some variable → is_local flow variable ≡ false) → is_local flow variable ≡ false
    by_name true is' more =
        subst (λ (n : ℕ). is_local flow n ≡ false) (same_Some first variable is')
        (found_at flow front (fixed_of objects ++ back) (record { size = object.bytes; fixed = true }) first variables count)
    by_name false is' more = more is'

other_local : (flow : Flow) (variable : ℕ) (names : List Name) → is_local flow variable ≡ false → list_all (λ name. is_local flow name.variable) names ≡ true → is_other variable names ≡ true
other_local flow variable [] fixed all = refl
other_local flow variable (name ∷ names) fixed all =
    let parts = and_parts (is_local flow name.variable) (list_all (λ one. is_local flow one.variable) names) all in
    and_from (not (nat_eq name.variable variable)) (is_other variable names)
    (not_from_false (nat_eq name.variable variable) (ne_eqb name.variable variable (λ same. false≢true (sym fixed ∙ (ap (is_local flow) (sym same) ∙ parts.0)))))
    (other_local flow variable names fixed parts.1)

locals_more : (one other : List Object) → locals (one ++ other) ≡ locals one ++ locals other
locals_more [] other = refl
locals_more (object ∷ one) other = ap (λ (list : List Variable). record { size = object.bytes; fixed = false } ∷ list) (locals_more one other)

-- what a function gives
given_there : (kind : Kind) (register : ℕ) → given_slot (given_of kind) (result_into kind register) ≡ Some (given_by kind register)
given_there (Integer of) register = refl
given_there (Pointer item) register = refl
given_there (Array item) register = refl
given_there (Struct size) register = refl
given_there Void register = refl

module _ (t : Text) (flow : Flow) (running : Running) where
  -- all blocks are left with what a function gives at its `}`
  leaves_with : (levels : ℕ) (around : Around) (kind : Kind) → around.kind ≡ kind → AreApart around.scopes → HasExit t flow (setting_of t) running around → LeavesWith t flow (setting_of t) running levels around (end_slot t flow (setting_of t) running kind around.result)
  leaves_with levels around (Integer of) is apart exit made from standing word spelled now later =
      leave_form t flow (setting_of t) running levels around (InRegister around.result of.bytes true)
      (left_at t flow (setting_of t) running around (InRegister around.result of.bytes true) (ap (λ (k : Kind). given_by k around.result) is) apart exit) made from standing word spelled now later
  leaves_with levels around (Pointer item) is apart exit made from standing word spelled now later =
      may_lead t flow (setting_of t) running around now later (LeaveFunction word ∷ []) around.result 8 false true from (λ never. refl)
      (leave_form t flow (setting_of t) running levels around (InRegister around.result 8 false)
      (left_at t flow (setting_of t) running around (InRegister around.result 8 false) (ap (λ (k : Kind). given_by k around.result) is) apart exit) made from standing word spelled now later)
  leaves_with levels around (Array item) is apart exit made from standing word spelled now later =
      may_lead t flow (setting_of t) running around now later (LeaveFunction word ∷ []) around.result 8 false true from (λ never. refl)
      (leave_form t flow (setting_of t) running levels around (InRegister around.result 8 false)
      (left_at t flow (setting_of t) running around (InRegister around.result 8 false) (ap (λ (k : Kind). given_by k around.result) is) apart exit) made from standing word spelled now later)
  leaves_with levels around (Struct size) is apart exit made from standing word spelled now later =
      may_lead t flow (setting_of t) running around now later (LeaveFunction word ∷ []) around.result 8 false true from (λ never. refl)
      (leave_form t flow (setting_of t) running levels around (InRegister around.result 8 false)
      (left_at t flow (setting_of t) running around (InRegister around.result 8 false) (ap (λ (k : Kind). given_by k around.result) is) apart exit) made from standing word spelled now later)
  leaves_with levels around Void is apart exit made from standing word spelled now later =
      leave_form t flow (setting_of t) running levels around (KnownAs 0)
      (left_at t flow (setting_of t) running around (KnownAs 0) (ap (λ (k : Kind). given_by k around.result) is) apart exit) made from standing word spelled now later

-- a body, from what is promised of statements
pub body_goes : (t : Text) (flow : Flow) → ((token variable : ℕ) → variable_in (named_from 0 t.statics) token ≡ Some variable → is_local flow variable ≡ false) → (running : Running) →
    DoesIs t flow (setting_of t) running t.enough → (before : Made) (function : Function t.Stmt) → running.gives ≡ given_of function.result →
    IsFunctionSpelled t flow (named_from 0 t.statics) running.closes before function → IsBodySpelled t flow (setting_of t) running before function running.base
body_goes t flow fixed running does before function gives there =
    let statics : List Name = named_from 0 t.statics in
    let around : Around = around_function t statics running.closes before function in
    let start : Made = in_front t before function in
    let p : ℕ = before.points in
    let params : List Object = parameter_objects t function in
    let objects : List Object = objects_in t function.body in
    let names : List Name = locals_named t before function in
    let scope : List Name = named_from (length before.variables) params ++ names in
    let entered : Stood = after t (enters names function.close) (stands_at start p) in
    let ending : List (Move t) = end_moves t function around (is_void function.result) in
    let tasks : List (TaskIn t) = EndOfBody function.is_main function.result function.close running.base ∷ [] in
    let spelled = there.spelled in
    let placing = along_placing t around (go t.enough t around) (go_placing t.enough t around) start p (enters names function.close ∷ (map Does function.body ++ ending)) (suc p) spelled.inside spelled.sound in
    let back : List Variable = placing.variables.0 ++ spelled.variables.0 in
    let variables : flow.variables ≡ (before.variables ++ locals params) ++ (locals objects ++ back) =
    spelled.variables.1 ∙ (ap (λ (list : List Variable). list ++ spelled.variables.0) placing.variables.1
    ∙ (append_assoc ((before.variables ++ locals params) ++ locals objects) placing.variables.0 spelled.variables.0 ∙ append_assoc (before.variables ++ locals params) (locals objects) back)) in
    let variables' : flow.variables ≡ before.variables ++ (locals (params ++ objects) ++ back) =
    variables ∙ (append_assoc before.variables (locals params) (locals objects ++ back)
    ∙ ap (λ (list : List Variable). before.variables ++ list) (sym (append_assoc (locals params) (locals objects) back) ∙ ap (λ (list : List Variable). list ++ back) (sym (locals_more params objects)))) in
    let same : named_from (length before.variables) (params ++ objects) ≡ scope =
    named_more (length before.variables) params objects
    ∙ ap (λ (n : ℕ). named_from (length before.variables) params ++ named_from n objects)
    (ap (λ (n : ℕ). length before.variables + n) (length-map function.params (λ param. param.object))) in
    let new : are_new scope [] ≡ true =
    subst (λ (list : List Name). are_new list [] ≡ true) same (new_from (params ++ objects) (length before.variables) [] (λ variable least. refl)) in
    let local : list_all (λ name. is_local flow name.variable) scope ≡ true =
    subst (λ (list : List Name). list_all (λ name. is_local flow name.variable) list ≡ true) same (all_local flow before.variables back (params ++ objects) (length before.variables) variables' refl) in
    let good : IsAround (setting_of t) around =
    record {
      statics = refl;
      apart = λ token variable is. subst (λ (list : List Name). is_other variable list ≡ true) (sym (append-nil scope)) (other_local flow variable scope (fixed token variable is) local);
    } in
    let exit : HasExit t flow (setting_of t) running around =
    record {
      closes = refl;
      from = result_into function.result before.registers;
      given = ap (λ (g : Result). given_slot g (result_into function.result before.registers)) gives ∙ given_there function.result before.registers;
      to = suc (suc p);
      place = function.close;
      edge = there.exit;
    } in
    let jumps : AreJumps t flow (setting_of t) running around [] (loop_left tasks) (body_left tasks) (suc before.registers) [] =
    record {
      blocks = (new, tt);
      fixed = fixed;
      result = omega arith;
      under = tt;
      free = refl;
      loop = tt;
      returns = record { found = record { result = function.result; held = running.base; rest = [] }; is = refl; held = refl; rest = refl; result = refl; exit = exit };
    } in
    let kept : IsKept t flow (setting_of t) running around [] (loop_left tasks) (body_left tasks) (suc before.registers) start.registers [] = record { whole = refl; below = tt; own = omega arith; jumps = jumps } in
    let side = behind_edge t flow (setting_of t) running t.enough does around good entered tt ending (suc p) (moves_begin t flow (setting_of t) running function around entered (is_void function.result)) tasks [] (suc before.registers) refl []
    (λ now later within made' from' kept' here' spelled'.
    end_form t flow (setting_of t) running t.enough around function (leaves_with t flow running t.enough around function.result refl (new, tt) exit) made' from' entered spelled' now later running.base)
    [] (λ stop inside. inside) function.body start p (i.Enter (variables_of names)) function.close kept spelled in
    record {
      back = back;
      variables = variables;
      to = side.to;
      place = function.close;
      edge = subst (λ (list : List Name). One flow p (i.Enter (variables_of list)) side.to function.close) (sym (told_same names)) side.edge;
      statements = subst (λ (list : List Name). Lowered t flow (setting_of t) running [] [] (list ∷ []) (map Execute function.body ++ EndOfBody function.is_main function.result function.close running.base ∷ []) [] side.to)
          (ap (λ (list : List Name). list ++ names) (sym (told_same (named_from (length before.variables) params)))
          ∙ ap (λ (list : List Name). told (named_from (length before.variables) params) ++ list) (sym (told_same names))) side.goes;
    }

-- each body, where expressions keep their promise
pub bodies_go : (t : Text) (flow : Flow) (valid : IsFlow flow) → ((token variable : ℕ) → variable_in (named_from 0 t.statics) token ≡ Some variable → is_local flow variable ≡ false) →
    ((running : Running) → ExpressionsMore t flow (setting_of t) running valid) → DoBodiesGo t flow
bodies_go t flow valid fixed more running before function gives there =
    body_goes t flow fixed running (all_at t flow (setting_of t) running valid (more running) t.enough (omega arith)).does before function gives there

-- what a graph of a text has: static objects are no locals
pub statics_fixed : (abi : Abi) (t : Text) (flow : Flow) → IsGraphOf abi t flow → PlacesLocals (statics_made_of t) (placed_of t).made →
    (token variable : ℕ) → variable_in (named_from 0 t.statics) token ≡ Some variable → is_local flow variable ≡ false
statics_fixed abi t flow graph places token variable is =
    none_local flow [] places.others t.statics 0 (ap (λ (f : Flow). f.variables) (sym graph.is) ∙ places.variables) refl token variable is

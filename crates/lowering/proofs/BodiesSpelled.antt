-- What a flow graph of a text has of each function: the edges that were placed for its body, and the one out of its exit.
use Rattle.std.proofs.Common.{◌≡◌, ◌<◌, ℕ, suc, ◌+◌, Bool, true, false, List, [], ◌∷◌, ◌++◌, length, refl, sym, ap, subst, ◌∙◌, inl, inr, arith, append-nil, append_assoc, Option, None, Some, option_map, slice_get, if◌then◌else◌}
use Rattle.std.proofs.lemmas.Bool.{false≢true}
use Rattle.std.proofs.lemmas.List.{length-append}
use Rattle.std.proofs.lemmas.Option.{same_Some, none-some}
use Rattle.cbase.specs.declared.abi.Abi.{Abi}
use Rattle.c_machine.specs.Text.{Function, Text}
use Rattle.flow.specs.declared.flow_graph.Flow.{Flow}
use Rattle.flow.specs.declared.flow_graph.FlowEdge.{FlowEdge}
use Rattle.flow.specs.declared.flow_graph.FlowFunction.{FlowFunction}
use Rattle.flow.specs.declared.flow_graph.Standing.{Standing}
use Rattle.flow.specs.declared.flow_graph.Variable.{Variable}
use Rattle.flow.specs.declared.instruction.Instr.{Instr}
use Rattle.flow.specs.declared.instruction.Instr.TheVariants as i
use Rattle.simulation.specs.Edges.{One}
use Rattle.simulation.specs.Names.{Name}
use Rattle.lowering.specs.Table.{result_into}
use Rattle.lowering.specs.Lowering.{Functions, body_moves, at_entry, at_exit, nothing, around_body, parameter_objects, place_function, flow_function, place_functions, with_main, main_number}
use Rattle.lowering.specs.Placing.{Made, Around, emit, with_point, with_registers, with_objects, named_from, objects_in, along, go}
use Rattle.lowering.proofs.Placings.{outs, outs-same, edge_of, IsSound, IsPlacing, nothing_placed, then_placing, emit_placing, point_placing, registers_placing, objects_placing, IsSpelled, spelled_first}
use Rattle.lowering.proofs.FunctionsPlaced.{sound_start, body_placing, function_placing, functions_placing}
use Rattle.lowering.proofs.FunctionsLowered.{IsPlacedAt}
use Rattle.lowering.proofs.GraphParts.{IsGraphOf, statics_made_of, placed_of}

-- what is made of a function in front of its body
abbrev pub in_front : (t : Text) → Made → Function t.Stmt → Made
in_front t before function =
    with_registers 1 (with_point nothing (with_point (at_exit function.result before.registers) (with_point (at_entry (named_from (length before.variables) (parameter_objects t function)))
    (with_objects false (objects_in t function.body) (with_objects false (parameter_objects t function) before)))))

abbrev pub locals_named : (t : Text) → Made → Function t.Stmt → List Name
locals_named t before function = named_from (length before.variables + length function.params) (objects_in t function.body)

-- what stands around its body
abbrev pub around_function : (t : Text) → List Name → Bool → Made → Function t.Stmt → Around
around_function t statics closes before function =
    around_body statics (named_from (length before.variables) (parameter_objects t function) ++ locals_named t before function) function.result closes (suc before.points) before.registers

abbrev pub body_at : (t : Text) → List Name → Bool → Made → Function t.Stmt → Made
body_at t statics closes before function =
    along t (around_function t statics closes before function) (go t.enough t (around_function t statics closes before function)) (in_front t before function) before.points
    (body_moves t function (locals_named t before function) (around_function t statics closes before function)) (suc before.points)

front_placing : (t : Text) (before : Made) (function : Function t.Stmt) → IsSound before → IsPlacing before before.points (in_front t before function)
front_placing t before function sound =
    let p : ℕ = before.points in
    let m1 : Made = with_objects false (parameter_objects t function) before in
    let one = objects_placing (parameter_objects t function) before p sound in
    let m2 : Made = with_objects false (objects_in t function.body) m1 in
    let two = objects_placing (objects_in t function.body) m1 p one.sound in
    let params : List Name = named_from (length before.variables) (parameter_objects t function) in
    let m3 : Made = with_point (at_entry params) m2 in
    let three = point_placing (at_entry params) m2 p two.sound in
    let m4 : Made = with_point (at_exit function.result before.registers) m3 in
    let four = point_placing (at_exit function.result before.registers) m3 p three.sound in
    let m5 : Made = with_point nothing m4 in
    let five = point_placing nothing m4 p four.sound in
    let six = registers_placing 1 m5 p five.sound in
    then_placing (then_placing (then_placing (then_placing (then_placing one two (inl refl)) three (inl refl)) four (inl refl)) five (inl refl)) six (inl refl)

pub record IsFunctionSpelled (t : Text) (flow : Flow) (statics : List Name) (closes : Bool) (before : Made) (function : Function t.Stmt) : Type 0 where
  pub sound : IsSound before
  pub spelled : IsSpelled flow (in_front t before function) before.points (body_at t statics closes before function)
  pub exit : One flow (suc before.points) (i.Return (result_into function.result before.registers)) (suc (suc before.points)) function.close

-- what is placed behind at no point of its own is taken away
without_others : {flow : Flow} {before middle behind : Made} {from : ℕ} → IsSpelled flow before from behind → IsPlacing middle middle.points behind → IsSpelled flow before from middle
without_others {middle = middle} spelled placing =
    let h = placing.points in
    record {
      inside = spelled.inside;
      sound = spelled.sound;
      opened = spelled.opened;
      same = λ point below own. spelled.same point (omega arith) own ∙ placing.touches point below (λ same. absurd (omega arith));
      stands = (
        placing.stands.0 ++ spelled.stands.0,
        spelled.stands.1 ∙ (ap (λ list. list ++ spelled.stands.0) placing.stands.1 ∙ append_assoc middle.stands placing.stands.0 spelled.stands.0),
      );
      variables = (
        placing.variables.0 ++ spelled.variables.0,
        spelled.variables.1 ∙ (ap (λ list. list ++ spelled.variables.0) placing.variables.1 ∙ append_assoc middle.variables placing.variables.0 spelled.variables.0),
      );
      graph = placing.graph spelled.graph;
    }

-- where the graph has what is made in the end, it has each function of it
function_spelled : (t : Text) (flow : Flow) (statics : List Name) (closes : Bool) (before behind : Made) (function : Function t.Stmt) → IsSound before →
    IsPlacing (place_function t statics closes before function) (place_function t statics closes before function).points behind →
    ((point : ℕ) → point < behind.points → outs flow.edges point ≡ outs behind.edges point) → ((more : List Standing) × (flow.stands ≡ behind.stands ++ more)) →
    ((more : List Variable) × (flow.variables ≡ behind.variables ++ more)) → behind.is_graph ≡ true → IsFunctionSpelled t flow statics closes before function
function_spelled t flow statics closes before behind function sound later edges stands variables graph =
    let p : ℕ = before.points in
    let front = front_placing t before function sound in
    let around : Around = around_function t statics closes before function in
    let start : Made = in_front t before function in
    let names : List Name = locals_named t before function in
    let body = body_placing t around start function names p (suc p) (omega arith) (omega arith) (omega arith) front.sound in
    let made : Made = body_at t statics closes before function in
    let instr : Instr = i.Return (result_into function.result before.registers) in
    let h = body.points in
    let last = emit_placing made (suc p) (suc (suc p)) instr function.close (omega arith) body.sound in
    let k = later.points in
    let open_entry : outs start.edges p ≡ [] = sound.fresh p (omega arith) in
    let whole : IsSpelled flow start p behind =
    record {
      inside = omega arith;
      sound = front.sound;
      opened = open_entry;
      same = λ point below own. edges point below;
      stands = stands;
      variables = variables;
      graph = graph;
    } in
    let function_here : IsSpelled flow start p (emit made (suc p) instr (suc (suc p)) function.close) = without_others whole later in
    let open_exit : outs made.edges (suc p) ≡ [] = body.touches (suc p) (omega arith) (λ same. absurd (omega arith)) ∙ sound.fresh (suc p) (omega arith) in
    record {
      sound = sound;
      spelled = spelled_first function_here last (omega arith) (λ same. absurd (omega arith));
      exit = edges (suc p) (omega arith)
          ∙ (later.touches (suc p) (omega arith) (λ same. absurd (omega arith))
          ∙ (outs-same made.edges (suc p) (suc (suc p)) instr function.close ∙ ap (λ (list : List FlowEdge). list ++ edge_of (suc p) instr (suc (suc p)) function.close ∷ []) open_exit));
    }

-- functions of a text, and the main that may stand behind them once more
main_placing : (t : Text) (statics : List Name) (strict : Bool) (main : Option (Function t.Stmt)) (placed : Functions) → IsSound placed.made →
    IsPlacing placed.made placed.made.points (if strict then with_main t statics main placed else placed).made
main_placing t statics false main placed sound = nothing_placed placed.made placed.made.points sound
main_placing t statics true None placed sound = nothing_placed placed.made placed.made.points sound
main_placing t statics true (Some main) placed sound = function_placing t statics true placed.made main sound

abbrev pub functions_of : Text → Functions
functions_of t = place_functions t (named_from 0 t.statics) t.functions (statics_made_of t) []

sound_functions : (t : Text) → IsSound (functions_of t).made
sound_functions t = (functions_placing t (named_from 0 t.statics) t.functions (statics_made_of t) [] (sound_start t)).sound

edges_there : (abi : Abi) (t : Text) (flow : Flow) → IsGraphOf abi t flow → (point : ℕ) → outs flow.edges point ≡ outs (placed_of t).made.edges point
edges_there abi t flow graph point = ap (λ (f : Flow). outs f.edges point) (sym graph.is)

stands_there : (abi : Abi) (t : Text) (flow : Flow) → IsGraphOf abi t flow → (more : List Standing) × (flow.stands ≡ (placed_of t).made.stands ++ more)
stands_there abi t flow graph = ([], ap (λ (f : Flow). f.stands) (sym graph.is) ∙ sym (append-nil (placed_of t).made.stands))

variables_there : (abi : Abi) (t : Text) (flow : Flow) → IsGraphOf abi t flow → (more : List Variable) × (flow.variables ≡ (placed_of t).made.variables ++ more)
variables_there abi t flow graph = ([], ap (λ (f : Flow). f.variables) (sym graph.is) ∙ sym (append-nil (placed_of t).made.variables))

pub body_there : (abi : Abi) (t : Text) (flow : Flow) → IsGraphOf abi t flow → (number : ℕ) (function : Function t.Stmt) (at : IsPlacedAt t (named_from 0 t.statics) t.functions (statics_made_of t) [] number function) →
    IsFunctionSpelled t flow (named_from 0 t.statics) false at.before function
body_there abi t flow graph number function at =
    let statics : List Name = named_from 0 t.statics in
    let sound = at.sound (sound_start t) in
    let here = function_placing t statics false at.before function sound in
    let made : Made = place_function t statics false at.before function in
    let others = functions_placing t statics at.behind made at.placed' here.sound in
    let to_functions : IsPlacing made made.points (functions_of t).made = subst (λ (placed : Functions). IsPlacing made made.points placed.made) (sym at.goes_on) others in
    let k = to_functions.points in
    function_spelled t flow statics false at.before (placed_of t).made function sound
    (then_placing to_functions (main_placing t statics t.strict t.main (functions_of t) (sound_functions t)) (inr (omega arith)))
    (λ point below. edges_there abi t flow graph point) (stands_there abi t flow graph) (variables_there abi t flow graph) graph.graph

-- the main that stands a second time
abbrev with_second : (t : Text) → Bool → Option (Function t.Stmt) → Functions
with_second t strict main = if strict then with_main t (named_from 0 t.statics) main (functions_of t) else functions_of t

second_by : (abi : Abi) (t : Text) (flow : Flow) (strict : Bool) (found : Option (Function t.Stmt)) (main : Function t.Stmt) → strict ≡ true → found ≡ Some main →
    ((point : ℕ) → outs flow.edges point ≡ outs (with_second t strict found).made.edges point) → ((more : List Standing) × (flow.stands ≡ (with_second t strict found).made.stands ++ more)) →
    ((more : List Variable) × (flow.variables ≡ (with_second t strict found).made.variables ++ more)) →
    (with_second t strict found).made.is_graph ≡ true → IsFunctionSpelled t flow (named_from 0 t.statics) true (functions_of t).made main
second_by abi t flow false found main is there edges stands variables graph = absurd (false≢true is)
second_by abi t flow true None main is there edges stands variables graph = absurd (none-some main there)
second_by abi t flow true (Some function) main is there edges stands variables graph =
    let statics : List Name = named_from 0 t.statics in
    let here = function_placing t statics true (functions_of t).made function (sound_functions t) in
    let made : Made = place_function t statics true (functions_of t).made function in
    subst (λ (f : Function t.Stmt). IsFunctionSpelled t flow (named_from 0 t.statics) true (functions_of t).made f) (same_Some function main there)
    (function_spelled t flow statics true (functions_of t).made made function (sound_functions t) (nothing_placed made made.points here.sound) (λ point below. edges point) stands variables graph)

pub second_there : (abi : Abi) (t : Text) (flow : Flow) → IsGraphOf abi t flow → (main : Function t.Stmt) → t.strict ≡ true → t.main ≡ Some main → IsFunctionSpelled t flow (named_from 0 t.statics) true (functions_of t).made main
second_there abi t flow graph main is there =
    second_by abi t flow t.strict t.main main is there (λ point. edges_there abi t flow graph point) (stands_there abi t flow graph) (variables_there abi t flow graph) graph.graph

count_functions : (t : Text) (statics : List Name) (functions : List (Function t.Stmt)) (made : Made) (placed : List FlowFunction) →
    length (place_functions t statics functions made placed).functions ≡ length placed + length functions
count_functions t statics [] made placed = let e : length placed ≡ length placed + 0 = omega arith in e
count_functions t statics (function ∷ functions) made placed =
    count_functions t statics functions (place_function t statics false made function) (placed ++ flow_function t made function ∷ [])
    ∙ (ap (λ (n : ℕ). n + length functions) (length-append placed (flow_function t made function ∷ [])) ∙ (let e : length placed + 1 + length functions ≡ length placed + suc (length functions) = omega arith in e))

last_found : {X : Type 0} (front : List X) (x : X) → slice_get (front ++ x ∷ []) (length front) ≡ Some x
last_found [] x = refl
last_found (first ∷ front) x = last_found front x

second_stands_by : (t : Text) (strict : Bool) (found : Option (Function t.Stmt)) (main : Function t.Stmt) → strict ≡ true → found ≡ Some main →
    slice_get (with_second t strict found).functions (length t.functions) ≡ Some (flow_function t (functions_of t).made main)
second_stands_by t false found main is there = absurd (false≢true is)
second_stands_by t true None main is there = absurd (none-some main there)
second_stands_by t true (Some function) main is there =
    subst (λ (n : ℕ). slice_get ((functions_of t).functions ++ flow_function t (functions_of t).made function ∷ []) n ≡ Some (flow_function t (functions_of t).made main))
    (count_functions t (named_from 0 t.statics) t.functions (statics_made_of t) [] ∙ (let e : 0 + length t.functions ≡ length t.functions = omega arith in e))
    (last_found (functions_of t).functions (flow_function t (functions_of t).made function) ∙ ap (λ (f : Function t.Stmt). Some (flow_function t (functions_of t).made f)) (same_Some function main there))

second_number : (t : Text) (number : Option ℕ) (strict : Bool) (main : ℕ) → strict ≡ true → (if strict then option_map (λ n. length t.functions) number else number) ≡ Some main → length t.functions ≡ main
second_number t number false main is first = absurd (false≢true is)
second_number t None true main is first = absurd (none-some main first)
second_number t (Some n) true main is first = same_Some (length t.functions) main first

pub second_stands : (abi : Abi) (t : Text) (flow : Flow) → IsGraphOf abi t flow → (main : Function t.Stmt) → t.strict ≡ true → t.main ≡ Some main →
    slice_get flow.functions flow.main ≡ Some (flow_function t (functions_of t).made main)
second_stands abi t flow graph main is there =
    let number : length t.functions ≡ flow.main = second_number t (main_number t.functions) t.strict graph.main is graph.told_main ∙ ap (λ (f : Flow). f.main) graph.is in
    subst (λ (n : ℕ). slice_get flow.functions n ≡ Some (flow_function t (functions_of t).made main)) number
    (ap (λ (f : Flow). slice_get f.functions (length t.functions)) (sym graph.is) ∙ second_stands_by t t.strict t.main main is there)

-- all that functions place
pub statics_placing : (t : Text) → IsPlacing (statics_made_of t) (statics_made_of t).points (placed_of t).made
statics_placing t =
    let one = functions_placing t (named_from 0 t.statics) t.functions (statics_made_of t) [] (sound_start t) in
    let h = one.points in
    then_placing one (main_placing t (named_from 0 t.statics) t.strict t.main (functions_of t) (sound_functions t)) (inr (omega arith))

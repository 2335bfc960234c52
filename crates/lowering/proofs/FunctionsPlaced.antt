-- Functions are placed one behind the other, each at points of its own.
use Rattle.std.proofs.Common.{◌<◌, ◌≤◌, ℕ, suc, ◌+◌, List, [], ◌∷◌, ◌++◌, length, Bool, true, false, refl, inl, inr, arith}
use Rattle.c_machine.specs.Text.{Function, Text}
use Rattle.flow.specs.declared.flow_graph.FlowFunction.{FlowFunction}
use Rattle.flow.specs.declared.instruction.Instr.TheVariants as i
use Rattle.simulation.specs.Names.{Name}
use Rattle.lowering.specs.Lowering.{body_moves, at_entry, at_exit, nothing, around_body, parameter_objects, place_named, place_function, flow_function, place_functions, nothing_made}
use Rattle.lowering.specs.Placing.{Made, Around, with_point, with_registers, with_objects, named_from, objects_in, along, go}
use Rattle.lowering.specs.Table.{result_into}
use Rattle.lowering.proofs.Placings.{IsSound, IsPlacing, nothing_placed, then_placing, emit_placing, point_placing, registers_placing, objects_placing}
use Rattle.lowering.proofs.PlacedForms.{along_placing}
use Rattle.lowering.proofs.Placed.{go_placing}

-- a body between its entry and its exit
pub body_placing : (t : Text) (around : Around) (made : Made) (function : Function t.Stmt) (names : List Name) (entry exit : ℕ) → entry < made.points → exit < made.points → entry ≤ exit → IsSound made →
    IsPlacing made entry (along t around (go t.enough t around) made entry (body_moves t function names around) exit)
body_placing t around made function names entry exit inside inside' less sound =
    along_placing t around (go t.enough t around) (go_placing t.enough t around) made entry (body_moves t function names around) exit inside sound

pub named_placing : (t : Text) (statics : List Name) (closes : Bool) (made : Made) (function : Function t.Stmt) (params names : List Name) → IsSound made → IsPlacing made made.points (place_named t statics closes made function params names)
named_placing t statics closes made function params names sound =
    let p : ℕ = made.points in
    let around : Around = around_body statics (params ++ names) function.result closes (suc made.points) made.registers in
    let m1 : Made = with_objects false (parameter_objects t function) made in
    let one = objects_placing (parameter_objects t function) made p sound in
    let m2 : Made = with_objects false (objects_in t function.body) m1 in
    let two = objects_placing (objects_in t function.body) m1 p one.sound in
    let m3 : Made = with_point (at_entry params) m2 in
    let three = point_placing (at_entry params) m2 p two.sound in
    let m4 : Made = with_point (at_exit function.result made.registers) m3 in
    let four = point_placing (at_exit function.result made.registers) m3 p three.sound in
    let m5 : Made = with_point nothing m4 in
    let five = point_placing nothing m4 p four.sound in
    let m6 : Made = with_registers 1 m5 in
    let six = registers_placing 1 m5 p five.sound in
    let body = body_placing t around m6 function names p (suc p) (omega arith) (omega arith) (omega arith) six.sound in
    let h = body.points in
    let last = emit_placing (along t around (go t.enough t around) m6 p (body_moves t function names around) (suc p)) (suc p) (suc (suc p)) (i.Return (result_into function.result around.result)) function.close
    (omega arith) body.sound in
    then_placing (then_placing (then_placing (then_placing (then_placing (then_placing (then_placing one two (inl refl)) three (inl refl)) four (inl refl)) five (inl refl)) six (inl refl)) body (inl refl)) last (inr (omega arith))

pub function_placing : (t : Text) (statics : List Name) (closes : Bool) (made : Made) (function : Function t.Stmt) → IsSound made → IsPlacing made made.points (place_function t statics closes made function)
function_placing t statics closes made function sound =
    named_placing t statics closes made function (named_from (length made.variables) (parameter_objects t function)) (named_from (length made.variables + length function.params) (objects_in t function.body)) sound

pub functions_placing : (t : Text) (statics : List Name) (functions : List (Function t.Stmt)) (made : Made) (placed : List FlowFunction) → IsSound made →
    IsPlacing made made.points (place_functions t statics functions made placed).made
functions_placing t statics [] made placed sound = nothing_placed made made.points sound
functions_placing t statics (function ∷ functions) made placed sound =
    let one = function_placing t statics false made function sound in
    let h = one.points in
    then_placing one (functions_placing t statics functions (place_function t statics false made function) (placed ++ flow_function t made function ∷ []) one.sound) (inr (omega arith))

-- behind the static objects
pub sound_start : (t : Text) → IsSound (with_objects true t.statics nothing_made)
sound_start t = record { fresh = λ point least. refl; stands = refl }

pub placed_behind : (t : Text) (statics : List Name) → IsPlacing (with_objects true t.statics nothing_made) 0 (place_functions t statics t.functions (with_objects true t.statics nothing_made) []).made
placed_behind t statics = functions_placing t statics t.functions (with_objects true t.statics nothing_made) [] (sound_start t)

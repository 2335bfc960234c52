-- A text and its flow graph: static objects, functions and main, where the bodies of functions are spelled.
use Rattle.std.proofs.Common.{◌≡◌, ℕ, ◌+◌, Bool, true, false, List, [], ◌∷◌, Option, None, if◌then◌else◌, sym, ap, subst, ◌∙◌, arith, Some, slice_get}
use Rattle.cbase.specs.declared.abi.Abi.{Abi}
use Rattle.c_machine.specs.Text.{Function, Text}
use Rattle.flow.specs.declared.flow_graph.Flow.{Flow}
use Rattle.flow.specs.declared.flow_graph.FlowFunction.{FlowFunction}
use Rattle.simulation.specs.Names.{Name}
use Rattle.simulation.specs.Functions.{AreFunctionsLowered, IsMainLowered}
use Rattle.simulation.specs.Running.{Setting, Result}
use Rattle.simulation.specs.Starting.{IsProgramLowered}
use Rattle.lowering.specs.Lowering.{Functions, flow_function, place_functions, with_main}
use Rattle.lowering.specs.Placing.{named_from}
use Rattle.lowering.proofs.FunctionsLowered.{front_found, IsBodySpelled, IsPlacedAt, placed_at, function_lowered, main_lowered}
use Rattle.lowering.proofs.GraphParts.{IsGraphOf, statics_made_of}
use Rattle.lowering.proofs.StaticsLowered.{HasStatics, HasSteps, statics_lowered}

-- a function where it was placed
abbrev pub At : (t : Text) → ℕ → Function t.Stmt → Type 0
At t number function = IsPlacedAt t (named_from 0 t.statics) t.functions (statics_made_of t) [] number function

-- where main stands a second time, the functions of the text stand in front of it
in_front : (t : Text) (statics : List Name) (strict : Bool) (main : Option (Function t.Stmt)) (placed : Functions) (number : ℕ) (found : FlowFunction) →
    slice_get placed.functions number ≡ Some found → slice_get (if strict then with_main t statics main placed else placed).functions number ≡ Some found
in_front t statics false main placed number found is = is
in_front t statics true None placed number found is = is
in_front t statics true (Some main) placed number found is = front_found placed.functions (flow_function t placed.made main ∷ []) number found is

stands_there : (abi : Abi) (t : Text) (flow : Flow) → IsGraphOf abi t flow → (number : ℕ) (function : Function t.Stmt) (at : At t number function) → slice_get flow.functions number ≡ Some (flow_function t at.before function)
stands_there abi t flow graph number function at =
    ap (λ (f : Flow). slice_get f.functions number) (sym graph.is)
    ∙ in_front t (named_from 0 t.statics) t.strict t.main (place_functions t (named_from 0 t.statics) t.functions (statics_made_of t) []) number (flow_function t at.before function)
    (subst (λ (n : ℕ). slice_get (place_functions t (named_from 0 t.statics) t.functions (statics_made_of t) []).functions n ≡ Some (flow_function t at.before function))
    (let e : 0 + number ≡ number = omega arith in e) at.stands)

-- each function is called by its number in the text
pub functions_lowered : (abi : Abi) (t : Text) (flow : Flow) (setting : Setting) → IsGraphOf abi t flow → ((number called : ℕ) → setting.called number ≡ Some called → number ≡ called) →
    ((number : ℕ) (function : Function t.Stmt) → slice_get t.functions number ≡ Some function → setting.called number ≡ Some number → (at : At t number function) → (base : ℕ) →
    IsBodySpelled t flow setting (record { base = base; closes = false; gives = setting.gives number }) at.before function base) → AreFunctionsLowered t flow setting
functions_lowered abi t flow setting graph same bodies number called function stands is =
    let at = placed_at t (named_from 0 t.statics) t.functions (statics_made_of t) [] number function stands in
    let here : number ≡ called = same number called is in
    function_lowered t flow setting number called at.before function
    (subst (λ (n : ℕ). slice_get flow.functions n ≡ Some (flow_function t at.before function)) here (stands_there abi t flow graph number function at))
    (bodies number function stands (is ∙ ap Some (sym here)) at)

-- and main by that with which the graph begins, where it stands once
pub begins_lowered : (abi : Abi) (t : Text) (flow : Flow) (setting : Setting) (gives : Result) (main : Function t.Stmt) (graph : IsGraphOf abi t flow) → slice_get t.functions graph.main ≡ Some main →
    ((at : At t graph.main main) → IsBodySpelled t flow setting (record { base = 0; closes = t.strict; gives = gives }) at.before main 0) → IsMainLowered t flow setting main
begins_lowered abi t flow setting gives main graph stands body =
    let at = placed_at t (named_from 0 t.statics) t.functions (statics_made_of t) [] graph.main main stands in
    main_lowered t flow setting gives at.before main
    (subst (λ (n : ℕ). slice_get flow.functions n ≡ Some (flow_function t at.before main)) (ap (λ (f : Flow). f.main) graph.is) (stands_there abi t flow graph graph.main main at)) (body at)

pub program_lowered : (t : Text) (flow : Flow) (setting : Setting) (main : Function t.Stmt) → HasStatics t flow setting → HasSteps t → AreFunctionsLowered t flow setting → IsMainLowered t flow setting main →
    IsProgramLowered t flow setting main
program_lowered t flow setting main has long functions begins = record { statics = statics_lowered t flow setting has long; functions = functions; begins = begins }

-- What a flow graph of a text has, part by part.
use Rattle.std.proofs.Common.{◌≡◌, ℕ, suc, Bool, true, false, List, [], ◌∷◌, ◌++◌, map, refl, sym, ap, subst, ◌∙◌, Option, None, Some, option_map, slice_get, if◌then◌else◌}
use Rattle.std.proofs.lemmas.Option.{same_Some, none-some}
use Rattle.cbase.specs.declared.abi.Abi.{Abi}
use Rattle.c_machine.specs.Program.{Program, FunctionItem, functions_in, main_in}
use Rattle.c_machine.specs.Text.{Text}
use Rattle.c_machine.specs.Trees.{text_of, function_as}
use Rattle.typing.specs.Heads.{is_main}
use Rattle.flow.specs.declared.flow_graph.Flow.{Flow}
use Rattle.flow.specs.declared.flow_graph.Initial.{Initial}
use Rattle.flow.specs.declared.flow_graph.Variable.{Variable}
use Rattle.simulation.specs.Running.{Setting}
use Rattle.lowering.specs.Initials.{initials_of}
use Rattle.lowering.specs.Lowering.{Functions, place_all, main_number, first_number, nothing_made, graph_of, graph_where, flow_in}
use Rattle.lowering.specs.Placing.{Made, named_from, with_objects}
use Rattle.lowering.proofs.StaticsLowered.{told, HasStatics}
use Rattle.lowering.proofs.StaticsMade.{AreLocal}

-- what is made in front of the functions, and behind them
abbrev pub statics_made_of : Text → Made
statics_made_of t = with_objects true t.statics nothing_made

abbrev pub placed_of : Text → Functions
placed_of t = place_all t (named_from 0 t.statics) (statics_made_of t)

pub record IsGraphOf (abi : Abi) (t : Text) (flow : Flow) : Type 0 where
  pub scalars : List Initial
  pub main : ℕ
  pub told_scalars : initials_of t (named_from 0 t.statics) ≡ Some scalars
  pub told_main : first_number t (main_number t.functions) ≡ Some main
  pub graph : (placed_of t).made.is_graph ≡ true
  pub is : graph_of abi t (placed_of t) scalars main ≡ flow

graph_parts : (abi : Abi) (t : Text) (placed : Functions) (initial : Option (List Initial)) (main : Option ℕ) (flow : Flow) → graph_where abi t placed initial main ≡ Some flow →
    (scalars : List Initial) × (number : ℕ) × (initial ≡ Some scalars) × (main ≡ Some number) × (placed.made.is_graph ≡ true) × (graph_of abi t placed scalars number ≡ flow)
graph_parts abi t placed (Some scalars) (Some number) flow is = by_test placed.made.is_graph refl is
  where
    by_test : (holds : Bool) → placed.made.is_graph ≡ holds → (if holds then Some (graph_of abi t placed scalars number) else None) ≡ Some flow →
        (scalars' : List Initial) × (number' : ℕ) × (◌≡◌ {A = Option (List Initial)} (Some scalars) (Some scalars')) × (◌≡◌ {A = Option ℕ} (Some number) (Some number')) × (placed.made.is_graph ≡ true)
        × (graph_of abi t placed scalars' number' ≡ flow)
    by_test true holds is' = (scalars, number, refl, refl, holds, same_Some (graph_of abi t placed scalars number) flow is')
    by_test false holds is' = absurd (none-some flow is')
graph_parts abi t placed initial main flow is = absurd (none-some flow is)

pub is_graph_of : (abi : Abi) (t : Text) (flow : Flow) → flow_in abi t ≡ Some flow → IsGraphOf abi t flow
is_graph_of abi t flow is =
    let parts = graph_parts abi t (placed_of t) (initials_of t (named_from 0 t.statics)) (first_number t (main_number t.functions)) flow is in
    record { scalars = parts.0; main = parts.1; told_scalars = parts.2; told_main = parts.3; graph = parts.4; is = parts.5 }

-- What functions place: variables that are not static, and where a graph is left there was one before.
pub record PlacesLocals (before after : Made) : Type 0 where
  pub others : List Variable
  pub variables : after.variables ≡ before.variables ++ others
  pub local : AreLocal others
  pub graph : after.is_graph ≡ true → before.is_graph ≡ true

pub has_statics : (abi : Abi) (t : Text) (flow : Flow) (setting : Setting) (graph : IsGraphOf abi t flow) → PlacesLocals (statics_made_of t) (placed_of t).made →
    setting.statics ≡ told (named_from 0 t.statics) → HasStatics t flow setting
has_statics abi t flow setting graph places names = record {
  others = places.others;
  variables = ap (λ (f : Flow). f.variables) (sym graph.is) ∙ places.variables;
  local = places.local;
  small = places.graph graph.graph;
  scalars = graph.scalars;
  told_scalars = graph.told_scalars;
  initial = ap (λ (f : Flow). f.initial) (sym graph.is);
  statics = names;
}

-- the main with which a program begins is a function of its text
main_there : (p : Program) (functions : List FunctionItem) (number : ℕ) → main_number (map (function_as p) functions) ≡ Some number →
    slice_get (map (function_as p) functions) number ≡ option_map (function_as p) (main_in functions)
main_there p [] number is = absurd (none-some number is)
main_there p (function ∷ functions) number is = by_name (is_main function.name) is (main_there p functions)
  where
    by_name : (here : Bool) → (if here then Some 0 else option_map suc (main_number (map (function_as p) functions))) ≡ Some number →
        ((number' : ℕ) → main_number (map (function_as p) functions) ≡ Some number' → slice_get (map (function_as p) functions) number' ≡ option_map (function_as p) (main_in functions)) →
        slice_get (function_as p function ∷ map (function_as p) functions) number ≡ option_map (function_as p) (if here then Some function else main_in functions)
    by_name true is' more = subst (λ (n : ℕ). slice_get (function_as p function ∷ map (function_as p) functions) n ≡ Some (function_as p function)) (same_Some 0 number is') refl
    by_name false is' more = behind (main_number (map (function_as p) functions)) refl is' more
      where
        behind : (found : Option ℕ) → main_number (map (function_as p) functions) ≡ found → option_map suc found ≡ Some number →
            ((number' : ℕ) → main_number (map (function_as p) functions) ≡ Some number' → slice_get (map (function_as p) functions) number' ≡ option_map (function_as p) (main_in functions)) →
            slice_get (function_as p function ∷ map (function_as p) functions) number ≡ option_map (function_as p) (main_in functions)
        behind (Some place) here is'' more' =
            subst (λ (n : ℕ). slice_get (function_as p function ∷ map (function_as p) functions) n ≡ option_map (function_as p) (main_in functions)) (same_Some (suc place) number is'') (more' place here)
        behind None here is'' more' = absurd (none-some number is'')

pub main_is_there : (p : Program) (number : ℕ) → main_number (text_of p).functions ≡ Some number → slice_get (text_of p).functions number ≡ (text_of p).main
main_is_there p number is = main_there p (functions_in p.items) number is

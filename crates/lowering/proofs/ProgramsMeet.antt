-- A program and its flow graph meet the same faults, where what is placed for each body is what a run of it wants.
use Rattle.std.proofs.Common.{◌≡◌, ◌↔◌, ℕ, suc, Bool, true, false, List, [], ◌∷◌, length, All, refl, sym, ap, subst, ◌∙◌, Option, None, Some, option_map, slice_get, if◌then◌else◌}
use Rattle.std.proofs.lemmas.Bool.{false≢true}
use Rattle.std.proofs.lemmas.Option.{same_Some, none-some}
use Rattle.cbase.specs.declared.place.Place.{Place}
use Rattle.cbase.specs.declared.tree.stmt.Stmt.{Stmt}
use Rattle.choices.specs.declared.choice.Choice.{Choice}
use Rattle.c_machine.specs.Program.{Program}
use Rattle.c_machine.specs.Run.{Leads}
use Rattle.c_machine.specs.Text.{Function, Text}
use Rattle.c_machine.specs.Trees.{text_of}
use Rattle.flow.specs.declared.flow_graph.Flow.{Flow}
use Rattle.flow.specs.Memories.{HasInitialOffset}
use Rattle.flow.specs.Valid.{IsFlow}
use Rattle.simulation.specs.Functions.{IsMainLowered}
use Rattle.simulation.specs.Laws.{GraphLeads}
use Rattle.simulation.specs.Names.{Name}
use Rattle.simulation.specs.Running.{Setting, Running, Result, GivesNothing}
use Rattle.simulation.specs.Starting.{IsProgramLowered}
use Rattle.simulation.proofs.Whole.{programs_meet}
use Rattle.lowering.specs.Lowering.{main_number, flow_of}
use Rattle.lowering.specs.Placing.{Made, named_from}
use Rattle.lowering.proofs.BodiesSpelled.{IsFunctionSpelled, functions_of, body_there, second_there, second_stands, statics_placing}
use Rattle.lowering.proofs.FunctionsLowered.{IsBodySpelled, main_lowered}
use Rattle.lowering.proofs.GraphParts.{IsGraphOf, is_graph_of, statics_made_of, placed_of, PlacesLocals, has_statics, main_is_there}
use Rattle.flow.specs.declared.flow_graph.Variable.{Variable}
use Rattle.lowering.proofs.Placings.{IsPlacing, AreLocal}
use Rattle.lowering.proofs.StaticsMade.{AreLocal as AreLocalThere}
use Rattle.lowering.proofs.ProgramLowered.{functions_lowered, begins_lowered, program_lowered}
use Rattle.lowering.proofs.SpellingCalls.{given_of}
use Rattle.lowering.proofs.StaticsLowered.{told}
use Rattle.lowering.proofs.StepsEnough.{steps_enough}

-- names are told of as they are
pub told_same : (names : List Name) → told names ≡ names
told_same [] = refl
told_same (name ∷ names) = ap (λ (rest : List Name). name ∷ rest) (told_same names)

-- each function of a text is called by its number, and gives what its result is
abbrev pub gives_of : (t : Text) → Option (Function t.Stmt) → Result
gives_of t None = GivesNothing
gives_of t (Some function) = given_of function.result

abbrev pub setting_of : Text → Setting
setting_of t = record { statics = named_from 0 t.statics; called = λ number. Some number; gives = λ number. gives_of t (slice_get t.functions number) }

-- what is placed for each body is what a run of it wants
abbrev pub DoBodiesGo : (t : Text) → Flow → Type 0
DoBodiesGo t flow =
    (running : Running) (before : Made) (function : Function t.Stmt) → running.gives ≡ given_of function.result → IsFunctionSpelled t flow (named_from 0 t.statics) running.closes before function →
    IsBodySpelled t flow (setting_of t) running before function running.base

-- the first function that is main stands at its number
main_stands : {S : Type 0} (functions : List (Function S)) (number : ℕ) → main_number functions ≡ Some number → (main : Function S) × (slice_get functions number ≡ Some main)
main_stands {S = S} [] number is = absurd (none-some number is)
main_stands {S = S} (function ∷ functions) number is = by_name function.is_main is (main_stands functions)
  where
    by_name : (here : Bool) → (if here then Some 0 else option_map suc (main_number functions)) ≡ Some number → ((other : ℕ) → main_number functions ≡ Some other → (main : Function S) × (slice_get functions other ≡ Some main)) →
        (main : Function S) × (slice_get (function ∷ functions) number ≡ Some main)
    by_name true is' more = (function, subst (λ (n : ℕ). slice_get (function ∷ functions) n ≡ Some function) (same_Some 0 number is') refl)
    by_name false is' more = by_number (main_number functions) refl is' more
      where
        by_number : (found : Option ℕ) → main_number functions ≡ found → option_map suc found ≡ Some number → ((other : ℕ) → main_number functions ≡ Some other → (main : Function S) × (slice_get functions other ≡ Some main)) →
            (main : Function S) × (slice_get (function ∷ functions) number ≡ Some main)
        by_number (Some other) there is'' more' =
            let there' = more' other there in
            (there'.0, subst (λ (n : ℕ). slice_get (function ∷ functions) n ≡ Some there'.0) (same_Some (suc other) number is'') there'.1)
        by_number None there is'' more' = absurd (none-some number is'')

first_by : (t : Text) (strict : Bool) (number : Option ℕ) (main : ℕ) → (if strict then option_map (λ n. length t.functions) number else number) ≡ Some main → (n : ℕ) × (number ≡ Some n)
first_by t strict (Some n) main is = (n, refl)
first_by t true None main is = absurd (none-some main is)
first_by t false None main is = absurd (none-some main is)

first_plain : (t : Text) (strict : Bool) (number : Option ℕ) (main n : ℕ) → strict ≡ false → (if strict then option_map (λ m. length t.functions) number else number) ≡ Some main → number ≡ Some n → n ≡ main
first_plain t true number main n is first there = absurd (false≢true (sym is))
first_plain t false number main n is first there = same_Some n main (sym there ∙ first)

-- main is lowered, once or behind the functions
main_goes : (p : Program) (flow : Flow) (graph : IsGraphOf p.abi (text_of p) flow) (main : Function Stmt) → (text_of p).main ≡ Some main → DoBodiesGo (text_of p) flow → IsMainLowered (text_of p) flow (setting_of (text_of p)) main
main_goes p flow graph main there go = by_strict (text_of p).strict refl
  where
    by_strict : (strict : Bool) → (text_of p).strict ≡ strict → IsMainLowered (text_of p) flow (setting_of (text_of p)) main
    by_strict true is =
        let t : Text = text_of p in
        main_lowered t flow (setting_of t) (given_of main.result) (functions_of t).made main (second_stands p.abi t flow graph main is there)
        (go (record { base = 0; closes = t.strict; gives = given_of main.result }) (functions_of t).made main refl
        (subst (λ (closes : Bool). IsFunctionSpelled t flow (named_from 0 t.statics) closes (functions_of t).made main) (sym is) (second_there p.abi t flow graph main is there)))
    by_strict false is =
        let t : Text = text_of p in
        let number = first_by t t.strict (main_number t.functions) graph.main graph.told_main in
        let here : number.0 ≡ graph.main = first_plain t t.strict (main_number t.functions) graph.main number.0 is graph.told_main number.1 in
        let stands : slice_get t.functions graph.main ≡ Some main = subst (λ (n : ℕ). slice_get t.functions n ≡ Some main) here (main_is_there p number.0 number.1 ∙ there) in
        begins_lowered p.abi t flow (setting_of t) (given_of main.result) main graph stands
        (λ at. go (record { base = 0; closes = t.strict; gives = given_of main.result }) at.before main refl
        (subst (λ (closes : Bool). IsFunctionSpelled t flow (named_from 0 t.statics) closes at.before main) (sym is) (body_there p.abi t flow graph graph.main main at)))

locals_there : (variables : List Variable) → AreLocal variables → AreLocalThere variables
locals_there [] local = tt
locals_there (variable ∷ variables) local = (local.0, locals_there variables local.1)

pub places_locals : (t : Text) → IsPlacing (statics_made_of t) (statics_made_of t).points (placed_of t).made → PlacesLocals (statics_made_of t) (placed_of t).made
places_locals t placing = record { others = placing.variables.0; variables = placing.variables.1; local = locals_there placing.variables.0 placing.variables.2; graph = placing.graph }

pub program_is_lowered : (p : Program) (flow : Flow) → flow_of p ≡ Some flow → (main : Function Stmt) → (text_of p).main ≡ Some main → DoBodiesGo (text_of p) flow →
    IsProgramLowered (text_of p) flow (setting_of (text_of p)) main
program_is_lowered p flow is main there go =
    let t : Text = text_of p in
    let graph = is_graph_of p.abi t flow is in
    program_lowered t flow (setting_of t) main (has_statics p.abi t flow (setting_of t) graph (places_locals t (statics_placing t)) (sym (told_same (named_from 0 t.statics)))) (steps_enough p)
    (functions_lowered p.abi t flow (setting_of t) graph (λ number called same. same_Some number called same)
    (λ number function stands called at base. go (record { base = base; closes = false; gives = gives_of t (slice_get t.functions number) }) at.before function
    (ap (gives_of t) stands) (body_there p.abi t flow graph number function at)))
    (main_goes p flow graph main there go)

-- the law
pub meets : (p : Program) (flow : Flow) → flow_of p ≡ Some flow → IsFlow flow → All (λ scalar. HasInitialOffset scalar.word) flow.initial → DoBodiesGo (text_of p) flow →
    (choices : List Choice) (kind : ℕ) (place : Place) → Leads (text_of p) choices kind place ↔ GraphLeads flow choices kind place
meets p flow is valid offsets go = by_main (text_of p).main refl
  where
    by_main : (main : Option (Function Stmt)) → (text_of p).main ≡ main → (choices : List Choice) (kind : ℕ) (place : Place) → Leads (text_of p) choices kind place ↔ GraphLeads flow choices kind place
    by_main (Some main) there = programs_meet p flow (setting_of (text_of p)) main valid offsets there (program_is_lowered p flow is main there go)
    by_main None there =
        let graph = is_graph_of p.abi (text_of p) flow is in
        let number = first_by (text_of p) (text_of p).strict (main_number (text_of p).functions) graph.main graph.told_main in
        let main = main_stands (text_of p).functions number.0 number.1 in
        absurd (none-some main.0 (sym there ∙ (sym (main_is_there p number.0 number.1) ∙ main.1)))

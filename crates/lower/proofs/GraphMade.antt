-- The graph of a program as the code makes it.
use Rattle.std.proofs.Common.{◌≡◌, ℕ, ◌+◌, Bool, true, false, List, [], ◌∷◌, ◌++◌, map, length, Option, None, Some, option_map, refl, sym, ap, ◌∙◌, arith, if◌then◌else◌}
use Rattle.cbase.specs.declared.abi.Abi.{Abi}
use Rattle.cbase.specs.declared.tree.init.Init.{Init}
use Rattle.cbase.specs.declared.tree.stmt.Stmt.{Stmt}
use Rattle.c_machine.specs.declared.object.Object.{Object}
use Rattle.c_machine.specs.Program.{Program, FunctionItem, main_in}
use Rattle.c_machine.specs.Text.{Function, Set, Text}
use Rattle.c_machine.specs.Trees.{function_as, text_of}
use Rattle.flow.specs.declared.flow_graph.Flow.{Flow}
use Rattle.flow.specs.declared.flow_graph.FlowFunction.{FlowFunction}
use Rattle.flow.specs.declared.flow_graph.Initial.{Initial}
use Rattle.simulation.specs.Names.{Name}
use Rattle.lowering.specs.Initials.{initials_of, initials_within, joined_all}
use Rattle.lowering.specs.Lowering.{Functions, first_number, flow_function, flow_of, graph_where, main_number, nothing_made, place_all, place_function, place_functions, with_main}
use Rattle.lowering.specs.Placing.{Made, named_from, with_objects}
use Rattle.lower.specs.Sets.{AddsInitials}
use Rattle.lower.proofs.FunctionsTaken.{count_placed}

behind_none : {A : Type 0} (found : Option (List A)) → option_map (λ (more : List A). [] ++ more) found ≡ found
behind_none None = refl
behind_none (Some more) = refl

-- all parts make the graph
module _ (p : Program) where
  abbrev with_statics : List Object → Made
  with_statics objects = with_objects true objects nothing_made

  abbrev of_sets : List Name → List (Set Init) → Option (List Initial)
  of_sets statics sets = joined_all (λ (set : Set Init). initials_within (text_of p).enough (text_of p) statics set.place set.init) sets

  pub graph_is : (found : Option Flow) (abi : Abi) (objects : List Object) (sets : List (Set Init)) (statics : List Name) (start before : Made) (placed : Functions) (initials none : List Initial) (whole : Bool)
      (main : Option ℕ) → (text_of p).statics ≡ objects → (text_of p).sets ≡ sets → p.abi ≡ abi → statics ≡ named_from 0 objects → start ≡ nothing_made →
      before ≡ with_objects true objects start → placed ≡ place_all (text_of p) statics before → main ≡ first_number (text_of p) (main_number (text_of p).functions) → none ≡ [] →
      AddsInitials none (of_sets statics sets) whole initials →
      found ≡ graph_where abi (text_of p) placed (if whole then Some initials else None) main → found ≡ flow_of p
  graph_is found abi objects sets statics start before placed initials none whole main are_objects are_sets is_abi are_statics is_start is_before is_placed is_main is_none adds is =
      let named : statics ≡ named_from 0 (text_of p).statics = are_statics ∙ ap (λ (objects : List Object). named_from 0 objects) (sym are_objects) in
      let begun : before ≡ with_statics (text_of p).statics =
      is_before ∙ ap (λ (made : Made). with_objects true objects made) is_start ∙ ap with_statics (sym are_objects) in
      let scalars : (if whole then Some initials else None) ≡ initials_of (text_of p) (named_from 0 (text_of p).statics) =
      sym adds ∙ ap (λ (front : List Initial). option_map (λ (more : List Initial). front ++ more) (of_sets statics sets)) is_none ∙ behind_none (of_sets statics sets)
      ∙ ap (of_sets statics) (sym are_sets) ∙ ap (λ (statics : List Name). of_sets statics (text_of p).sets) named in
      is
      ∙ ap (λ (abi : Abi). graph_where abi (text_of p) placed (if whole then Some initials else None) main) (sym is_abi)
      ∙ ap (λ (main : Option ℕ). graph_where p.abi (text_of p) placed (if whole then Some initials else None) main) is_main
      ∙ ap (λ (scalars : Option (List Initial)). graph_where p.abi (text_of p) placed scalars (first_number (text_of p) (main_number (text_of p).functions))) scalars
      ∙ ap (λ (placed : Functions). graph_where p.abi (text_of p) placed (initials_of (text_of p) (named_from 0 (text_of p).statics)) (first_number (text_of p) (main_number (text_of p).functions)))
      (is_placed ∙ ap (λ (statics : List Name). place_all (text_of p) statics before) named ∙ ap (λ (made : Made). place_all (text_of p) (named_from 0 (text_of p).statics) made) begun)

-- all functions, and main once more where that is asked for
module _ (p : Program) (statics : List Name) (before : Made) (functions own : List FunctionItem) (are : functions ≡ own) where
  abbrev in_order : List FunctionItem → List FlowFunction → Functions
  in_order functions placed = place_functions (text_of p) statics (map (function_as p) functions) before placed

  abbrev main_of : List FunctionItem → Option (Function Stmt)
  main_of functions = option_map (function_as p) (main_in functions)

  abbrev number_of : List FunctionItem → Option ℕ
  number_of functions = main_number (map (function_as p) functions)

  -- as `place_all` has them
  abbrev all_of : Bool → Functions
  all_of strict = if strict then with_main (text_of p) statics (main_of own) (in_order own []) else in_order own []

  abbrev number_by : Bool → Option ℕ
  number_by strict = if strict then option_map (λ main. length (map (function_as p) own)) (number_of own) else number_of own

  pub once : (placed : List FlowFunction) (made : Functions) (none : List FlowFunction) (number : Option ℕ) → none ≡ [] → made ≡ in_order functions none → number ≡ number_of functions →
      (made ≡ all_of false) × (number ≡ number_by false)
  once placed made none number is_none is_made is_number =
      (is_made ∙ ap (in_order functions) is_none ∙ ap (λ (functions : List FunctionItem). in_order functions []) are, is_number ∙ ap number_of are)

  counted : (made : Functions) (none : List FlowFunction) → none ≡ [] → made ≡ in_order functions none → length made.functions ≡ length (map (function_as p) own)
  counted made none is_none is_made =
      let all : length (in_order own []).functions ≡ length {A = FlowFunction} [] + length (map (function_as p) own) = count_placed (text_of p) statics (map (function_as p) own) before [] in
      let same : length made.functions ≡ length (in_order own []).functions =
      ap (λ (made : Functions). length made.functions) (is_made ∙ ap (in_order functions) is_none ∙ ap (λ (functions : List FunctionItem). in_order functions []) are) in
      omega (arith, all, same)

  pub once_more : (made all : Functions) (none : List FlowFunction) (number found : Option ℕ) (count : ℕ) → none ≡ [] → made ≡ in_order functions none → number ≡ number_of functions →
      count ≡ length made.functions → all ≡ with_main (text_of p) statics (main_of functions) made → found ≡ option_map (λ main. count) number →
      (all ≡ all_of true) × (found ≡ number_by true)
  once_more made all none number found count is_none is_made is_number is_count is_all is_found = (
    is_all
        ∙ ap (λ (functions : List FunctionItem). with_main (text_of p) statics (main_of functions) made) are
        ∙ ap (with_main (text_of p) statics (main_of own)) (is_made ∙ ap (in_order functions) is_none ∙ ap (λ (functions : List FunctionItem). in_order functions []) are),
    is_found
        ∙ ap (λ (number : Option ℕ). option_map (λ main. count) number) (is_number ∙ ap number_of are)
        ∙ ap (λ (count : ℕ). option_map (λ main. count) (number_of own)) (is_count ∙ counted made none is_none is_made),
  )

  pub as_strict : (strict : Bool) (all : Functions) (number : Option ℕ) → p.strict ≡ strict → (all ≡ all_of strict) × (number ≡ number_by strict) →
      (all ≡ all_of p.strict) × (number ≡ number_by p.strict)
  as_strict strict all number is both = (both.0 ∙ ap all_of (sym is), both.1 ∙ ap number_by (sym is))

-- main once more, if there is one
pub main_placed : (t : Text) (statics : List Name) (main : Option (Function t.Stmt)) (function : Function t.Stmt) (before after : Made) (functions all : List FlowFunction) (one : FlowFunction) →
    main ≡ Some function → one ≡ flow_function t before function → after ≡ place_function t statics true before function → all ≡ functions ++ one ∷ [] →
    record { made = after; functions = all } ≡ with_main t statics main (record { made = before; functions = functions })
main_placed t statics main function before after functions all one is is_one is_after is_all =
    ap (λ (functions : List FlowFunction). record { made = after; functions = functions }) (is_all ∙ ap (λ (one : FlowFunction). functions ++ one ∷ []) is_one)
    ∙ ap (λ (made : Made). record { made = made; functions = functions ++ flow_function t before function ∷ [] }) is_after
    ∙ ap (λ (main : Option (Function t.Stmt)). with_main t statics main (record { made = before; functions = functions })) (sym is)

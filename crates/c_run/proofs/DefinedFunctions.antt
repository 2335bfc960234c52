-- Functions that have a body, by their numbers, with their parameters.
use Rattle.std.proofs.Common.{◌≡◌, ℕ, List, [], ◌∷◌, map, Option, None, Some, option_map, slice_get, refl, sym, ap, ◌∙◌}
use Rattle.std.proofs.lemmas.Option.{slice_get-map}
use Rattle.typing.specs.Outcomes.{ParameterRow}
use Rattle.c_machine.specs.declared.kind.Kind.{Kind}
use Rattle.c_machine.specs.declared.object.Object.{Object}
use Rattle.c_machine.specs.Program.{Program, FunctionItem, functions_in, main_in}
use Rattle.c_machine.specs.Text.{Parameter}
use Rattle.c_machine.specs.Trees.{function_as, kind_in, parameter_of, text_of}
use Rattle.c_text.specs.Functions.{parameter_object}

-- the kinds and the objects of parameters
pub kinds_of_rows : (p : Program) (rows : List ParameterRow) → map (λ (param : Parameter). param.kind) (map (parameter_of p) rows)
    ≡ map (kind_in p) (map (λ (row : ParameterRow). row.ctype) rows)
kinds_of_rows p [] = refl
kinds_of_rows p (row ∷ rows) = ap (λ (kinds : List Kind). kind_in p row.ctype ∷ kinds) (kinds_of_rows p rows)

pub objects_of_rows : (p : Program) (rows : List ParameterRow) → map (λ (param : Parameter). param.object) (map (parameter_of p) rows)
    ≡ map (parameter_object p) rows
objects_of_rows p [] = refl
objects_of_rows p (row ∷ rows) = ap (λ (objects : List Object). parameter_object p row ∷ objects) (objects_of_rows p rows)

-- what is to be done for each object is to be done for each parameter
pub each_object : {T : Type 0} (task : Object → T) (params : List Parameter) → map (λ (param : Parameter). task param.object) params
    ≡ map task (map (λ (param : Parameter). param.object) params)
each_object task [] = refl
each_object task (param ∷ params) = ap (λ tasks. task param.object ∷ tasks) (each_object task params)

-- the function of a number
module _ {V : Type 0} (p : Program) (functions : List FunctionItem) (number : ℕ) (item : V → FunctionItem) (found : Option V) where
  pub function_found : (function : V) → found ≡ Some function → option_map item found ≡ slice_get functions number → functions ≡ functions_in p.items
      → slice_get (text_of p).functions number ≡ Some (function_as p (item function))
  function_found function is there defined =
      slice_get-map (function_as p) (functions_in p.items) number
      ∙ ap (option_map (function_as p)) (ap (λ (items : List FunctionItem). slice_get items number) (sym defined) ∙ sym there ∙ ap (option_map item) is)

  pub no_function : found ≡ None → option_map item found ≡ slice_get functions number → functions ≡ functions_in p.items
      → slice_get (text_of p).functions number ≡ None
  no_function is there defined =
      slice_get-map (function_as p) (functions_in p.items) number
      ∙ ap (option_map (function_as p)) (ap (λ (items : List FunctionItem). slice_get items number) (sym defined) ∙ sym there ∙ ap (option_map item) is)

  -- the one with which the program begins
  pub main_found : (function : V) → found ≡ Some function → option_map item found ≡ main_in functions → functions ≡ functions_in p.items
      → (text_of p).main ≡ Some (function_as p (item function))
  main_found function is there defined =
      ap (option_map (function_as p)) (ap main_in (sym defined) ∙ sym there ∙ ap (option_map item) is)

  pub no_main_found : found ≡ None → option_map item found ≡ main_in functions → functions ≡ functions_in p.items → (text_of p).main ≡ None
  no_main_found is there defined = ap (option_map (function_as p)) (ap main_in (sym defined) ∙ sym there ∙ ap (option_map item) is)

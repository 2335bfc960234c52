-- What is told of the parameters of a function.
use Rattle.std.proofs.Common.{◌≡◌, ℕ, Bool, true, false, List, [], ◌∷◌, map, Option, None, Some, option_map, refl, sym, ap, ◌∙◌, if◌then◌else◌}
use Rattle.std.specs.List.{list_all}
use Rattle.typing.specs.Outcomes.{ParameterRow}
use Rattle.c_machine.specs.declared.object.Object.{Object}
use Rattle.c_machine.specs.Program.{Program, FunctionItem, parameters_in}
use Rattle.c_machine.specs.Trees.{function_as, parameter_of, text_of}
use Rattle.c_text.specs.Functions.{parameter_object}
use Rattle.c_text.specs.Kept.{is_sized, kept_objects}
use Rattle.lowering.specs.Lowering.{parameter_objects}

kept_all : (objects own : List Object) → Some objects ≡ kept_objects own → objects ≡ own
kept_all objects own is = by_sized (list_all is_sized own) is
  where
    by_sized : (fits : Bool) → Some objects ≡ (if fits then Some own else None) → objects ≡ own
    by_sized true is = cc
    by_sized false is = absurd cc

-- objects that are told
pub all_told : {V : Type 0} (items : V → List Object) (found : Option V) (value : V) (own slice : List Object) → found ≡ Some value → option_map items found ≡ kept_objects own →
    slice ≡ items value → slice ≡ own
all_told items found value own slice is told slice_is = slice_is ∙ kept_all (items value) own (sym (ap (option_map items) is) ∙ told)

objects_as : (p : Program) (rows : List ParameterRow) → map (parameter_object p) rows ≡ map (λ param. param.object) (map (parameter_of p) rows)
objects_as p [] = refl
objects_as p (row ∷ rows) = ap (λ (objects : List Object). parameter_object p row ∷ objects) (objects_as p rows)

pub parameters_are : (p : Program) (function : FunctionItem) (token : ℕ) (slice : List Object) → token ≡ function.token →
    slice ≡ map (parameter_object p) (parameters_in p.handed token) → slice ≡ parameter_objects (text_of p) (function_as p function)
parameters_are p function token slice token_is are =
    are ∙ ap (λ (token : ℕ). map (parameter_object p) (parameters_in p.handed token)) token_is ∙ objects_as p (parameters_in p.handed function.token)

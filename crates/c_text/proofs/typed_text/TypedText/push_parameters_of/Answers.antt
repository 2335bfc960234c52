-- A function that has no row has no parameters.
use Rattle.std.proofs.Common.{ℕ, List, [], ◌++◌, drop, map, option_map, Some, sym, ap, ◌∙◌, subst}
use Rattle.typing.specs.Outcomes.{ParameterRow}
use Rattle.c_machine.specs.declared.object.Object.{Object}
use Rattle.c_machine.specs.Program.{leading_parameters}
use Rattle.c_text.specs.Functions.{parameter_object}
use Rattle.c_text.specs.Kept.{all_there, sized, IsPushed}
use Rattle.c_text.proofs.FunctionsFound.{no_parameters, parameters_are}
use Rattle.c_text.proofs.Following.{on_ok}
use Rattle.c_text.proofs.typed_text.TypedText.push_parameters_of.Goals as goal

pub returns-in-None : goal.returns-in-None
returns-in-None c = λ n p stands.
    ap (λ (params : List ParameterRow).
    option_map (λ (more : List Object). [] ++ more) (all_there (map (λ (param : ParameterRow). sized (parameter_object p param)) params)))
    (no_parameters n c.args.self.now p c.args.token stands
    (sym c.behind_function.ensures ∙ ap (option_map (λ (k : ℕ). drop k c.args.self.now.handed)) c.in-None.is))
    ∙ ap Some (sym c.requires)

pub returns-in-Some : goal.returns-in-Some
returns-in-Some c = on_ok _ _ c.push_parameters.result
    (λ whole pushed. λ n p stands.
    subst (λ (params : List ParameterRow). IsPushed [] (map (λ (param : ParameterRow). sized (parameter_object p param)) params) whole c.push_parameters.new.objects.items)
    (sym (parameters_are n c.args.self.now p c.args.token c.in-Some.start stands
    (sym c.behind_function.ensures ∙ ap (option_map (λ (k : ℕ). drop k c.args.self.now.handed)) c.in-Some.is)))
    (subst (λ (before : List Object). IsPushed before (map (λ (param : ParameterRow). sized (parameter_object p param))
    (leading_parameters (drop c.in-Some.start p.handed))) whole c.push_parameters.new.objects.items) c.requires (pushed n p stands)))
    c.push_parameters.ensures

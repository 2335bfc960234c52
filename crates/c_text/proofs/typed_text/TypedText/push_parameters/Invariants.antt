-- What is pushed, and the parameters that are left.
use Rattle.std.proofs.Common.{◌≡◌, ◌-◌, List, ◌++◌, drop, length, map, option_map}
use Rattle.typing.specs.Outcomes.{ParameterRow}
use Rattle.expressions.specs.Numbers.{Numbering}
use Rattle.c_machine.specs.declared.object.Object.{Object}
use Rattle.c_machine.specs.Program.{Program, leading_parameters}
use Rattle.c_text.specs.Functions.{parameter_object}
use Rattle.c_text.specs.Kept.{all_there, sized}
use Rattle.c_text.specs.Stands.{StandsFor}
use Rattle.c_text.proofs.typed_text.TypedText.push_parameters.Given as goal

abbrev pub invariant-loop-object : goal.invariant-loop-object
invariant-loop-object l = (n : Numbering) (p : Program) → StandsFor n l.self p →
    option_map (λ (more : List Object). l.initial.objects.items ++ more)
    (all_there (map (λ (param : ParameterRow). sized (parameter_object p param)) (leading_parameters (drop l.initial.at p.handed))))
    ≡ option_map (λ (more : List Object). l.objects.items ++ more)
    (all_there (map (λ (param : ParameterRow). sized (parameter_object p param)) (leading_parameters (drop l.at p.handed))))

abbrev pub decreases-loop-object : goal.decreases-loop-object
decreases-loop-object l = length l.self.handed - l.at

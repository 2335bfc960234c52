-- A row is looked at where there is one.
use Rattle.std.proofs.Common.{◌+◌, drop, suc, Bool, ap, ◌∙◌, if◌then◌else◌}
use Rattle.c_text.specs.Parameters.{leading}
use Rattle.c_text.proofs.ParametersFound.{leads}
use Rattle.c_text.proofs.typed_text.TypedText.is_parameter.Goals as goal

pub returns-clause-yes : goal.returns-clause-yes
returns-clause-yes c = λ is.
    leads (drop c.args.at c.args.self.now.handed) (drop (c.args.at + 1) c.args.self.now.handed) c.handed_row.result c.parameter_type.result c.is_some.result
    c.handed_row.ensures.is c.parameter_type.ensures.is c.is_some.ensures
    ∙ ap (λ (b : Bool). if b then suc (leading (drop (c.args.at + 1) c.args.self.now.handed)) else 0) is

pub returns-clause-no : goal.returns-clause-no
returns-clause-no c = λ is.
    leads (drop c.args.at c.args.self.now.handed) (drop (c.args.at + 1) c.args.self.now.handed) c.handed_row.result c.parameter_type.result c.is_some.result
    c.handed_row.ensures.is c.parameter_type.ensures.is c.is_some.ensures
    ∙ ap (λ (b : Bool). if b then suc (leading (drop (c.args.at + 1) c.args.self.now.handed)) else 0) is

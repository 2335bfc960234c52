-- The rows behind that of the function, if it has one.
use Rattle.std.proofs.Common.{ℕ, List, drop, length, option_map, sym, ap, ◌∙◌}
use Rattle.expressions.specs.Context.{Context}
use Rattle.expressions.specs.declared.handed_row.HandedRow.{HandedRow}
use Rattle.c_text.proofs.ParametersFound.{no_types, none_leading, types_are}
use Rattle.c_text.proofs.typed_text.TypedText.defined_parameters.Goals as goal

pub returns-in-None-clause-are : goal.returns-in-None-clause-are
returns-in-None-clause-are c =
    none_leading c.args.self.now (length c.handed.result.now)
    (ap (λ (rows : List HandedRow). length rows) (c.handed.ensures ∙ ap (λ (context : Context). context.handed) c.self.view_is))

pub returns-in-None-clause-types : goal.returns-in-None-clause-types
returns-in-None-clause-types c = λ n p stands.
    no_types n c.args.self.now p c.args.token (length c.handed.result.now) stands
    (ap (λ (rows : List HandedRow). length rows) (c.handed.ensures ∙ ap (λ (context : Context). context.handed) c.self.view_is))
    (sym c.behind_function.ensures ∙ ap (option_map (λ (k : ℕ). drop k c.args.self.now.handed)) c.in-None.is)

pub returns-in-Some-clause-types : goal.returns-in-Some-clause-types
returns-in-Some-clause-types c = λ n p stands.
    types_are n c.args.self.now p c.args.token c.in-Some.start stands
    (sym c.behind_function.ensures ∙ ap (option_map (λ (k : ℕ). drop k c.args.self.now.handed)) c.in-Some.is)

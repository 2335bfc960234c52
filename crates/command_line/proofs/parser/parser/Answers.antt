use Rattle.std.proofs.Common.{◌≡◌, ◌∙◌, rules, ap₂}
use Rattle.std.proofs.lemmas.Result.{IfOk-weaker}
use Rattle.clap.specs.Words.{rule_of, with_rule}
use Rattle.command_line.specs.Parser.{budget_argument, file_argument, int_limit_argument}
use Rattle.command_line.proofs.parser.parser.Goals as goal

pub returns : goal.returns
returns c =
    let budget_is : rule_of c.long-budget.result ≡ budget_argument = search rules in
    let int_limit_is : rule_of c.long-int_limit.result ≡ int_limit_argument = search rules in
    let file_is : rule_of c.required-file.result ≡ file_argument = search rules in
    IfOk-weaker c.arg-3.result _ _ (λ r h. h.shape (search rules)
    ∙ ap₂ with_rule (c.in_ok-arg-2.ensures.shape (search rules)
    ∙ ap₂ with_rule (c.in_ok-arg.ensures.shape (search rules) ∙ ap₂ with_rule c.bare.ensures budget_is) int_limit_is) file_is) c.arg-3.ensures

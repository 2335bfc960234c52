use Rattle.std.proofs.Common.{◌≡◌, ◌∙◌, rules, ap₂}
use Rattle.std.proofs.lemmas.Result.{IfOk-weaker}
use Rattle.clap.specs.Words.{rule_of, with_rule}
use Rattle.command_line.specs.Parser.{file_argument}
use Rattle.command_line.specs.ReplayParser.{choices_argument, model_argument, steps_argument, strict_argument}
use Rattle.command_line.proofs.replay_parser.parser.Goals as goal

pub returns : goal.returns
returns c =
    let model_is : rule_of c.long-model.result ≡ model_argument = search rules in
    let steps_is : rule_of c.long-steps.result ≡ steps_argument = search rules in
    let strict_is : rule_of c.action-strict.result ≡ strict_argument = search rules in
    let file_is : rule_of c.required-file.result ≡ file_argument = search rules in
    let choices_is : rule_of c.required-choices.result ≡ choices_argument = search rules in
    IfOk-weaker c.arg-5.result _ _ (λ r h. h.shape (search rules)
    ∙ ap₂ with_rule (c.in_ok-arg-4.ensures.shape (search rules)
    ∙ ap₂ with_rule (c.in_ok-arg-3.ensures.shape (search rules)
    ∙ ap₂ with_rule (c.in_ok-arg-2.ensures.shape (search rules)
    ∙ ap₂ with_rule (c.in_ok-arg.ensures.shape (search rules) ∙ ap₂ with_rule c.bare.ensures model_is) steps_is) strict_is) file_is) choices_is) c.arg-5.ensures

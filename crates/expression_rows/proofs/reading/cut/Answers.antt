-- Tokens lie in the text that they are of, and have their numbers.
use Rattle.expression_rows.proofs.InText.{lie_in_text, numbered}
use Rattle.expression_rows.proofs.reading.cut.Goals as goal

pub tokens-requires : goal.tokens-requires
tokens-requires c = c.if-text-gt4194304.false

pub returns-clause-text : goal.returns-clause-text
returns-clause-text c =
    lie_in_text _ c.args.text.now _ _ c.in-Ok.is c.in_ok-tokens.ensures.tokens c.in_ok-tokens.ensures.of_text c.if-text-gt4194304.false

pub returns-clause-numbered : goal.returns-clause-numbered
returns-clause-numbered c = numbered c.args.text.now _ _ c.in-Ok.is c.in_ok-tokens.ensures.of_text

-- The link of a name says who declared it first.
use Rattle.std.proofs.Common.{None, Some, sym, ◌∙◌}
use Rattle.c_text.proofs.LinksFound.{token_is}
use Rattle.c_text.proofs.typed_text.TypedText.first_token.Goals as goal

pub returns-in-None : goal.returns-in-None
returns-in-None c = λ n p stands. token_is n c.args.self.now p c.args.token None stands (sym c.link.ensures ∙ c.in-None.is)

pub returns-in-Some : goal.returns-in-Some
returns-in-Some c = λ n p stands. token_is n c.args.self.now p c.args.token (Some c.in-Some.first) stands (sym c.link.ensures ∙ c.in-Some.is)

-- The token is that of the place.
use Rattle.std.proofs.Common.{subst, sym, ap, ◌∙◌, ◌++◌, ℕ}
use Rattle.expressions.specs.Context.{Context}
use Rattle.c_text.specs.Stands.{StandsFor}
use Rattle.lower.specs.Around.{around_of}
use Rattle.lowering.specs.Placing.{variable_of}
use Rattle.lower.proofs.placing.initialisers.variable.Goals as goal

pub returns : goal.returns
returns c = record {
  of = λ p reads.
      c.variable_of.ensures
      ∙ ap (λ (token : ℕ). variable_of (around_of c.args.around.now) token)
      (c.first_token-token.ensures reads.reads.0 p (subst (λ (context : Context). StandsFor reads.reads.0 context p) (sym c.text.ensures) reads.reads.1));
}

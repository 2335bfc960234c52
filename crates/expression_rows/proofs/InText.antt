-- The tokens of a text lie in it.
use Rattle.std.proofs.Common.{◌≡◌, ℕ, ◌≤◌, List, length, slice_index_or, arith, subst, sym}
use Rattle.std.specs.Prelude.{Result, Ok, IfOk}
use Rattle.ctokens.specs.InText.{LieInText, most_bytes}
use Rattle.ctokens.specs.TokenList.{AreNumbered, AreOfText, AreTokens}
use Rattle.ctokens.specs.declared.token.Tokens.{Tokens}

module _ {E : Type 0} (text : List ℕ) (answer : Result Tokens E) (t : Tokens) (is : answer ≡ Ok t) where
  of_text_found : IfOk answer (λ tokens. AreOfText text tokens.list) → AreOfText text t.list
  of_text_found = subst (λ (r : Result Tokens E). IfOk r (λ tokens. AreOfText text tokens.list)) is

  pub numbered : IfOk answer (λ tokens. AreOfText text tokens.list) → AreNumbered t.list
  numbered found = (of_text_found found).numbered

module _ {E : Type 0} (file text : List ℕ) (answer : Result Tokens E) (t : Tokens) (is : answer ≡ Ok t) where
  pub lie_in_text : IfOk answer (λ tokens. AreTokens file text tokens) → IfOk answer (λ tokens. AreOfText text tokens.list) → length text ≤ most_bytes
      → LieInText t
  lie_in_text are found short =
      let same = sym (subst (λ (r : Result Tokens E). IfOk r (λ tokens. AreTokens file text tokens)) is are).whole in
      let of_text = of_text_found text answer t is found in
      record {
        ranges = λ at default inside. (
          (of_text.parts at default inside).some,
          subst (λ (bytes : List ℕ). (slice_index_or t.list at default).to ≤ length bytes) same (of_text.parts at default inside).inside,
        );
        few = omega (arith, of_text.few, short);
      }

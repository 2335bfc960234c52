-- What is found of an expression is what is found of its form.
use Rattle.std.proofs.Common.{List, refl, sym, subst, Result, Ok, Err, IfOk}
use Rattle.cbase.specs.declared.abi.Abi.{Abi}
use Rattle.cbase.specs.declared.no_memory.NoMemory.{NoMemory}
use Rattle.cbase.specs.declared.tree.expr.Expr.{Expr}
use Rattle.cbase.specs.declared.tree.expr.ExprForm.TheViews.{out-ExprForm}
use Rattle.typing.specs.Known.{Known}
use Rattle.typing.specs.Outcomes.{Outcome, Passes, Refused}
use Rattle.typing.specs.Pieces.{pieces_in}
use Rattle.typing.specs.Told.{Told}
use Rattle.typing.specs.Typing.{ExpressionIs, PiecesAre, Finds, RefusedInside, Walked as WalkedExpression}
use Rattle.expressions.specs.declared.found.Found.{Found}
use Rattle.expressions.specs.declared.found.Found.TheVariants.{Passes as FoundToPass, Refused as FoundRefused}
use Rattle.expressions.specs.declared.known.Known.{Known as KnownByNumber}
use Rattle.expressions.specs.Context.{Context, Declared}
use Rattle.expressions.specs.Found.{an_expression}
use Rattle.expressions.specs.Numbers.{Numbering}
use Rattle.expressions.specs.Language.{language}
use Rattle.expressions.specs.Walked.{Walked, Says, SaysForm, IsAtNode}

module _ (abi : Abi) (expr : Expr) where
  from_parts : (n : Numbering) (before after : Declared) (outcome : Outcome Known) (parts : Outcome (List Told))
      → Finds (language abi n) before (PiecesAre (pieces_in (out-ExprForm expr.form)) parts) after
      → IsAtNode (language abi n) after expr.number expr.place (out-ExprForm expr.form) parts outcome → Finds (language abi n) before (ExpressionIs expr outcome) after
  from_parts n before after outcome (Passes told handed) found node = WalkedExpression refl found node
  from_parts n before after outcome (Refused first) found refused =
      subst (λ (o : Outcome Known). Finds (language abi n) before (ExpressionIs expr o) after) (sym refused) (RefusedInside refl found)

  from_form : (n : Numbering) (before after : Declared) (outcome : Outcome Known) → SaysForm abi expr.number expr.place (out-ExprForm expr.form) n before outcome after
      → Finds (language abi n) before (ExpressionIs expr outcome) after
  from_form n before after outcome says = from_parts n before after outcome says.0 says.1 says.2

  pub expression_result : (old new : Context) (r : Result (Found KnownByNumber) NoMemory)
      → IfOk r (λ found. Walked (SaysForm abi expr.number expr.place (out-ExprForm expr.form)) an_expression old new found)
      → IfOk r (λ found. Walked (Says abi (λ o. ExpressionIs expr o)) an_expression old new found)
  expression_result old new (Ok (FoundToPass known)) passed = record {
    rows = passed.rows;
    handed = passed.handed;
    grows = passed.grows;
    below = passed.below;
    found = λ n agrees. from_form n _ _ _ (passed.found n agrees);
  }
  expression_result old new (Ok (FoundRefused first)) stopped = record { grows = stopped.grows; found = λ n agrees. from_form n _ _ _ (stopped.found n agrees) }
  expression_result old new (Err error) walked = tt

-- Whatever is found of an expression is what was told of it, since it has one outcome.
use Rattle.std.proofs.Common.{◌≡◌, Result, Ok, Err, IfOk, map}
use Rattle.cbase.specs.declared.abi.Abi.{Abi}
use Rattle.cbase.specs.declared.no_memory.NoMemory.{NoMemory}
use Rattle.cbase.specs.declared.tree.expr.Expr.{Expr}
use Rattle.typing.specs.Outcomes.{Passes, Refused}
use Rattle.typing.specs.Typing.{ExpressionIs}
use Rattle.typing.proofs.OneOutcome.{one_outcome}
use Rattle.expressions.specs.declared.found.Found.{Found}
use Rattle.expressions.specs.declared.found.Found.TheVariants.{Passes as FoundToPass, Refused as FoundRefused}
use Rattle.expressions.specs.declared.known.Known.{Known as KnownByNumber}
use Rattle.expressions.specs.Context.{Context, declared}
use Rattle.expressions.specs.Exact.{NothingElse}
use Rattle.expressions.specs.Found.{an_expression}
use Rattle.expressions.specs.Numbers.{known_at, handed_at}
use Rattle.expressions.specs.Language.{language}
use Rattle.expressions.specs.Walked.{Walked, Says}

nothing_else : (abi : Abi) (expr : Expr) (old new : Context) (found : Found KnownByNumber)
    → Walked (Says abi (λ o. ExpressionIs expr o)) an_expression old new found → NothingElse abi expr old new found
nothing_else abi expr old new (FoundToPass known) walked = λ n agrees outcome after also.
    let same : (outcome ≡ Passes (known_at n known) (map (handed_at n) walked.rows)) × (after ≡ declared new) =
    (one_outcome (language abi n)).expressions (declared old) expr outcome (Passes (known_at n known) (map (handed_at n) walked.rows)) after (declared new) also (walked.found n agrees) in
    ((walked.rows, walked.handed, same.0), same.1)
nothing_else abi expr old new (FoundRefused first) walked = λ n agrees outcome after also.
    (one_outcome (language abi n)).expressions (declared old) expr outcome (Refused first) after (declared new) also (walked.found n agrees)

pub nothing_else_result : (abi : Abi) (expr : Expr) (old new : Context) (r : Result (Found KnownByNumber) NoMemory)
    → IfOk r (λ found. Walked (Says abi (λ o. ExpressionIs expr o)) an_expression old new found) → IfOk r (λ found. NothingElse abi expr old new found)
nothing_else_result abi expr old new (Ok found) walked = nothing_else abi expr old new found walked
nothing_else_result abi expr old new (Err error) walked = tt

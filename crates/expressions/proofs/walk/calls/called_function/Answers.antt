-- The name of a function passes with the type of the call, or has no definition.
use Rattle.std.proofs.Common.{Bool, Some, ap, ◌∙◌, subst}
use Rattle.typing.specs.declared.environment.entity.Entity.TheVariants.{Function}
use Rattle.typing.specs.declared.ctypes.found.Broken.TheVariants.{Construct}
use Rattle.typing.specs.Entities.{FunctionIs}
use Rattle.typing.specs.Faults.{unless}
use Rattle.typing.specs.Known.{Known, plain}
use Rattle.expressions.specs.Numbers.{function_at}
use Rattle.expressions.specs.Settled.{IsFirstOf}
use Rattle.expressions.proofs.Growth.{only_types_same}
use Rattle.expressions.proofs.Judging.{each_settled}
use Rattle.expressions.proofs.walk.calls.called_function.Goals as goal

pub returns : goal.returns
returns c =
    let function = c.args.function in
    each_settled c.settle.result _ _ c.unless-broken.result
    (record c.plain.result { stands = Some (Function function.signature function.defined function.built_in) }) _ _ _ _ (only_types_same _)
    (λ n agrees.
    subst (λ (there : Bool). IsFirstOf (unless there c.args.callee.now.place (Construct 12)) c.unless-broken.result) c.is_there-is_there.ensures c.unless-broken.ensures)
    (λ n agrees.
    let stands = Some (FunctionIs (function_at n (n.signature function.signature) function.defined function.built_in)) in
    ap (λ (k : Known). record k { stands = stands }) (c.plain.ensures.is n ∙ ap plain (c.result_of-result.ensures.is n agrees)))
    c.settle.ensures

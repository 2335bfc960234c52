-- The functions of the table are those that are built in.
use Rattle.std.proofs.Common.{OnOk, ap, map, subst}
use Rattle.typing.specs.environment.BuiltIns.{FunctionType}
use Rattle.typing.specs.environment.Names.{Entries}
use Rattle.items.specs.Begun.{HasMore, function_in}
use Rattle.items.proofs.built_ins.declare_built_ins.Goals as goal

pub returns : goal.returns
returns c = subst (λ (functions : Entries FunctionType). OnOk c.declare_functions.result (HasMore c.args.bodied.now functions c.args.context.now c.declare_functions.new.context))
    (ap (map (function_in c.args.abi)) c.as_slice.ensures) c.declare_functions.ensures

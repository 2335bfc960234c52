-- A parameter that is in scope behind it.
use Rattle.cbase.specs.declared.abi.Abi.TheVariants.{Lp64}
use Rattle.items.proofs.parameters.ParametersTaken.{parameter_taken}
use Rattle.items.proofs.parameters.taking.take.Goals as goal

pub declare-requires : goal.declare-requires
declare-requires c = (c.in_ok-told.ensures Lp64).below

pub returns : goal.returns
returns c abi = parameter_taken abi c.args.param.now c.args.base c.args.sizes.now c.args.context.now c.parameter_of.new.context c.declare.new.context c.in_ok-told.told
    (c.in_ok-told.ensures abi) c.in_ok-declare.ensures

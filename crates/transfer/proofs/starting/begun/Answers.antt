use Rattle.std.proofs.Common.{rules}
use Rattle.transfer.proofs.StartReady.{parameters_ready}
use Rattle.transfer.proofs.starting.begun.Goals as goal

pub enter-requires : goal.enter-requires
enter-requires c = record {
  may = parameters_ready c.args.flow.now c.args.graph.now c.parameters_of_main-parameters.result.now c.as_slice.result.now c.requires.flow c.requires.few c.requires.graph c.parameters_of_main-parameters.ensures (search rules);
}

use Rattle.block_steps.proofs.ReleaseReady.{region_ready}
use Rattle.block_steps.proofs.freeing.release_value.Goals as goal

pub release_object-requires : goal.release_object-requires
release_object-requires c = record {
  region = region_ready c.args.graph.now c.args.key c.in-Address.object c.in-Address.offset c.in-Address.target c.args.value c.requires.graph c.requires.value c.in-Address.is c.requires.names;
}

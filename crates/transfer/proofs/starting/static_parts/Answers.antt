use Rattle.std.proofs.Common.{rules}
use Rattle.transfer.proofs.StartReady.{variables_small, statics_ready, values_few}
use Rattle.transfer.proofs.starting.static_parts.Goals as goal

pub put_statics-requires-clause-sizes : goal.put_statics-requires-clause-sizes
put_statics-requires-clause-sizes c = variables_small c.args.flow.now c.as_slice.result.now c.requires.flow c.as_slice.ensures

pub put_initials-requires-clause-named : goal.put_initials-requires-clause-named
put_initials-requires-clause-named c =
    statics_ready c.args.flow.now c.as_slice.result.now c.no_parts-parts.result c.put_statics.new.parts c.requires.flow c.requires.few c.as_slice.ensures c.no_parts-parts.ensures c.in-Ok.ensures

pub put_initials-requires-clause-few : goal.put_initials-requires-clause-few
put_initials-requires-clause-few c = values_few c.args.flow.now c.as_slice.result.now c.no_parts-parts.result c.put_statics.new.parts c.no_parts-parts.ensures c.in-Ok.ensures (search rules)

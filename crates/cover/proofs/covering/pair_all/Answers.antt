use Rattle.std.proofs.Common.{rules}
use Rattle.graph.specs.Meaning.{maps_of}
use Rattle.cover.proofs.Verdict.{all-finishes}
use Rattle.cover.proofs.covering.pair_all.Goals as goal

pub returns : goal.returns
returns c = all-finishes (maps_of c.args.wide.now) (maps_of c.args.narrow.now) c.args.found.now c.pair_variables.new.found c.pair_registers.new.found c.pair_ports.new.found c.pair_objects_of_queue.new.found
    c.in_ok-pair_variables.field-0 c.in_ok-pair_registers.field-0 c.in_ok-pair_ports.field-0 c.in_ok-fine.fine
    c.in_ok-pair_variables.ensures (search rules) c.in_ok-pair_registers.ensures (search rules) c.in_ok-pair_ports.ensures (search rules) c.in_ok-fine.ensures

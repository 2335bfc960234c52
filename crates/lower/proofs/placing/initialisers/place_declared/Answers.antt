-- The line is that of the names.
use Rattle.std.proofs.Common.{map}
use Rattle.std.specs.List.{flat_map}
use Rattle.c_machine.specs.Trees.{name_of, text_of}
use Rattle.lowering.specs.Placing.{declared_moves}
use Rattle.lowering.proofs.Onward.{on_ok}
use Rattle.lower.proofs.LinesPlaced.{follow_leads}
use Rattle.lower.proofs.placing.initialisers.place_declared.Goals as goal

pub returns : goal.returns
returns c = on_ok c.push.result
    (λ is_new. λ p around made reads.
    follow_leads p around c.args.levels c.args.from c.args.to c.args.jobs.now c.push.new.self made (flat_map (declared_moves (text_of p)) (map name_of c.args.names.now))
    c.new-moves.result c.declared_line.new.line c.new-moves.ensures (c.in_ok-declared_line.ensures.of p reads) is_new)
    c.push.ensures.ok

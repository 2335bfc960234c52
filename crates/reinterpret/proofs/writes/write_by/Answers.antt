use Rattle.std.proofs.Common.{List, sym, ◌∙◌, ap}
use Rattle.graph.specs.declared.parts.Held.{Held}
use Rattle.graph.specs.Maps.{held_by}
use Rattle.reinterpret.proofs.Ready.{writable_held}
use Rattle.reinterpret.proofs.writes.write_by.Goals as goal

pub write_reached-requires-clause-value : goal.write_reached-requires-clause-value
write_reached-requires-clause-value c =
    writable_held c.args.graph.now c.args.from c.args.size c.in-Some-held_by.source c.in-Some-value.value.now c.requires.graph c.requires.value
    (ap (λ (registers : List Held). held_by registers c.args.from) (sym c.requires.registers) ∙ sym c.in-Some-held_by.ensures) (sym c.in-Some-value.ensures)

use Rattle.std.proofs.Common.{List, sym, ◌∙◌, ap}
use Rattle.std.specs.Option.{option_copied}
use Rattle.graph.specs.declared.parts.Held.{Held}
use Rattle.graph.specs.Maps.{held_by}
use Rattle.changes.proofs.Led.{value_there}
use Rattle.range_steps.proofs.fills.fill_by.Goals as goal

pub unreachable-requires-in-None-value : goal.unreachable-requires-in-None-value
unreachable-requires-in-None-value c =
    value_there c.args.graph.now c.args.from c.in-Some-held_by.source c.requires.graph
    (ap (λ (registers : List Held). held_by registers c.args.from) (sym c.requires.registers) ∙ sym c.held_by-in-Some.ensures ∙ c.in-Some-held_by.is)
    (sym c.value.ensures ∙ ap option_copied c.in-None-value.is)

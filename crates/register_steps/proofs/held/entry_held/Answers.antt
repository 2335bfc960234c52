use Rattle.std.proofs.Common.{sym}
use Rattle.graph.specs.declared.parts.KeyedValue.{KeyedValue}
use Rattle.graph.specs.Sizes.{is_sized}
use Rattle.graph.proofs.Found.{found-all}
use Rattle.register_steps.proofs.held.entry_held.Goals as goal

pub returns-in-Some-value-clause-sized : goal.returns-in-Some-value-clause-sized
returns-in-Some-value-clause-sized c =
    found-all (λ (entry : KeyedValue). entry.key) (λ entry. entry.value) is_sized c.args.graph.now.values c.in-Some.key c.in-Some-value.value.now c.registers.ensures.graph.well_formed.values_are_sized (sym c.in-Some-value.ensures)

use Rattle.std.proofs.Common.{◌/◌, length, arith}
use Rattle.graph.specs.declared.parts.KeyedValue.{KeyedValue}
use Rattle.graph.proofs.ByHalves.{halved_front, halved_behind}
use Rattle.graph.proofs.look_up.value_with.Goals as goal

pub loop-entries-preserved-then-key-entries : goal.loop-entries-preserved-then-key-entries
loop-entries-preserved-then-key-entries c =
    halved_front (λ (entry : KeyedValue). entry.key) (λ entry. entry.value) c.args.parts.now.values c.loop-entries.entries.now c.split_at.result.0.now c.args.key (length c.loop-entries.entries.now / 2) _ c.loop-entries.invariant (omega arith) c.if-key-entries.true c.split_at.ensures.front

pub loop-entries-preserved : goal.loop-entries-preserved
loop-entries-preserved c =
    halved_behind (λ (entry : KeyedValue). entry.key) (λ entry. entry.value) c.args.parts.now.values c.loop-entries.entries.now c.split_at.result.1.now c.args.key (length c.loop-entries.entries.now / 2) _ c.loop-entries.invariant (omega arith) c.if-key-entries.false c.split_at.ensures.back

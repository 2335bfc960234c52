use Rattle.std.proofs.Common.{◌≡◌, ◌/◌, length, get_or, ap, arith}
use Rattle.graph.specs.declared.parts.KeyedObject.{KeyedObject}
use Rattle.graph.proofs.ByHalves.{halved_front, halved_behind}
use Rattle.graph.proofs.look_up.object_with.Goals as goal

pub loop-entries-preserved-then-key-entries : goal.loop-entries-preserved-then-key-entries
loop-entries-preserved-then-key-entries c =
    let is : c.index-entries-middle.result.key ≡ (get_or c.loop-entries.entries.now (length c.loop-entries.entries.now / 2) c.index-entries-middle.result).key = ap (λ (entry : KeyedObject). entry.key) c.index-entries-middle.is in
    halved_front (λ (entry : KeyedObject). entry.key) (λ entry. entry.object) c.args.parts.now.objects c.loop-entries.entries.now c.split_at.result.0.now c.args.key (length c.loop-entries.entries.now / 2) c.index-entries-middle.result c.loop-entries.invariant (omega arith) (omega arith) c.split_at.ensures.front

pub loop-entries-preserved : goal.loop-entries-preserved
loop-entries-preserved c =
    let is : c.index-entries-middle.result.key ≡ (get_or c.loop-entries.entries.now (length c.loop-entries.entries.now / 2) c.index-entries-middle.result).key = ap (λ (entry : KeyedObject). entry.key) c.index-entries-middle.is in
    halved_behind (λ (entry : KeyedObject). entry.key) (λ entry. entry.object) c.args.parts.now.objects c.loop-entries.entries.now c.split_at.result.1.now c.args.key (length c.loop-entries.entries.now / 2) c.index-entries-middle.result c.loop-entries.invariant (omega arith) (omega arith) c.split_at.ensures.back

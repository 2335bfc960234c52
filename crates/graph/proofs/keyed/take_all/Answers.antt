use Rattle.std.proofs.Common.{◌+◌, ◌∷◌, ◌++◌, [], drop, get_or, refl, sym, ap, ◌∙◌}
use Rattle.std.proofs.lemmas.List.{append_assoc}
use Rattle.graph.specs.Slots.{held_at}
use Rattle.graph.proofs.InSlots.{some_here, taken_first, taken_rest}
use Rattle.graph.proofs.keyed.take_all.Goals as goal

pub unreachable-requires : goal.unreachable-requires
unreachable-requires g c =
    some_here c.loop-key.slots.slots c.args.keys.now c.loop-key.key-index (get_or c.args.keys.now c.loop-key.key-index 0) c.loop-key-test.true refl c.loop-key.invariant.held
    (sym c.try_remove.ensures.value ∙ c.in-None.is)

pub loop-key-preserved : goal.loop-key-preserved
loop-key-preserved g c =
    let keys = c.args.keys.now in
    let place = c.loop-key.key-index in
    let after = c.try_remove.new.self in
    let first = taken_first c.loop-key.slots after keys place (get_or keys place 0) c.in-Some.item c.loop-key-test.true refl c.requires.apart c.try_remove.ensures.updates
    (sym c.try_remove.ensures.value ∙ c.in-Some.is) c.loop-key.invariant.held in record {
      held = taken_rest c.loop-key.slots after keys place (get_or keys place 0) c.loop-key-test.true refl c.requires.apart c.try_remove.ensures.updates c.loop-key.invariant.held;
      taken = ap (λ t. t ++ held_at after.slots (drop (place + 1) keys)) c.in_ok-push-in-Some.ensures.items
          ∙ append_assoc c.loop-key.items.items (c.in-Some.item ∷ []) (held_at after.slots (drop (place + 1) keys))
          ∙ ap (λ t. c.loop-key.items.items ++ t) (sym first)
          ∙ c.loop-key.invariant.taken;
    }

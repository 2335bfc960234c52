use Rattle.std.proofs.Common.{add-one}
use Rattle.graph.specs.Renaming.{place_among}
use Rattle.graph.specs.declared.parts.Held.{Held}
use Rattle.graph.proofs.PlaceAmong.{changed_more}
use Rattle.graph.proofs.places.place_registers.Goals as goal

pub loop-held-preserved : goal.loop-held-preserved
loop-held-preserved c =
    rw (add-one, c.place_of-held.ensures, c.loop-held.invariant)
    (changed_more (λ (held : Held). (let h : Held = record { register = held.register; value = place_among c.args.keys.now held.value } in h)) c.args.registers.now c.loop-held.held-index _ c.loop-held-test.true)

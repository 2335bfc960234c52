use Rattle.std.proofs.Common.{add-one}
use Rattle.graph.specs.Renaming.{place_among}
use Rattle.graph.specs.declared.parts.Named.{Named}
use Rattle.graph.proofs.PlaceAmong.{changed_more}
use Rattle.graph.proofs.places.place_variables.Goals as goal

pub loop-named-preserved : goal.loop-named-preserved
loop-named-preserved c =
    rw (add-one, c.place_of-named.ensures, c.loop-named.invariant)
    (changed_more (λ (named : Named). (let n : Named = record { variable = named.variable; object = place_among c.args.keys.now named.object } in n)) c.args.variables.now c.loop-named.named-index _ c.loop-named-test.true)

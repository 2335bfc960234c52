use Rattle.std.proofs.Common.{rules, ◌≡◌, ◌↔◌, ◌<◌, ◌≤◌, true, List, length, get_or, subst}
use Rattle.graph.specs.Meaning.{maps_of}
use Rattle.graph.specs.declared.parts.Pair.{Pair}
use Rattle.cover.specs.Found.{pairing_of}
use Rattle.cover.specs.Checked.{IsApartBy}
use Rattle.cover.proofs.Telling.{pairs-next, pairs-end}
use Rattle.cover.proofs.apart.pairs_are_apart.Goals as goal

abbrev nothing : Pair
nothing = record { left = 0; right = 0 }

pub loop-at-preserved : goal.loop-at-preserved
loop-at-preserved c =
    pairs-next (maps_of c.args.wide.now) (maps_of c.args.narrow.now) (pairing_of c.args.found.now) c.loop-at.at nothing c.pair_is_apart.result c.loop-at.invariant
    (subst (λ (pairs : List Pair). c.loop-at.at < length pairs) c.unequal-pairs.ensures.unequal c.loop-at-test.true)
    (subst (λ (pairs : List Pair). (c.pair_is_apart.result ≡ true) ↔ IsApartBy (maps_of c.args.wide.now) (maps_of c.args.narrow.now) (pairing_of c.args.found.now) (get_or pairs c.loop-at.at nothing))
    c.unequal-pairs.ensures.unequal c.pair_is_apart.ensures)
    (search rules)

pub returns : goal.returns
returns c =
    pairs-end (maps_of c.args.wide.now) (maps_of c.args.narrow.now) (pairing_of c.args.found.now) c.loop-at.at c.loop-at.invariant
    (subst (λ (pairs : List Pair). length pairs ≤ c.loop-at.at) c.unequal-pairs.ensures.unequal (search rules))

-- `=`, and `+=` and its like.
use Rattle.std.proofs.Common.{refl, ap}
use Rattle.c_machine.specs.Trees.{text_of}
use Rattle.lowering.specs.LetGo.{left_by_assign, left_within}
use Rattle.lowering.proofs.Lefts.{one_part, two_parts}
use Rattle.lowering.proofs.left_values.add_assigned.Goals as goal

pub returns-in_ok-own-in-None : goal.returns-in_ok-own-in-None
returns-in_ok-own-in-None c = one_part _ _ _ _ _ _ _ c.add_stored.result c.add_stored.ensures
    (λ p is. rw c.in-None.is (ap (left_by_assign (text_of p) (left_within c.args.levels (text_of p)) c.args.one.now c.args.other.now) (c.in_ok-own-in-None.ensures.of p is.reads)))

pub returns-in_ok-add_place_apart-in-Some : goal.returns-in_ok-add_place_apart-in-Some
returns-in_ok-add_place_apart-in-Some c = two_parts _ _ _ _ _ _ _ _ _ c.add_value_apart.result c.in_ok-add_place_apart-in-Some.ensures c.add_value_apart.ensures (λ p is. rw c.in-Some.is refl)

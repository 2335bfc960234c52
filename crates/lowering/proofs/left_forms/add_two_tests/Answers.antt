-- Both conditions.
use Rattle.std.proofs.Common.{refl}
use Rattle.lowering.proofs.Lefts.{two_parts}
use Rattle.lowering.proofs.left_forms.add_two_tests.Goals as goal

pub returns : goal.returns
returns c = two_parts _ _ _ _ _ _ _ _ _ c.add_whole-2.result c.in_ok-add_whole.ensures c.add_whole-2.ensures (λ p is. refl)

-- Each conversion.
use Rattle.std.proofs.Common.{refl}
use Rattle.lowering.proofs.Lefts.{no_part, one_part}
use Rattle.lowering.proofs.left.add_converted.Goals as goal

pub returns-in-Nothing : goal.returns-in-Nothing
returns-in-Nothing c = one_part _ _ _ _ _ _ _ c.add_whole.result c.add_whole.ensures (λ p is. rw c.in-Nothing.is refl)

pub returns-in-Resized : goal.returns-in-Resized
returns-in-Resized c = one_part _ _ _ _ _ _ _ c.add_value_apart.result c.add_value_apart.ensures (λ p is. rw c.in-Resized.is refl)

pub returns-in-Tested : goal.returns-in-Tested
returns-in-Tested c = one_part _ _ _ _ _ _ _ c.add_whole-in-Tested.result c.add_whole-in-Tested.ensures (λ p is. rw c.in-Tested.is refl)

pub returns-in-Dropped : goal.returns-in-Dropped
returns-in-Dropped c = one_part _ _ _ _ _ _ _ c.add_whole-in-Dropped.result c.add_whole-in-Dropped.ensures (λ p is. rw c.in-Dropped.is refl)

pub returns-in-Unknown : goal.returns-in-Unknown
returns-in-Unknown c = no_part _ _ _ _ _ _ c.add_nothing.ensures (λ p is. rw c.in-Unknown.is refl)

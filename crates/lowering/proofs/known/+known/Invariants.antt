-- Each level has at most four calls one behind the other.
use Rattle.std.proofs.Common.{◌+◌, ◌*◌}
use Rattle.lowering.proofs.known.+known.Given as goal

abbrev pub decreases-known : goal.decreases-known
decreases-known l = 4 * l.levels

abbrev pub decreases-loaded_word : goal.decreases-loaded_word
decreases-loaded_word l = 4 * l.levels + 1

abbrev pub decreases-as_kind : goal.decreases-as_kind
decreases-as_kind l = 4 * l.levels + 1

abbrev pub decreases-operated_word : goal.decreases-operated_word
decreases-operated_word l = 4 * l.levels + 1

abbrev pub decreases-tested_word : goal.decreases-tested_word
decreases-tested_word l = 4 * l.levels + 1

abbrev pub decreases-unary_word : goal.decreases-unary_word
decreases-unary_word l = 4 * l.levels + 2

abbrev pub decreases-binary_word : goal.decreases-binary_word
decreases-binary_word l = 4 * l.levels + 2

abbrev pub decreases-chosen_word : goal.decreases-chosen_word
decreases-chosen_word l = 4 * l.levels + 2

abbrev pub decreases-value_word : goal.decreases-value_word
decreases-value_word l = 4 * l.levels + 3

abbrev pub decreases-place_word : goal.decreases-place_word
decreases-place_word l = 4 * l.levels + 3

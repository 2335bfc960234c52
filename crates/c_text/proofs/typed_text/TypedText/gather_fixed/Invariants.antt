-- The objects of the rows behind are put in order.
use Rattle.std.proofs.Common.{◌≡◌, ◌≤◌, drop, length, map, reverse}
use Rattle.expressions.specs.Numbers.{Numbering}
use Rattle.c_machine.specs.Program.{Program, fixed_in}
use Rattle.c_text.specs.Fixed.{fixed_by}
use Rattle.c_text.specs.Stands.{StandsFor}
use Rattle.c_text.proofs.typed_text.TypedText.gather_fixed.Given as goal

abbrev pub invariant-loop-left : goal.invariant-loop-left
invariant-loop-left l =
    (l.left ≤ length l.self.handed) × ((n : Numbering) (p : Program) → StandsFor n l.self p →
    reverse l.rows.items ≡ map (fixed_by p) (fixed_in p.handed l.outside (drop l.left p.handed)))

abbrev pub decreases-loop-left : goal.decreases-loop-left
decreases-loop-left l = l.left

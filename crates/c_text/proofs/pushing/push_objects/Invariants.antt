-- What is pushed, and the objects that are left.
use Rattle.std.proofs.Common.{◌≡◌, List, ◌++◌, length, map, reverse, option_map}
use Rattle.c_machine.specs.declared.object.Object.{Object}
use Rattle.c_text.specs.declared.fixed_object.FixedObject.{FixedObject}
use Rattle.c_text.specs.Kept.{all_there}
use Rattle.c_text.proofs.pushing.push_objects.Given as goal

abbrev pub invariant-loop-row : goal.invariant-loop-row
invariant-loop-row l =
    option_map (λ (more : List Object). l.initial.objects.items ++ more) (all_there (map (λ (row : FixedObject). row.object) (reverse l.initial.rows.items)))
    ≡ option_map (λ (more : List Object). l.objects.items ++ more) (all_there (map (λ (row : FixedObject). row.object) (reverse l.rows.items)))

abbrev pub decreases-loop-row : goal.decreases-loop-row
decreases-loop-row l = length l.rows.items

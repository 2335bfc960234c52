-- What is passed over on the way out of a loop's body.
use Rattle.std.specs.Prelude.{ℕ, ◌+◌, List, Option, Some, option_map}
use Rattle.c_machine.specs.declared.task.Task.{Task}
use Rattle.c_machine.specs.Statements.{LoopLeft, one_more}
use Rattle.c_steps.specs.declared.ends.Passed.{Passed}
use Rattle.c_steps.specs.declared.ends.Passed.TheVariants.{Loop, Block, Other}

-- the end of the body is behind what is passed, where this is found behind it
abbrev pub behind : {E S I : Type 0} → Passed S → List (Task E S I) → Option (LoopLeft E S I) → Option (LoopLeft E S I)
behind (Loop stmt held) rest found = Some (record { blocks = 0; loop = stmt; held = held; rest = rest })
behind Block rest found = option_map one_more found
behind Other rest found = found

-- so many blocks more are left
abbrev pub further : {E S I : Type 0} → ℕ → LoopLeft E S I → LoopLeft E S I
further count left = record left { blocks = count + left.blocks }

abbrev pub further_on : {E S I : Type 0} → ℕ → Option (LoopLeft E S I) → Option (LoopLeft E S I)
further_on count found = option_map (further count) found

-- The steps that are done and those that are left.
use Rattle.std.proofs.Common.{◌≡◌, ◌≤◌, ◌-◌}
use Rattle.c_machine.specs.Program.{Program, functions_in}
use Rattle.c_machine.specs.Run.{run}
use Rattle.c_machine.specs.State.{Went}
use Rattle.c_machine.specs.Trees.{text_of}
use Rattle.expressions.specs.Numbers.{Numbering}
use Rattle.c_text.specs.Stands.{StandsFor}
use Rattle.c_run.proofs.RunsOn.{GoesOn}
use Rattle.c_run.proofs.running.run.Given as goal

abbrev pub invariant-loop-left : goal.invariant-loop-left
invariant-loop-left l = record {
  count : l.left ≤ l.steps;
  goes : (n : Numbering) (p : Program) → StandsFor n l.text p → p.strict ≡ l.strict → l.functions ≡ functions_in p.items →
      GoesOn (text_of p) l.steps l.left l.initial.state l.initial.choices l.state l.choices;
  went : (n : Numbering) (p : Program) → StandsFor n l.text p → p.strict ≡ l.strict → l.functions ≡ functions_in p.items →
      run (l.steps - l.left) (text_of p) l.initial.state l.initial.choices ≡ Went l.state l.choices;
}

abbrev pub decreases-loop-left : goal.decreases-loop-left
decreases-loop-left l = l.left

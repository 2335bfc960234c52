-- The steps that are done and those that are left.
use Rattle.std.proofs.Common.{◌≡◌, ◌≤◌}
use Rattle.c_machine.specs.Program.{Program, functions_in}
use Rattle.c_machine.specs.Trees.{text_of}
use Rattle.expressions.specs.Numbers.{Numbering}
use Rattle.c_text.specs.Stands.{StandsFor}
use Rattle.c_run.proofs.StepsLeft.{Finishes}
use Rattle.c_run.proofs.finishing.finish.Given as goal

abbrev pub invariant-turns : goal.invariant-turns
invariant-turns l = record {
  count : l.left ≤ l.steps;
  goes : (n : Numbering) (p : Program) → StandsFor n l.text p → p.strict ≡ l.strict → l.functions ≡ functions_in p.items →
      Finishes (text_of p) l.steps l.left l.initial.state l.initial.choices l.state l.choices;
}

abbrev pub decreases-turns : goal.decreases-turns
decreases-turns l = l.left

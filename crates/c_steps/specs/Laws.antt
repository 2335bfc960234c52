-- Laws of the steps that look at no tree.
use Rattle.std.specs.Prelude.{◌≡◌, List, IfSome}
use Rattle.choices.specs.declared.choice.Choice.{Choice}
use Rattle.c_machine.specs.Program.{Program}
use Rattle.c_machine.specs.State.{TaskIn, StateIn}
use Rattle.c_machine.specs.Step.{step_of}
use Rattle.c_machine.specs.Trees.{text_of}
use Rattle.c_steps.specs.PlainStep.{plain_step}

-- where a step is said to look at no tree, the machine takes that step in every program
abbrev pub ArePlainSteps : Type 0
ArePlainSteps =
    (p : Program) (task : TaskIn (text_of p)) (state : StateIn (text_of p)) (choices : List Choice)
    → IfSome (plain_step (text_of p).strict task state choices) (λ comes. step_of (text_of p) task state choices ≡ comes)

-- What a step comes to, where its state and the choices that it left are those.
use Rattle.std.specs.Prelude.{List}
use Rattle.choices.specs.declared.choice.Choice.{Choice}
use Rattle.c_machine.specs.State.{State, Outcome, Went, Waits, Ended, Faulted, Stuck}
use Rattle.c_steps.specs.declared.outcome.Outcome.{Outcome as Answer}
use Rattle.c_steps.specs.declared.outcome.Outcome.TheVariants as answer

abbrev pub comes_to : {E S I : Type 0} → Answer → State E S I → List Choice → Outcome E S I
comes_to answer.Went state choices = Went state choices
comes_to answer.Waits state choices = Waits
comes_to answer.Ended state choices = Ended
comes_to (answer.Faulted kind place) state choices = Faulted kind place
comes_to answer.Stuck state choices = Stuck

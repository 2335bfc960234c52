-- What holds of every state of a run, in one record.
use Rattle.std.specs.Prelude.{◌≡◌, ℕ, List, Some, ◌⊎◌}
use Rattle.choices.specs.declared.choice.Choice.{Choice}
use Rattle.c_machine.specs.declared.object.Object.{Object}
use Rattle.c_machine.specs.Awaiting.{Parts, IsAwaiting}
use Rattle.c_machine.specs.Fitting.{IsLocalOf, IsStaticOf, HasBytes, IsFitting, IsFittingProgram}
use Rattle.c_machine.specs.Keeping.{IsState}
use Rattle.c_machine.specs.Program.{Program}
use Rattle.c_machine.specs.Run.{run_of}
use Rattle.c_machine.specs.Standing.{parts_of, AreCallsRight}
use Rattle.c_machine.specs.State.{StateIn, Went, block_of}
use Rattle.c_machine.specs.Step.{step}
use Rattle.c_machine.specs.Text.{Text}
use Rattle.c_machine.specs.Trees.{text_of}

-- its memory is one, and objects live there; numbers and sizes fit; and an operand stands for each value that is awaited, at the end the result of main
pub record IsRunState (t : Text) (parts : Parts t) (state : StateIn t) : Type 0 where
  pub lives : IsState state
  pub fits : IsFitting t state
  pub awaits : IsAwaiting t parts 1 state

-- what is asked of a program: the numbers that typing hands on fit, and calls have as many arguments as parameters
pub record IsRight (p : Program) : Type 0 where
  pub fits : IsFittingProgram p
  pub calls : AreCallsRight p

-- a step keeps it, and each state of a run has it
pub record AreRunStates : Type 0 where
  pub steps : (p : Program) (state next : StateIn (text_of p)) (choices rest : List Choice) → IsRight p → IsRunState (text_of p) (parts_of p) state →
      step (text_of p) state choices ≡ Went next rest → IsRunState (text_of p) (parts_of p) next
  pub runs : (p : Program) (steps : ℕ) (state : StateIn (text_of p)) (choices rest : List Choice) → IsRight p → run_of (text_of p) choices steps ≡ Went state rest →
      IsRunState (text_of p) (parts_of p) state

-- that numbers and sizes fit asks nothing of calls
pub record AreFitting : Type 0 where
  pub steps : (p : Program) (state next : StateIn (text_of p)) (choices rest : List Choice) → IsFittingProgram p → IsState state → IsFitting (text_of p) state →
      step (text_of p) state choices ≡ Went next rest → IsFitting (text_of p) next
  pub runs : (p : Program) (steps : ℕ) (state : StateIn (text_of p)) (choices rest : List Choice) → IsFittingProgram p → run_of (text_of p) choices steps ≡ Went state rest →
      IsFitting (text_of p) state

-- so the block that a name leads to has as many bytes as an object of the text with that token
abbrev pub DoNamesLeadToSizes : Type 0
DoNamesLeadToSizes =
    (p : Program) (state : StateIn (text_of p)) (token block : ℕ) → IsFitting (text_of p) state → block_of state token ≡ Some block →
    (object : Object) × (object.token ≡ Some token) × (IsLocalOf (text_of p) object ⊎ IsStaticOf (text_of p) object) × HasBytes state.memory block object.bytes

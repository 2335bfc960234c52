-- What a step lacks that is no step of a program of C: never an operand.
use Rattle.std.specs.Prelude.{◌≡◌, List, [], ◌∷◌, None}
use Rattle.bytes_core.specs.declared.word.Word.{Word}
use Rattle.choices.specs.declared.choice.Choice.{Choice}
use Rattle.c_machine.specs.declared.task.Task.TheVariants.{ObjectAt, Apply, Store, Update, CountBy, LeaveBlock, BreakAt, ContinueAt, GiveBack, Unknown}
use Rattle.c_machine.specs.Program.{Program}
use Rattle.c_machine.specs.RunStates.{IsRunState}
use Rattle.c_machine.specs.Standing.{parts_of}
use Rattle.c_machine.specs.State.{TaskIn, StateIn, Stuck, block_of}
use Rattle.c_machine.specs.Statements.{loop_left, body_left}
use Rattle.c_machine.specs.Step.{step}
use Rattle.c_machine.specs.Text.{Text}
use Rattle.c_machine.specs.Trees.{text_of}
use Rattle.c_machine.specs.Words.{applied, scalar_bytes}

-- a name without an object in scope, an operator that is none of its type, a store of what is no scalar, the end of a block where none is open, a jump
-- out of no loop and no body, and what no program of C does. Nothing else is lacking, no function that is called and no operand
abbrev pub Lacks : (t : Text) → TaskIn t → StateIn t → Type 0
Lacks t (ObjectAt token) state = block_of state token ≡ None
Lacks t (Apply op kind) state = (word : Word) × (applied state.memory op kind word ≡ None)
Lacks t (Store place kind) state = scalar_bytes kind ≡ None
Lacks t (Update op place kind right) state = scalar_bytes kind ≡ None
Lacks t (CountBy up behind place kind) state = scalar_bytes kind ≡ None
Lacks t (LeaveBlock place) state = state.frame ≡ []
Lacks t (BreakAt word) state = loop_left state.tasks ≡ None
Lacks t (ContinueAt word) state = loop_left state.tasks ≡ None
Lacks t (GiveBack word from) state = body_left state.tasks ≡ None
Lacks t Unknown state = Unit {0}
Lacks t other state = ⊥

abbrev pub LacksFirst : (t : Text) → List (TaskIn t) → StateIn t → Type 0
LacksFirst t [] state = ⊥
LacksFirst t (task ∷ rest) state = Lacks t task (record state { tasks = rest })

-- a state of a run in which a step is none of a program of C lacks one of these
abbrev pub IsNoOperandLacking : Type 0
IsNoOperandLacking =
    (p : Program) (state : StateIn (text_of p)) (choices : List Choice) → IsRunState (text_of p) (parts_of p) state → step (text_of p) state choices ≡ Stuck →
    LacksFirst (text_of p) state.tasks state

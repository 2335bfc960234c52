-- Functions that the program defines are called (C11 6.5.2.2, 6.9.1).
use Rattle.std.specs.Prelude.{ℕ, List, [], ◌∷◌, ◌++◌, map, length, reverse, take, drop, Option, None, Some}
use Rattle.bytes_core.specs.declared.word.Word.{Word}
use Rattle.choices.specs.declared.choice.Choice.{Choice}
use Rattle.c_machine.specs.Text.{Function, Text}
use Rattle.c_machine.specs.declared.task.Task.TheVariants.{Execute, OpenBlock, MakeParameter, EndOfBody}
use Rattle.c_machine.specs.State.{TaskIn, StateIn, OutcomeIn, Went, Stuck}
use Rattle.c_machine.specs.Blocks.{entered}

-- the outermost block of a body, which is one block with the parameters: its objects are made, then it runs up to its `}` (6.2.1p4, 6.2.4p6, 6.9.1p9). The
-- unfinished expressions around the call hold so many operands
abbrev pub body_tasks : (t : Text) → Function t.Stmt → ℕ → List (TaskIn t)
body_tasks t function held =
    entered t function.body ++ (map Execute function.body ++ EndOfBody function.is_main function.result function.close held ∷ [])

-- a call, behind its arguments: each parameter in its turn is made and gets its argument (6.5.2.2p4, p7)
abbrev pub function_tasks : (t : Text) → Function t.Stmt → ℕ → List (TaskIn t)
function_tasks t function held = OpenBlock ∷ (map (λ param. MakeParameter param.object) function.params ++ body_tasks t function held)

-- the operands with so many that were computed last turned round, so that the first of these is taken first
abbrev pub turned : ℕ → List Word → List Word
turned count operands = reverse (take count operands) ++ drop count operands

-- the objects of the function that calls stay, and so do the operands that its unfinished expressions hold; the function that is called has objects of its
-- own
abbrev pub called : (t : Text) → Option (Function t.Stmt) → StateIn t → List Choice → OutcomeIn t
called t None state choices = Stuck
called t (Some function) state choices =
    Went (record state {
      tasks = function_tasks t function (length (drop (length function.params) state.operands)) ++ state.tasks;
      operands = turned (length function.params) state.operands;
      frame = [];
      callers = state.frame ∷ state.callers;
    }) choices

-- A `break` leaves the block of a `for`, and no other loop has one.
use Rattle.std.proofs.Common.{◌≡◌, ℕ, Bool, List, Option, Some, refl, sym, ap, ◌∙◌, ◌++◌}
use Rattle.cbase.specs.declared.place.Place.{Place}
use Rattle.choices.specs.declared.choice.Choice.{Choice}
use Rattle.c_machine.specs.State.{TaskIn, StateIn, Went}
use Rattle.c_machine.specs.Statements.{LoopLeft, after_break, behind_loop, leaves, loop_left, oldest}
use Rattle.c_machine.specs.Step.{leave_loop}
use Rattle.c_machine.specs.Text.{Clause, Declare, Eval, Block, If, While, Do, For, Break, Continue, Return, Text}
use Rattle.c_steps.specs.Leaving.{behind_loop as behind, out_of_loop}
use Rattle.c_run.specs.tasks.Loops.{is_for}

behind_clause : (t : Text) (word : Place) (clause : Clause t.Expr t.Stmt t.Init) (rest : List (TaskIn t)) → behind (is_for clause) word rest ≡ behind_loop t word clause rest
behind_clause t word (For first test semicolon next close body) rest = refl
behind_clause t word (While test close body) rest = refl
behind_clause t word (Do body test close) rest = refl
behind_clause t word (Declare names) rest = refl
behind_clause t word (Eval expr) rest = refl
behind_clause t word (Block body) rest = refl
behind_clause t word (If test close one other) rest = refl
behind_clause t word Break rest = refl
behind_clause t word Continue rest = refl
behind_clause t word (Return expr) rest = refl

-- the state behind it
pub breaks_off : (t : Text) (word : Place) (blocks held : ℕ) (loop : t.Stmt) (has_block : Bool) (before middle : StateIn t) (choices : List Choice) →
    has_block ≡ is_for (t.clause loop) → loop_left before.tasks ≡ Some (record { blocks = blocks; loop = loop; held = held; rest = middle.tasks }) →
    middle ≡ record before { tasks = middle.tasks } →
    Went (out_of_loop has_block word blocks held middle) choices ≡ leave_loop (loop_left before.tasks) (after_break t word) before choices
breaks_off t word blocks held loop has_block before middle choices block left rest =
    ap (λ (state : StateIn t). Went (record state {
      tasks = leaves blocks word ++ behind has_block word middle.tasks;
      operands = oldest held state.operands;
    }) choices) rest
    ∙ ap (λ (more : List (TaskIn t)). Went (record before { tasks = leaves blocks word ++ more; operands = oldest held before.operands }) choices)
    (ap (λ (is : Bool). behind is word middle.tasks) block ∙ behind_clause t word (t.clause loop) middle.tasks)
    ∙ ap (λ (found : Option (LoopLeft t.Expr t.Stmt t.Init)). leave_loop found (after_break t word) before choices) (sym left)

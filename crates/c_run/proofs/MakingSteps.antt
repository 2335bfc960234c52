-- Steps that make room.
use Rattle.std.proofs.Common.{◌≡◌, ℕ, Bool, true, false, List, [], ◌∷◌, length, None, Some, Result, Ok, Err, refl, sym, ap, ◌∙◌, subst}
use Rattle.std.specs.Prelude.{IfOk, MatchResult, OnErr}
use Rattle.choices.specs.declared.choice.Choice.{Choice}
use Rattle.c_machine.specs.State.{TaskIn, StateIn, State, Went, doing}
use Rattle.c_machine.specs.declared.task.Task.{Task}
use Rattle.c_machine.specs.Statements.{again_parts, again_tasks, branch_parts, branch_tasks, test_parts, test_tasks}
use Rattle.c_machine.specs.Step.{step_of}
use Rattle.c_machine.specs.Text.{Clause, Declare, Eval, Block, If, While, Do, For, Break, Continue, Return, Text}
use Rattle.c_run.specs.declared.tasks.room.Room.{Room}
use Rattle.c_run.specs.declared.tasks.room.Room.TheVariants.{Made, NotKept}
use Rattle.c_run.specs.tasks.Room.{are_kept, kinds_in, MakesRoom}
use Rattle.c_run.specs.declared.stepped.Stepped.{Stepped}
use Rattle.c_run.specs.declared.stepped.Stepped.TheVariants.{Came, NotKept as NoAnswer}
use Rattle.c_run.specs.Stepped.{IsStep, IsStepOf, kinds_at, stepped_by}

pub room_step : (t : Text) (task : TaskIn t) (tasks : List (TaskIn t)) (room : Room) (stepped : Stepped) (before after : StateIn t) (choices : List Choice) →
    stepped ≡ stepped_by room → step_of t task before choices ≡ Went (doing tasks before) choices → kinds_at t task (length before.operands) ≡ kinds_in tasks →
    MakesRoom tasks room before after → IsStepOf t task stepped before choices after choices
room_step t task tasks room stepped before after choices is steps kinds made =
    subst (λ (stepped : Stepped). IsStepOf t task stepped before choices after choices) (sym is) (by_room t task tasks room before after choices steps kinds made)
  where
    by_room : (t : Text) (task : TaskIn t) (tasks : List (TaskIn t)) (room : Room) (before after : StateIn t) (choices : List Choice) →
        step_of t task before choices ≡ Went (doing tasks before) choices → kinds_at t task (length before.operands) ≡ kinds_in tasks →
        MakesRoom tasks room before after → IsStepOf t task (stepped_by room) before choices after choices
    by_room t task tasks Made before after choices steps kinds made = (
      ap (λ (next : StateIn t). Went next choices) made.0 ∙ sym steps,
      ap are_kept kinds ∙ made.1,
    )
    by_room t task tasks NotKept before after choices steps kinds made = ap are_kept kinds ∙ made

-- what speaks of no type is always put there
pub made_alone : {E S I : Type 0} (tasks : List (Task E S I)) (room : Room) (before after : State E S I) → kinds_in tasks ≡ [] → MakesRoom tasks room before after →
    after ≡ doing tasks before
made_alone tasks Made before after none made = made.0
made_alone tasks NotKept before after none made = let both : true ≡ false = sym (ap are_kept none) ∙ made in absurd cc

-- a condition and what is behind it speak of none
pub test_speaks_of_none : (t : Text) (stmt : t.Stmt) (held : ℕ) → kinds_in (test_tasks t stmt held) ≡ []
test_speaks_of_none t stmt held = by_clause t stmt held (t.clause stmt)
  where
    by_clause : (t : Text) (stmt : t.Stmt) (held : ℕ) (clause : Clause t.Expr t.Stmt t.Init) → kinds_in (test_parts t stmt held clause) ≡ []
    by_clause t stmt held (While test close body) = refl
    by_clause t stmt held (Do body test close) = refl
    by_clause t stmt held (For first None semicolon next close body) = refl
    by_clause t stmt held (For first (Some test) semicolon next close body) = refl
    by_clause t stmt held (Declare names) = refl
    by_clause t stmt held (Eval expr) = refl
    by_clause t stmt held (Block body) = refl
    by_clause t stmt held (If test close one other) = refl
    by_clause t stmt held Break = refl
    by_clause t stmt held Continue = refl
    by_clause t stmt held (Return expr) = refl

pub again_speaks_of_none : (t : Text) (stmt : t.Stmt) → kinds_in (again_tasks t stmt) ≡ []
again_speaks_of_none t stmt = by_clause t stmt (t.clause stmt)
  where
    by_clause : (t : Text) (stmt : t.Stmt) (clause : Clause t.Expr t.Stmt t.Init) → kinds_in (again_parts t stmt clause) ≡ []
    by_clause t stmt (For first test semicolon None close body) = refl
    by_clause t stmt (For first test semicolon (Some next) close body) = refl
    by_clause t stmt (While test close body) = refl
    by_clause t stmt (Do body test close) = refl
    by_clause t stmt (Declare names) = refl
    by_clause t stmt (Eval expr) = refl
    by_clause t stmt (Block body) = refl
    by_clause t stmt (If test close one other) = refl
    by_clause t stmt Break = refl
    by_clause t stmt Continue = refl
    by_clause t stmt (Return expr) = refl

pub branch_speaks_of_none : (t : Text) (stmt : t.Stmt) (held : ℕ) (holds : Bool) → kinds_in (branch_tasks t stmt held holds) ≡ []
branch_speaks_of_none t stmt held holds = by_clause t stmt held (t.clause stmt) holds
  where
    by_clause : (t : Text) (stmt : t.Stmt) (held : ℕ) (clause : Clause t.Expr t.Stmt t.Init) (holds : Bool) → kinds_in (branch_parts t stmt held clause holds) ≡ []
    by_clause t stmt held (If test close one other) true = refl
    by_clause t stmt held (If test close one None) false = refl
    by_clause t stmt held (If test close one (Some other)) false = refl
    by_clause t stmt held (While test close body) true = refl
    by_clause t stmt held (While test close body) false = refl
    by_clause t stmt held (Do body test close) true = refl
    by_clause t stmt held (Do body test close) false = refl
    by_clause t stmt held (For first test semicolon next close body) true = refl
    by_clause t stmt held (For first test semicolon next close body) false = refl
    by_clause t stmt held (Declare names) holds = refl
    by_clause t stmt held (Eval expr) holds = refl
    by_clause t stmt held (Block body) holds = refl
    by_clause t stmt held Break holds = refl
    by_clause t stmt held Continue holds = refl
    by_clause t stmt held (Return expr) holds = refl

-- the first thing to do is taken off and done
pub first_done : (t : Text) (task : TaskIn t) (stepped : Stepped) (before middle after : StateIn t) (choices rest : List Choice) → before ≡ doing (task ∷ []) middle →
    IsStepOf t task stepped middle choices after rest → IsStep t stepped before choices after rest
first_done t task (Came outcome) before middle after choices rest is done =
    subst (λ (before : StateIn t). IsStep t (Came outcome) before choices after rest) (sym is) done
first_done t task NoAnswer before middle after choices rest is done =
    subst (λ (before : StateIn t). IsStep t NoAnswer before choices after rest) (sym is) done

-- what an answer says, of a step that it makes
pub answered_by : {A E : Type 0} (steps : A → Stepped) (P : A → Type 0) (Q : Stepped → Type 0) (answer : Result A E) (result : Result Stepped E) → ((value : A) → P value → Q (steps value)) →
    MatchResult answer (λ value. result ≡ Ok (steps value)) (λ error. result ≡ Err error) → IfOk answer P → IfOk result Q
answered_by {A} {E} steps P Q (Ok value) result onward is says = subst (λ (came : Result Stepped E). IfOk came Q) (sym is) (onward value says)
answered_by {A} {E} steps P Q (Err error) result onward is says = subst (λ (came : Result Stepped E). IfOk came Q) (sym is) tt

-- a step of the same thing
pub same_task : (t : Text) (task other : TaskIn t) (stepped : Stepped) (before after : StateIn t) (choices rest : List Choice) → task ≡ other →
    IsStepOf t task stepped before choices after rest → IsStepOf t other stepped before choices after rest
same_task t task other stepped before after choices rest is done = subst (λ (this : TaskIn t). IsStepOf t this stepped before choices after rest) is done

-- where no answer is given, none is given of the step that it makes
pub wanting_by : {A E : Type 0} (steps : A → Stepped) (P : Type 0) (answer : Result A E) (result : Result Stepped E) →
    MatchResult answer (λ value. result ≡ Ok (steps value)) (λ error. result ≡ Err error) → OnErr answer P → OnErr result P
wanting_by {A} {E} steps P (Ok value) result is keeps = subst (λ (came : Result Stepped E). OnErr came P) (sym is) tt
wanting_by {A} {E} steps P (Err error) result is keeps = subst (λ (came : Result Stepped E). OnErr came P) (sym is) keeps

-- a step that is given no choices takes none
pub none_taken : {A E : Type 0} (result : Result A E) (choices : List Choice) → OnErr result (choices ≡ choices)
none_taken (Ok value) choices = tt
none_taken (Err error) choices = refl

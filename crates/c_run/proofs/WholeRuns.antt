-- A run from the start is what the start comes to, and what the steps behind it come to.
use Rattle.std.proofs.Common.{◌≡◌, ℕ, Bool, true, false, List, [], Result, Ok, Err, refl, sym, ap, ◌∙◌, subst}
use Rattle.std.specs.Prelude.{IfOk}
use Rattle.cbase.specs.declared.tree.expr.Expr.{Expr}
use Rattle.cbase.specs.declared.tree.init.Init.{Init}
use Rattle.cbase.specs.declared.tree.item.Item.{Item}
use Rattle.cbase.specs.declared.tree.stmt.Stmt.{Stmt}
use Rattle.choices.specs.declared.choice.Choice.{Choice}
use Rattle.c_machine.specs.Program.{Program, FunctionItem, functions_in}
use Rattle.c_machine.specs.Run.{blank, run, run_of, then_go}
use Rattle.c_machine.specs.State.{State, StateIn, OutcomeIn}
use Rattle.c_machine.specs.Text.{Text}
use Rattle.c_machine.specs.Trees.{text_of}
use Rattle.c_run.specs.declared.stepped.Stepped.{Stepped}
use Rattle.c_run.specs.declared.stepped.Stepped.TheVariants.{Came, NotKept}
use Rattle.c_run.specs.Stepped.{goes_on, IsRun}
use Rattle.c_steps.specs.declared.outcome.Outcome.{Outcome as Answer}
use Rattle.c_steps.specs.declared.outcome.Outcome.TheVariants.{Went, Waits, Ended, Faulted, Stuck}
use Rattle.c_steps.specs.ComesTo.{comes_to}
use Rattle.c_text.specs.Stands.{StandsFor}
use Rattle.expressions.specs.Context.{Context}
use Rattle.expressions.specs.Numbers.{Numbering}
use Rattle.c_run.specs.Started.{IsStart}

-- the start comes to something else than that the run goes on
ends_so : (t : Text) (steps : ℕ) (outcome : Answer) (after : StateIn t) (choices rest : List Choice) → goes_on (Came outcome) ≡ false →
    IsStart t (Came outcome) choices after rest → run_of t choices steps ≡ comes_to outcome after rest
ends_so t steps Went after choices rest over is = absurd cc
ends_so t steps Waits after choices rest over is = ap (λ (came : OutcomeIn t). then_go came (run steps t)) (sym is.0)
ends_so t steps Ended after choices rest over is = ap (λ (came : OutcomeIn t). then_go came (run steps t)) (sym is.0)
ends_so t steps (Faulted kind place) after choices rest over is = ap (λ (came : OutcomeIn t). then_go came (run steps t)) (sym is.0)
ends_so t steps Stuck after choices rest over is = ap (λ (came : OutcomeIn t). then_go came (run steps t)) (sym is.0)

run_ends : (t : Text) (steps : ℕ) (stepped : Stepped) (outcome : Answer) (after : StateIn t) (choices rest : List Choice) → goes_on stepped ≡ false →
    stepped ≡ Came outcome → IsStart t stepped choices after rest → run_of t choices steps ≡ comes_to outcome after rest
run_ends t steps stepped outcome after choices rest over is started =
    ends_so t steps outcome after choices rest (subst (λ (came : Stepped). goes_on came ≡ false) is over)
    (subst (λ (came : Stepped). IsStart t came choices after rest) is started)

-- the run goes on behind the start
goes_so : (t : Text) (steps : ℕ) (stepped : Stepped) (outcome : Answer) (middle after : StateIn t) (choices more rest : List Choice) → goes_on stepped ≡ true →
    IsStart t stepped choices middle more → IsRun t steps (Came outcome) middle more after rest → run_of t choices steps ≡ comes_to outcome after rest
goes_so t steps (Came Went) outcome middle after choices more rest on started ran =
    ap (λ (came : OutcomeIn t). then_go came (run steps t)) (sym started.0) ∙ sym ran.0
goes_so t steps (Came Waits) outcome middle after choices more rest on started ran = absurd cc
goes_so t steps (Came Ended) outcome middle after choices more rest on started ran = absurd cc
goes_so t steps (Came (Faulted kind place)) outcome middle after choices more rest on started ran = absurd cc
goes_so t steps (Came Stuck) outcome middle after choices more rest on started ran = absurd cc
goes_so t steps NotKept outcome middle after choices more rest on started ran = absurd cc

-- what is told of each program for which a text stands
abbrev pub Started : Context → List FunctionItem → List Item → Bool → Stepped → State Expr Stmt Init → List Choice → State Expr Stmt Init → List Choice → Type 0
Started text functions items strict stepped before choices after rest =
    (n : Numbering) (p : Program) → StandsFor n text p → p.strict ≡ strict → functions ≡ functions_in p.items → p.items ≡ items → before ≡ blank (text_of p) [] → IsStart (text_of p) stepped choices after rest

abbrev pub Ran : Context → List FunctionItem → Bool → ℕ → Stepped → State Expr Stmt Init → List Choice → State Expr Stmt Init → List Choice → Type 0
Ran text functions strict steps stepped before choices after rest =
    (n : Numbering) (p : Program) → StandsFor n text p → p.strict ≡ strict → functions ≡ functions_in p.items → IsRun (text_of p) steps stepped before choices after rest

abbrev pub Runs : Context → List FunctionItem → List Item → Bool → List Choice → ℕ → State Expr Stmt Init → State Expr Stmt Init → Stepped → Type 0
Runs text functions items strict choices steps before after stepped =
    (n : Numbering) (p : Program) → StandsFor n text p → p.items ≡ items → p.strict ≡ strict → functions ≡ functions_in p.items → before ≡ blank (text_of p) []
    → (outcome : Answer) → stepped ≡ Came outcome → (rest : List Choice) × (run_of (text_of p) choices steps ≡ comes_to outcome after rest)

abbrev pub ComesSo : Context → List Item → Bool → List Choice → ℕ → Answer → Type 0
ComesSo text items strict choices steps outcome =
    (n : Numbering) (p : Program) → StandsFor n text p → p.items ≡ items → p.strict ≡ strict
    → (state : StateIn (text_of p)) × (rest : List Choice) × (run_of (text_of p) choices steps ≡ comes_to outcome state rest)

-- the start in a state in which nothing is made, with all of these choices
pub begun_with : (text : Context) (functions : List FunctionItem) (items : List Item) (strict : Bool) (stepped : Stepped) (before after : State Expr Stmt Init) (given choices rest : List Choice) →
    given ≡ choices → ((p : Program) → before ≡ blank (text_of p) []) → Started text functions items strict stepped before given after rest →
    (n : Numbering) (p : Program) → StandsFor n text p → p.strict ≡ strict → functions ≡ functions_in p.items → p.items ≡ items → IsStart (text_of p) stepped choices after rest
begun_with text functions items strict stepped before after given choices rest is none started =
    λ n p stands held defined same. subst (λ (these : List Choice). IsStart (text_of p) stepped these after rest) is (started n p stands held defined same (none p))

pub over_at_start : (text : Context) (functions : List FunctionItem) (items : List Item) (strict : Bool) (choices : List Choice) (steps : ℕ) (stepped : Stepped) (before after : State Expr Stmt Init) (rest : List Choice) →
    goes_on stepped ≡ false → Started text functions items strict stepped before choices after rest → Runs text functions items strict choices steps before after stepped
over_at_start text functions items strict choices steps stepped before after rest over started =
    λ n p stands same held defined none outcome is. (rest, run_ends (text_of p) steps stepped outcome after choices rest over is (started n p stands held defined same none))

pub over_later : (text : Context) (functions : List FunctionItem) (items : List Item) (strict : Bool) (choices : List Choice) (steps : ℕ) (stepped ran : Stepped) (before middle after : State Expr Stmt Init)
    (more rest : List Choice) → goes_on stepped ≡ true → Started text functions items strict stepped before choices middle more → Ran text functions strict steps ran middle more after rest →
    Runs text functions items strict choices steps before after ran
over_later text functions items strict choices steps stepped ran before middle after more rest on started going =
    λ n p stands same held defined none outcome is. (
      rest,
      goes_so (text_of p) steps stepped outcome middle after choices more rest on (started n p stands held defined same none)
          (subst (λ (came : Stepped). IsRun (text_of p) steps came middle more after rest) is (going n p stands held defined)),
    )

-- the run that is kept
pub whole_run : {E : Type 0} (text : Context) (functions : List FunctionItem) (items : List Item) (strict : Bool) (choices : List Choice) (steps : ℕ) (before after : State Expr Stmt Init)
    (ran : Result Stepped E) (result : Result Answer E) → ((p : Program) → before ≡ blank (text_of p) []) → functions ≡ functions_in items → IfOk ran (Runs text functions items strict choices steps before after) →
    IfOk result (λ outcome. ran ≡ Ok (Came outcome)) → IfOk result (ComesSo text items strict choices steps)
whole_run {E} text functions items strict choices steps before after ran (Ok outcome) none are runs is =
    let told : Runs text functions items strict choices steps before after (Came outcome) = subst (λ (came : Result Stepped E). IfOk came (Runs text functions items strict choices steps before after)) is runs in
    λ n p stands same held. let found = told n p stands same held (are ∙ ap functions_in (sym same)) (none p) outcome refl in (after, found.0, found.1)
whole_run text functions items strict choices steps before after ran (Err error) none are runs is = tt

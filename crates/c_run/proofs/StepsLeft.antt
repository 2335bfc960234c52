-- Steps one behind the other, until nothing is left to do.
use Rattle.std.proofs.Common.{◌≡◌, ℕ, zero, suc, Bool, true, false, ◌&&◌, List, [], ◌∷◌, refl, sym, ap, ◌∙◌}
use Rattle.std.specs.Prelude.{IsTrue}
use Rattle.choices.specs.declared.choice.Choice.{Choice}
use Rattle.c_machine.specs.Run.{done_within, finished, then_go}
use Rattle.c_machine.specs.State.{TaskIn, StateIn, OutcomeIn, Stuck as StuckThere, Went as WentThere}
use Rattle.c_machine.specs.Step.{step}
use Rattle.c_machine.specs.Text.{Text}
use Rattle.c_steps.specs.declared.outcome.Outcome.{Outcome as Answer}
use Rattle.c_steps.specs.declared.outcome.Outcome.TheVariants.{Went, Waits, Ended, Faulted, Stuck}
use Rattle.c_steps.specs.ComesTo.{comes_to}
use Rattle.c_run.specs.declared.stepped.Stepped.{Stepped}
use Rattle.c_run.specs.declared.stepped.Stepped.TheVariants.{Came, NotKept}
use Rattle.c_run.specs.Started.{IsDone, keeps_kinds_until, where_left}
use Rattle.c_run.specs.Stepped.{goes_on, IsStep, keeps_kinds, keeps_on}

-- so many steps from a state are as many as are left from another one
pub record Finishes (t : Text) (steps left : ℕ) (before : StateIn t) (choices : List Choice) (after : StateIn t) (rest : List Choice) : Type 0 where
  pub done : done_within steps t before choices ≡ done_within left t after rest
  pub kept : keeps_kinds_until steps t before choices ≡ keeps_kinds_until left t after rest

pub at_first : (t : Text) (steps : ℕ) (before : StateIn t) (choices : List Choice) → Finishes t steps steps before choices before choices
at_first t steps before choices = record { done = refl; kept = refl }

-- what a test for nothing says
pub some_there : {A : Type 0} (done : Bool) (tasks : List A) → (tasks ≡ [] → IsTrue done) → done ≡ false → tasks ≡ [] → ⊥
some_there true tasks tells is none = absurd cc
some_there false tasks tells is none = let told = tells none in absurd cc

pub none_there : {A : Type 0} (done : Bool) (tasks : List A) → (IsTrue done → tasks ≡ []) → done ≡ true → tasks ≡ []
none_there true tasks tells is = tells refl
none_there false tasks tells is = absurd cc

-- where something is left, and where nothing is
some_left : (t : Text) (tasks : List (TaskIn t)) (state : StateIn t) (choices : List Choice) (onward : StateIn t → List Choice → OutcomeIn t) → (tasks ≡ [] → ⊥)
    → finished tasks state choices onward ≡ onward state choices
some_left t [] state choices onward is = absurd (is refl)
some_left t (task ∷ tasks) state choices onward is = refl

none_left : (t : Text) (tasks : List (TaskIn t)) (state : StateIn t) (choices : List Choice) (onward : StateIn t → List Choice → OutcomeIn t) → tasks ≡ []
    → finished tasks state choices onward ≡ WentThere state choices
none_left t [] state choices onward is = refl
none_left t (task ∷ tasks) state choices onward is = absurd cc

some_kept : {A : Type 0} (tasks : List A) (keeps : Bool) → (tasks ≡ [] → ⊥) → where_left tasks keeps ≡ keeps
some_kept [] keeps is = absurd (is refl)
some_kept (task ∷ tasks) keeps is = refl

none_kept : {A : Type 0} (tasks : List A) (keeps : Bool) → tasks ≡ [] → where_left tasks keeps ≡ true
none_kept [] keeps is = refl
none_kept (task ∷ tasks) keeps is = absurd cc

-- a step that is done, and one that is not
runs : (t : Text) (left : ℕ) (outcome : Answer) (before after : StateIn t) (choices rest : List Choice) → (before.tasks ≡ [] → ⊥) → comes_to outcome after rest ≡ step t before choices →
    done_within (suc left) t before choices ≡ then_go (comes_to outcome after rest) (done_within left t)
runs t left outcome before after choices rest some is =
    some_left t before.tasks before choices (λ state more. then_go (step t state more) (done_within left t)) some
    ∙ ap (λ (came : OutcomeIn t). then_go came (done_within left t)) (sym is)

keeps : (t : Text) (left : ℕ) (outcome : Answer) (before after : StateIn t) (choices rest : List Choice) → (before.tasks ≡ [] → ⊥) → comes_to outcome after rest ≡ step t before choices →
    keeps_kinds t before ≡ true → keeps_kinds_until (suc left) t before choices ≡ keeps_on (comes_to outcome after rest) (keeps_kinds_until left t)
keeps t left outcome before after choices rest some is kept =
    some_kept before.tasks (keeps_kinds t before && keeps_on (step t before choices) (keeps_kinds_until left t)) some
    ∙ ap (λ (here : Bool). here && keeps_on (step t before choices) (keeps_kinds_until left t)) kept
    ∙ ap (λ (came : OutcomeIn t). keeps_on came (keeps_kinds_until left t)) (sym is)

not_kept : (t : Text) (left : ℕ) (before : StateIn t) (choices : List Choice) → (before.tasks ≡ [] → ⊥) → keeps_kinds t before ≡ false → keeps_kinds_until (suc left) t before choices ≡ false
not_kept t left before choices some not =
    some_kept before.tasks (keeps_kinds t before && keeps_on (step t before choices) (keeps_kinds_until left t)) some
    ∙ ap (λ (here : Bool). here && keeps_on (step t before choices) (keeps_kinds_until left t)) not

pub one_step_on : (t : Text) (steps left : ℕ) (stepped : Stepped) (before middle after : StateIn t) (choices more rest : List Choice) →
    Finishes t steps (suc left) before choices middle more → (middle.tasks ≡ [] → ⊥) → goes_on stepped ≡ true → IsStep t stepped middle more after rest →
    Finishes t steps left before choices after rest
one_step_on t steps left (Came Went) before middle after choices more rest on some goes is = record {
  done = on.done ∙ runs t left Went middle after more rest some is.0;
  kept = on.kept ∙ keeps t left Went middle after more rest some is.0 is.1;
}
one_step_on t steps left (Came Waits) before middle after choices more rest on some goes is = absurd cc
one_step_on t steps left (Came Ended) before middle after choices more rest on some goes is = absurd cc
one_step_on t steps left (Came (Faulted kind place)) before middle after choices more rest on some goes is = absurd cc
one_step_on t steps left (Came Stuck) before middle after choices more rest on some goes is = absurd cc
one_step_on t steps left NotKept before middle after choices more rest on some goes is = absurd cc

pub last_step : (t : Text) (steps left : ℕ) (stepped : Stepped) (before middle after : StateIn t) (choices more rest : List Choice) →
    Finishes t steps (suc left) before choices middle more → (middle.tasks ≡ [] → ⊥) → goes_on stepped ≡ false → IsStep t stepped middle more after rest →
    IsDone t steps stepped before choices after rest
last_step t steps left (Came Went) before middle after choices more rest on some goes is = absurd cc
last_step t steps left (Came Waits) before middle after choices more rest on some goes is =
    (sym (on.done ∙ runs t left Waits middle after more rest some is.0), on.kept ∙ keeps t left Waits middle after more rest some is.0 is.1)
last_step t steps left (Came Ended) before middle after choices more rest on some goes is =
    (sym (on.done ∙ runs t left Ended middle after more rest some is.0), on.kept ∙ keeps t left Ended middle after more rest some is.0 is.1)
last_step t steps left (Came (Faulted kind place)) before middle after choices more rest on some goes is =
    (sym (on.done ∙ runs t left (Faulted kind place) middle after more rest some is.0), on.kept ∙ keeps t left (Faulted kind place) middle after more rest some is.0 is.1)
last_step t steps left (Came Stuck) before middle after choices more rest on some goes is =
    (sym (on.done ∙ runs t left Stuck middle after more rest some is.0), on.kept ∙ keeps t left Stuck middle after more rest some is.0 is.1)
last_step t steps left NotKept before middle after choices more rest on some goes is = on.kept ∙ not_kept t left middle more some is

-- no step is left, and nothing is left to do
pub too_many : (t : Text) (steps : ℕ) (before after : StateIn t) (choices rest : List Choice) → Finishes t steps 0 before choices after rest → (after.tasks ≡ [] → ⊥) →
    IsDone t steps (Came Stuck) before choices after rest
too_many t steps before after choices rest on some = (sym (on.done ∙ some_left t after.tasks after rest (λ state more. StuckThere) some), on.kept)

pub all_done : (t : Text) (steps left : ℕ) (before after : StateIn t) (choices rest : List Choice) → Finishes t steps left before choices after rest → after.tasks ≡ [] →
    IsDone t steps (Came Went) before choices after rest
all_done t steps zero before after choices rest on none = (sym (on.done ∙ none_left t after.tasks after rest (λ state more. StuckThere) none), on.kept)
all_done t steps (suc left) before after choices rest on none = (
  sym (on.done ∙ none_left t after.tasks after rest (λ state more. then_go (step t state more) (done_within left t)) none),
  on.kept ∙ none_kept after.tasks (keeps_kinds t after && keeps_on (step t after rest) (keeps_kinds_until left t)) none,
)

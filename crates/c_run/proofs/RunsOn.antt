-- Steps one behind the other.
use Rattle.std.proofs.Common.{◌≡◌, ℕ, zero, suc, ◌-◌, ◌<◌, ◌≤◌, Bool, true, false, ◌&&◌, List, refl, sym, ap, ◌∙◌, subst, arith}
use Rattle.std.specs.Prelude.{Result, Ok, Err, OnErr}
use Rattle.choices.specs.declared.choice.Choice.{Choice}
use Rattle.c_machine.specs.Run.{run, then_go}
use Rattle.c_machine.specs.State.{StateIn, OutcomeIn, Went as WentThere, Waits as WaitsThere, Ended as EndedThere, Faulted as FaultedThere, Stuck as StuckThere}
use Rattle.c_machine.specs.Step.{step}
use Rattle.c_machine.specs.Text.{Text}
use Rattle.c_steps.specs.declared.outcome.Outcome.{Outcome as Answer}
use Rattle.c_steps.specs.declared.outcome.Outcome.TheVariants.{Went, Waits, Ended, Faulted, Stuck}
use Rattle.c_steps.specs.ComesTo.{comes_to}
use Rattle.c_run.specs.declared.stepped.Stepped.{Stepped}
use Rattle.c_run.specs.declared.stepped.Stepped.TheVariants.{Came, NotKept}
use Rattle.c_run.specs.Stepped.{goes_on, IsRun, IsStep, keeps_kinds, keeps_kinds_for, keeps_on, LeavesChoices}

-- so many steps from a state are as many as are left from another one
pub record GoesOn (t : Text) (steps left : ℕ) (before : StateIn t) (choices : List Choice) (after : StateIn t) (rest : List Choice) : Type 0 where
  pub run_on : run steps t before choices ≡ run left t after rest
  pub kept_on : keeps_kinds_for steps t before choices ≡ keeps_kinds_for left t after rest

pub at_first : (t : Text) (steps : ℕ) (before : StateIn t) (choices : List Choice) → GoesOn t steps steps before choices before choices
at_first t steps before choices = record { run_on = refl; kept_on = refl }

-- a step that is done, and one that is not
runs : (t : Text) (left : ℕ) (outcome : Answer) (before after : StateIn t) (choices rest : List Choice) → comes_to outcome after rest ≡ step t before choices →
    run (suc left) t before choices ≡ then_go (comes_to outcome after rest) (run left t)
runs t left outcome before after choices rest is = ap (λ (came : OutcomeIn t). then_go came (run left t)) (sym is)

keeps : (t : Text) (left : ℕ) (outcome : Answer) (before after : StateIn t) (choices rest : List Choice) → comes_to outcome after rest ≡ step t before choices →
    keeps_kinds t before ≡ true → keeps_kinds_for (suc left) t before choices ≡ keeps_on (comes_to outcome after rest) (keeps_kinds_for left t)
keeps t left outcome before after choices rest is kept =
    ap (λ (here : Bool). here && keeps_on (step t before choices) (keeps_kinds_for left t)) kept
    ∙ ap (λ (came : OutcomeIn t). keeps_on came (keeps_kinds_for left t)) (sym is)

one_step_on : (t : Text) (steps left : ℕ) (stepped : Stepped) (before middle after : StateIn t) (choices more rest : List Choice) →
    GoesOn t steps (suc left) before choices middle more → goes_on stepped ≡ true → IsStep t stepped middle more after rest →
    GoesOn t steps left before choices after rest
one_step_on t steps left (Came Went) before middle after choices more rest on goes is = record {
  run_on = on.run_on ∙ runs t left Went middle after more rest is.0;
  kept_on = on.kept_on ∙ keeps t left Went middle after more rest is.0 is.1;
}
one_step_on t steps left (Came Waits) before middle after choices more rest on goes is = absurd cc
one_step_on t steps left (Came Ended) before middle after choices more rest on goes is = absurd cc
one_step_on t steps left (Came (Faulted kind place)) before middle after choices more rest on goes is = absurd cc
one_step_on t steps left (Came Stuck) before middle after choices more rest on goes is = absurd cc
one_step_on t steps left NotKept before middle after choices more rest on goes is = absurd cc

last_step : (t : Text) (steps left : ℕ) (stepped : Stepped) (before middle after : StateIn t) (choices more rest : List Choice) →
    GoesOn t steps (suc left) before choices middle more → goes_on stepped ≡ false → IsStep t stepped middle more after rest →
    IsRun t steps stepped before choices after rest
last_step t steps left (Came Went) before middle after choices more rest on goes is = absurd cc
last_step t steps left (Came Waits) before middle after choices more rest on goes is =
    (sym (on.run_on ∙ runs t left Waits middle after more rest is.0), on.kept_on ∙ keeps t left Waits middle after more rest is.0 is.1)
last_step t steps left (Came Ended) before middle after choices more rest on goes is =
    (sym (on.run_on ∙ runs t left Ended middle after more rest is.0), on.kept_on ∙ keeps t left Ended middle after more rest is.0 is.1)
last_step t steps left (Came (Faulted kind place)) before middle after choices more rest on goes is =
    (sym (on.run_on ∙ runs t left (Faulted kind place) middle after more rest is.0), on.kept_on ∙ keeps t left (Faulted kind place) middle after more rest is.0 is.1)
last_step t steps left (Came Stuck) before middle after choices more rest on goes is =
    (sym (on.run_on ∙ runs t left Stuck middle after more rest is.0), on.kept_on ∙ keeps t left Stuck middle after more rest is.0 is.1)
last_step t steps left NotKept before middle after choices more rest on goes is =
    on.kept_on ∙ ap (λ (here : Bool). here && keeps_on (step t middle more) (keeps_kinds_for left t)) is

-- the same of a number that is not 0
pub goes_further : (t : Text) (steps left : ℕ) (stepped : Stepped) (before middle after : StateIn t) (choices more rest : List Choice) → 0 < left →
    GoesOn t steps left before choices middle more → goes_on stepped ≡ true → IsStep t stepped middle more after rest →
    GoesOn t steps (left - 1) before choices after rest
goes_further t steps zero stepped before middle after choices more rest some on goes is = absurd (omega arith)
goes_further t steps (suc left) stepped before middle after choices more rest some on goes is =
    let less : left ≡ suc left - 1 = omega arith in
    subst (λ (left : ℕ). GoesOn t steps left before choices after rest) less
    (one_step_on t steps left stepped before middle after choices more rest on goes is)

pub comes_to_end : (t : Text) (steps left : ℕ) (stepped : Stepped) (before middle after : StateIn t) (choices more rest : List Choice) → 0 < left →
    GoesOn t steps left before choices middle more → goes_on stepped ≡ false → IsStep t stepped middle more after rest →
    IsRun t steps stepped before choices after rest
comes_to_end t steps zero stepped before middle after choices more rest some on goes is = absurd (omega arith)
comes_to_end t steps (suc left) stepped before middle after choices more rest some on goes is =
    last_step t steps left stepped before middle after choices more rest on goes is

-- all steps are done
pub all_done : (t : Text) (steps left : ℕ) (before after : StateIn t) (choices rest : List Choice) → left ≡ 0 → GoesOn t steps left before choices after rest →
    IsRun t steps (Came Went) before choices after rest
all_done t steps zero before after choices rest none on = (sym on.run_on, on.kept_on)
all_done t steps (suc left) before after choices rest none on = absurd (omega (arith, none))

-- one step more is a step behind the others
nothing_more : (t : Text) (came : OutcomeIn t) → then_go came (run 0 t) ≡ came
nothing_more t (WentThere state choices) = refl
nothing_more t WaitsThere = refl
nothing_more t EndedThere = refl
nothing_more t (FaultedThere kind place) = refl
nothing_more t StuckThere = refl

one_behind : (steps : ℕ) (t : Text) (state : StateIn t) (choices : List Choice) → run (suc steps) t state choices ≡ then_go (run steps t state choices) (step t)
one_behind zero t state choices = nothing_more t (step t state choices)
one_behind (suc steps) t state choices = by_first (step t state choices) (one_behind steps t)
  where
    by_first : (came : OutcomeIn t) → ((next : StateIn t) (rest : List Choice) → run (suc steps) t next rest ≡ then_go (run steps t next rest) (step t))
        → then_go came (run (suc steps) t) ≡ then_go (then_go came (run steps t)) (step t)
    by_first (WentThere next rest) behind = behind next rest
    by_first WaitsThere behind = refl
    by_first EndedThere behind = refl
    by_first (FaultedThere kind place) behind = refl
    by_first StuckThere behind = refl

went_there : (t : Text) (stepped : Stepped) (before after : StateIn t) (choices rest : List Choice) → goes_on stepped ≡ true → IsStep t stepped before choices after rest →
    step t before choices ≡ WentThere after rest
went_there t (Came Went) before after choices rest goes is = sym is.0
went_there t (Came Waits) before after choices rest goes is = absurd cc
went_there t (Came Ended) before after choices rest goes is = absurd cc
went_there t (Came (Faulted kind place)) before after choices rest goes is = absurd cc
went_there t (Came Stuck) before after choices rest goes is = absurd cc
went_there t NotKept before after choices rest goes is = absurd cc

-- the steps that are done, before the first one and behind one more
pub none_done : (t : Text) (steps : ℕ) (before : StateIn t) (choices : List Choice) → run (steps - steps) t before choices ≡ WentThere before choices
none_done t steps before choices =
    let none : steps - steps ≡ 0 = omega arith in ap (λ (done : ℕ). run done t before choices) none

pub one_more_done : (t : Text) (steps left : ℕ) (stepped : Stepped) (before middle after : StateIn t) (choices more rest : List Choice) → 0 < left → left ≤ steps →
    run (steps - left) t before choices ≡ WentThere middle more → goes_on stepped ≡ true → IsStep t stepped middle more after rest →
    run (steps - (left - 1)) t before choices ≡ WentThere after rest
one_more_done t steps left stepped before middle after choices more rest some most went goes is =
    let next : steps - (left - 1) ≡ suc (steps - left) = omega (arith, some, most) in
    ap (λ (done : ℕ). run done t before choices) next
    ∙ one_behind (steps - left) t before choices
    ∙ ap (λ (came : OutcomeIn t). then_go came (step t)) went
    ∙ went_there t stepped middle after more rest goes is

-- the choices that they leave, where the next step leaves them
pub left_there : (t : Text) (steps left : ℕ) (before middle : StateIn t) (choices more rest : List Choice) → 0 < left → left ≤ steps →
    run (steps - left) t before choices ≡ WentThere middle more → rest ≡ more → LeavesChoices t steps before choices rest
left_there t steps left before middle choices more rest some most went same =
    (steps - left, middle, omega (arith, some, most), went ∙ ap (WentThere middle) (sym same))

-- what holds in any case holds where memory is wanting
pub where_wanting : {A E : Type 0} (P : Type 0) (result : Result A E) → P → OnErr result P
where_wanting P (Ok value) holds = tt
where_wanting P (Err error) holds = holds

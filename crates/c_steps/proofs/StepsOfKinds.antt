-- The step of a task is that of what it is.
use Rattle.std.proofs.Common.{◌≡◌, ◌∙◌, Bool, List, Option, Some, refl, sym, ap, subst}
use Rattle.std.specs.Prelude.{Result, Ok, Err, IfOk, IfSome, IfNone, OnErr}
use Rattle.cbase.specs.declared.no_memory.NoMemory.{NoMemory}
use Rattle.choices.specs.declared.choice.Choice.{Choice}
use Rattle.c_machine.specs.declared.task.Task.{Task}
use Rattle.c_machine.specs.State.{State, Outcome}
use Rattle.c_steps.specs.declared.outcome.Outcome.{Outcome as Answer}
use Rattle.c_steps.specs.declared.outcome.Outcome.TheVariants as answer
use Rattle.c_steps.specs.ComesTo.{comes_to}
use Rattle.c_steps.specs.PlainStep.{plain_step}

-- what a call leaves is the step, or nothing where there is none
abbrev pub IsStep : {E S I : Type 0} → Option (Outcome E S I) → State E S I → State E S I → List Choice → List Choice → Result Answer NoMemory → Type 0
IsStep step old new choices more result = record {
  plain : IfOk result (λ outcome. IfSome step (λ comes. comes_to outcome new more ≡ comes));
  err : OnErr result (more ≡ choices);
  other : IfNone step ((result ≡ Ok answer.Stuck) × ((new ≡ old) × (more ≡ choices)));
}

pub with_choices : {E S I : Type 0} (strict : Bool) (task kind : Task E S I) (old new : State E S I) (choices more : List Choice) (result : Result Answer NoMemory)
    (comes : Outcome E S I) → task ≡ kind → IfOk result (λ outcome. comes_to outcome new more ≡ comes) → OnErr result (more ≡ choices) → plain_step strict kind old choices ≡ Some comes →
    IsStep (plain_step strict task old choices) old new choices more result
with_choices {E} {S} {I} strict task kind old new choices more result comes is holds keeps step =
    subst (λ (found : Option (Outcome E S I)). IsStep found old new choices more result)
    (sym (ap (λ (one : Task E S I). plain_step strict one old choices) is ∙ step)) (record { plain = holds; err = keeps; other = tt })

with_these : {E S I : Type 0} (new : State E S I) (choices : List Choice) (result : Result Answer NoMemory) (comes : List Choice → Outcome E S I) →
    IfOk result (λ outcome. (left : List Choice) → comes_to outcome new left ≡ comes left) → IfOk result (λ outcome. comes_to outcome new choices ≡ comes choices)
with_these new choices (Ok outcome) comes holds = holds choices
with_these new choices (Err error) comes holds = tt

keeps_these : (choices : List Choice) (result : Result Answer NoMemory) → OnErr result (choices ≡ choices)
keeps_these choices (Ok outcome) = tt
keeps_these choices (Err error) = refl

pub with_any_choices : {E S I : Type 0} (strict : Bool) (task kind : Task E S I) (old new : State E S I) (choices : List Choice) (result : Result Answer NoMemory)
    (comes : List Choice → Outcome E S I) → task ≡ kind → IfOk result (λ outcome. (left : List Choice) → comes_to outcome new left ≡ comes left) →
    plain_step strict kind old choices ≡ Some (comes choices) → IsStep (plain_step strict task old choices) old new choices choices result
with_any_choices strict task kind old new choices result comes is holds step =
    with_choices strict task kind old new choices choices result (comes choices) is (with_these new choices result comes holds) (keeps_these choices result) step

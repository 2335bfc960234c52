-- The steps that look at no tree speak of no type but those of their things to do.
use Rattle.std.proofs.Common.{◌≡◌, ℕ, Bool, List, refl, subst}
use Rattle.std.specs.Prelude.{IfSome}
use Rattle.cbase.specs.declared.place.Place.{Place}
use Rattle.choices.specs.declared.choice.Choice.{Choice}
use Rattle.c_machine.specs.declared.kind.Kind.{Kind}
use Rattle.c_machine.specs.declared.task.Task.{Task}
use Rattle.c_machine.specs.declared.task.Task.TheVariants.{Push, ObjectAt, Shift, Load, Convert, Apply, Operate, Answer, AndThen, OrElse, Drop, Store, Update, CountBy, CopyStruct, RunBuiltIn, CallDefined, EndRun, Finish, Keep, OpenBlock, MakeObject, MakeParameter, MakeStatic, LeaveBlock, Zero, LeaveFunction, EndOfBody, Unknown, ValueOf, AddressOf, Pick, Execute, Branch, Test, Again, Initialise, BreakAt, ContinueAt, GiveBack}
use Rattle.c_machine.specs.State.{TaskIn, State, StateIn}
use Rattle.c_machine.specs.Text.{Text}
use Rattle.c_steps.specs.declared.outcome.Outcome.{Outcome as Answered}
use Rattle.c_steps.specs.ComesTo.{comes_to}
use Rattle.c_steps.specs.PlainStep.{plain_step}
use Rattle.c_run.specs.Stepped.{IsStepOf}
use Rattle.c_run.specs.declared.stepped.Stepped.TheVariants.{Came}

plain_in : (t : Text) (task : TaskIn t) (outcome : Answered) (before after : StateIn t) (choices rest : List Choice) →
    IfSome (plain_step t.strict task before choices) (λ comes. comes_to outcome after rest ≡ comes) →
    IfSome (plain_step t.strict task before choices) (λ comes. IsStepOf t task (Came outcome) before choices after rest)
plain_in t (Push number) outcome before after choices rest came = (came, refl)
plain_in t (ObjectAt token) outcome before after choices rest came = (came, refl)
plain_in t (Shift bytes) outcome before after choices rest came = (came, refl)
plain_in t (Load place kind) outcome before after choices rest came = (came, refl)
plain_in t (Convert from to) outcome before after choices rest came = (came, refl)
plain_in t (Apply op kind) outcome before after choices rest came = (came, refl)
plain_in t (Operate op left right) outcome before after choices rest came = (came, refl)
plain_in t (Answer holds) outcome before after choices rest came = (came, refl)
plain_in t (AndThen right) outcome before after choices rest came = (came, refl)
plain_in t (OrElse right) outcome before after choices rest came = (came, refl)
plain_in t Drop outcome before after choices rest came = (came, refl)
plain_in t (Store place kind) outcome before after choices rest came = (came, refl)
plain_in t (Update op place kind right) outcome before after choices rest came = (came, refl)
plain_in t (CountBy up behind place kind) outcome before after choices rest came = (came, refl)
plain_in t (CopyStruct place count) outcome before after choices rest came = (came, refl)
plain_in t (RunBuiltIn what place result) outcome before after choices rest came = (came, refl)
plain_in t (CallDefined number) outcome before after choices rest came = tt
plain_in t EndRun outcome before after choices rest came = (came, refl)
plain_in t (Finish place) outcome before after choices rest came = (came, refl)
plain_in t (Keep place) outcome before after choices rest came = (came, refl)
plain_in t OpenBlock outcome before after choices rest came = (came, refl)
plain_in t (MakeObject object) outcome before after choices rest came = (came, refl)
plain_in t (MakeParameter object) outcome before after choices rest came = (came, refl)
plain_in t (MakeStatic object) outcome before after choices rest came = (came, refl)
plain_in t (LeaveBlock place) outcome before after choices rest came = (came, refl)
plain_in t (Zero place count) outcome before after choices rest came = (came, refl)
plain_in t (LeaveFunction place) outcome before after choices rest came = (came, refl)
plain_in t (EndOfBody is_main result close held) outcome before after choices rest came = (came, refl)
plain_in t Unknown outcome before after choices rest came = (came, refl)
plain_in t (ValueOf expr) outcome before after choices rest came = tt
plain_in t (AddressOf expr) outcome before after choices rest came = tt
plain_in t (Pick kind one other) outcome before after choices rest came = tt
plain_in t (Execute stmt) outcome before after choices rest came = tt
plain_in t (Branch stmt) outcome before after choices rest came = tt
plain_in t (Test stmt) outcome before after choices rest came = tt
plain_in t (Again stmt held) outcome before after choices rest came = tt
plain_in t (Initialise place init) outcome before after choices rest came = tt
plain_in t (BreakAt place) outcome before after choices rest came = tt
plain_in t (ContinueAt place) outcome before after choices rest came = tt
plain_in t (GiveBack place kind) outcome before after choices rest came = tt

pub plain_is_step : (t : Text) (strict : Bool) (task : TaskIn t) (outcome : Answered) (before after : StateIn t) (choices rest : List Choice) → t.strict ≡ strict →
    IfSome (plain_step strict task before choices) (λ comes. comes_to outcome after rest ≡ comes) →
    IfSome (plain_step strict task before choices) (λ comes. IsStepOf t task (Came outcome) before choices after rest)
plain_is_step t strict task outcome before after choices rest is =
    let Steps : Bool → Type 0 =
    λ strict. IfSome (plain_step strict task before choices) (λ comes. comes_to outcome after rest ≡ comes) →
    IfSome (plain_step strict task before choices) (λ comes. IsStepOf t task (Came outcome) before choices after rest) in
    subst Steps is (plain_in t task outcome before after choices rest)

-- a thing to do that is none of those that look at a tree, or at what else is to be done, is said to look at none
pub other_task : {E S I : Type 0} (P : Type 0) (strict : Bool) (task : Task E S I) (state : State E S I) (choices : List Choice) →
    ((expr : E) → task ≡ ValueOf expr → ⊥) →
    ((expr : E) → task ≡ AddressOf expr → ⊥) →
    ((kind : Kind) (one other : E) → task ≡ Pick kind one other → ⊥) →
    ((stmt : S) → task ≡ Execute stmt → ⊥) →
    ((stmt : S) → task ≡ Branch stmt → ⊥) →
    ((stmt : S) → task ≡ Test stmt → ⊥) →
    ((stmt : S) (held : ℕ) → task ≡ Again stmt held → ⊥) →
    ((place : Place) (init : I) → task ≡ Initialise place init → ⊥) →
    ((place : Place) → task ≡ BreakAt place → ⊥) →
    ((place : Place) → task ≡ ContinueAt place → ⊥) →
    ((place : Place) (kind : Kind) → task ≡ GiveBack place kind → ⊥) →
    ((number : ℕ) → task ≡ CallDefined number → ⊥) →
    IfSome (plain_step strict task state choices) (λ comes. P) → P
other_task P strict (Push number) state choices value address pick execute branch test again set breaks continues gives calls is = is
other_task P strict (ObjectAt token) state choices value address pick execute branch test again set breaks continues gives calls is = is
other_task P strict (Shift bytes) state choices value address pick execute branch test again set breaks continues gives calls is = is
other_task P strict (Load place kind) state choices value address pick execute branch test again set breaks continues gives calls is = is
other_task P strict (Convert from to) state choices value address pick execute branch test again set breaks continues gives calls is = is
other_task P strict (Apply op kind) state choices value address pick execute branch test again set breaks continues gives calls is = is
other_task P strict (Operate op left right) state choices value address pick execute branch test again set breaks continues gives calls is = is
other_task P strict (Answer holds) state choices value address pick execute branch test again set breaks continues gives calls is = is
other_task P strict (AndThen right) state choices value address pick execute branch test again set breaks continues gives calls is = is
other_task P strict (OrElse right) state choices value address pick execute branch test again set breaks continues gives calls is = is
other_task P strict Drop state choices value address pick execute branch test again set breaks continues gives calls is = is
other_task P strict (Store place kind) state choices value address pick execute branch test again set breaks continues gives calls is = is
other_task P strict (Update op place kind right) state choices value address pick execute branch test again set breaks continues gives calls is = is
other_task P strict (CountBy up behind place kind) state choices value address pick execute branch test again set breaks continues gives calls is = is
other_task P strict (CopyStruct place count) state choices value address pick execute branch test again set breaks continues gives calls is = is
other_task P strict (RunBuiltIn what place result) state choices value address pick execute branch test again set breaks continues gives calls is = is
other_task P strict (CallDefined number) state choices value address pick execute branch test again set breaks continues gives calls is = absurd (calls number refl)
other_task P strict EndRun state choices value address pick execute branch test again set breaks continues gives calls is = is
other_task P strict (Finish place) state choices value address pick execute branch test again set breaks continues gives calls is = is
other_task P strict (Keep place) state choices value address pick execute branch test again set breaks continues gives calls is = is
other_task P strict OpenBlock state choices value address pick execute branch test again set breaks continues gives calls is = is
other_task P strict (MakeObject object) state choices value address pick execute branch test again set breaks continues gives calls is = is
other_task P strict (MakeParameter object) state choices value address pick execute branch test again set breaks continues gives calls is = is
other_task P strict (MakeStatic object) state choices value address pick execute branch test again set breaks continues gives calls is = is
other_task P strict (LeaveBlock place) state choices value address pick execute branch test again set breaks continues gives calls is = is
other_task P strict (Zero place count) state choices value address pick execute branch test again set breaks continues gives calls is = is
other_task P strict (LeaveFunction place) state choices value address pick execute branch test again set breaks continues gives calls is = is
other_task P strict (EndOfBody is_main result close held) state choices value address pick execute branch test again set breaks continues gives calls is = is
other_task P strict Unknown state choices value address pick execute branch test again set breaks continues gives calls is = is
other_task P strict (ValueOf expr) state choices value address pick execute branch test again set breaks continues gives calls is = absurd (value expr refl)
other_task P strict (AddressOf expr) state choices value address pick execute branch test again set breaks continues gives calls is = absurd (address expr refl)
other_task P strict (Pick kind one other) state choices value address pick execute branch test again set breaks continues gives calls is = absurd (pick kind one other refl)
other_task P strict (Execute stmt) state choices value address pick execute branch test again set breaks continues gives calls is = absurd (execute stmt refl)
other_task P strict (Branch stmt) state choices value address pick execute branch test again set breaks continues gives calls is = absurd (branch stmt refl)
other_task P strict (Test stmt) state choices value address pick execute branch test again set breaks continues gives calls is = absurd (test stmt refl)
other_task P strict (Again stmt held) state choices value address pick execute branch test again set breaks continues gives calls is = absurd (again stmt held refl)
other_task P strict (Initialise place init) state choices value address pick execute branch test again set breaks continues gives calls is = absurd (set place init refl)
other_task P strict (BreakAt place) state choices value address pick execute branch test again set breaks continues gives calls is = absurd (breaks place refl)
other_task P strict (ContinueAt place) state choices value address pick execute branch test again set breaks continues gives calls is = absurd (continues place refl)
other_task P strict (GiveBack place kind) state choices value address pick execute branch test again set breaks continues gives calls is = absurd (gives place kind refl)

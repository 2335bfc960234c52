-- The steps that look at no tree are those of the machine.
use Rattle.std.proofs.Common.{◌≡◌, List, refl}
use Rattle.std.specs.Prelude.{IfSome}
use Rattle.choices.specs.declared.choice.Choice.{Choice}
use Rattle.c_machine.specs.declared.task.Task.TheVariants.{ValueOf, AddressOf, Push, ObjectAt, Shift, Load, Convert, Apply, Operate, Answer, AndThen, OrElse, Drop, Store, Update, CountBy, CopyStruct, RunBuiltIn, CallDefined, EndRun, Finish, Keep, OpenBlock, MakeObject, MakeParameter, MakeStatic, LeaveBlock, Zero, LeaveFunction, EndOfBody, Unknown, Pick, Execute, Branch, Test, Again, Initialise, BreakAt, ContinueAt, GiveBack}
use Rattle.c_machine.specs.State.{TaskIn, StateIn}
use Rattle.c_machine.specs.Step.{step_of}
use Rattle.c_machine.specs.Text.{Text}
use Rattle.c_machine.specs.Trees.{text_of}
use Rattle.c_steps.specs.Laws.{ArePlainSteps}
use Rattle.c_steps.specs.PlainStep.{plain_step}

plain_in : (t : Text) (task : TaskIn t) (state : StateIn t) (choices : List Choice) →
    IfSome (plain_step t.strict task state choices) (λ comes. step_of t task state choices ≡ comes)
plain_in t (Push number) state choices = refl
plain_in t (ObjectAt token) state choices = refl
plain_in t (Shift bytes) state choices = refl
plain_in t (Load place kind) state choices = refl
plain_in t (Convert from to) state choices = refl
plain_in t (Apply op kind) state choices = refl
plain_in t (Operate op left right) state choices = refl
plain_in t (Answer holds) state choices = refl
plain_in t (AndThen right) state choices = refl
plain_in t (OrElse right) state choices = refl
plain_in t Drop state choices = refl
plain_in t (Store place kind) state choices = refl
plain_in t (Update op place kind right) state choices = refl
plain_in t (CountBy up behind place kind) state choices = refl
plain_in t (CopyStruct place count) state choices = refl
plain_in t (RunBuiltIn what place result) state choices = refl
plain_in t (CallDefined number) state choices = tt
plain_in t EndRun state choices = refl
plain_in t (Finish place) state choices = refl
plain_in t (Keep place) state choices = refl
plain_in t OpenBlock state choices = refl
plain_in t (MakeObject object) state choices = refl
plain_in t (MakeParameter object) state choices = refl
plain_in t (MakeStatic object) state choices = refl
plain_in t (LeaveBlock place) state choices = refl
plain_in t (Zero place count) state choices = refl
plain_in t (LeaveFunction place) state choices = refl
plain_in t (EndOfBody is_main result close held) state choices = refl
plain_in t Unknown state choices = refl
plain_in t (ValueOf expr) state choices = tt
plain_in t (AddressOf expr) state choices = tt
plain_in t (Pick kind one other) state choices = tt
plain_in t (Execute stmt) state choices = tt
plain_in t (Branch stmt) state choices = tt
plain_in t (Test stmt) state choices = tt
plain_in t (Again stmt held) state choices = tt
plain_in t (Initialise place init) state choices = tt
plain_in t (BreakAt place) state choices = tt
plain_in t (ContinueAt place) state choices = tt
plain_in t (GiveBack place kind) state choices = tt

pub plain_steps : ArePlainSteps
plain_steps p task state choices = plain_in (text_of p) task state choices

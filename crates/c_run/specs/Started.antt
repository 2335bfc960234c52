-- What the start of a run comes to, where the types of which its steps speak are kept.
use Rattle.std.specs.Prelude.{◌≡◌, ℕ, zero, suc, Bool, true, false, ◌&&◌, List, [], ◌∷◌, length, Option, None, Some}
use Rattle.choices.specs.declared.choice.Choice.{Choice}
use Rattle.c_machine.specs.Run.{blank, done_within, main_tasks, start_main, static_tasks}
use Rattle.c_machine.specs.State.{StateIn}
use Rattle.c_machine.specs.Step.{step}
use Rattle.c_machine.specs.Text.{Function, Text}
use Rattle.c_steps.specs.declared.outcome.Outcome.TheVariants as outcome
use Rattle.c_steps.specs.ComesTo.{comes_to}
use Rattle.c_run.specs.declared.stepped.Stepped.{Stepped}
use Rattle.c_run.specs.declared.stepped.Stepped.TheVariants.{Came, NotKept}
use Rattle.c_run.specs.declared.tasks.room.Room.TheVariants as room
use Rattle.c_run.specs.tasks.Room.{are_kept, kinds_in, MakesRoom}
use Rattle.c_run.specs.Stepped.{keeps_kinds, keeps_on}

-- whether the types are kept at each of so many steps, up to where nothing is left to do
abbrev pub where_left : {A : Type 0} → List A → Bool → Bool
where_left [] keeps = true
where_left (task ∷ tasks) keeps = keeps

abbrev pub keeps_kinds_until : ℕ → (t : Text) → StateIn t → List Choice → Bool
keeps_kinds_until zero t state choices = true
keeps_kinds_until (suc steps) t state choices =
    where_left state.tasks (keeps_kinds t state && keeps_on (step t state choices) (keeps_kinds_until steps t))

-- the objects that live as long as the program runs are to be made and initialised, so many of them
abbrev pub MakesStatics : (t : Text) → Option ℕ → StateIn t → StateIn t → Type 0
MakesStatics t None before after = MakesRoom (static_tasks t) room.NotKept before after
MakesStatics t (Some count) before after = MakesRoom (static_tasks t) room.Made before after × (count ≡ length t.statics)

-- what it comes to that all is done in at most so many steps
abbrev pub IsDone : (t : Text) → ℕ → Stepped → StateIn t → List Choice → StateIn t → List Choice → Type 0
IsDone t steps (Came outcome) before choices after left =
    (comes_to outcome after left ≡ done_within steps t before choices) × (keeps_kinds_until steps t before choices ≡ true)
IsDone t steps NotKept before choices after left = keeps_kinds_until steps t before choices ≡ false

-- whether the types are kept at the start of a run
abbrev pub keeps_kinds_at : (t : Text) → Option (Function t.Stmt) → List Choice → Bool
keeps_kinds_at t None choices = true
keeps_kinds_at t (Some main) choices =
    are_kept (kinds_in (static_tasks t))
    && (keeps_kinds_until t.enough t (blank t (static_tasks t)) choices
    && keeps_on (done_within t.enough t (blank t (static_tasks t)) choices) (λ state more. are_kept (kinds_in (main_tasks t main))))

-- what the start of a run comes to, where main is that one
abbrev pub IsStartOf : (t : Text) → Option (Function t.Stmt) → Stepped → List Choice → StateIn t → List Choice → Type 0
IsStartOf t main (Came outcome) choices after left =
    (comes_to outcome after left ≡ start_main t t.enough main choices) × (keeps_kinds_at t main choices ≡ true)
IsStartOf t main NotKept choices after left = keeps_kinds_at t main choices ≡ false

abbrev pub IsStart : (t : Text) → Stepped → List Choice → StateIn t → List Choice → Type 0
IsStart t stepped choices after left = IsStartOf t t.main stepped choices after left

-- main is to be called next, where the sizes of its objects are kept
abbrev pub Calls : (t : Text) → Function t.Stmt → Stepped → StateIn t → StateIn t → Type 0
Calls t main (Came outcome.Went) before after = MakesRoom (main_tasks t main) room.Made before after
Calls t main (Came other) before after = ⊥
Calls t main NotKept before after = MakesRoom (main_tasks t main) room.NotKept before after

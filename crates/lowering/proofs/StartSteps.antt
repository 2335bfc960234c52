-- Steps before main: what is to be done is done to its end, in so many steps or in more.
use Rattle.std.proofs.Common.{◌≡◌, ◌≢◌, ◌≤◌, ℕ, zero, suc, ◌+◌, arith, List, [], ◌∷◌, refl, ◌∙◌}
use Rattle.bytes_core.specs.declared.block.Block.{Block}
use Rattle.bytes_core.specs.declared.word.Word.{Word}
use Rattle.choices.specs.declared.choice.Choice.{Choice}
use Rattle.c_machine.specs.Text.{Text}
use Rattle.c_machine.specs.State.{TaskIn, StateIn, OutcomeIn, Scope, Went, Waits, Ended, Faulted, Stuck}
use Rattle.c_machine.specs.Step.{step}
use Rattle.c_machine.specs.Run.{then_go, finished, done_within}

-- a state before main: no block is entered and no function waits
abbrev pub before_main : (t : Text) → Scope → List (TaskIn t) → List Word → List Block → StateIn t
before_main t statics tasks operands memory = record {
  tasks = tasks;
  operands = operands;
  frame = [];
  callers = [];
  statics = statics;
  memory = memory;
}

-- whatever is done within so many steps from a state is done from another one within more of them, at most `bound` more, with the same choices
abbrev pub Takes : (t : Text) → (bound : ℕ) → StateIn t → StateIn t → Type 0
Takes t bound one other = (steps : ℕ) (choices : List Choice) → (more : ℕ) × (more ≤ bound + steps) × (done_within more t one choices ≡ done_within steps t other choices)

pub takes_none : (t : Text) (one : StateIn t) → Takes t 0 one one
takes_none t one steps choices = (steps, omega arith, refl)

pub takes_both : (t : Text) (bound bound' : ℕ) (one middle other : StateIn t) → Takes t bound one middle → Takes t bound' middle other → Takes t (bound + bound') one other
takes_both t bound bound' one middle other first second steps choices =
    let behind = second steps choices in
    let before = first behind.0 choices in
    let h = behind.1 in
    let k = before.1 in
    (before.0, omega arith, before.2 ∙ behind.2)

pub takes_less : (t : Text) (bound bound' : ℕ) (one other : StateIn t) → bound ≤ bound' → Takes t bound one other → Takes t bound' one other
takes_less t bound bound' one other less takes steps choices = let found = takes steps choices in let h = found.1 in (found.0, omega arith, found.2)

-- An end that is reached within some steps is reached within more.
then_last : (t : Text) (outcome : OutcomeIn t) (one other : StateIn t → List Choice → OutcomeIn t) →
    ((state : StateIn t) (choices : List Choice) → one state choices ≢ Stuck → other state choices ≡ one state choices) → then_go outcome one ≢ Stuck → then_go outcome other ≡ then_go outcome one
then_last t (Went state choices) one other each is = each state choices is
then_last t Waits one other each is = refl
then_last t Ended one other each is = refl
then_last t (Faulted kind place) one other each is = refl
then_last t Stuck one other each is = refl

finished_last : (t : Text) (tasks : List (TaskIn t)) (state : StateIn t) (choices : List Choice) (one other : StateIn t → List Choice → OutcomeIn t) →
    (one state choices ≢ Stuck → other state choices ≡ one state choices) → finished tasks state choices one ≢ Stuck → finished tasks state choices other ≡ finished tasks state choices one
finished_last t [] state choices one other each is = refl
finished_last t (task ∷ tasks) state choices one other each is = each is

pub lasts_on : (t : Text) (one other : ℕ) → one ≤ other → (state : StateIn t) (choices : List Choice) → done_within one t state choices ≢ Stuck → done_within other t state choices ≡ done_within one t state choices
lasts_on t zero zero less state choices is = refl
lasts_on t zero (suc other) less state choices is =
    finished_last t state.tasks state choices (λ after more. Stuck) (λ after more. then_go (step t after more) (done_within other t)) (λ stuck. absurd (stuck refl)) is
lasts_on t (suc one) zero less state choices is = absurd (omega arith)
lasts_on t (suc one) (suc other) less state choices is =
    finished_last t state.tasks state choices (λ after more. then_go (step t after more) (done_within one t)) (λ after more. then_go (step t after more) (done_within other t))
    (λ goes. then_last t (step t state choices) (done_within one t) (done_within other t) (lasts_on t one other (omega arith)) goes) is

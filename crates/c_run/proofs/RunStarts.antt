-- The start of a run, part by part.
use Rattle.std.proofs.Common.{◌≡◌, ℕ, ◌+◌, ◌*◌, arith, Bool, true, false, ◌&&◌, List, [], ◌++◌, Option, None, Some, refl, sym, ap, subst, ◌∙◌}
use Rattle.std.proofs.lemmas.List.{append-nil}
use Rattle.choices.specs.declared.choice.Choice.{Choice}
use Rattle.c_machine.specs.Run.{blank, done_within, main_tasks, static_tasks, then_go}
use Rattle.c_machine.specs.State.{TaskIn, StateIn, OutcomeIn, doing, Went as WentThere}
use Rattle.c_machine.specs.Text.{Function, Text}
use Rattle.c_steps.specs.declared.outcome.Outcome.TheVariants.{Went, Waits, Ended, Faulted, Stuck}
use Rattle.c_steps.specs.ComesTo.{comes_to}
use Rattle.c_run.specs.declared.stepped.Stepped.{Stepped}
use Rattle.c_run.specs.declared.stepped.Stepped.TheVariants.{Came, NotKept}
use Rattle.c_run.specs.Started.{Calls, IsDone, IsStartOf, MakesStatics, keeps_kinds_at, keeps_kinds_until}
use Rattle.c_run.specs.Stepped.{goes_on, keeps_on}
use Rattle.c_run.specs.tasks.Room.{are_kept, kinds_in}

pub same_start : (t : Text) (main other : Option (Function t.Stmt)) (stepped : Stepped) (choices : List Choice) (after : StateIn t) (left : List Choice) → main ≡ other
    → IsStartOf t main stepped choices after left → IsStartOf t other stepped choices after left
same_start t main other stepped choices after left is starts = subst (λ (this : Option (Function t.Stmt)). IsStartOf t this stepped choices after left) is starts

pub no_main : (t : Text) (main : Option (Function t.Stmt)) (choices : List Choice) (after : StateIn t) (left : List Choice) → main ≡ None → IsStartOf t main (Came Stuck) choices after left
no_main t main choices after left is = same_start t None main (Came Stuck) choices after left (sym is) (refl, refl)

-- nothing is made before
pub at_blank : (t : Text) (before mid : StateIn t) → before ≡ blank t [] → mid ≡ doing (static_tasks t) before → mid ≡ blank t (static_tasks t)
at_blank t before mid is made =
    made ∙ ap (doing (static_tasks t)) is ∙ ap (λ (tasks : List (TaskIn t)). blank t tasks) (append-nil (static_tasks t))

module _ (t : Text) (main : Function t.Stmt) (choices : List Choice) where
  abbrev first : StateIn t
  first = blank t (static_tasks t)

  abbrev onward : StateIn t → List Choice → OutcomeIn t
  onward state more = WentThere (record state { tasks = main_tasks t main }) more

  abbrev calls_kept : StateIn t → List Choice → Bool
  calls_kept state more = are_kept (kinds_in (main_tasks t main))

  pub statics_lack : are_kept (kinds_in (static_tasks t)) ≡ false → keeps_kinds_at t (Some main) choices ≡ false
  statics_lack not = ap (λ (fit : Bool). fit && (keeps_kinds_until t.enough t first choices && keeps_on (done_within t.enough t first choices) calls_kept)) not

  all_kept : (came : OutcomeIn t) → came ≡ done_within t.enough t first choices → are_kept (kinds_in (static_tasks t)) ≡ true → keeps_kinds_until t.enough t first choices ≡ true
      → keeps_kinds_at t (Some main) choices ≡ keeps_on came calls_kept
  all_kept came is fit until =
      ap (λ (fit : Bool). fit && (keeps_kinds_until t.enough t first choices && keeps_on (done_within t.enough t first choices) calls_kept)) fit
      ∙ ap (λ (kept : Bool). kept && keeps_on (done_within t.enough t first choices) calls_kept) until
      ∙ ap (λ (came : OutcomeIn t). keeps_on came calls_kept) (sym is)

  -- it stops before main is called
  pub stops : (stepped : Stepped) (after : StateIn t) (left : List Choice) → are_kept (kinds_in (static_tasks t)) ≡ true → IsDone t t.enough stepped first choices after left → goes_on stepped ≡ false
      → IsStartOf t (Some main) stepped choices after left
  stops (Came Went) after left fit done goes = absurd cc
  stops (Came Waits) after left fit done goes = (ap (λ (came : OutcomeIn t). then_go came onward) done.0, all_kept (comes_to Waits after left) done.0 fit done.1)
  stops (Came Ended) after left fit done goes = (ap (λ (came : OutcomeIn t). then_go came onward) done.0, all_kept (comes_to Ended after left) done.0 fit done.1)
  stops (Came (Faulted kind place)) after left fit done goes = (ap (λ (came : OutcomeIn t). then_go came onward) done.0, all_kept (comes_to (Faulted kind place) after left) done.0 fit done.1)
  stops (Came Stuck) after left fit done goes = (ap (λ (came : OutcomeIn t). then_go came onward) done.0, all_kept (comes_to Stuck after left) done.0 fit done.1)
  stops NotKept after left fit done goes =
      ap (λ (fit : Bool). fit && (keeps_kinds_until t.enough t first choices && keeps_on (done_within t.enough t first choices) calls_kept)) fit
      ∙ ap (λ (kept : Bool). kept && keeps_on (done_within t.enough t first choices) calls_kept) done

  -- main is called
  calls_by : (stepped : Stepped) (mid after : StateIn t) (left : List Choice) → are_kept (kinds_in (static_tasks t)) ≡ true → WentThere mid left ≡ done_within t.enough t first choices
      → keeps_kinds_until t.enough t first choices ≡ true → mid.tasks ≡ [] → Calls t main stepped mid after → IsStartOf t (Some main) stepped choices after left
  calls_by (Came Went) mid after left fit done until none made = (
    ap (λ (state : StateIn t). WentThere state left)
        (made.0
        ∙ ap (λ (tasks : List (TaskIn t)). record mid { tasks = main_tasks t main ++ tasks }) none
        ∙ ap (λ (tasks : List (TaskIn t)). record mid { tasks = tasks }) (append-nil (main_tasks t main)))
        ∙ ap (λ (came : OutcomeIn t). then_go came onward) done,
    all_kept (WentThere mid left) done fit until ∙ made.1,
  )
  calls_by (Came Waits) mid after left fit done until none made = absurd made
  calls_by (Came Ended) mid after left fit done until none made = absurd made
  calls_by (Came (Faulted kind place)) mid after left fit done until none made = absurd made
  calls_by (Came Stuck) mid after left fit done until none made = absurd made
  calls_by NotKept mid after left fit done until none not = all_kept (WentThere mid left) done fit until ∙ not

  pub calls : (before stepped : Stepped) (mid after : StateIn t) (left : List Choice) → are_kept (kinds_in (static_tasks t)) ≡ true → IsDone t t.enough before first choices mid left
      → goes_on before ≡ true → mid.tasks ≡ [] → Calls t main stepped mid after → IsStartOf t (Some main) stepped choices after left
  calls (Came Went) stepped mid after left fit done goes none made = calls_by stepped mid after left fit done.0 done.1 none made
  calls (Came Waits) stepped mid after left fit done goes none made = absurd cc
  calls (Came Ended) stepped mid after left fit done goes none made = absurd cc
  calls (Came (Faulted kind place)) stepped mid after left fit done goes none made = absurd cc
  calls (Came Stuck) stepped mid after left fit done goes none made = absurd cc
  calls NotKept stepped mid after left fit done goes none made = absurd cc

-- what is told of the objects that live as long as the program runs
pub statics_not : (t : Text) (count : Option ℕ) (before after : StateIn t) → count ≡ None → MakesStatics t count before after → are_kept (kinds_in (static_tasks t)) ≡ false
statics_not t count before after is told = subst (λ (this : Option ℕ). MakesStatics t this before after) is told

pub statics_made : (t : Text) (count : Option ℕ) (number : ℕ) (before after : StateIn t) → count ≡ Some number → MakesStatics t count before after
    → MakesStatics t (Some number) before after
statics_made t count number before after is told = subst (λ (this : Option ℕ). MakesStatics t this before after) is told

-- in so many steps, from there
pub same_done : (t : Text) (steps enough : ℕ) (stepped : Stepped) (from there : StateIn t) (choices : List Choice) (after : StateIn t) (left : List Choice) → steps ≡ enough → from ≡ there
    → IsDone t steps stepped from choices after left → IsDone t enough stepped there choices after left
same_done t steps enough stepped from there choices after left many is done =
    subst (λ (this : StateIn t). IsDone t enough stepped this choices after left) is (subst (λ (count : ℕ). IsDone t count stepped from choices after left) many done)

pub that_many : (steps count all rows nodes other : ℕ) → steps ≡ count + 8 * nodes → count ≡ all → all ≡ rows → nodes ≡ other → steps ≡ rows + 8 * other
that_many steps count all rows nodes other is counted mapped same = omega (arith, is, counted, mapped, same)

-- What is left of a row behind a part that is written: all that was left before.
use Rattle.std.proofs.Common.{◌≡◌, ℕ, ◌≤◌, Bool, true, false, if◌then◌else◌, length, refl, sym, ap, ◌∙◌, subst}
use Rattle.cevents.specs.declared.event.Event.{Event}
use Rattle.cparser.specs.State.{State, rest, goes, with_event}
use Rattle.cparser.specs.Steps.{write}

rest_either : (b : Bool) (event : Event) (s : State) → rest (if b then with_event event s else s) ≡ rest s
rest_either true event s = refl
rest_either false event s = refl

pub rest_written : (event : Event) (s : State) → rest (write event s) ≡ rest s
unfolding write
rest_written event s = rest_either (goes s) event s

pub there_written : (event : Event) (s t : State) → t ≡ write event s → 1 ≤ length (rest s) → 1 ≤ length (rest t)
there_written event s t same there =
    let P : ℕ → Type 0 = λ n. 1 ≤ n in
    subst P (sym (ap (λ (u : State). length (rest u)) same ∙ ap (λ row. length row) (rest_written event s))) there

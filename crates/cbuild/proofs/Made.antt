-- What events make, event by event.
use Rattle.std.proofs.Common.{◌≡◌, ℕ, ◌-◌, ◌≤◌, Bool, true, false, not, List, [], ◌∷◌, length, take, drop, Option, None, Some, refl, ap, sym, ◌∙◌, arith}
use Rattle.std.proofs.lemmas.Bool.{false≢true}
use Rattle.std.proofs.lemmas.List.{drop_all, length-drop, take_all}
use Rattle.cevents.specs.Building.{built_all}
use Rattle.cevents.specs.Workshop.{Workshop, left_by}
use Rattle.cevents.specs.declared.event.Event.{Event}
use Rattle.cgrammar.specs.Terminals.{Terminal}

-- out of nothing they make nothing
pub made_of_nothing : (row : List Terminal) (events : List Event) → built_all row events None ≡ None
unfolding built_all
made_of_nothing row [] = refl
made_of_nothing row (event ∷ events) = made_of_nothing row events

pub made_of_none : (row : List Terminal) (workshop : Option Workshop) → built_all row [] workshop ≡ workshop
unfolding built_all
made_of_none row workshop = refl

-- those behind the first `index`, as a slice has them
all_behind : (index : ℕ) (events : List Event) → take (length events - index) (drop index events) ≡ drop index events
all_behind index events = take_all (length events - index) (drop index events) (omega (arith, length-drop index events))

-- where the first of these make nothing, nor do all
pub made_no_more : (row : List Terminal) (events behind : List Event) (index : ℕ) (workshop next : Workshop) (made : Bool)
    → built_all row (take (length events - index) (drop index events)) (Some workshop) ≡ built_all row behind (left_by made next) → not made ≡ true
    → None ≡ built_all row (drop index events) (Some workshop)
made_no_more row events behind index workshop next true is none = absurd (false≢true none)
made_no_more row events behind index workshop next false is none =
    sym (ap (λ (left : List Event). built_all row left (Some workshop)) (sym (all_behind index events)) ∙ (is ∙ made_of_nothing row behind))

-- behind the last of them
pub made_in_the_end : (row : List Terminal) (events : List Event) (index : ℕ) (workshop : Workshop) → length events ≤ index
    → Some workshop ≡ built_all row (drop index events) (Some workshop)
made_in_the_end row events index workshop behind =
    sym (ap (λ (left : List Event). built_all row left (Some workshop)) (drop_all index events behind) ∙ made_of_none row (Some workshop))

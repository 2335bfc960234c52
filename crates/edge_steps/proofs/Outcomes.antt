-- Outcomes whose states follow by a relation, and whose faults are those of another.
use Rattle.std.proofs.Common.{◌≡◌, ℕ, Bool, true, false, List, Option, None, Some, refl, subst}
use Rattle.std.specs.Prelude.{if◌then◌else◌}
use Rattle.cbase.specs.declared.place.Place.{Place}
use Rattle.choices.specs.declared.choice.Choice.{Choice}
use Rattle.flow.specs.Holding.{Held}
use Rattle.flow.specs.Machine.{State, Outcome, Went, Barred, Waits, Ended, Faulted, given, unless_fault, if_computed}

abbrev pub IsRight : (State → Type 0) → (ℕ → Type 0) → Place → Outcome → Type 0
IsRight Steps Faults place (Went next choices) = Steps next
IsRight Steps Faults place Barred = Unit {0}
IsRight Steps Faults place Waits = Unit {0}
IsRight Steps Faults place Ended = Unit {0}
IsRight Steps Faults place (Faulted kind other) = Faults kind × (other ≡ place)

module _ (Steps : State → Type 0) (Faults : ℕ → Type 0) (place : Place) where
  pub right_went : (outcome : Outcome) (next : State) (choices : List Choice) → IsRight Steps Faults place outcome → outcome ≡ Went next choices → Steps next
  right_went outcome next choices right is = let P : Outcome → Type 0 = λ o. IsRight Steps Faults place o in subst P is right

  pub right_faulted : (outcome : Outcome) (kind : ℕ) (other : Place) → IsRight Steps Faults place outcome → outcome ≡ Faulted kind other → Faults kind × (other ≡ place)
  right_faulted outcome kind other right is = let P : Outcome → Type 0 = λ o. IsRight Steps Faults place o in subst P is right

  pub right_given : (found : Option Held) (onward : Held → Outcome) → ((held : Held) → found ≡ Some held → IsRight Steps Faults place (onward held)) → IsRight Steps Faults place (given found onward)
  right_given None onward right = tt
  right_given (Some held) onward right = right held refl

  pub right_unless_fault : (fault : Option ℕ) (outcome : Outcome) → (fault ≡ None → IsRight Steps Faults place outcome) → ((kind : ℕ) → fault ≡ Some kind → Faults kind) → IsRight Steps Faults place (unless_fault fault place outcome)
  right_unless_fault None outcome right faults = right refl
  right_unless_fault (Some kind) outcome right faults = (faults kind refl, refl)

  pub right_if_computed : (found : Option ℕ) (onward : ℕ → Outcome) → ((number : ℕ) → found ≡ Some number → IsRight Steps Faults place (onward number)) → IsRight Steps Faults place (if_computed found onward)
  right_if_computed None onward right = tt
  right_if_computed (Some number) onward right = right number refl

  pub right_if : (test : Bool) (one other : Outcome) → (test ≡ true → IsRight Steps Faults place one) → (test ≡ false → IsRight Steps Faults place other) → IsRight Steps Faults place (if test then one else other)
  right_if true one other right right' = right refl
  right_if false one other right right' = right' refl

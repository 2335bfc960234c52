-- What is refused: its place is one of which something holds, and it has a number. That goes over from all that is broken to the one that is named.
use Rattle.std.proofs.Common.{ℕ, Bool, true, false, List, [], ◌∷◌, ◌++◌, Option, Some, None, sym, subst}
use Rattle.std.specs.List.{AllByRecursion}
use Rattle.std.specs.Prelude.{if◌then◌else◌}
use Rattle.cbase.specs.declared.place.Place.{Place}
use Rattle.typing.specs.declared.ctypes.found.Broken.{Broken}
use Rattle.typing.specs.ctypes.Broken.{Judgement, Typed, Breaks}
use Rattle.typing.specs.declared.fault.Fault.{Fault}
use Rattle.typing.specs.Faults.{unless, all_at, faults_of, least, comes_before, IsFirst}
use Rattle.typing.specs.Known.{Known, found_at}
use Rattle.typing.specs.Outcomes.{Outcome, Handed, Passes, Refused, IsSettled, with_front}
use Rattle.cbase.specs.declared.ctype.CType.{CType}
use Rattle.ccheck.proofs.Numbered.{HasNumber}
use Rattle.ccheck.proofs.Numbered.{IsNumbered}

-- what may be found has a number
abbrev pub FoundIsNumbered : Option Broken → Type 0
FoundIsNumbered None = Unit {0}
FoundIsNumbered (Some broken) = HasNumber broken

least_of_two : (test : Bool) (one other : Broken) → HasNumber one → HasNumber other → FoundIsNumbered (Some (if test then one else other))
least_of_two true one other is also = is
least_of_two false one other is also = also

pub least_numbered : (one other : Option Broken) → FoundIsNumbered one → FoundIsNumbered other → FoundIsNumbered (least one other)
least_numbered None other is also = also
least_numbered (Some one) None is also = is
least_numbered (Some one) (Some other) is also = least_of_two (comes_before one other) one other is also

module _ (P : Place → Type 0) where
  abbrev pub FaultHolds : Fault → Type 0
  FaultHolds broken = P broken.place × HasNumber broken.broken

  abbrev pub FaultsHold : List Fault → Type 0
  FaultsHold faults = AllByRecursion FaultHolds faults

  -- an outcome: what passes is of some kind, what is refused is refused so
  abbrev pub Answers : {A : Type 0} → (A → Type 0) → Outcome A → Type 0
  Answers Q (Passes told handed) = Q told
  Answers Q (Refused first) = FaultHolds first

  abbrev pub Refuses : {A : Type 0} → Outcome A → Type 0
  Refuses outcome = Answers (λ told. Unit {0}) outcome

  pub join : (faults others : List Fault) → FaultsHold faults → FaultsHold others → FaultsHold (faults ++ others)
  join [] others all also = also
  join (first ∷ faults) others all also = (all.0, join faults others all.1 also)

  pub hold_unless : (test : Bool) (place : Place) (broken : Broken) → P place → HasNumber broken → FaultsHold (unless test place broken)
  hold_unless true place broken at number = tt
  hold_unless false place broken at number = ((at, number), tt)

  pub hold_all_at : (place : Place) (found : Option Broken) → P place → FoundIsNumbered found → FaultsHold (all_at place found)
  hold_all_at place None at number = tt
  hold_all_at place (Some broken) at number = ((at, number), tt)

  pub hold_faults_of : (place : Place) (judgement : Judgement) → P place → IsNumbered judgement → FaultsHold (faults_of place judgement)
  hold_faults_of place (Typed t) at number = tt
  hold_faults_of place (Breaks broken) at number = ((at, number), tt)

  in_middle : (front : List Fault) (first : Fault) (back : List Fault) → FaultsHold (front ++ first ∷ back) → FaultHolds first
  in_middle [] first back all = all.0
  in_middle (other ∷ front) first back all = in_middle front first back all.1

  pub hold_first : (faults : List Fault) (first : Fault) → FaultsHold faults → IsFirst faults first → FaultHolds first
  hold_first faults first all is = in_middle is.front first is.back (subst FaultsHold is.whole all)

  pub hold_settled : {A : Type 0} (Q : A → Type 0) (faults : List Fault) (value : A) (handed : List Handed) (outcome : Outcome A)
      → FaultsHold faults → Q value → IsSettled faults value handed outcome → Answers Q outcome
  hold_settled Q faults value handed (Passes found told) all is settled = subst Q (sym settled.1) is
  hold_settled Q faults value handed (Refused first) all is settled = hold_first faults first all settled

  pub hold_found : (place : Broken → Place) (judgement : Judgement) (known : CType → Known) (handed : List Handed) (number : ℕ)
      → ((broken : Broken) → P (place broken)) → IsNumbered judgement → Refuses (found_at place judgement known handed number)
  hold_found place (Typed t) known handed number at is = tt
  hold_found place (Breaks broken) known handed number at is = (at broken, is)

  pub hold_behind : {A : Type 0} (Q : A → Type 0) (handed : List Handed) (outcome : Outcome A) → Answers Q outcome → Answers Q (with_front handed outcome)
  hold_behind Q handed (Passes told further) is = is
  hold_behind Q handed (Refused first) is = is

  pub hold_if : (test : Bool) (one other : Place) → P one → P other → P (if test then one else other)
  hold_if true one other is also = is
  hold_if false one other is also = also

-- What is broken at a node of a tree, each thing with its place, and which of them is named.
--
-- Constructs come before rules, and lower numbers first; of what is then still equal the first one in the list is named.
use Rattle.std.specs.Prelude.{◌≡◌, Bool, true, false, List, [], ◌∷◌, ◌++◌, Option, None, Some, nat_le, if◌then◌else◌}
use Rattle.std.specs.List.{AllByRecursion}
use Rattle.cbase.specs.declared.place.Place.{Place}
use Rattle.typing.specs.declared.ctypes.found.Broken.{Broken}
use Rattle.typing.specs.declared.ctypes.found.Broken.TheVariants.{Construct, Rule}
use Rattle.typing.specs.ctypes.Broken.{Judgement, Typed, Breaks, ComesBefore}
use Rattle.typing.specs.declared.fault.Fault.{Fault}

abbrev pub fault : Place → Broken → Fault
fault place broken = record { place = place; broken = broken }

-- what is asked at a place, and what is broken there where it does not hold
abbrev pub unless : Bool → Place → Broken → List Fault
unless true place broken = []
unless false place broken = fault place broken ∷ []

-- whether one thing comes before another, or is the same (`ComesBefore`, as a test)
abbrev pub comes_before : Broken → Broken → Bool
comes_before (Construct first) (Construct second) = nat_le first second
comes_before (Construct first) (Rule second) = true
comes_before (Rule first) (Construct second) = false
comes_before (Rule first) (Rule second) = nat_le first second

-- the least of two things at one place, where there are any
abbrev pub least : Option Broken → Option Broken → Option Broken
least None other = other
least (Some broken) None = Some broken
least (Some broken) (Some other) = Some (if comes_before broken other then broken else other)

-- what is found, at a place
abbrev pub all_at : Place → Option Broken → List Fault
all_at place None = []
all_at place (Some broken) = fault place broken ∷ []

-- what is broken at an operator
abbrev pub faults_of : Place → Judgement → List Fault
faults_of place (Typed t) = []
faults_of place (Breaks broken) = fault place broken ∷ []

-- the one that is named: it comes before all the others, and none in front of it comes as early
pub record IsFirst (faults : List Fault) (first : Fault) : Type 0 where
  pub front : List Fault
  pub back : List Fault
  pub whole : faults ≡ front ++ first ∷ back
  pub later : AllByRecursion (λ other. ComesBefore other.broken first.broken → ⊥) front
  pub behind : AllByRecursion (λ other. ComesBefore first.broken other.broken) back

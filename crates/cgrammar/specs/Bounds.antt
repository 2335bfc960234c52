-- From which open scope on no name is declared: for each name a bound above the number of each scope that declares it, where
-- the outermost scope has the number 0, and for each scope the bounds that names had before they were declared in it. A bound
-- may be too high, and is never too low.
use Rattle.std.specs.Prelude.{◌≡◌, ℕ, ◌-◌, ◌<◌, ◌≤◌, ◌⊎◌, true, List, [], length, slice_index_or, Option, None, Some}
use Rattle.std.specs.Str.{bytes_eq}
use Rattle.cgrammar.specs.NameTables.{value_in}
use Rattle.cgrammar.specs.Scope.{Names}

-- a number for each of some names
abbrev pub Numbers : Type 0
Numbers = List (List ℕ × ℕ)

-- a number, or 1 where there is none
abbrev pub or_one : Option ℕ → ℕ
or_one None = 1
or_one (Some number) = number

-- the bound of a name: only the outermost scope can declare one that has no number
abbrev pub bound_in : List ℕ → Numbers → ℕ
bound_in name bounds = or_one (value_in name bounds)

-- the scope with this number does not declare the name
abbrev pub IsSilent : List Names → List ℕ → ℕ → Type 0
IsSilent scopes name at = value_in name (slice_index_or scopes at []) ≡ None

-- no scope from the bound of a name on declares it
abbrev pub IsAbove : List Names → Numbers → Type 0
IsAbove scopes bounds = (name : List ℕ) (at : ℕ) → bound_in name bounds ≤ at → IsSilent scopes name at

-- a bound that a name had before a scope declared it is above each scope around that one that declares the name
abbrev pub AreEarlier : List Names → List Numbers → Type 0
AreEarlier scopes earlier =
    (scope : ℕ) (name : List ℕ) (bound : ℕ) → value_in name (slice_index_or earlier scope []) ≡ Some bound
    → (at : ℕ) → bound ≤ at → at < scope → IsSilent scopes name at

-- the bounds are right for the scopes
pub record IsBounded (scopes : List Names) (bounds : Numbers) (earlier : List Numbers) : Type 0 where
  pub count : length earlier ≡ length scopes
  pub above : IsAbove scopes bounds
  pub before : AreEarlier scopes earlier

-- the first of the numbers are the bounds, and each further are the earlier ones of the scope with that number
abbrev pub AreBounds : List Names → List Numbers → Type 0
AreBounds scopes levels = IsBounded scopes (slice_index_or levels 0 []) levels

-- the numbers of two lists are the same but the first
abbrev pub SameButFirst : List Numbers → List Numbers → Type 0
SameButFirst old new = (at : ℕ) → 0 < at → slice_index_or new at [] ≡ slice_index_or old at []

-- a name that has a number has the one that others give it, where they give one, and else its own
abbrev pub restored : Option ℕ → Option ℕ → Option ℕ
restored None own = own
restored (Some other) None = None
restored (Some other) (Some own) = Some other

-- each name that has a number in both has that of the others now, and each other name what it had
abbrev pub IsRestored : Numbers → Numbers → Numbers → Type 0
IsRestored others old new = (name : List ℕ) → value_in name new ≡ restored (value_in name others) (value_in name old)

-- outside the innermost scope the names that it declared have their earlier bounds again, where there is a scope around it
abbrev pub AreEarlierAgain : List Numbers → List Numbers → Type 0
AreEarlierAgain old new =
    1 < length old → IsRestored (slice_index_or old (length old - 1) []) (slice_index_or old 0 []) (slice_index_or new 0 [])

-- no bound got lower
abbrev pub Rises : Numbers → Numbers → Type 0
Rises old new = (name : List ℕ) → bound_in name old ≤ bound_in name new

-- a number is new at most for the name in the scope at, and is then the one given
abbrev pub Remembers : List Numbers → ℕ → List ℕ → ℕ → List Numbers → Type 0
Remembers old at name number new =
    (scope : ℕ) (other : List ℕ) (found : ℕ) → value_in other (slice_index_or new scope []) ≡ Some found
    → (value_in other (slice_index_or old scope []) ≡ Some found) ⊎ ((scope ≡ at) × (bytes_eq other name ≡ true) × (found ≡ number))

-- no name has a number in a scope that it had none in, or a lower one
abbrev pub Grow : List Numbers → List Numbers → Type 0
Grow old new =
    (scope : ℕ) (name : List ℕ) (number : ℕ) → value_in name (slice_index_or new scope []) ≡ Some number
    → (before : ℕ) × (value_in name (slice_index_or old scope []) ≡ Some before) × (before ≤ number)

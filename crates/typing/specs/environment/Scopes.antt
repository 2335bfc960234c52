-- Names in scopes (C11 6.2.1), of one name space (C11 6.2.3): for each scope that a place lies in, the innermost first, the
-- names that it declares before that place, each once, with what it stands for.
use Rattle.std.specs.Prelude.{◌≡◌, ℕ, List, [], ◌∷◌, ◌++◌, Option, None, Some}
use Rattle.std.specs.List.{AllByRecursion}
use Rattle.typing.specs.environment.Names.{Entries, value_in, with_value}

abbrev pub Scopes : Type 0 → Type 0
Scopes A = List (Entries A)

-- a name is visible as that: some scope declares it so, and none inside that one declares it (C11 6.2.1p4)
pub record IsVisible {A : Type 0} (name : List ℕ) (value : A) (scopes : Scopes A) : Type 0 where
  pub inner : Scopes A
  pub scope : Entries A
  pub outer : Scopes A
  pub whole : scopes ≡ inner ++ (scope ∷ outer)
  pub declares : value_in name scope ≡ Some value
  pub unhidden : AllByRecursion (λ other. value_in name other ≡ None) inner

-- the first of two answers, or the second where the first is none
abbrev pub first_answer : {A : Type 0} → Option A → Option A → Option A
first_answer None other = other
first_answer (Some answer) other = Some answer

-- what a name stands for: what the innermost scope that declares it says
abbrev pub found : {A : Type 0} → List ℕ → Scopes A → Option A
found name [] = None
found name (innermost ∷ outer) = first_answer (value_in name innermost) (found name outer)

-- what the innermost scope alone says of a name: where it says something, the name is declared again there
abbrev pub found_here : {A : Type 0} → List ℕ → Scopes A → Option A
found_here name [] = None
found_here name (innermost ∷ outer) = value_in name innermost

-- a name is declared in the innermost scope
abbrev pub declared : {A : Type 0} → List ℕ → A → Scopes A → Scopes A
declared name value [] = []
declared name value (innermost ∷ outer) = with_value name value innermost ∷ outer

-- a name is declared in the scope around the innermost one
abbrev pub declared_around : {A : Type 0} → List ℕ → A → Scopes A → Scopes A
declared_around name value [] = []
declared_around name value (innermost ∷ outer) = innermost ∷ declared name value outer

-- names are declared one after the other
abbrev pub all_declared : {A : Type 0} → Entries A → Scopes A → Scopes A
all_declared [] scopes = scopes
all_declared (entry ∷ entries) scopes = all_declared entries (declared entry.0 entry.1 scopes)

-- inside one more scope
abbrev pub entered : {A : Type 0} → Scopes A → Scopes A
entered scopes = [] ∷ scopes

-- outside the innermost scope, whose names end there
abbrev pub left : {A : Type 0} → Scopes A → Scopes A
left [] = []
left (innermost ∷ outer) = outer

-- What is kept beside names in scopes, so that one look-up finds a name: what each name is visible as, and of each name that a
-- scope declares what it was visible as around that scope.
use Rattle.std.specs.Prelude.{◌≡◌, ℕ, List, [], ◌∷◌, map, Option, None, Some}
use Rattle.typing.specs.declared.environment.kept.Kept.{Kept}
use Rattle.typing.specs.environment.Names.{Entries, value_in, with_value, changed}
use Rattle.typing.specs.environment.Scopes.{Scopes, found}

-- the scope of which that is kept
abbrev pub scope_of : {A : Type 0} → Entries (Kept A) → Entries A
scope_of level = map (λ entry. (entry.0, entry.1.meaning)) level

abbrev pub scopes_of : {A : Type 0} → List (Entries (Kept A)) → Scopes A
scopes_of levels = map scope_of levels

-- what a name is visible as: nothing where it has no place, and where nothing stands at its place
abbrev pub seen : {A : Type 0} → Option (Option A) → Option A
seen None = None
seen (Some visible) = visible

-- what is kept of a name in the innermost scope
abbrev pub kept_here : {A : Type 0} → List ℕ → List (Entries (Kept A)) → Option (Kept A)
kept_here name [] = None
kept_here name (innermost ∷ outer) = value_in name innermost

-- what a name is visible as around the innermost scope: what that scope hides, or else what it is visible as inside
abbrev pub around : {A : Type 0} → Option (Kept A) → Option A → Option A
around None inside = inside
around (Some kept) inside = kept.hidden

-- with that kept of a name in the innermost scope
abbrev pub kept_in : {A : Type 0} → List ℕ → Kept A → List (Entries (Kept A)) → List (Entries (Kept A))
kept_in name kept [] = []
kept_in name kept (innermost ∷ outer) = with_value name kept innermost ∷ outer

-- another thing kept of a name that the innermost scope declares
abbrev pub changed_in : {A : Type 0} → List ℕ → Kept A → List (Entries (Kept A)) → List (Entries (Kept A))
changed_in name kept [] = []
changed_in name kept (innermost ∷ outer) = changed name kept innermost ∷ outer

-- what is kept of a name in the scope around the innermost one, and with that kept of it there
abbrev pub kept_around : {A : Type 0} → List ℕ → List (Entries (Kept A)) → Option (Kept A)
kept_around name [] = None
kept_around name (innermost ∷ outer) = kept_here name outer

abbrev pub kept_in_around : {A : Type 0} → List ℕ → Kept A → List (Entries (Kept A)) → List (Entries (Kept A))
kept_in_around name kept [] = []
kept_in_around name kept (innermost ∷ outer) = innermost ∷ kept_in name kept outer

-- each name of a scope is visible as it was around that scope
abbrev pub uncovered : {A : Type 0} → Entries (Kept A) → Entries (Option A) → Entries (Option A)
uncovered [] visible = visible
uncovered (entry ∷ others) visible = changed entry.0 entry.1.hidden (uncovered others visible)

-- what is kept as hidden is what the scopes around say
abbrev pub AreHidden : {A : Type 0} → List (Entries (Kept A)) → Type 0
AreHidden {A} [] = Unit {0}
AreHidden {A} (innermost ∷ outer) =
    ((name : List ℕ) (kept : Kept A) → value_in name innermost ≡ Some kept → kept.hidden ≡ found name (scopes_of outer)) × AreHidden outer

-- what is kept is right
pub record AreVisible {A : Type 0} (visible : Entries (Option A)) (levels : List (Entries (Kept A))) : Type 0 where
  pub sees : (name : List ℕ) → seen (value_in name visible) ≡ found name (scopes_of levels)
  pub hides : AreHidden levels

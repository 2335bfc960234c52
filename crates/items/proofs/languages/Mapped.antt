-- Names with other values: what is found of a name is what was found of it before, with its value changed.
use Rattle.std.proofs.Common.{◌≡◌, ℕ, List, [], ◌∷◌, Option, Some, None, refl, sym, ap, ◌∙◌}
use Rattle.std.specs.Prelude.{Bool, true, false, is_some, option_map, if◌then◌else◌}
use Rattle.std.specs.Str.{bytes_eq}
use Rattle.std.proofs.lemmas.Slice.Eq.{bytes_eq-Decides}
use Rattle.typing.specs.environment.Names.{Entries, value_in, with_value}
use Rattle.typing.specs.environment.Scopes.{Scopes, first_answer, found, found_here, declared, declared_around, left}
use Rattle.items.specs.languages.Mapped.{entries_mapped, scopes_mapped, entries_named}

pub is_some_mapped : {A B : Type 0} (f : A → B) (o : Option A) → is_some (option_map f o) ≡ is_some o
is_some_mapped f None = refl
is_some_mapped f (Some value) = refl

pub mapped_twice : {A B C : Type 0} (f : A → B) (g : B → C) (h : A → C) → ((a : A) → g (f a) ≡ h a) → (o : Option A) → option_map g (option_map f o) ≡ option_map h o
mapped_twice f g h same None = refl
mapped_twice f g h same (Some value) = ap (λ c. Some c) (same value)

module _ {A B : Type 0} (f : A → B) where
  mapped_if : (test : Bool) (value : A) (others : Option A) (mapped : Option B) → mapped ≡ option_map f others
      → (if test then Some (f value) else mapped) ≡ option_map f (if test then Some value else others)
  mapped_if true value others mapped same = refl
  mapped_if false value others mapped same = same

  entries_if : (test : Bool) (entry : List ℕ × A) (value : A) (others changed : Entries A) (mapped : Entries B) → entries_mapped f changed ≡ mapped
      → entries_mapped f (if test then (entry.0, value) ∷ others else entry ∷ changed)
      ≡ (if test then (entry.0, f value) ∷ entries_mapped f others else (entry.0, f entry.1) ∷ mapped)
  entries_if true entry value others changed mapped same = refl
  entries_if false entry value others changed mapped same = ap (λ rest. (entry.0, f entry.1) ∷ rest) same

  first_mapped : (first second : Option A) → first_answer (option_map f first) (option_map f second) ≡ option_map f (first_answer first second)
  first_mapped None second = refl
  first_mapped (Some answer) second = refl

  module _ (name : List ℕ) where
    pub value_mapped : (entries : Entries A) → value_in name (entries_mapped f entries) ≡ option_map f (value_in name entries)
    value_mapped [] = refl
    value_mapped (entry ∷ entries) =
        mapped_if (bytes_eq name entry.0) entry.1 (value_in name entries) (value_in name (entries_mapped f entries)) (value_mapped entries)

    pub with_mapped : (value : A) (entries : Entries A) → entries_mapped f (with_value name value entries) ≡ with_value name (f value) (entries_mapped f entries)
    with_mapped value [] = refl
    with_mapped value (entry ∷ entries) =
        entries_if (bytes_eq name entry.0) entry value entries (with_value name value entries) (with_value name (f value) (entries_mapped f entries))
        (with_mapped value entries)

    pub found_mapped : (scopes : Scopes A) → found name (scopes_mapped f scopes) ≡ option_map f (found name scopes)
    found_mapped [] = refl
    found_mapped (innermost ∷ outer) =
        ap (λ first. first_answer first (found name (scopes_mapped f outer))) (value_mapped innermost)
        ∙ (ap (first_answer (option_map f (value_in name innermost))) (found_mapped outer) ∙ first_mapped (value_in name innermost) (found name outer))

    pub here_mapped : (scopes : Scopes A) → found_here name (scopes_mapped f scopes) ≡ option_map f (found_here name scopes)
    here_mapped [] = refl
    here_mapped (innermost ∷ outer) = value_mapped innermost

    pub declared_mapped : (value : A) (scopes : Scopes A) → scopes_mapped f (declared name value scopes) ≡ declared name (f value) (scopes_mapped f scopes)
    declared_mapped value [] = refl
    declared_mapped value (innermost ∷ outer) = ap (λ first. first ∷ scopes_mapped f outer) (with_mapped value innermost)

    pub around_mapped : (value : A) (scopes : Scopes A)
        → scopes_mapped f (declared_around name value scopes) ≡ declared_around name (f value) (scopes_mapped f scopes)
    around_mapped value [] = refl
    around_mapped value (innermost ∷ outer) = ap (λ rest. entries_mapped f innermost ∷ rest) (declared_mapped value outer)

  pub left_mapped : (scopes : Scopes A) → scopes_mapped f (left scopes) ≡ left (scopes_mapped f scopes)
  left_mapped [] = refl
  left_mapped (innermost ∷ outer) = refl

-- values that depend on names too
module _ {A B : Type 0} (f : List ℕ → A → B) (name : List ℕ) where
  named_if : (test : Bool) (other : List ℕ) (value : A) (others : Option A) (mapped : Option B) → (test ≡ true → name ≡ other) → mapped ≡ option_map (f name) others
      → (if test then Some (f other value) else mapped) ≡ option_map (f name) (if test then Some value else others)
  named_if true other value others mapped same rest = ap (λ (n : List ℕ). Some (f n value)) (sym (same refl))
  named_if false other value others mapped same rest = rest

  pub value_named : (entries : Entries A) → value_in name (entries_named f entries) ≡ option_map (f name) (value_in name entries)
  value_named [] = refl
  value_named (entry ∷ entries) =
      named_if (bytes_eq name entry.0) entry.0 entry.1 (value_in name entries) (value_in name (entries_named f entries)) ((bytes_eq-Decides name entry.0).0) (value_named entries)

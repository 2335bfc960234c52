-- A folded graph, numbered anew, stands for the states of the graph, and names and holds what it did.
use Rattle.std.proofs.Common.{◌≡◌, ℕ, suc, Bool, true, false, List, [], ◌∷◌, map, nat_eq, ℤ, Option, None, Some, refl, sym, ◌∙◌, ap, subst}
use Rattle.std.specs.Prelude.{slice_get, option_map, is_some, IsSome, if◌then◌else◌}
use Rattle.std.specs.Option.{option_and_then}
use Rattle.fold.specs.declared.fold.Fold.{Fold}
use Rattle.graph.specs.declared.value.Target.{Target}
use Rattle.graph.specs.declared.value.Target.TheVariants.{Region, First, Last, Each}
use Rattle.graph.specs.declared.value.Value.{Value}
use Rattle.graph.specs.declared.value.Value.TheVariants.{Const, Number, Any, Address}
use Rattle.graph.specs.declared.parts.Held.{Held}
use Rattle.graph.specs.declared.parts.Named.{Named}
use Rattle.graph.specs.declared.parts.Parts.{Parts}
use Rattle.graph.specs.Closed.{IsClosed}
use Rattle.graph.specs.Laws.{IsRenaming}
use Rattle.graph.specs.Maps.{value_at, storage_of, held_by}
use Rattle.graph.specs.Meaning.{maps_of, StandsFor}
use Rattle.graph.specs.Renaming.{numbered, renamed, renamed_value, object_place, value_place}
use Rattle.graph.specs.Sizes.{value_size}
use Rattle.graph.specs.State.{State}
use Rattle.graph.specs.WellFormed.{IsWellFormed, HasAscendingKeys}
use Rattle.graph.specs.Whole.{IsGraph}
use Rattle.graph.proofs.Closed.{closed_of}
use Rattle.graph.proofs.Found.{Holds-some, found-changed}
use Rattle.graph.proofs.Numbered.{IsRenaming-places, numbered-renamed, numbering_keeps}
use Rattle.graph.proofs.Sent.{value_sent}
use Rattle.materialise.specs.Kept.{size_at, HoldsAsBefore}
use Rattle.materialise.specs.WithOne.{HaveOffsets}
use Rattle.fold.specs.Foldable.{IsFoldable}
use Rattle.fold.specs.Folded.{folded_value, of_first, of_second, folded}
use Rattle.fold.proofs.Case.{IsCase, case_of, folded_is, folded_ascends}
use Rattle.fold.proofs.Ends.{later, apart}
use Rattle.fold.proofs.Means.{now, meets_folded}
use Rattle.fold.proofs.There.{value_kept}

-- it stands for the states
pub folded_means : (parts : Parts) → IsGraph parts → (fold : Fold) → IsFoldable parts fold → HaveOffsets parts.values → (state : State) → StandsFor parts state → StandsFor (numbered (folded fold parts)) state
folded_means parts graph fold foldable offsets state stands =
    (numbering_keeps (folded fold parts) state (folded_ascends parts graph fold foldable.neighbours) foldable.well_formed).1
    (subst (λ (p : Parts). StandsFor p state) (sym same)
    (record {
      given = now parts graph fold case offsets state stands.given stands.meets form;
      meets = meets_folded parts graph fold case offsets state stands.given stands.meets form;
    }))
  where
    case : IsCase parts fold
    case = case_of parts fold foldable.neighbours

    same : folded fold parts ≡ later parts graph fold case
    same = folded_is parts fold case

    form : IsWellFormed (later parts graph fold case)
    form = subst (λ (p : Parts). IsWellFormed p) same foldable.well_formed

-- Sizes.

abbrev size_of : Option Value → ℕ
size_of None = 8
size_of (Some value) = value_size value

either_size : (b : Bool) (key : ℕ) (offset : ℤ) → size_of (if b then Some (Address key offset Last) else None) ≡ 8
either_size true key offset = refl
either_size false key offset = refl

-- what a value becomes has its size
folded_size : (fold : Fold) (old value : Value) → folded_value fold old ≡ Some value → value_size value ≡ value_size old
folded_size fold (Const number size) value is = sym (ap size_of is)
folded_size fold (Number size) value is = sym (ap size_of is)
folded_size fold Any value is = sym (ap size_of is)
folded_size fold (Address object offset target) value is = sym (ap size_of is) ∙ by_first (nat_eq object fold.first)
  where
    of_one : (target : Target) → size_of (of_first fold offset target) ≡ 8
    of_one Region = refl
    of_one First = refl
    of_one Last = refl
    of_one Each = refl

    of_other : (target : Target) → size_of (of_second fold offset target) ≡ 8
    of_other Region = either_size fold.twofold fold.first offset
    of_other First = refl
    of_other Last = either_size fold.twofold fold.first offset
    of_other Each = refl

    by_second : (b : Bool) → size_of (if b then of_second fold offset target else Some (Address object offset target)) ≡ 8
    by_second true = of_other target
    by_second false = refl

    by_first : (b : Bool) → size_of (if b then of_first fold offset target else if nat_eq object fold.second then of_second fold offset target else Some (Address object offset target)) ≡ 8
    by_first true = of_one target
    by_first false = by_second (nat_eq object fold.second)

size_renamed : (objects : ℕ → ℕ) (value : Value) → value_size (renamed_value objects value) ≡ value_size value
size_renamed objects (Const number size) = refl
size_renamed objects (Number size) = refl
size_renamed objects Any = refl
size_renamed objects (Address object offset target) = refl

some_map : {A B : Type 0} (f : A → B) (o : Option A) → is_some (option_map f o) ≡ is_some o
some_map f None = refl
some_map f (Some x) = refl

map_each : {A B C : Type 0} (f : A → B) (g : B → C) (h : A → C) (xs : List A) → ((place : ℕ) (x : A) → slice_get xs place ≡ Some x → g (f x) ≡ h x) → map g (map f xs) ≡ map h xs
map_each f g h [] same = refl
map_each {A} {B} {C} f g h (x ∷ xs) same =
    ap (λ (y : C). y ∷ map g (map f xs)) (same 0 x refl) ∙ ap (λ (ys : List C). h x ∷ ys) (map_each f g h xs (λ place y is. same (suc place) y is))

module _ (parts : Parts) (graph : IsGraph parts) (fold : Fold) (case : IsCase parts fold) (ascending : HasAscendingKeys (later parts graph fold case)) (form : IsWellFormed (later parts graph fold case)) where
  abbrev left : Parts
  left = later parts graph fold case

  abbrev of_objects : ℕ → ℕ
  of_objects = object_place left

  abbrev of_values : ℕ → ℕ
  of_values = value_place left

  abbrev behind : Parts
  behind = renamed of_objects of_values left

  renaming : IsRenaming of_objects of_values left
  renaming = IsRenaming-places left

  closed : IsClosed (maps_of parts)
  closed = closed_of parts graph.well_formed

  closed' : IsClosed (maps_of left)
  closed' = closed_of left form

  -- a value that is held in both has one size
  size_sent : (at : ℕ) → IsSome (value_at parts.values at) → IsSome (value_at left.values at) → size_at behind (of_values at) ≡ size_at parts at
  size_sent at some some' =
      let old = Holds-some (value_at parts.values at) some in
      let new = Holds-some (value_at left.values at) some' in
      let becomes = sym (value_kept parts graph fold case.one case.other case.first (apart parts graph fold case) case.next_value case.prev_value at some ∙ ap (option_and_then (folded_value fold)) old.is) ∙ new.is in
      ap (option_map value_size) (value_sent of_objects of_values left renaming at new.item new.is)
      ∙ ap Some (size_renamed of_objects new.item ∙ folded_size fold old.item new.item becomes)
      ∙ sym (ap (option_map value_size) old.is)

  by_held : (register : ℕ) (found : Option ℕ) → held_by parts.registers register ≡ found → option_and_then (size_at behind) (option_map of_values found) ≡ option_and_then (size_at parts) found
  by_held register None is = refl
  by_held register (Some at) is = size_sent at (closed.registers register at is) (closed'.registers register at is)

  holds : HoldsAsBefore parts behind
  holds = record {
    variables = λ variable.
        ap is_some (found-changed (λ (named : Named). named.variable) (λ named. named.object) (λ (named : Named). named.variable) (λ named. named.object)
        (λ named. record { variable = named.variable; object = of_objects named.object }) of_objects (λ _. refl) (λ _. refl) parts.variables variable)
        ∙ some_map of_objects (storage_of parts.variables variable);
    registers = λ register.
        ap (option_and_then (size_at behind)) (found-changed (λ (held : Held). held.register) (λ held. held.value) (λ (held : Held). held.register) (λ held. held.value)
        (λ held. record { register = held.register; value = of_values held.value }) of_values (λ _. refl) (λ _. refl) parts.registers register)
        ∙ by_held register (held_by parts.registers register) refl;
    ports = map_each of_values (size_at behind) (size_at parts) parts.ports (λ place port is. size_sent port (closed.ports place port is) (closed'.ports place port is));
  }

  pub holds_numbered : HoldsAsBefore parts (numbered left)
  holds_numbered = subst (λ (p : Parts). HoldsAsBefore parts p) (sym (numbered-renamed left ascending)) holds

pub folded_holds : (parts : Parts) → IsGraph parts → (fold : Fold) → IsFoldable parts fold → HoldsAsBefore parts (numbered (folded fold parts))
folded_holds parts graph fold foldable =
    subst (λ (p : Parts). HoldsAsBefore parts (numbered p)) (sym same)
    (holds_numbered parts graph fold case (subst (λ (p : Parts). HasAscendingKeys p) same (folded_ascends parts graph fold foldable.neighbours)) (subst (λ (p : Parts). IsWellFormed p) same foldable.well_formed))
  where
    case : IsCase parts fold
    case = case_of parts fold foldable.neighbours

    same : folded fold parts ≡ later parts graph fold case
    same = folded_is parts fold case

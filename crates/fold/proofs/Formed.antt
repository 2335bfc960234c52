-- What is folded is well formed, or is not.
use Rattle.std.proofs.Common.{◌≡◌, Bool, true, false, Option, None, Some, refl, sym, ◌∙◌, subst}
use Rattle.std.specs.Prelude.{Result, Ok, Err}
use Rattle.graph.specs.Points.{passes_all}
use Rattle.graph.specs.declared.parts.Parts.{Parts}
use Rattle.graph.specs.WellFormed.{IsWellFormed, is_within_limits}
use Rattle.graph.specs.Whole.{IsGraph}
use Rattle.graph.proofs.Ranges.{all_points}
use Rattle.fold.specs.declared.fold.Fold.{Fold}
use Rattle.fold.specs.Foldable.{has_neighbours, IsFoldable}
use Rattle.fold.specs.Folded.{folded}
use Rattle.fold.proofs.Ends.{folded_ends}
use Rattle.std.proofs.lemmas.Bool.{false≢true}

-- what is not refused passes each test
pub well_formed : (parts : Parts) → IsGraph parts → (fold : Fold) → has_neighbours parts fold ≡ true → ((IsWellFormed (folded fold parts) → ⊥) → ⊥) → IsWellFormed (folded fold parts)
well_formed parts graph fold has not_refused = (all_points (folded fold parts)).0 (passes (passes_all (folded fold parts)) refl, folded_ends parts graph fold has)
  where
    passes : (b : Bool) → passes_all (folded fold parts) ≡ b → passes_all (folded fold parts) ≡ true
    passes true is = is
    passes false is = absurd (not_refused (λ form. false≢true (sym is ∙ ((all_points (folded fold parts)).1 form).0)))

pub within : (parts : Parts) → (IsWellFormed parts × (is_within_limits parts ≡ false) → ⊥) → IsWellFormed parts → is_within_limits parts ≡ true
within parts not_large form = by_test (is_within_limits parts) refl
  where
    by_test : (b : Bool) → is_within_limits parts ≡ b → is_within_limits parts ≡ true
    by_test true is = is
    by_test false is = absurd (not_large (form, is))

abbrev IsSomething : {T E : Type 0} → Result (Option T) E → Type 0
IsSomething (Ok None) = ⊥
IsSomething (Ok (Some item)) = Unit {0}
IsSomething (Err error) = ⊥

-- one answer is no other
pub not_none : {T E : Type 0} (result : Result (Option T) E) (found : Option T) (item : T) → result ≡ Ok found → found ≡ Some item → result ≡ Ok None → ⊥
not_none {T} {E} result found item is some none = subst (λ (r : Result (Option T) E). IsSomething r) none (subst (λ (r : Result (Option T) E). IsSomething r) (sym is) (subst (λ (o : Option T). IsSomething {E = E} (Ok o)) (sym some) tt))

pub not_err : {T E : Type 0} (result : Result (Option T) E) (found : Option T) (item : T) (error : E) → result ≡ Ok found → found ≡ Some item → result ≡ Err error → ⊥
not_err {T} {E} result found item error is some fails = subst (λ (r : Result (Option T) E). IsSomething r) fails (subst (λ (r : Result (Option T) E). IsSomething r) (sym is) (subst (λ (o : Option T). IsSomething {E = E} (Ok o)) (sym some) tt))

pub foldable_is : (parts : Parts) → IsGraph parts → (fold : Fold) → has_neighbours parts fold ≡ true → (made : Parts) → made ≡ folded fold parts → ((IsWellFormed made → ⊥) → ⊥) →
    (IsWellFormed made × (is_within_limits made ≡ false) → ⊥) → IsFoldable parts fold
foldable_is parts graph fold has made same not_refused not_large =
    let form = well_formed parts graph fold has (subst (λ (p : Parts). (IsWellFormed p → ⊥) → ⊥) same not_refused) in
    record { neighbours = has; well_formed = form; within_limits = within (folded fold parts) (subst (λ (p : Parts). IsWellFormed p × (is_within_limits p ≡ false) → ⊥) same not_large) form }

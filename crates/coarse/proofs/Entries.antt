-- Entries whose items are changed, and whose keys stay.
use Rattle.std.proofs.Common.{◌≡◌, ℕ, suc, Bool, true, false, ◌&&◌, ◌||◌, List, [], ◌∷◌, map, nat_eq, Some, refl, sym, ◌∙◌, ap, eqb-true}
use Rattle.std.specs.Prelude.{slice_get, option_map}
use Rattle.std.specs.List.{list_all, list_any}
use Rattle.graph.specs.Maps.{found_at}
use Rattle.graph.proofs.Found.{found-here, found-later}
use Rattle.graph.proofs.Tests.{and_left, and_right, and_both}

-- what is found at a key is what was found there, changed as the key says
module _ {Entry Item : Type 0} (key : Entry → ℕ) (item : Entry → Item) (change : Entry → Entry) (become : ℕ → Item → Item)
    (keys : (entry : Entry) → key (change entry) ≡ key entry) (items : (entry : Entry) → item (change entry) ≡ become (key entry) (item entry)) where
  pub found_by_key : (entries : List Entry) (at : ℕ) → found_at key item (map change entries) at ≡ option_map (become at) (found_at key item entries at)
  found_by_key [] at = refl
  found_by_key (first ∷ rest) at = by_cases (nat_eq (key first) at) refl (found_by_key rest at)
    where
      by_cases : (hit : Bool) → nat_eq (key first) at ≡ hit → found_at key item (map change rest) at ≡ option_map (become at) (found_at key item rest at) →
          found_at key item (map change (first ∷ rest)) at ≡ option_map (become at) (found_at key item (first ∷ rest) at)
      by_cases true is in_rest =
          found-here key item (change first) (map change rest) at (ap (λ (k : ℕ). nat_eq k at) (keys first) ∙ is)
          ∙ ap Some (items first ∙ ap (λ (k : ℕ). become k (item first)) (eqb-true (key first) at is)) ∙ sym (ap (option_map (become at)) (found-here key item first rest at is))
      by_cases false is in_rest =
          found-later key item (change first) (map change rest) at (ap (λ (k : ℕ). nat_eq k at) (keys first) ∙ is)
          ∙ in_rest ∙ sym (ap (option_map (become at)) (found-later key item first rest at is))

-- what follows from one test at each item that is there
pub all_there : {X : Type 0} (test other : X → Bool) (xs : List X) → ((place : ℕ) (x : X) → slice_get xs place ≡ Some x → test x ≡ true → other x ≡ true) →
    list_all test xs ≡ true → list_all other xs ≡ true
all_there test other [] implies all = refl
all_there test other (x ∷ xs) implies all =
    and_both (other x) (list_all other xs) (implies 0 x refl (and_left (test x) (list_all test xs) all))
    (all_there test other xs (λ place y is. implies (suc place) y is) (and_right (test x) (list_all test xs) all))

pub all_map : {X Y : Type 0} (test : Y → Bool) (f : X → Y) (xs : List X) → list_all test (map f xs) ≡ list_all (λ x. test (f x)) xs
all_map test f [] = refl
all_map test f (x ∷ xs) = ap (λ (b : Bool). test (f x) && b) (all_map test f xs)

-- functions that agree at the items of a list
pub map_there : {X Y : Type 0} (f g : X → Y) (xs : List X) → ((place : ℕ) (x : X) → slice_get xs place ≡ Some x → f x ≡ g x) → map f xs ≡ map g xs
map_there f g [] same = refl
map_there f g (x ∷ xs) same = ap (λ y. y ∷ map f xs) (same 0 x refl) ∙ ap (λ ys. g x ∷ ys) (map_there f g xs (λ place y is. same (suc place) y is))

pub map_own : {X : Type 0} (f : X → X) (xs : List X) → ((place : ℕ) (x : X) → slice_get xs place ≡ Some x → f x ≡ x) → map f xs ≡ xs
map_own f [] same = refl
map_own f (x ∷ xs) same = ap (λ y. y ∷ map f xs) (same 0 x refl) ∙ ap (λ ys. x ∷ ys) (map_own f xs (λ place y is. same (suc place) y is))

pub any_map : {X Y : Type 0} (test : Y → Bool) (f : X → Y) (xs : List X) → list_any test (map f xs) ≡ list_any (λ x. test (f x)) xs
any_map test f [] = refl
any_map test f (x ∷ xs) = ap (λ (b : Bool). test (f x) || b) (any_map test f xs)

-- where no item passes a test
pub any_none : {X : Type 0} (test : X → Bool) (xs : List X) → ((x : X) → test x ≡ false) → list_any test xs ≡ false
any_none test [] none = refl
any_none test (x ∷ xs) none = ap (λ (b : Bool). b || list_any test xs) (none x) ∙ any_none test xs none

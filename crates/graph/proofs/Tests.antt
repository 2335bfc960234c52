-- Tests of numbers and of lists.
use Rattle.std.proofs.Common.{◌≡◌, Bool, true, false, ◌&&◌, List, [], ◌∷◌, refl}
use Rattle.std.proofs.lemmas.Bool.{false≢true}
use Rattle.std.specs.List.{list_all}

pub and_left : (one other : Bool) → (one && other) ≡ true → one ≡ true
and_left true other both = refl
and_left false other both = both

pub and_right : (one other : Bool) → (one && other) ≡ true → other ≡ true
and_right true other both = both
and_right false other both = absurd (false≢true both)

pub and_both : (one other : Bool) → one ≡ true → other ≡ true → (one && other) ≡ true
and_both true other left right = right
and_both false other left right = left

-- what follows from one test follows at each item
pub list_all-implies : {X : Type 0} (test other : X → Bool) → ((x : X) → test x ≡ true → other x ≡ true) → (xs : List X) → list_all test xs ≡ true → list_all other xs ≡ true
list_all-implies test other implies [] all = refl
list_all-implies test other implies (x ∷ xs) all =
    and_both (other x) (list_all other xs) (implies x (and_left (test x) (list_all test xs) all))
    (list_all-implies test other implies xs (and_right (test x) (list_all test xs) all))

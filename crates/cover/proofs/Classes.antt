-- Classes that are at most others.
use Rattle.std.proofs.Common.{◌≡◌, ℕ, suc, ◌≤◌, true, List, [], ◌∷◌, length, nat_le, refl, ap}
use Rattle.std.specs.List.{AllZip}
use Rattle.planes.proofs.Pairs.{at_most_is}
use Rattle.std.proofs.lemmas.Bool.{false≢true}
use Rattle.planes.specs.Lanes.{are_at_most}
use Rattle.graph.proofs.Tests.{and_right}

pub most_as_long : (low high : List ℕ) → are_at_most low high ≡ true → length low ≡ length high
most_as_long [] [] most = refl
most_as_long [] (class ∷ high) most = absurd (false≢true most)
most_as_long (class ∷ low) [] most = absurd (false≢true most)
most_as_long (class ∷ low) (other ∷ high) most = ap suc (most_as_long low high (and_right (nat_le class other) (are_at_most low high) most))

-- in the words of planes
pub most_of_all : (low high : List ℕ) → AllZip (λ class greater. class ≤ greater) low high → are_at_most low high ≡ true
most_of_all low high all = (at_most_is low high).1 all

pub all_of_most : (low high : List ℕ) → are_at_most low high ≡ true → AllZip (λ class greater. class ≤ greater) low high
all_of_most low high most = (at_most_is low high).0 most

-- What is asked of bytes side by side: tests, each with one answer.
use Rattle.std.specs.Prelude.{ℕ, Bool, true, false, ◌&&◌, nat_eq, nat_le, List, [], ◌∷◌}
use Rattle.std.specs.List.{prefix_len}

-- how many bytes stand before the first of a class above
abbrev pub low_front : ℕ → List ℕ → ℕ
low_front class classes = prefix_len (λ other. nat_le other class) classes

-- how many bytes stand before the first of another class
abbrev pub same_front : ℕ → List ℕ → ℕ
same_front class classes = prefix_len (λ other. nat_eq other class) classes

-- whether no class is above the other at the same byte
abbrev pub are_at_most : List ℕ → List ℕ → Bool
are_at_most [] [] = true
are_at_most [] (other ∷ others) = false
are_at_most (class ∷ classes) [] = false
are_at_most (class ∷ classes) (other ∷ others) = nat_le class other && are_at_most classes others

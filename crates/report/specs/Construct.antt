-- The printed names of the constructs of C that are given up, by their numbers.
use Rattle.std.specs.Prelude.{ℕ, ◌-◌, List, [], ◌∷◌, codes, slice_get, unwrap_or}

-- the names, that of number 1 first
abbrev pub construct_names : List (List ℕ)
construct_names =
    codes "goto" ∷ codes "switch" ∷ codes "union" ∷ codes "floating type" ∷ codes "variable arguments" ∷ codes "inline assembly" ∷ codes "layout attribute"
    ∷ codes "complex type" ∷ codes "thread-local object" ∷ codes "string literal" ∷ codes "call through pointer" ∷ codes "name without definition"
    ∷ codes "struct by value" ∷ codes "size not constant" ∷ codes "pointer cast" ∷ codes "pointer order" ∷ codes "pointer difference"
    ∷ codes "variable length array" ∷ codes "large object" ∷ codes "function pointer" ∷ codes "bit-field" ∷ []

-- the printed name of the construct with this number
abbrev pub construct_name : ℕ → List ℕ
construct_name number = unwrap_or (slice_get construct_names (number - 1)) []

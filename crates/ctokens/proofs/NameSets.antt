-- Names of files in a set of vectors of bytes.
use Rattle.std.specs.Prelude.{◌≡◌, ℕ, ◌+◌, ◌≤◌, Bool, true, false, ◌||◌, not, List, [], ◌∷◌, ◌++◌, map, length, cond, if◌then◌else◌}
use Rattle.std.specs.List.{list_any, position_or_len}
use Rattle.std.specs.Str.{bytes_eq}
use Rattle.std.proofs.Common.{refl, ◌∙◌, ap, arith}
use Rattle.std.proofs.lemmas.List.{map_push, length-map}
use Rattle.std.proofs.lemmas.List.Sums.{prefix_len-le-length}
use Rattle.ctokens.specs.Gathered.{number_of, is_among, with_name}

position-map : {X : Type 0} (test : List ℕ → Bool) (bytes : X → List ℕ) (keys : List X) → position_or_len (λ x. test (bytes x)) keys ≡ position_or_len test (map bytes keys)
position-map test bytes [] = refl
position-map test bytes (key ∷ keys) = ap (λ (n : ℕ). cond (not (test (bytes key))) (1 + n) 0) (position-map test bytes keys)

any-map : {X : Type 0} (test : List ℕ → Bool) (bytes : X → List ℕ) (keys : List X) → list_any (λ x. test (bytes x)) keys ≡ list_any test (map bytes keys)
any-map test bytes [] = refl
any-map test bytes (key ∷ keys) = ap (λ (b : Bool). test (bytes key) || b) (any-map test bytes keys)

module _ {X : Type 0} (bytes : X → List ℕ) (keys : List X) where
  pub set_number : (copy : X) (name : List ℕ) → bytes copy ≡ name → (file : ℕ) → file ≡ position_or_len (λ x. bytes_eq (bytes copy) (bytes x)) keys → file ≡ number_of name (map bytes keys)
  set_number copy name same file is =
      is ∙ (position-map (bytes_eq (bytes copy)) bytes keys ∙ ap (λ (n : List ℕ). number_of n (map bytes keys)) same)

  pub set_inside : (copy : X) (file : ℕ) → file ≡ position_or_len (λ x. bytes_eq (bytes copy) (bytes x)) keys → file ≤ length (map bytes keys)
  set_inside copy file is = omega (arith, is, prefix_len-le-length (λ x. not (bytes_eq (bytes copy) (bytes x))) keys, length-map keys bytes)

  pub set_is_new : (copy : X) (name : List ℕ) → bytes copy ≡ name → (is_new : Bool) → is_new ≡ not (list_any (λ x. bytes_eq (bytes copy) (bytes x)) keys) → is_new ≡ not (is_among name (map bytes keys))
  set_is_new copy name same is_new is =
      is ∙ ap not (any-map (bytes_eq (bytes copy)) bytes keys ∙ ap (λ (n : List ℕ). is_among n (map bytes keys)) same)

  pub set_names : (more : List X) (copy : X) (name : List ℕ) → bytes copy ≡ name
      → more ≡ (if list_any (λ x. bytes_eq (bytes copy) (bytes x)) keys then keys else keys ++ copy ∷ []) → map bytes more ≡ with_name name (map bytes keys)
  set_names more copy name same is =
      ap (map bytes) is ∙ (step (list_any (λ x. bytes_eq (bytes copy) (bytes x)) keys)
      ∙ (ap (λ (b : Bool). if b then map bytes keys else map bytes keys ++ bytes copy ∷ []) (any-map (bytes_eq (bytes copy)) bytes keys)
      ∙ ap (λ (n : List ℕ). with_name n (map bytes keys)) same))
    where
      step : (test : Bool) → map bytes (if test then keys else keys ++ copy ∷ []) ≡ (if test then map bytes keys else map bytes keys ++ bytes copy ∷ [])
      step true = refl
      step false = map_push bytes keys copy

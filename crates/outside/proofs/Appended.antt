use Rattle.std.proofs.Common.{◌≡◌, ℕ, ◌+◌, ◌-◌, List, [], ◌++◌, Option, None, Some, take, drop, length, refl, ap, append_assoc, ◌∙◌, sym}
use Rattle.std.proofs.lemmas.List.{append-nil, take_rest}
use Rattle.std.proofs.Math.Seq.{take-add}
use Rattle.outside.specs.Sink.{appended}

-- nothing behind what was written is what was written
pub appended_nothing : (before : Option (List ℕ)) → appended before [] ≡ before
appended_nothing None = refl
appended_nothing (Some bytes) = ap Some (append-nil bytes)

-- a text behind a text
pub appended_twice : (before : Option (List ℕ)) (xs ys : List ℕ) → appended (appended before xs) ys ≡ appended before (xs ++ ys)
appended_twice None xs ys = refl
appended_twice (Some bytes) xs ys = ap Some (append_assoc bytes xs ys)

-- `count` bytes of the rest of a text, behind its first `at` bytes, are its first `at + count` bytes
pub written_on : (before : Option (List ℕ)) (text : List ℕ) (at count : ℕ) → appended (appended before (take at text)) (take count (take (length text - at) (drop at text))) ≡ appended before (take (at + count) text)
written_on before text at count =
    rw take_rest (appended_twice before (take at text) (take count (drop at text)) ∙ ap (appended before) (sym (take-add at count text)))

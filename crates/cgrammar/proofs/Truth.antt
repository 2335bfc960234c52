-- Truth values, and what holds of the words of a list.
use Rattle.std.proofs.Common.{◌≡◌, ℕ, Bool, true, false, ◌&&◌, ◌||◌, not, refl, ap, sym, ◌∙◌, List, [], ◌∷◌, ◌⊎◌, inl, inr}
use Rattle.std.specs.List.{list_any, list_all}
use Rattle.std.specs.Str.{bytes_eq}
use Rattle.std.proofs.lemmas.Slice.Eq.{bytes_eq-Decides}

pub and-left : (a b : Bool) → (a && b) ≡ true → a ≡ true
and-left true b is = refl
and-left false b is = is

pub and-right : (a b : Bool) → (a && b) ≡ true → b ≡ true
and-right true b is = is
and-right false b is = cc is

pub or-right : (a : Bool) {b : Bool} → b ≡ true → (a || b) ≡ true
or-right true is = refl
or-right false is = is

pub or-left : {a : Bool} (b : Bool) → a ≡ true → (a || b) ≡ true
or-left b is = ap (λ (a : Bool). a || b) is

pub and-both : {a b : Bool} → a ≡ true → b ≡ true → (a && b) ≡ true
and-both {a} {b} p q = ap (λ (x : Bool). x && b) p ∙ q

pub or-cases : (a b : Bool) → (a || b) ≡ true → (a ≡ true) ⊎ (b ≡ true)
or-cases true b is = inl refl
or-cases false b is = inr is

pub and-false : (a b : Bool) → a ≡ false → (a && b) ≡ false
and-false a b is = ap (λ (x : Bool). x && b) is

pub or-false-left : (a b : Bool) → (a || b) ≡ false → a ≡ false
or-false-left true b is = is
or-false-left false b is = refl

pub or-false-right : (a b : Bool) → (a || b) ≡ false → b ≡ false
or-false-right true b is = cc is
or-false-right false b is = is

pub not-true : (b : Bool) → not b ≡ true → b ≡ false
not-true true is = sym is
not-true false is = refl

pub clash : (b : Bool) → b ≡ true → b ≡ false → ⊥
clash b yes-it no-it = let wrong : true ≡ false = sym yes-it ∙ no-it in cc wrong

pub false-of : (b : Bool) → (b ≡ true → ⊥) → b ≡ false
false-of true no-it = absurd (no-it refl)
false-of false no-it = refl

-- what holds of each word of a list holds of one among them
pub of-any : (test : List ℕ → Bool) (words : List (List ℕ)) (bytes : List ℕ) → list_all test words ≡ true → list_any (bytes_eq bytes) words ≡ true → test bytes ≡ true
of-any test [] bytes all any = cc any
of-any test (word ∷ words) bytes all any = step (bytes_eq bytes word) (of-any test words bytes (and-right (test word) (list_all test words) all)) refl any
  where
    step : (same : Bool) → (list_any (bytes_eq bytes) words ≡ true → test bytes ≡ true) → bytes_eq bytes word ≡ same → (same || list_any (bytes_eq bytes) words) ≡ true → test bytes ≡ true
    step true further is rest = ap test ((bytes_eq-Decides bytes word).0 is) ∙ and-left (test word) (list_all test words) all
    step false further is rest = further rest

-- Suffixes as lists, and as they are found.
use Rattle.std.proofs.Common.{◌≡◌, ℕ, Bool, true, false, not, List, [], ◌∷◌, refl, subst, Option, Some, None}
use Rattle.std.specs.Prelude.{if◌then◌else◌}
use Rattle.std.specs.List.{Contains, list_any, AllByRecursion}
use Rattle.std.specs.Str.{bytes_eq}
use Rattle.std.proofs.lemmas.Slice.Eq.{bytes_eq-Decides}
use Rattle.std.proofs.lemmas.List.Elements.{All-contains, All-from_recursion}
use Rattle.std.proofs.lemmas.Map.Views.{Contains-from_any}
use Rattle.typing.specs.declared.constants.suffix.Suffix.{Suffix}
use Rattle.typing.specs.declared.constants.suffix.Suffix.TheVariants.{Empty, U, L, Ul, Ll, Ull}
use Rattle.typing.specs.constants.Integers.{spellings}
use Rattle.typing.specs.constants.Deciding.{suffix_of, is_before_suffix}

-- what holds of each text of a list holds of one among them
pub of_one : (P : List ℕ → Type 0) (texts : List (List ℕ)) (bytes : List ℕ) → AllByRecursion P texts → Contains texts bytes → P bytes
of_one P texts bytes all one = All-contains P texts bytes (All-from_recursion P texts all) one

pub suffix-complete : (suffix : Suffix) (ending : List ℕ) → Contains (spellings suffix) ending → suffix_of ending ≡ Some suffix
suffix-complete Empty ending one = of_one (λ bytes. suffix_of bytes ≡ Some Empty) (spellings Empty) ending (refl, tt) one
suffix-complete U ending one = of_one (λ bytes. suffix_of bytes ≡ Some U) (spellings U) ending (refl, (refl, tt)) one
suffix-complete L ending one = of_one (λ bytes. suffix_of bytes ≡ Some L) (spellings L) ending (refl, (refl, tt)) one
suffix-complete Ul ending one = of_one (λ bytes. suffix_of bytes ≡ Some Ul) (spellings Ul) ending (refl, (refl, (refl, (refl, (refl, (refl, (refl, (refl, tt)))))))) one
suffix-complete Ll ending one = of_one (λ bytes. suffix_of bytes ≡ Some Ll) (spellings Ll) ending (refl, (refl, tt)) one
suffix-complete Ull ending one = of_one (λ bytes. suffix_of bytes ≡ Some Ull) (spellings Ull) ending (refl, (refl, (refl, (refl, (refl, (refl, (refl, (refl, tt)))))))) one

among : (suffix : Suffix) (ending : List ℕ) → list_any (bytes_eq ending) (spellings suffix) ≡ true → Contains (spellings suffix) ending
among suffix ending is = Contains-from_any (λ x y same. (bytes_eq-Decides x y).0 same) ending (spellings suffix) is

-- what one test of a chain finds, or the rest of the chain
chosen : (ending : List ℕ) (suffix this : Suffix) (others : Option Suffix) → (others ≡ Some suffix → Contains (spellings suffix) ending)
    → (if list_any (bytes_eq ending) (spellings this) then Some this else others) ≡ Some suffix → Contains (spellings suffix) ending
chosen ending suffix this others further is = step (list_any (bytes_eq ending) (spellings this)) refl is
  where
    step : (test : Bool) → list_any (bytes_eq ending) (spellings this) ≡ test → (if test then Some this else others) ≡ Some suffix → Contains (spellings suffix) ending
    step true e i = let same : this ≡ suffix = cc i in subst (λ (found : Suffix). Contains (spellings found) ending) same (among this ending e)
    step false e i = further i

pub suffix-sound : (suffix : Suffix) (ending : List ℕ) → suffix_of ending ≡ Some suffix → Contains (spellings suffix) ending
suffix-sound suffix ending is =
    chosen ending suffix Empty _ (chosen ending suffix U _ (chosen ending suffix L _ (chosen ending suffix Ul _ (chosen ending suffix Ll _
    (chosen ending suffix Ull None (λ none. absurd (cc none))))))) is

-- a row begins with no byte that stands before a suffix
unfoldable pub ends-digits : List ℕ → Bool
ends-digits [] = true
ends-digits (byte ∷ others) = not (is_before_suffix byte)

pub suffix-ends : (suffix : Suffix) (ending : List ℕ) → Contains (spellings suffix) ending → ends-digits ending ≡ true
unfolding ends-digits
suffix-ends Empty ending one = of_one (λ bytes. ends-digits bytes ≡ true) (spellings Empty) ending (refl, tt) one
suffix-ends U ending one = of_one (λ bytes. ends-digits bytes ≡ true) (spellings U) ending (refl, (refl, tt)) one
suffix-ends L ending one = of_one (λ bytes. ends-digits bytes ≡ true) (spellings L) ending (refl, (refl, tt)) one
suffix-ends Ul ending one = of_one (λ bytes. ends-digits bytes ≡ true) (spellings Ul) ending (refl, (refl, (refl, (refl, (refl, (refl, (refl, (refl, tt)))))))) one
suffix-ends Ll ending one = of_one (λ bytes. ends-digits bytes ≡ true) (spellings Ll) ending (refl, (refl, tt)) one
suffix-ends Ull ending one = of_one (λ bytes. ends-digits bytes ≡ true) (spellings Ull) ending (refl, (refl, (refl, (refl, (refl, (refl, (refl, (refl, tt)))))))) one

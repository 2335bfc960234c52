-- How integer constants are spelled (C11 6.4.4.1p1-4).
use Rattle.std.specs.Prelude.{◌≡◌, ℕ, Bool, true, not, List, [], ◌∷◌, ◌++◌, nat_eq, IsTrue, codes}
use Rattle.std.specs.List.{Contains}
use Rattle.std.specs.Str.Parse.{IsNumeral, digits_value}
use Rattle.typing.specs.declared.constants.base.Base.{Base}
use Rattle.typing.specs.declared.constants.base.Base.TheVariants.{Decimal, Octal, Hexadecimal}
use Rattle.typing.specs.declared.constants.suffix.Suffix.{Suffix}
use Rattle.typing.specs.declared.constants.suffix.Suffix.TheVariants.{Empty, U, L, Ul, Ll, Ull}

abbrev pub radix : Base → ℕ
radix Decimal = 10
radix Octal = 8
radix Hexadecimal = 16

-- what stands before the digits: the `0` of an octal constant is a digit of it
abbrev pub prefixes : Base → List (List ℕ)
prefixes Decimal = [] ∷ []
prefixes Octal = [] ∷ []
prefixes Hexadecimal = codes "0x" ∷ codes "0X" ∷ []

-- with which digit the digits may begin: a decimal constant does not begin with `0` (48), an octal one does
abbrev pub begins : Base → ℕ → Bool
begins Decimal first = not (nat_eq first 48)
begins Octal first = nat_eq first 48
begins Hexadecimal first = true

abbrev pub Begin : Base → List ℕ → Type 0
Begin base [] = Unit {0}
Begin base (first ∷ others) = IsTrue (begins base first)

-- `u` and one of `l` and `ll`, in either order and in either case; the two letters of `ll` have one case
abbrev pub spellings : Suffix → List (List ℕ)
spellings Empty = [] ∷ []
spellings U = codes "u" ∷ codes "U" ∷ []
spellings L = codes "l" ∷ codes "L" ∷ []
spellings Ul =
    codes "ul" ∷ codes "uL" ∷ codes "Ul" ∷ codes "UL" ∷ codes "lu" ∷ codes "lU" ∷ codes "Lu" ∷ codes "LU" ∷ []
spellings Ll = codes "ll" ∷ codes "LL" ∷ []
spellings Ull =
    codes "ull" ∷ codes "uLL" ∷ codes "Ull" ∷ codes "ULL" ∷ codes "llu" ∷ codes "llU" ∷ codes "LLu" ∷ codes "LLU" ∷ []

-- an integer constant of a base, with a suffix and of a value: its digits count from the last one on, and `a` to `f`
-- are ten to fifteen, in either case
pub record IsInteger (spelling : List ℕ) (base : Base) (suffix : Suffix) (number : ℕ) : Type 0 where
  pub front : List ℕ
  pub digits : List ℕ
  pub ending : List ℕ
  pub whole : spelling ≡ front ++ (digits ++ ending)
  pub prefixed : Contains (prefixes base) front
  pub digital : IsNumeral (radix base) digits
  pub begun : Begin base digits
  pub suffixed : Contains (spellings suffix) ending
  pub value : number ≡ digits_value (radix base) digits

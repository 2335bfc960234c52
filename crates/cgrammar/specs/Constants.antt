-- Constants: integer constants (C11 6.4.4.1) and constants of one character (C11 6.4.4.4).
use Rattle.std.specs.Prelude.{◌≡◌, ℕ, Bool, false, ◌&&◌, ◌||◌, not, if◌then◌else◌, IsTrue, List, [], ◌∷◌, ◌++◌, codes, nat_eq}
use Rattle.std.specs.List.{list_all, list_any}
use Rattle.std.specs.Str.{bytes_eq}
use Rattle.cbase.specs.Bytes.{is_digit}
use Rattle.ctokens.specs.Bytes.{is_octal_digit, is_hexadecimal_digit}
use Rattle.ctokens.specs.Bytes.{is_empty}
use Rattle.ctokens.specs.declared.token.TokenKind.{TokenKind}
use Rattle.ctokens.specs.declared.token.TokenKind.TheVariants.{Number, Letter}
use Rattle.cgrammar.specs.Terminals.{Terminal}

-- behind a `0`: `x` or `X`, and hexadecimal digits, at least one
abbrev pub is_hexadecimal : List ℕ → Bool
is_hexadecimal [] = false
is_hexadecimal (mark ∷ digits) =
    (nat_eq mark 120 || nat_eq mark 88) && (not (is_empty digits) && list_all is_hexadecimal_digit digits)

-- a constant without its suffix: an octal and a hexadecimal one begin with `0`, a decimal one does not
abbrev pub is_unsuffixed : List ℕ → Bool
is_unsuffixed [] = false
is_unsuffixed (first ∷ others) =
    if nat_eq first 48
    then list_all is_octal_digit others || is_hexadecimal others
    else is_digit first && list_all is_digit others

-- `u` and one of `l` and `ll`, each at most once, in either order and in either case; the two letters of `ll` have one
-- case
abbrev pub suffixes : List (List ℕ)
suffixes =
    codes "" ∷ codes "u" ∷ codes "U" ∷ codes "l" ∷ codes "L" ∷ codes "ll" ∷ codes "LL"
    ∷ codes "ul" ∷ codes "uL" ∷ codes "Ul" ∷ codes "UL" ∷ codes "ull" ∷ codes "uLL" ∷ codes "Ull" ∷ codes "ULL"
    ∷ codes "lu" ∷ codes "lU" ∷ codes "Lu" ∷ codes "LU" ∷ codes "llu" ∷ codes "llU" ∷ codes "LLu" ∷ codes "LLU" ∷ []

-- an integer constant
pub record IsInteger (bytes : List ℕ) : Type 0 where
  pub digits : List ℕ
  pub suffix : List ℕ
  pub whole : bytes ≡ digits ++ suffix
  pub counts : IsTrue (is_unsuffixed digits)
  pub ends : IsTrue (list_any (bytes_eq suffix) suffixes)

-- bytes of a number that are an integer constant, or of a constant of one character
abbrev pub IsOfKind : TokenKind → List ℕ → Type 0
IsOfKind Number bytes = IsInteger bytes
IsOfKind Letter bytes = Unit {0}
IsOfKind _ bytes = ⊥

-- a constant
abbrev pub IsConstant : Terminal → Type 0
IsConstant token = IsOfKind token.kind token.bytes

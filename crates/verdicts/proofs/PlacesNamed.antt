-- The place of a token of a text has a name for its file.
use Rattle.std.proofs.Common.{◌≡◌, ℕ, ◌<◌, inl, inr, Option, None, Some, slice_get, length, unwrap_or, option_map, refl, subst}
use Rattle.std.proofs.lemmas.Option.{slice_get_cases, get_or_from_slice_get}
use Rattle.cgrammar.specs.Terminals.{no_place}
use Rattle.ctokens.specs.TokenList.{HasNamedFiles}
use Rattle.ctokens.specs.declared.token.Token.{Token as Lexeme}
use Rattle.ctokens.specs.declared.token.Tokens.{Tokens}
use Rattle.ccheck.specs.Refusals.{place_at}

-- a token of a text has a name for its file, and so has the place of none
pub token_named : (t : Tokens) (number : ℕ) (token : Lexeme) → HasNamedFiles t → slice_get t.list number ≡ Some token → token.place.file < length t.names
token_named t number token (some, all) is =
    elim (slice_get_cases t.list number).1 [
      | inl (other, below, same, there) ↦
          subst (λ (tok : Lexeme). tok.place.file < length t.names) (get_or_from_slice_get t.list number token token is) (all number token below)
      | inr (past, none) ↦ absurd cc
    ]

found_named : (t : Tokens) (found : Option Lexeme) (number : ℕ) → HasNamedFiles t → slice_get t.list number ≡ found
    → (unwrap_or (option_map (λ (token : Lexeme). token.place) found) no_place).file < length t.names
found_named t None number (some, all) is = some
found_named t (Some token) number named is = token_named t number token named is

pub place_named : (t : Tokens) (number : ℕ) → HasNamedFiles t → (place_at t number).file < length t.names
place_named t number named = found_named t (slice_get t.list number) number named refl

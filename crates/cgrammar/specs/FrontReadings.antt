-- What stands at the front of a row, where no expression is wanted to tell.
use Rattle.std.specs.Prelude.{◌≡◌, Bool, false, ◌&&◌, not, List, [], ◌∷◌, codes, take}
use Rattle.cgrammar.specs.Firsts.{is_among}
use Rattle.cgrammar.specs.Scope.{Names}
use Rattle.cgrammar.specs.TypeWords.{basic_words}
use Rattle.cgrammar.specs.Terminals.{Terminal, is_mark, IsMark, is_name, IsName, is_typedef, IsNoType}

-- a label with its `:` (C11 6.8.1)
abbrev pub BeginsWithLabel : List Names → List Terminal → Type 0
BeginsWithLabel scopes row =
    (label colon : Terminal) × (take 2 row ≡ label ∷ (colon ∷ [])) × IsName label × IsNoType scopes (label ∷ []) × IsMark (codes ":") colon

-- whether the row begins with a label and its `:`
abbrev pub begins_with_label : List Names → List Terminal → Bool
begins_with_label scopes [] = false
begins_with_label scopes (label ∷ []) = false
begins_with_label scopes (label ∷ (colon ∷ others)) = is_name label && (not (is_typedef scopes label) && is_mark (codes ":") colon)

-- the token is one of the keywords that basic types are spelled by
abbrev pub is_basic_word : Terminal → Bool
is_basic_word token = is_among basic_words token

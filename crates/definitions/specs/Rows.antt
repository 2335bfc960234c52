-- The items of a text as rows of tokens with their roles, and what a row has at bracket depth 0.
use Rattle.std.specs.Prelude.{ℕ, ◌+◌, ◌-◌, ◌<◌, ◌≤◌, Bool, true, false, ◌&&◌, ◌||◌, if◌then◌else◌, List, [], ◌∷◌, ◌++◌, map, length, nat_eq, slice_range}
use Rattle.ctokens.specs.declared.item_span.ItemSpan.{ItemSpan}
use Rattle.ctokens.specs.declared.token.Token.{Token}
use Rattle.ctokens.specs.declared.token.Tokens.{Tokens}
use Rattle.ctokens.specs.Passed.{passed_tokens, unpassed}
use Rattle.ctokens.specs.TokenSymbols.{word_of}
use Rattle.definitions.specs.Roles.{is_opening, is_closing, is_left_brace, is_right_brace, is_right_parenthesis, token_role}
use Rattle.definitions.specs.declared.form.StorageWord.{StorageWord}
use Rattle.definitions.specs.declared.form.StorageWord.TheVariants as storage
use Rattle.definitions.specs.declared.role.Role.{Role}
use Rattle.definitions.specs.declared.role.Role.TheVariants.{Typedef, Extern, Other}
use Rattle.definitions.specs.declared.sign.Sign.{Sign}

-- the token has bytes, and they lie in the text
abbrev pub HasBytes : List ℕ → Token → Type 0
HasBytes text token = (token.from < token.to) × (token.to ≤ length text)

-- the same of a token with its role
abbrev pub HasSignBytes : List ℕ → Sign → Type 0
HasSignBytes text sign = (sign.from < sign.to) × (sign.to ≤ length text)

-- the token with its role, without its place
abbrev pub sign_of : List ℕ → Token → Sign
sign_of text token = record { role = token_role text token; kind = token.kind; from = token.from; to = token.to }

-- the word of such a token
abbrev pub sign_word : List ℕ → Sign → List ℕ
sign_word text sign = word_of sign.kind (slice_range text sign.from sign.to)

-- the tokens of an item that are not passed over, with their roles
abbrev pub item_row : Tokens → ItemSpan → List Sign
item_row t span = map (sign_of t.text) (unpassed (slice_range (passed_tokens t) span.first span.after) (slice_range t.list span.first span.after))

-- how many brackets, of the three kinds together, are open after a token where so many were open before it; a
-- closing bracket where none is open leaves none
abbrev pub depth_after : ℕ → Role → ℕ
depth_after depth role = if is_opening role then depth + 1 else (if is_closing role then depth - 1 else depth)

-- the token where no bracket is open before it or behind it, and else nothing
abbrev pub outermost_sign : ℕ → Sign → List Sign
outermost_sign depth sign = if nat_eq depth 0 || nat_eq (depth_after depth sign.role) 0 then sign ∷ [] else []

-- a row without what stands inside of brackets: the tokens at depth 0, and the brackets that return there
abbrev pub outermost : ℕ → List Sign → List Sign
outermost depth [] = []
outermost depth (sign ∷ rest) = outermost_sign depth sign ++ outermost (depth_after depth sign.role) rest

-- a `}` that returns to depth 0, where the bracket that it closes began a body
abbrev pub ends_body : ℕ → Bool → Role → Bool
ends_body depth body role = nat_eq depth 1 && (body && is_right_brace role)

-- whether the bracket that opened last at depth 0 is a `{` directly after a `)`
abbrev pub body_after : ℕ → Role → Bool → Role → Bool
body_after depth before body role = if nat_eq depth 0 && is_opening role then is_left_brace role && is_right_parenthesis before else body

-- whether an item ends with a body; `last` says whether a body ends at the token before the row
abbrev pub has_body : ℕ → Role → Bool → Bool → List Sign → Bool
has_body depth before body last [] = last
has_body depth before body last (sign ∷ rest) =
    has_body (depth_after depth sign.role) sign.role (body_after depth before body sign.role) (ends_body depth body sign.role) rest

-- whether an item with this row ends with a body
abbrev pub ends_with_body : List Sign → Bool
ends_with_body row = has_body 0 Other false false row

-- the token is that storage word (C11 6.7.1)
abbrev pub is_storage : StorageWord → Role → Bool
is_storage storage.Typedef Typedef = true
is_storage storage.Extern Extern = true
is_storage word role = false

-- whether the storage word stands at depth 0 in a row, before which so many brackets are open
abbrev pub has_storage : StorageWord → ℕ → List Sign → Bool
has_storage word depth [] = false
has_storage word depth (sign ∷ rest) = (nat_eq depth 0 && is_storage word sign.role) || has_storage word (depth_after depth sign.role) rest

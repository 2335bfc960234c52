-- The tokens of a text, and the first place where it has none.
use Rattle.std.specs.Prelude.{◌≡◌, ◌≢◌, ℕ, ◌≤◌, ◌<◌, Bool, true, List, [], length, take, drop, ◌-◌, slice_index_or}
use Rattle.std.specs.List.{All}
use Rattle.ctokens.specs.Spelled.{Spells}
use Rattle.ctokens.specs.Pieces.{Splits, BeginsNot}
use Rattle.ctokens.specs.Gathered.{all_gathered, at_start, place_of}
use Rattle.ctokens.specs.declared.token.Token.{Token}
use Rattle.ctokens.specs.declared.token.Tokens.{Tokens}
use Rattle.ctokens.specs.declared.token.Lexical.{Lexical}
use Rattle.ctokens.specs.declared.piece.Piece.{Piece}

-- the tokens of the text, the names of its files and its `#pragma pack` lines: the text is pieces, one behind
-- the other up to its end, and these are what they give
pub record AreTokens (file text : List ℕ) (tokens : Tokens) : Type 0 where
  pub pieces : List Piece
  pub last : Bool
  pub splits : Splits true pieces text last []
  pub whole : tokens.text ≡ text
  pub listed : tokens.list ≡ (all_gathered pieces text (at_start file)).list
  pub named : tokens.names ≡ (all_gathered pieces text (at_start file)).names
  pub packed : tokens.packs ≡ (all_gathered pieces text (at_start file)).packs

-- the first place of the text at which nothing begins: the text is pieces up to there, and there none begins
pub record IsLexical (file text : List ℕ) (lexical : Lexical) : Type 0 where
  pub pieces : List Piece
  pub last : Bool
  pub rest : List ℕ
  pub splits : Splits true pieces text last rest
  pub more : rest ≢ []
  pub none : BeginsNot last rest
  pub placed : lexical.place ≡ place_of (all_gathered pieces text (at_start file))
  pub named : lexical.names ≡ (all_gathered pieces text (at_start file)).names

-- what the parts of a token say of the text: some bytes of it, which spell a token of the kind
pub record IsOfText (text : List ℕ) (token : Token) : Type 0 where
  pub some : token.from < token.to
  pub inside : token.to ≤ length text
  pub spelled : Spells token.kind (take (token.to - token.from) (drop token.from text))

-- each token's place has its number
abbrev pub AreNumbered : List Token → Type 0
AreNumbered tokens = (number : ℕ) (other : Token) → number < length tokens → (slice_index_or tokens number other).place.at ≡ number

-- each token is some bytes of the text, and its place has its number
pub record AreOfText (text : List ℕ) (tokens : List Token) : Type 0 where
  pub parts : All (IsOfText text) tokens
  pub few : length tokens ≤ length text
  pub numbered : AreNumbered tokens

-- there is a name, and each token's file has one
abbrev pub HasNamedFiles : Tokens → Type 0
HasNamedFiles tokens = (0 < length tokens.names) × All (λ (token : Token). token.place.file < length tokens.names) tokens.list

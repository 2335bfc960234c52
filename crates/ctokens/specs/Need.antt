-- The items that main needs: the least set with the items that define main in which each item also stands that
-- offers a name which an item of the set contains.
use Rattle.std.specs.Prelude.{◌≡◌, ℕ, ◌<◌, Bool, true, false, ◌&&◌, not, if◌then◌else◌, List, [], ◌∷◌, map, length, Option, MatchOption}
use Rattle.std.specs.List.{Contains, list_any, list_all, slice_index_or}
use Rattle.std.specs.List.Sorted.{IsStrictlyIncreasing}
use Rattle.ctokens.specs.declared.symbol.Symbol.{Symbol}
use Rattle.ctokens.specs.declared.symbol.Symbol.TheVariants.{Other}
use Rattle.ctokens.specs.declared.symbol.Lexeme.{Lexeme}
use Rattle.ctokens.specs.Symbol.{is_word, is_main, is_built_in, is_selector}
use Rattle.ctokens.specs.Offered.{declared, offered}
use Rattle.ctokens.specs.Bodies.{ends_with_body}

module _ {N : Type 0} where
  -- whether one of the words is `main`
  abbrev pub offers_main : List (Lexeme N) → Bool
  offers_main words = list_any (λ (word : Lexeme N). is_main word.symbol) words

  -- whether each of the words is the name of a built-in function
  abbrev pub offers_built_in : List (Lexeme N) → Bool
  offers_built_in words = list_all (λ (word : Lexeme N). is_built_in word.symbol) words

  -- an item that ends with a body and offers `main` by way 3
  unfoldable pub defines_main : List (Lexeme N) → Bool
  defines_main row = ends_with_body row && offers_main (declared 0 false row)

  -- an item without a body that offers only names of built-in functions
  abbrev pub declares_built_in : List (Lexeme N) → Bool
  declares_built_in row = not (ends_with_body row) && offers_built_in (offered row)

  -- the names by which an item is needed: those that it offers; none where it declares built-in functions alone,
  -- which is passed over
  unfoldable pub needed_by : List (Lexeme N) → List N
  needed_by row = if declares_built_in row then [] else map (λ (word : Lexeme N). word.word) (offered row)

  -- the names that an item contains: its words that do not stand directly after `.` or `->`
  abbrev pub contained : Symbol → List (Lexeme N) → List N
  contained before [] = []
  contained before (token ∷ rest) =
      if is_word token.symbol && not (is_selector before)
      then token.word ∷ contained token.symbol rest
      else contained token.symbol rest

  -- the item of that number; past the last one there is none, and no token
  abbrev pub item_at : List (List (Lexeme N)) → ℕ → List (Lexeme N)
  item_at rows number = slice_index_or rows number []

  -- The least set of numbers of items in which each stands that defines main, and each that offers a name which an
  -- item of the set contains.
  pub data Needed (rows : List (List (Lexeme N))) : ℕ → Type 0 where
    Defining : (number : ℕ) → number < length rows → defines_main (item_at rows number) ≡ true → Needed rows number
    Offering : (number user : ℕ) (name : N) → number < length rows → Needed rows user → Contains (contained Other (item_at rows user)) name
        → Contains (needed_by (item_at rows number)) name → Needed rows number

  -- the numbers are those of the needed items, ascending
  pub record AreNeeded (rows : List (List (Lexeme N))) (numbers : List ℕ) : Type 0 where
    pub ascending : IsStrictlyIncreasing numbers
    pub all : (number : ℕ) → Needed rows number → Contains numbers number
    pub only : (number : ℕ) → Contains numbers number → Needed rows number

  -- `None` exactly where no item defines main, and else the numbers of the needed items
  abbrev pub IsNeed : List (List (Lexeme N)) → Option (List ℕ) → Type 0
  IsNeed rows answer =
      MatchOption answer (list_any defines_main rows ≡ false) (λ numbers. (list_any defines_main rows ≡ true) × AreNeeded rows numbers)

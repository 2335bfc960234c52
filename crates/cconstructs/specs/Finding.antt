-- The first construct of a row as it is found, token by token.
use Rattle.std.specs.Prelude.{ℕ, zero, suc, ◌+◌, ◌-◌, nat_eq, nat_lt, Bool, false, not, ◌&&◌, ◌||◌, if◌then◌else◌, List, [], ◌∷◌, Option, None, Some, length, codes}
use Rattle.std.specs.List.{starts_with}
use Rattle.std.specs.Str.{bytes_eq}
use Rattle.ctokens.specs.declared.token.TokenKind.{TokenKind}
use Rattle.ctokens.specs.declared.token.TokenKind.TheVariants.{Word, Number, Letter, Quoted, Mark}
use Rattle.cgrammar.specs.ConstantParts.{is_integer}
use Rattle.cgrammar.specs.Operators.{row_of}
use Rattle.cgrammar.specs.ReadOperands.{behind_matched}
use Rattle.cgrammar.specs.Terminals.{Terminal, is_mark, is_name, is_word}
use Rattle.cconstructs.specs.declared.before.Before.{Before}
use Rattle.cconstructs.specs.declared.found.Found.{Found}
use Rattle.cconstructs.specs.Constructs.{word_rows, is_header}
use Rattle.cconstructs.specs.Numbers.{floating_type, variable_arguments, string_literal, function_pointer}

-- the number of a word that shows a construct
unfoldable pub word_number : List ℕ → Option ℕ
word_number bytes = if starts_with nat_eq bytes (codes "_Float") then Some floating_type else row_of bytes word_rows

-- the number of a mark, where it is known whether it stands as the `*` of a function pointer would
abbrev pub mark_number : Bool → List ℕ → Option ℕ
mark_number pointed bytes =
    if bytes_eq bytes (codes "...") then Some variable_arguments else (if pointed && bytes_eq bytes (codes "*") then Some function_pointer else None)

-- the number of a token of the kind, where it is known whether it stands in the brackets of an `__assert_fail`
abbrev pub number_of : TokenKind → Bool → Bool → List ℕ → Option ℕ
number_of Word guarded pointed bytes = word_number bytes
number_of Number guarded pointed bytes = if is_integer bytes then None else Some floating_type
number_of Letter guarded pointed bytes = None
number_of Quoted guarded pointed bytes = if guarded then None else Some string_literal
number_of Mark guarded pointed bytes = mark_number pointed bytes

-- `)` and `(` begin the row
abbrev pub is_called : List Terminal → Bool
is_called [] = false
is_called (closing ∷ []) = false
is_called (closing ∷ (opening ∷ others)) = is_mark (codes ")") closing && is_mark (codes "(") opening

-- what stands behind the `*` of a function pointer begins the row
abbrev pub is_pointed : List Terminal → Bool
is_pointed [] = false
is_pointed (first ∷ others) = is_called (first ∷ others) || (is_name first && is_called others)

-- the number of the row's first token, where it shows a construct
abbrev pub number_at : Before → List Terminal → Option ℕ
number_at before [] = None
number_at before (token ∷ others) = number_of token.kind (nat_lt 0 before.guarded) (before.opened && is_pointed others) token.bytes

-- how many tokens stand in the brackets that are open before the row
abbrev pub inside : List Terminal → Option (List Terminal) → ℕ
inside row None = 0
inside row (Some others) = length row - length others - 1

-- how many tokens of the row stand before the `)` that closes a `(` that is open before it, where brackets are matched by
-- kind (41 is the code of `)`); 0 where none closes it so
unfoldable pub guarded_front : List Terminal → ℕ
guarded_front row = inside row (behind_matched (41 ∷ []) row)

-- how many tokens behind the token stand in the brackets of an `__assert_fail`, where so many did from the token on and it is
-- known whether an `__assert_fail` stands directly before it
abbrev pub guarded_behind : ℕ → Bool → Terminal → List Terminal → ℕ
guarded_behind (suc count) asserting token others = count
guarded_behind zero asserting token others = if asserting && is_mark (codes "(") token then guarded_front others else 0

-- what is known behind the row's first token, from what is known before it
unfoldable pub behind : Before → List Terminal → Before
behind before [] = before
behind before (token ∷ others) = record {
  guarded = guarded_behind before.guarded before.asserting token others;
  asserting = is_word (codes "__assert_fail") token;
  opened = is_mark (codes "(") token && not before.headed;
  headed = is_header token;
}

-- before the first token of an item
abbrev pub at_front : Before
at_front = record { guarded = 0; asserting = false; opened = false; headed = false }

-- a construct that a token shows, where so many tokens stand before it
abbrev pub found_at : ℕ → ℕ → Found
found_at number at = record { number = number; at = at }

-- the construct that the token at the place shows, or else the other one
abbrev pub found_or : ℕ → Option ℕ → Option Found → Option Found
found_or at (Some number) otherwise = Some (found_at number at)
found_or at None otherwise = otherwise

-- the first construct of a row, where so many tokens stand before it
unfoldable pub first_from : ℕ → Before → List Terminal → Option Found
first_from at before [] = None
first_from at before (token ∷ others) =
    found_or at (number_at before (token ∷ others)) (first_from (at + 1) (behind before (token ∷ others)) others)

-- Forms of C11 and of GNU C that the grammar has no rule for, each by the token that shows it, and the number by which
-- it is given up. The row is that of an item, less the tokens that are passed over.
use Rattle.std.specs.Prelude.{◌≡◌, ℕ, suc, ◌+◌, ◌<◌, ◌≤◌, Bool, not, ◌||◌, IsTrue, List, [], ◌∷◌, ◌++◌, Some, length, drop, slice_get, codes}
use Rattle.std.specs.List.{starts_with}
use Rattle.std.specs.Prelude.{nat_eq}
use Rattle.ctokens.specs.declared.token.TokenKind.TheVariants.{Number, Quoted}
use Rattle.cgrammar.specs.Brackets.{AreMatched}
use Rattle.cgrammar.specs.Constants.{IsInteger}
use Rattle.cgrammar.specs.Operators.{row_of}
use Rattle.cgrammar.specs.Terminals.{Terminal, is_any_word, is_word, IsWord, IsMark, IsName}
use Rattle.cconstructs.specs.Numbers.{goto_statement, switch_statement, union_type, floating_type, variable_arguments, inline_assembly, complex_type, thread_local_object, string_literal, function_pointer}

-- words that show one, whatever stands around them (C11 6.4.1, 6.7.2, 6.8.4.2, 6.8.6.1)
abbrev pub word_rows : List (List ℕ × ℕ)
word_rows =
    (codes "goto", goto_statement) ∷ (codes "switch", switch_statement) ∷ (codes "union", union_type) ∷ (codes "float", floating_type)
    ∷ (codes "double", floating_type) ∷ (codes "__float128", floating_type) ∷ (codes "asm", inline_assembly)
    ∷ (codes "__asm", inline_assembly) ∷ (codes "__asm__", inline_assembly) ∷ (codes "_Complex", complex_type)
    ∷ (codes "__complex__", complex_type) ∷ (codes "_Thread_local", thread_local_object) ∷ (codes "__thread", thread_local_object) ∷ []

-- The token at the place stands between the brackets of an `__assert_fail`: the word, `(`, a row whose brackets are matched by
-- kind, in which the place lies, and `)` (C11 7.2).
pub record IsAsserted (row : List Terminal) (at : ℕ) : Type 0 where
  pub before : List Terminal
  pub word : Terminal
  pub opening : Terminal
  pub inside : List Terminal
  pub closing : Terminal
  pub behind : List Terminal
  pub is : row ≡ before ++ (word ∷ (opening ∷ (inside ++ (closing ∷ behind))))
  pub asserts : IsWord (codes "__assert_fail") word
  pub opens : IsMark (codes "(") opening
  pub matched : AreMatched inside
  pub closes : IsMark (codes ")") closing
  pub from : length before + 2 ≤ at
  pub to : at < length before + 2 + length inside

-- the word before a `(` with which no function pointer begins
abbrev pub is_header : Terminal → Bool
is_header token = is_word (codes "if") token || (is_word (codes "while") token || (is_word (codes "for") token || is_word (codes "sizeof") token))

-- `)` and `(` begin the row
pub record IsCalled (row : List Terminal) : Type 0 where
  pub closing : Terminal
  pub opening : Terminal
  pub others : List Terminal
  pub is : row ≡ closing ∷ (opening ∷ others)
  pub closes : IsMark (codes ")") closing
  pub opens : IsMark (codes "(") opening

-- what stands behind the `*` of a function pointer: `)` and `(`, with an identifier before them or without
pub data IsPointed : List Terminal → Type 0 where
  Unnamed : {row : List Terminal} → IsCalled row → IsPointed row
  Identified : {row : List Terminal} (name : Terminal) → IsName name → IsCalled row → IsPointed (name ∷ row)

-- no such word stands before the token
abbrev pub IsNotHeaded : List Terminal → ℕ → Type 0
IsNotHeaded row at = (before : ℕ) (token : Terminal) → at ≡ suc before → slice_get row before ≡ Some token → IsTrue (not (is_header token))

-- the token at the place in the row shows the construct with the number
pub data IsConstructAt (row : List Terminal) : ℕ → ℕ → Type 0 where
  NamedWord : {at number : ℕ} (token : Terminal) → slice_get row at ≡ Some token → IsTrue (is_any_word token) → row_of token.bytes word_rows ≡ Some number → IsConstructAt row at number
  FloatingWord : {at : ℕ} (token : Terminal) → slice_get row at ≡ Some token → IsTrue (is_any_word token) → IsTrue (starts_with nat_eq token.bytes (codes "_Float")) → IsConstructAt row at floating_type
  FloatingConstant : {at : ℕ} (token : Terminal) → slice_get row at ≡ Some token → token.kind ≡ Number → (IsInteger token.bytes → ⊥) → IsConstructAt row at floating_type
  VariableArguments : {at : ℕ} (token : Terminal) → slice_get row at ≡ Some token → IsMark (codes "...") token → IsConstructAt row at variable_arguments
  StringLiteral : {at : ℕ} (token : Terminal) → slice_get row at ≡ Some token → token.kind ≡ Quoted → (IsAsserted row at → ⊥) → IsConstructAt row at string_literal
  FunctionPointer : {before : ℕ} (opening star : Terminal) → slice_get row before ≡ Some opening → IsMark (codes "(") opening
      → slice_get row (suc before) ≡ Some star → IsMark (codes "*") star → IsNotHeaded row before → IsPointed (drop (before + 2) row)
      → IsConstructAt row (suc before) function_pointer

-- the first construct of the row stands at the place and has the number
pub record IsFirstConstruct (row : List Terminal) (at number : ℕ) : Type 0 where
  pub is : IsConstructAt row at number
  pub first : (earlier other : ℕ) → earlier < at → IsConstructAt row earlier other → ⊥

-- no token of the row shows a construct
abbrev pub HasNoConstruct : List Terminal → Type 0
HasNoConstruct row = (at number : ℕ) → IsConstructAt row at number → ⊥

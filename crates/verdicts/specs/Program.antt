-- The program that the bytes of a file hold: the items that main needs, and what typing hands on of them.
use Rattle.std.specs.Prelude.{◌≡◌, ℕ, ◌≤◌, Bool, Ok, Some, List, length}
use Rattle.cbase.specs.declared.abi.Abi.{Abi}
use Rattle.cgrammar.specs.Phrases.{Context as Standing}
use Rattle.cread.specs.InOrder.{at_file}
use Rattle.ctokens.specs.InText.{most_bytes}
use Rattle.ctokens.specs.ItemRows.{item_rows}
use Rattle.ctokens.specs.Items.{IsItems}
use Rattle.ctokens.specs.Need.{IsNeed}
use Rattle.ctokens.specs.TokenList.{AreTokens}
use Rattle.ctokens.specs.declared.item_span.ItemSpan.{ItemSpan}
use Rattle.ctokens.specs.declared.token.Tokens.{Tokens}
use Rattle.items.specs.languages.CLanguage.{Declarations, c_language, c_file}
use Rattle.ccheck.specs.Checked.{at_beginning}
use Rattle.ccheck.specs.Needed.{spans_of}
use Rattle.ccheck.specs.Walk.{ArePassing}
use Rattle.c_machine.specs.Program.{Program}

-- the bytes of this file have these tokens and these items, and main needs the items with these numbers
pub record IsRead (file bytes : List ℕ) (t : Tokens) (items : List ItemSpan) (numbers : List ℕ) : Type 0 where
  pub are_tokens : AreTokens file bytes t
  pub are_items : IsItems t (Ok items)
  pub are_needed : IsNeed (item_rows t items) (Some numbers)

-- each item with one of these numbers is read and passes, and this is the program: the items, what is handed on of them, and the structs that they declare
pub record IsProgram (t : Tokens) (items : List ItemSpan) (numbers : List ℕ) (abi : Abi) (strict : Bool) (p : Program) : Type 0 where
  pub after : Standing
  pub behind : Declarations
  pub passing : ArePassing t (c_language abi) (c_file abi) (spans_of items numbers) at_file (at_beginning t items abi strict) p.items p.handed after behind
  pub structs_are : p.structs ≡ behind.structs
  pub abi_is : p.abi ≡ abi
  pub strict_is : p.strict ≡ strict

-- the bytes have these tokens, and the items that main needs are this program
pub record HoldsProgram (file bytes : List ℕ) (abi : Abi) (strict : Bool) (t : Tokens) (p : Program) : Type 0 where
  pub items : List ItemSpan
  pub numbers : List ℕ
  pub is_short : length bytes ≤ most_bytes
  pub is_read : IsRead file bytes t items numbers
  pub is_program : IsProgram t items numbers abi strict p

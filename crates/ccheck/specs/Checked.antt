-- What is answered of the items that main needs.
use Rattle.std.specs.Prelude.{◌≡◌, ℕ, Bool, List, map}
use Rattle.cbase.specs.declared.abi.Abi.{Abi}
use Rattle.cbase.specs.declared.tree.item.Item.{Item}
use Rattle.cgrammar.specs.Phrases.{Context as Standing}
use Rattle.cread.specs.InOrder.{at_file}
use Rattle.ctokens.specs.declared.item_span.ItemSpan.{ItemSpan}
use Rattle.ctokens.specs.declared.token.Tokens.{Tokens}
use Rattle.definitions.specs.Defined.{bodied_names, defined_names}
use Rattle.expressions.specs.Context.{declared, Agrees}
use Rattle.expressions.specs.Numbers.{Numbering, handed_at}
use Rattle.typing.specs.Outcomes.{Handed}
use Rattle.items.specs.languages.AtTypes.{declarations_at}
use Rattle.items.specs.languages.CBegin.{c_begin}
use Rattle.items.specs.languages.CLanguage.{Declarations, c_language, c_file}
use Rattle.items.specs.languages.LeadsBack.{LeadsBack}
use Rattle.ccheck.specs.declared.checking.Checked.{Checked}
use Rattle.ccheck.specs.declared.checking.Checked.TheVariants.{Typed, Refused}
use Rattle.ccheck.specs.declared.program.TypedProgram.{TypedProgram}
use Rattle.ccheck.specs.declared.refusal.Refusal.{Refusal}
use Rattle.ccheck.specs.Needed.{spans_of}
use Rattle.ccheck.specs.Walk.{ArePassing, IsFirstRefused}

-- in front of the first item: the functions that are built in, but those for which the text has a body, and the names that the whole text defines
abbrev pub at_beginning : Tokens → List ItemSpan → Abi → Bool → Declarations
at_beginning t items abi strict = c_begin abi strict (bodied_names t items) (defined_names t items)

-- each of them is read and passes
abbrev pub IsChecked : Tokens → List ItemSpan → List ℕ → Abi → Bool → Type 0
IsChecked t items numbers abi strict =
    (program : List Item) × (handed : List Handed) × (after : Standing) × (behind : Declarations)
    × ArePassing t (c_language abi) (c_file abi) (spans_of items numbers) at_file (at_beginning t items abi strict) program handed after behind

-- and that is the program, and that is handed on of them, whatever the numbers of types in it are read by
pub record IsTyped (t : Tokens) (items : List ItemSpan) (numbers : List ℕ) (abi : Abi) (strict : Bool) (p : TypedProgram) : Type 0 where
  pub abi_is : p.abi ≡ abi
  pub strict_is : p.strict ≡ strict
  pub after : Standing
  pub passing : (n : Numbering) → Agrees n p.context → LeadsBack n
      → ArePassing t (c_language abi) (c_file abi) (spans_of items numbers) at_file (at_beginning t items abi strict) p.program (map (handed_at n) p.context.handed)
      after (declarations_at n (declared p.context))
  pub checked : IsChecked t items numbers abi strict

-- the first of them that is refused is answered so
abbrev pub IsRefused : Tokens → List ItemSpan → List ℕ → Abi → Bool → Refusal → Type 0
IsRefused t items numbers abi strict refusal =
    (behind : Declarations) × IsFirstRefused t (c_language abi) (c_file abi) (spans_of items numbers) at_file (at_beginning t items abi strict) refusal behind

abbrev pub IsAnswer : Tokens → List ItemSpan → List ℕ → Abi → Bool → Checked → Type 0
IsAnswer t items numbers abi strict (Typed p) = IsTyped t items numbers abi strict p
IsAnswer t items numbers abi strict (Refused refusal) = IsRefused t items numbers abi strict refusal

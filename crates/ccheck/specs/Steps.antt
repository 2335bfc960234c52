-- What going over items leaves, by what numbers of types mean.
use Rattle.std.specs.Prelude.{◌≡◌, ◌++◌, List, map, Option, None, Some}
use Rattle.cbase.specs.declared.abi.Abi.{Abi}
use Rattle.cbase.specs.declared.tree.item.Item.{Item}
use Rattle.cgrammar.specs.Phrases.{Context as Standing}
use Rattle.cread.specs.InOrder.{at_file}
use Rattle.ctokens.specs.declared.item_span.ItemSpan.{ItemSpan}
use Rattle.ctokens.specs.declared.token.Tokens.{Tokens}
use Rattle.expressions.specs.Context.{Context, declared, Agrees, Grows}
use Rattle.expressions.specs.FileScope.{file_scope}
use Rattle.expressions.specs.Language.{language}
use Rattle.expressions.specs.Numbers.{Numbering, handed_at}
use Rattle.expressions.specs.declared.handed_row.HandedRow.{HandedRow}
use Rattle.ccheck.specs.declared.items_checked.ItemsChecked.{ItemsChecked}
use Rattle.ccheck.specs.declared.items_checked.ItemsChecked.TheVariants.{AllPass, FirstRefused}
use Rattle.ccheck.specs.declared.refusal.Refusal.{Refusal}
use Rattle.typing.specs.declared.fault.Fault.{Fault}
use Rattle.expressions.specs.Found.{nothing}
use Rattle.expressions.specs.Walked.{Passed, Stopped}
use Rattle.ccheck.specs.Refusals.{of_fault}
use Rattle.ccheck.specs.Walk.{ArePassing, FindsItem, IsFirstRefused}

-- all so far are read and pass
pub record PassSoFar (t : Tokens) (abi : Abi) (spans : List ItemSpan) (program : List Item) (after : Standing) (old new : Context) : Type 0 where
  pub rows : List HandedRow
  pub handed : new.handed ≡ old.handed ++ rows
  pub grows : Grows old new
  pub passing : (n : Numbering) → Agrees n new
      → ArePassing t (language abi n) (file_scope abi n) spans at_file (declared old) program (map (handed_at n) rows) after (declared new)

-- one is the first that is refused
pub record RefusedFirst (t : Tokens) (abi : Abi) (spans : List ItemSpan) (old new : Context) (refusal : Refusal) : Type 0 where
  pub grows : Grows old new
  pub first : (n : Numbering) → Agrees n new → IsFirstRefused t (language abi n) (file_scope abi n) spans at_file (declared old) refusal (declared new)

abbrev pub AreChecked : Tokens → Abi → List ItemSpan → Context → Context → ItemsChecked → Type 0
AreChecked t abi spans old new (AllPass program) = (after : Standing) × PassSoFar t abi spans program after old new
AreChecked t abi spans old new (FirstRefused refusal) = RefusedFirst t abi spans old new refusal

-- one that is read is looked through: it passes, or something is refused in it
abbrev pub IsLookedThrough : Tokens → Abi → ItemSpan → Item → Context → Context → Option Refusal → Type 0
IsLookedThrough t abi span item old new None = Passed (λ n before outcome after. FindsItem t (language abi n) (file_scope abi n) span before item outcome after) nothing old new tt
IsLookedThrough t abi span item old new (Some refusal) = (fault : Fault) × (of_fault t fault ≡ refusal)
    × Stopped {A = Unit {0}} (λ n before outcome after. FindsItem t (language abi n) (file_scope abi n) span before item outcome after) old new fault

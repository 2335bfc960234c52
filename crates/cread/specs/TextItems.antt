-- Items as texts, in which a blank stands between each token and the next, and what they spell with at most twelve levels.
use Rattle.std.specs.Prelude.{◌≤◌, ℕ, List, [], ◌∷◌, Option, None, Some}
use Rattle.cbase.specs.declared.tree.item.Item.{Item}
use Rattle.ctrees.specs.Levels.{item_levels}
use Rattle.cgrammar.specs.Phrases.{Context}
use Rattle.cgrammar.specs.Readings.{at_first}
use Rattle.cgrammar.specs.Scope.{Names}
use Rattle.cgrammar.specs.Terminals.{Terminal}
use Rattle.cgrammar.specs.TextRows.{few_levels, row_of_text, typedefs}
use Rattle.cread.specs.Items.{SpellsItem}

-- a text, the typedefs that are in scope, and the item that it spells, if it spells one
pub record ItemRow : Type 0 where
  pub text : List ℕ
  pub names : List (List ℕ)
  pub expected : Option Item

-- the row spells no item of at most twelve levels
abbrev pub IsNoItemOfFewLevels : List Names → List Terminal → Type 0
IsNoItemOfFewLevels scope row = (item : Item) (behind : Context) → SpellsItem item (at_first scope) row behind → item_levels item ≤ few_levels → ⊥

-- the row spells the expected item, or none of at most twelve levels where none is expected
abbrev pub IsItem : List Names → List Terminal → Option Item → Type 0
IsItem scope row None = IsNoItemOfFewLevels scope row
IsItem scope row (Some item) = (behind : Context) × SpellsItem item (at_first scope) row behind

-- each row of the table spells what is expected of it
abbrev pub HaveItems : List ItemRow → Type 0
HaveItems [] = Unit {0}
HaveItems (row ∷ rows) = IsItem (typedefs row.names) (row_of_text row.text) row.expected × HaveItems rows

-- a row of the table whose text spells the item
abbrev pub spelled : List ℕ → List (List ℕ) → Item → ItemRow
spelled text names item = record { text = text; names = names; expected = Some item }

-- a row of the table whose text spells no item
abbrev pub missed : List ℕ → List (List ℕ) → ItemRow
missed text names = record { text = text; names = names; expected = None }

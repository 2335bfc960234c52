-- What is found of a whole row: the item that it spells, or that it spells none, and its first construct.
use Rattle.std.specs.Prelude.{◌≡◌, ℕ, ◌≤◌, List}
use Rattle.cbase.specs.declared.place.Place.{Place}
use Rattle.cbase.specs.declared.tree.item.Item.{Item}
use Rattle.cbuild.specs.ItemsMade.{item_made, nothing_made}
use Rattle.cevents.specs.Building.{built_all}
use Rattle.cevents.specs.declared.event.Event.{Event}
use Rattle.ctrees.specs.Levels.{item_levels}
use Rattle.cconstructs.specs.Constructs.{IsFirstConstruct}
use Rattle.cgrammar.specs.Phrases.{Context}
use Rattle.cgrammar.specs.Readings.{most_levels}
use Rattle.cgrammar.specs.Terminals.{Terminal}
use Rattle.cread.specs.UnreadItems.{IsPlaceIn}
use Rattle.cread.specs.Items.{SpellsItem}

-- the row is the item, which has few enough levels
pub record IsItemOf (row : List Terminal) (before : Context) (item : Item) (after : Context) : Type 0 where
  pub spelled : SpellsItem item before row after
  pub small : item_levels item ≤ most_levels

-- the row is no item of at most 1,024 levels; of the tokens of a text `IsNoItem` says this
abbrev pub IsItemOfNone : List Terminal → Context → Type 0
IsItemOfNone row before = (item : Item) (after : Context) → SpellsItem item before row after → item_levels item ≤ most_levels → ⊥

-- the first construct of the row stands at the place
pub record IsConstructOf (row : List Terminal) (number : ℕ) (place : Place) : Type 0 where
  pub at : ℕ
  pub is : IsFirstConstruct row at number
  pub placed : IsPlaceIn row at place

-- the events make an item of the row, alone
pub record MakeItem (row : List Terminal) (events : List Event) (expressions : ℕ) : Type 0 where
  pub item : Item
  pub count : ℕ
  pub made : built_all row events (nothing_made expressions) ≡ item_made item count

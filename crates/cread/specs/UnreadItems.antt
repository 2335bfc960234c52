-- Why the tokens of an item are not read: the construct that is given up, or that nothing spells it.
use Rattle.std.specs.Prelude.{◌≡◌, ℕ, ◌≤◌, ◌⊎◌, List, Some, slice_get}
use Rattle.cbase.specs.declared.place.Place.{Place}
use Rattle.cbase.specs.declared.tree.item.Item.{Item}
use Rattle.cconstructs.specs.Constructs.{HasNoConstruct, IsFirstConstruct}
use Rattle.cconstructs.specs.Layout.{HasNoLayout, IsFirstLayout}
use Rattle.cconstructs.specs.Numbers.{layout_attribute}
use Rattle.cgrammar.specs.Phrases.{Context}
use Rattle.cgrammar.specs.Readings.{most_levels, row_between}
use Rattle.cgrammar.specs.Terminals.{Terminal}
use Rattle.ctokens.specs.declared.token.Token.{Token}
use Rattle.ctokens.specs.declared.token.Tokens.{Tokens}
use Rattle.ctrees.specs.Levels.{item_levels}
use Rattle.cread.specs.Items.{SpellsItem}
use Rattle.cread.specs.declared.unread.Unread.{Unread}
use Rattle.cread.specs.declared.unread.Unread.TheVariants.{Construct, Syntax}

-- the tokens are no item of at most 1,024 levels
abbrev pub IsNoItem : Tokens → ℕ → ℕ → Context → Type 0
IsNoItem t from to before = (item : Item) (after : Context) → SpellsItem item before (row_between t from to) after → item_levels item ≤ most_levels → ⊥

-- the token of the number has the place
pub record IsPlaceOf (t : Tokens) (number : ℕ) (place : Place) : Type 0 where
  pub token : Token
  pub is_token : slice_get t.list number ≡ Some token
  pub is_place : token.place ≡ place

-- the token of the number in a row has the place
pub record IsPlaceIn (row : List Terminal) (number : ℕ) (place : Place) : Type 0 where
  pub token : Terminal
  pub is_token : slice_get row number ≡ Some token
  pub is_place : token.place ≡ place

-- the first change of layout stands at the place
pub record ShowsLayout (t : Tokens) (from to number : ℕ) (place : Place) : Type 0 where
  pub at : ℕ
  pub is : IsFirstLayout t from to at
  pub placed : IsPlaceOf t at place
  pub is_layout : number ≡ layout_attribute

-- there is no change of layout and no item, and the first construct stands at the place
pub record ShowsConstruct (t : Tokens) (from to : ℕ) (before : Context) (number : ℕ) (place : Place) : Type 0 where
  pub plain : HasNoLayout t from to
  pub none : IsNoItem t from to before
  pub at : ℕ
  pub is : IsFirstConstruct (row_between t from to) at number
  pub placed : IsPlaceIn (row_between t from to) at place

-- there is neither, and the item begins at the place
pub record ShowsNothing (t : Tokens) (from to : ℕ) (before : Context) (place : Place) : Type 0 where
  pub plain : HasNoLayout t from to
  pub none : IsNoItem t from to before
  pub free : HasNoConstruct (row_between t from to)
  pub placed : IsPlaceOf t from place

-- why the tokens are not read
abbrev pub IsUnread : Tokens → ℕ → ℕ → Context → Unread → Type 0
IsUnread t from to before (Construct number place) = ShowsLayout t from to number place ⊎ ShowsConstruct t from to before number place
IsUnread t from to before (Syntax place) = ShowsNothing t from to before place

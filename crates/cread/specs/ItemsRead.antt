-- That the tokens of an item are read as one.
use Rattle.std.specs.Prelude.{ℕ, ◌≤◌}
use Rattle.cbase.specs.declared.tree.item.Item.{Item}
use Rattle.cconstructs.specs.Layout.{HasNoLayout}
use Rattle.cgrammar.specs.Phrases.{Context}
use Rattle.cgrammar.specs.Readings.{most_levels, row_between}
use Rattle.ctokens.specs.declared.token.Tokens.{Tokens}
use Rattle.ctrees.specs.Levels.{item_levels}
use Rattle.cread.specs.Items.{SpellsItem}

-- the tokens are read as the item, where `before` stands before them and `after` behind
pub record IsItemRead (t : Tokens) (from to : ℕ) (before : Context) (item : Item) (after : Context) : Type 0 where
  pub plain : HasNoLayout t from to
  pub spelled : SpellsItem item before (row_between t from to) after
  pub small : item_levels item ≤ most_levels

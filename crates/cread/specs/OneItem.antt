-- That a row of tokens is one item.
use Rattle.std.specs.Prelude.{◌≡◌, List}
use Rattle.cbase.specs.declared.tree.item.Item.{Item}
use Rattle.cgrammar.specs.Phrases.{Context}
use Rattle.cgrammar.specs.Terminals.{Terminal}
use Rattle.cread.specs.Items.{SpellsItem}

-- two items of one row, where the same names are in scope and as many expressions end before it, are equal, and so is
-- what stands behind them
abbrev pub IsOneItem : Type 0
IsOneItem =
    (one other : Item) (before after behind : Context) (row : List Terminal)
    → SpellsItem one before row after → SpellsItem other before row behind → (one ≡ other) × (after ≡ behind)

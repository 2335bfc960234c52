-- How the expressions of items are numbered.
use Rattle.std.specs.Prelude.{List, map}
use Rattle.std.specs.List.{concat}
use Rattle.cbase.specs.declared.tree.item.Item.{Item}
use Rattle.cgrammar.specs.Phrases.{Context}
use Rattle.cgrammar.specs.Terminals.{Terminal}
use Rattle.ctokens.specs.declared.item_span.ItemSpan.{ItemSpan}
use Rattle.ctokens.specs.declared.token.Tokens.{Tokens}
use Rattle.ctrees.specs.Numbers.{AreConsecutive, item_numbers}
use Rattle.cread.specs.Items.{SpellsItem}
use Rattle.cread.specs.InOrder.{ReadsAll}

-- The expressions of a row that is an item have the numbers from the count of those before it up to the count behind it, each
-- once, in the order of the text.
abbrev pub ItemsAreNumbered : Type 0
ItemsAreNumbered =
    (item : Item) (before after : Context) (row : List Terminal) → SpellsItem item before row after → AreConsecutive before.expressions (item_numbers item) after.expressions

-- and so have those of items that are read one behind the other
abbrev pub ReadItemsAreNumbered : Type 0
ReadItemsAreNumbered =
    (t : Tokens) (spans : List ItemSpan) (before after : Context) (items : List Item) → ReadsAll t spans before items after
    → AreConsecutive before.expressions (concat (map item_numbers items)) after.expressions

-- The expressions of items are numbered one by one.
use Rattle.std.proofs.Common.{map, List}
use Rattle.std.specs.List.{concat}
use Rattle.cbase.specs.declared.tree.item.Item.{Item}
use Rattle.cgrammar.proofs.Consecutive.{consecutive, follow, no_number}
use Rattle.cgrammar.specs.Phrases.{Context}
use Rattle.cgrammar.specs.Terminals.{Terminal}
use Rattle.ctokens.specs.declared.item_span.ItemSpan.{ItemSpan}
use Rattle.ctokens.specs.declared.token.Tokens.{Tokens}
use Rattle.ctrees.specs.Numbers.{AreConsecutive, item_numbers}
use Rattle.cread.specs.Items.{SpellsItem, EmptyItem, DeclarationItem, FunctionDefinition}
use Rattle.cread.specs.InOrder.{ReadsAll, NoItem, OneItem}
use Rattle.cread.specs.Numbered.{ItemsAreNumbered, ReadItemsAreNumbered}

in_item : {item : Item} {before after : Context} {row : List Terminal} → SpellsItem item before row after → AreConsecutive before.expressions (item_numbers item) after.expressions
in_item (EmptyItem _ _) = no_number
in_item (DeclarationItem decl) = consecutive decl
in_item (FunctionDefinition _ _ type head _ body _) = follow (consecutive type) (follow (consecutive head) (consecutive body))

in_items : {t : Tokens} {spans : List ItemSpan} {before after : Context} {items : List Item} → ReadsAll t spans before items after
    → AreConsecutive before.expressions (concat (map item_numbers items)) after.expressions
in_items NoItem = no_number
in_items (OneItem first others) = follow (in_item first.spelled) (in_items others)

pub items_numbered : ItemsAreNumbered
items_numbered item before after row spelled = in_item spelled

pub read_items_numbered : ReadItemsAreNumbered
read_items_numbered t spans before after items reads = in_items reads

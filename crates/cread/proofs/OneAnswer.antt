-- Of an item at most one answer is true.
use Rattle.std.proofs.Common.{ap}
use Rattle.cbase.specs.declared.tree.item.Item.{Item}
use Rattle.cgrammar.specs.Phrases.{Context, context_at}
use Rattle.cread.proofs.UnreadItems.{one_read, read_or_unread, one_unread}
use Rattle.cread.specs.ItemAnswers.{HasOneAnswer}
use Rattle.cread.specs.declared.reading_item.ItemBehind.{ItemBehind}
use Rattle.cread.specs.declared.reading_item.ItemRead.TheVariants.{Read, Unread}

-- an item with what stands behind it, from the two
abbrev behind_of : Item → Context → ItemBehind
behind_of item after = record { item = item; scope = after.scope; expressions = after.expressions }

pub one_item_answer : HasOneAnswer
one_item_answer t from to before (Read one) (Read other) is also =
    let (same, after) = one_read t from to before (context_at one.scope one.expressions) (context_at other.scope other.expressions) one.item other.item is also in
    λ i. Read (behind_of (same i) (after i))
one_item_answer t from to before (Read one) (Unread unread) is also = absurd (read_or_unread t from to before (context_at one.scope one.expressions) one.item unread is also)
one_item_answer t from to before (Unread unread) (Read other) is also = absurd (read_or_unread t from to before (context_at other.scope other.expressions) other.item unread also is)
one_item_answer t from to before (Unread unread) (Unread other) is also = ap Unread (one_unread t from to before unread other is also)

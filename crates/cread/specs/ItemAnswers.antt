-- What is answered of an item where it is read in a file: its tree with what stands behind it, or why it is not read.
use Rattle.std.specs.Prelude.{◌≡◌, ℕ}
use Rattle.ctokens.specs.declared.token.Tokens.{Tokens}
use Rattle.cgrammar.specs.Phrases.{Context, context_at}
use Rattle.cread.specs.ItemsRead.{IsItemRead}
use Rattle.cread.specs.UnreadItems.{IsUnread}
use Rattle.cread.specs.declared.reading_item.ItemRead.{ItemRead}
use Rattle.cread.specs.declared.reading_item.ItemRead.TheVariants.{Read, Unread}

-- of the tokens from one number up to another, where `before` stands before them
abbrev pub IsAnswer : Tokens → ℕ → ℕ → Context → ItemRead → Type 0
IsAnswer t from to before (Read behind) = IsItemRead t from to before behind.item (context_at behind.scope behind.expressions)
IsAnswer t from to before (Unread unread) = IsUnread t from to before unread

-- at most one answer is true
abbrev pub HasOneAnswer : Type 0
HasOneAnswer = (t : Tokens) (from to : ℕ) (before : Context) (one other : ItemRead) → IsAnswer t from to before one → IsAnswer t from to before other → one ≡ other

-- Items of a text that are read one behind the other: each where the names that those before it declare are in scope, and
-- as many expressions end before it as they have (C11 6.9).
use Rattle.std.specs.Prelude.{◌≡◌, List, [], ◌∷◌}
use Rattle.cbase.specs.declared.tree.item.Item.{Item}
use Rattle.cgrammar.specs.Phrases.{Context}
use Rattle.cgrammar.specs.Readings.{at_first}
use Rattle.cgrammar.specs.Scope.{file_scope}
use Rattle.ctokens.specs.declared.item_span.ItemSpan.{ItemSpan}
use Rattle.ctokens.specs.declared.token.Tokens.{Tokens}
use Rattle.cread.specs.ItemsRead.{IsItemRead}
use Rattle.cread.specs.UnreadItems.{IsUnread}
use Rattle.cread.specs.declared.unread.Unread.{Unread}

-- before the first declaration of a file
abbrev pub at_file : Context
at_file = at_first file_scope

-- the spans are read one behind the other as these items, where `before` stands before them and `after` behind
pub data ReadsAll (t : Tokens) : List ItemSpan → Context → List Item → Context → Type 0 where
  NoItem : {before : Context} → ReadsAll t [] before [] before
  OneItem : {before middle after : Context} {item : Item} {items : List Item} {span : ItemSpan} {spans : List ItemSpan}
      → IsItemRead t span.first span.after before item middle → ReadsAll t spans middle items after
      → ReadsAll t (span ∷ spans) before (item ∷ items) after

-- the first of the spans that is not read, and why it is not
pub data IsFirstUnread (t : Tokens) : List ItemSpan → Context → Unread → Type 0 where
  AtOnce : {before : Context} {span : ItemSpan} {spans : List ItemSpan} {unread : Unread}
      → IsUnread t span.first span.after before unread → IsFirstUnread t (span ∷ spans) before unread
  Later : {before middle : Context} {item : Item} {span : ItemSpan} {spans : List ItemSpan} {unread : Unread}
      → IsItemRead t span.first span.after before item middle → IsFirstUnread t spans middle unread
      → IsFirstUnread t (span ∷ spans) before unread

-- the spans of a file are read one behind the other
abbrev pub AreRead : Tokens → List ItemSpan → Type 0
AreRead t spans = (program : List Item) × (after : Context) × ReadsAll t spans at_file program after

-- Of one list of spans at most one is true: it is read as one list of items with one context behind, or there is a first
-- span that is not read, for one reason.
pub record HaveOneReading : Type 0 where
  pub one_program : (t : Tokens) (spans : List ItemSpan) (before after behind : Context) (items others : List Item)
      → ReadsAll t spans before items after → ReadsAll t spans before others behind → (items ≡ others) × (after ≡ behind)
  pub never_both : (t : Tokens) (spans : List ItemSpan) (before after : Context) (items : List Item) (unread : Unread)
      → ReadsAll t spans before items after → IsFirstUnread t spans before unread → ⊥
  pub one_unread : (t : Tokens) (spans : List ItemSpan) (before : Context) (unread other : Unread)
      → IsFirstUnread t spans before unread → IsFirstUnread t spans before other → unread ≡ other

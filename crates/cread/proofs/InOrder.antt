-- Items that are read one behind the other are read in one way.
use Rattle.std.proofs.Common.{◌≡◌, List, ◌∷◌, refl, subst}
use Rattle.cbase.specs.declared.tree.item.Item.{Item}
use Rattle.cgrammar.specs.Phrases.{Context}
use Rattle.ctokens.specs.declared.item_span.ItemSpan.{ItemSpan}
use Rattle.ctokens.specs.declared.token.Tokens.{Tokens}
use Rattle.cread.specs.InOrder.{AtOnce, HaveOneReading, IsFirstUnread, Later, NoItem, OneItem, ReadsAll}
use Rattle.cread.specs.declared.unread.Unread.{Unread}
use Rattle.cread.proofs.UnreadItems.{one_read, one_unread, read_or_unread}

module _ (t : Tokens) where
  one_program : (spans : List ItemSpan) (before after behind : Context) (items others : List Item)
      → ReadsAll t spans before items after → ReadsAll t spans before others behind → (items ≡ others) × (after ≡ behind)
  one_program _ _ _ _ _ _ NoItem NoItem = (refl, refl)
  one_program _ before _ behind _ _ (OneItem {middle} {after} {item} {items} {span} {spans} read rest) (OneItem {middle = second} {item = other} {items = others} also more) =
      let (same, next) = one_read t span.first span.after before middle second item other read also in
      let (tail, last) = one_program spans second after behind items others (subst (λ (context : Context). ReadsAll t spans context items after) next rest) more in
      (λ i. same i ∷ tail i, last)

  never_both : (spans : List ItemSpan) (before after : Context) (items : List Item) (unread : Unread)
      → ReadsAll t spans before items after → IsFirstUnread t spans before unread → ⊥
  never_both _ _ _ _ _ NoItem stops = elim stops [ ]
  never_both _ before _ _ unread (OneItem {middle} {item} {span} read rest) (AtOnce stops) =
      read_or_unread t span.first span.after before middle item unread read stops
  never_both _ before _ _ unread (OneItem {middle} {after} {item} {items} {span} {spans} read rest) (Later {middle = second} {item = other} also more) =
      let (same, next) = one_read t span.first span.after before middle second item other read also in
      never_both spans second after items unread (subst (λ (context : Context). ReadsAll t spans context items after) next rest) more

  one_reason : (spans : List ItemSpan) (before : Context) (unread other : Unread)
      → IsFirstUnread t spans before unread → IsFirstUnread t spans before other → unread ≡ other
  one_reason _ before unread other (AtOnce {span} stops) (AtOnce also) =
      one_unread t span.first span.after before unread other stops also
  one_reason _ before unread other (AtOnce {span} stops) (Later {middle} {item} read more) =
      absurd (read_or_unread t span.first span.after before middle item unread read stops)
  one_reason _ before unread other (Later {middle} {item} {span} read more) (AtOnce stops) =
      absurd (read_or_unread t span.first span.after before middle item other read stops)
  one_reason _ before unread other (Later {middle} {item} {span} {spans} read rest) (Later {middle = second} {item = another} also more) =
      let (same, next) = one_read t span.first span.after before middle second item another read also in
      one_reason spans second unread other (subst (λ (context : Context). IsFirstUnread t spans context unread) next rest) more

pub one_reading : HaveOneReading
one_reading = record {
  one_program = one_program;
  never_both = never_both;
  one_unread = one_reason;
}

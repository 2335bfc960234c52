-- One more item behind those that are read and pass.
use Rattle.std.proofs.Common.{◌≡◌, List, [], ◌∷◌, ◌++◌, append_assoc, refl, ap, sym, ◌∙◌}
use Rattle.cbase.specs.declared.tree.item.Item.{Item}
use Rattle.cgrammar.specs.Phrases.{Context}
use Rattle.cread.specs.ItemsRead.{IsItemRead}
use Rattle.cread.specs.UnreadItems.{IsUnread}
use Rattle.cread.specs.declared.unread.Unread.{Unread}
use Rattle.ctokens.specs.declared.item_span.ItemSpan.{ItemSpan}
use Rattle.ctokens.specs.declared.token.Tokens.{Tokens}
use Rattle.typing.specs.declared.fault.Fault.{Fault}
use Rattle.typing.specs.FileScope.{FileScope}
use Rattle.typing.specs.Language.{Language}
use Rattle.typing.specs.Outcomes.{Handed, Passes, Refused}
use Rattle.ccheck.specs.Refusals.{of_fault, of_unread}
use Rattle.ccheck.specs.Walk.{ArePassing, FindsItem, IsFirstRefused, NoItem, OneItem, NotRead, Broken, Later}

module _ {t : Tokens} {l : Language} {file : FileScope l} where
  -- it passes, too
  pub passes_more : {spans : List ItemSpan} {before middle after : Context} {env inside behind : l.Environment} {items : List Item} {item : Item} {span : ItemSpan} {handed more : List Handed}
      → ArePassing t l file spans before env items handed middle inside → IsItemRead t span.first span.after middle item after
      → FindsItem t l file span inside item (Passes tt more) behind
      → ArePassing t l file (spans ++ span ∷ []) before env (items ++ item ∷ []) (handed ++ more) after behind
  passes_more {more} NoItem read found = OneItem read found NoItem (append_nil more)
    where
      append_nil : {A : Type 0} (xs : List A) → xs ++ [] ≡ xs
      append_nil [] = refl
      append_nil (x ∷ xs) = ap (λ (ys : List _). x ∷ ys) (append_nil xs)
  passes_more {more} (OneItem {handed = here} {further} first told rest all) read found =
      OneItem first told (passes_more rest read found) (sym (append_assoc here further more) ∙ ap (λ (rows : List Handed). rows ++ more) all)

  -- it is not read
  pub unread_behind : {spans : List ItemSpan} {before middle : Context} {env inside : l.Environment} {items : List Item} {handed : List Handed} (unread : Unread) (span : ItemSpan) (others : List ItemSpan)
      → ArePassing t l file spans before env items handed middle inside → IsUnread t span.first span.after middle unread
      → IsFirstRefused t l file (spans ++ span ∷ others) before env (of_unread unread) inside
  unread_behind unread span others NoItem is = NotRead unread is refl
  unread_behind unread span others (OneItem first told rest all) is = Later first told (unread_behind unread span others rest is)

  -- it is read, and something is refused in it
  pub broken_behind : {spans : List ItemSpan} {before middle after : Context} {env inside behind : l.Environment} {items : List Item} {item : Item} {handed : List Handed} {fault : Fault} (span : ItemSpan) (others : List ItemSpan)
      → ArePassing t l file spans before env items handed middle inside → IsItemRead t span.first span.after middle item after
      → FindsItem t l file span inside item (Refused fault) behind
      → IsFirstRefused t l file (spans ++ span ∷ others) before env (of_fault t fault) behind
  broken_behind span others NoItem read found = Broken read found refl
  broken_behind span others (OneItem first told rest all) read found = Later first told (broken_behind span others rest read found)

-- Items of a text that are read and checked one behind the other (C11 6.9): each is read where the names that those before it declare are in scope, and
-- then checked, before the next is read.
--
-- `before` stands before the items for the grammar, `env` is declared before them.
use Rattle.std.specs.Prelude.{◌≡◌, List, [], ◌∷◌, ◌++◌}
use Rattle.cbase.specs.declared.tree.item.Item.{Item}
use Rattle.cgrammar.specs.Phrases.{Context}
use Rattle.cread.specs.ItemsRead.{IsItemRead}
use Rattle.cread.specs.UnreadItems.{IsUnread}
use Rattle.cread.specs.declared.unread.Unread.{Unread}
use Rattle.ctokens.specs.declared.item_span.ItemSpan.{ItemSpan}
use Rattle.ctokens.specs.declared.token.Tokens.{Tokens}
use Rattle.typing.specs.declared.fault.Fault.{Fault}
use Rattle.typing.specs.FileScope.{FileScope}
use Rattle.typing.specs.Items.{FindsInFile, ItemIs}
use Rattle.typing.specs.Language.{Language}
use Rattle.typing.specs.Outcomes.{Handed, Outcome, Passes, Refused}
use Rattle.ccheck.specs.declared.refusal.Refusal.{Refusal}
use Rattle.ccheck.specs.Refusals.{of_fault, of_unread, place_at}

-- that of an item where it stands in a text: it begins at its first token
abbrev pub FindsItem : (t : Tokens) (l : Language) (file : FileScope l) → ItemSpan → l.Environment → Item → Outcome (Unit {0}) → l.Environment → Type 0
FindsItem t l file span env item outcome after = FindsInFile l file env (ItemIs (place_at t span.first) item outcome) after

-- each of them is read and passes: the items, what is handed on of them, and what stands and is declared behind them
pub data ArePassing (t : Tokens) (l : Language) (file : FileScope l) : List ItemSpan → Context → l.Environment → List Item → List Handed → Context → l.Environment → Type 0 where
  NoItem : {before : Context} {env : l.Environment} → ArePassing t l file [] before env [] [] before env
  OneItem : {before middle after : Context} {env inside behind : l.Environment} {span : ItemSpan} {spans : List ItemSpan} {item : Item} {items : List Item} {handed further all : List Handed}
      → IsItemRead t span.first span.after before item middle
      → FindsItem t l file span env item (Passes tt handed) inside
      → ArePassing t l file spans middle inside items further after behind
      → handed ++ further ≡ all
      → ArePassing t l file (span ∷ spans) before env (item ∷ items) all after behind

-- the first that is refused, with what is answered of it, and what is declared behind that
pub data IsFirstRefused (t : Tokens) (l : Language) (file : FileScope l) : List ItemSpan → Context → l.Environment → Refusal → l.Environment → Type 0 where
  -- it is not read
  NotRead : {before : Context} {env : l.Environment} {span : ItemSpan} {spans : List ItemSpan} {refusal : Refusal} (unread : Unread)
      → IsUnread t span.first span.after before unread
      → of_unread unread ≡ refusal
      → IsFirstRefused t l file (span ∷ spans) before env refusal env
  -- it is read, and something is refused in it
  Broken : {before middle : Context} {env behind : l.Environment} {span : ItemSpan} {spans : List ItemSpan} {item : Item} {fault : Fault} {refusal : Refusal}
      → IsItemRead t span.first span.after before item middle
      → FindsItem t l file span env item (Refused fault) behind
      → of_fault t fault ≡ refusal
      → IsFirstRefused t l file (span ∷ spans) before env refusal behind
  -- it is read and passes, and one behind it is the first
  Later : {before middle : Context} {env inside behind : l.Environment} {span : ItemSpan} {spans : List ItemSpan} {item : Item} {handed : List Handed} {refusal : Refusal}
      → IsItemRead t span.first span.after before item middle
      → FindsItem t l file span env item (Passes tt handed) inside
      → IsFirstRefused t l file spans middle inside refusal behind
      → IsFirstRefused t l file (span ∷ spans) before env refusal behind

-- Of items one answer is true at most.
pub record HaveOneAnswer (l : Language) (file : FileScope l) : Type 0 where
  pub one_program : (t : Tokens) (spans : List ItemSpan) (before after behind : Context) (env inside outside : l.Environment) (items others : List Item) (handed told : List Handed)
      → ArePassing t l file spans before env items handed after inside → ArePassing t l file spans before env others told behind outside
      → (items ≡ others) × (handed ≡ told) × (inside ≡ outside)
  pub never_both : (t : Tokens) (spans : List ItemSpan) (before after : Context) (env inside outside : l.Environment) (items : List Item) (handed : List Handed) (refusal : Refusal)
      → ArePassing t l file spans before env items handed after inside → IsFirstRefused t l file spans before env refusal outside → ⊥
  pub one_refusal : (t : Tokens) (spans : List ItemSpan) (before : Context) (env inside outside : l.Environment) (refusal other : Refusal)
      → IsFirstRefused t l file spans before env refusal inside → IsFirstRefused t l file spans before env other outside → refusal ≡ other

-- What is found of items by numbers of types is found in the language of C.
use Rattle.std.proofs.Common.{List}
use Rattle.cbase.specs.declared.tree.item.Item.{Item}
use Rattle.cgrammar.specs.Phrases.{Context as Standing}
use Rattle.ctokens.specs.declared.item_span.ItemSpan.{ItemSpan}
use Rattle.ctokens.specs.declared.token.Tokens.{Tokens}
use Rattle.typing.specs.FileScope.{FileScope}
use Rattle.typing.specs.Items.{ItemIs}
use Rattle.typing.specs.Language.{Language}
use Rattle.typing.specs.Outcomes.{Handed, Passes, Refused}
use Rattle.items.specs.languages.Carries.{Carried}
use Rattle.ccheck.specs.declared.refusal.Refusal.{Refusal}
use Rattle.ccheck.specs.Refusals.{place_at}
use Rattle.ccheck.specs.Walk.{ArePassing, IsFirstRefused, NoItem, OneItem, NotRead, Broken, Later}

-- where one language carries over to another
module _ (t : Tokens) (l m : Language) (file : FileScope l) (other : FileScope m) (to : l.Environment → m.Environment) (Valid : l.Environment → Type 0) (carried : Carried l m file other to Valid) where
  pub passing_carried : {spans : List ItemSpan} {before after : Standing} {env behind : l.Environment} {items : List Item} {handed : List Handed}
      → ArePassing t l file spans before env items handed after behind → Valid behind → ArePassing t m other spans before (to env) items handed after (to behind) × Valid env
  passing_carried NoItem valid = (NoItem, valid)
  passing_carried (OneItem {env} {inside} {span} {item} {handed} read found rest all) valid =
      let (others, here) = passing_carried rest valid in
      let (told, before) = carried.items env (ItemIs (place_at t span.first) item (Passes tt handed)) inside found here in
      (OneItem read told others all, before)

  pub refused_carried : {spans : List ItemSpan} {before : Standing} {env behind : l.Environment} {refusal : Refusal}
      → IsFirstRefused t l file spans before env refusal behind → Valid behind → IsFirstRefused t m other spans before (to env) refusal (to behind) × Valid env
  refused_carried (NotRead unread stops is) valid = (NotRead unread stops is, valid)
  refused_carried (Broken {env} {behind} {span} {item} {fault} read found is) valid =
      let (told, before) = carried.items env (ItemIs (place_at t span.first) item (Refused fault)) behind found valid in
      (Broken read told is, before)
  refused_carried (Later {env} {inside} {span} {item} {handed} read found rest) valid =
      let (others, here) = refused_carried rest valid in
      let (told, before) = carried.items env (ItemIs (place_at t span.first) item (Passes tt handed)) inside found here in
      (Later read told others, before)

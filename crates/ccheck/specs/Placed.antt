-- Where a refusal stands, and which number it has: at a token of the item that is refused, by the number of a construct or of a rule.
use Rattle.std.specs.Prelude.{ℕ, ◌≤◌, ◌<◌, List, Contains}
use Rattle.cbase.specs.Refused.{IsConstruct}
use Rattle.cbase.specs.declared.place.Place.{Place}
use Rattle.cgrammar.specs.Phrases.{Context}
use Rattle.cread.specs.UnreadItems.{IsPlaceOf, ShowsNothing}
use Rattle.ctokens.specs.declared.item_span.ItemSpan.{ItemSpan}
use Rattle.ctokens.specs.declared.token.Tokens.{Tokens}
use Rattle.ccheck.specs.declared.checking.Checked.{Checked}
use Rattle.ccheck.specs.declared.checking.Checked.TheVariants.{Typed, Refused}
use Rattle.ccheck.specs.declared.refusal.Refusal.{Refusal}
use Rattle.ccheck.specs.declared.refusal.Refusal.TheVariants.{Construct, Syntax, Rule}

-- how many rules on types, declarations and statements there are; the first has the number 1
abbrev pub rule_count : ℕ
rule_count = 13

abbrev pub IsRule : ℕ → Type 0
IsRule number = (1 ≤ number) × (number ≤ rule_count)

-- the place is that of a token of the item, the one before which as many stand as it says
pub record IsTokenOf (t : Tokens) (span : ItemSpan) (place : Place) : Type 0 where
  pub behind : span.first ≤ place.at
  pub before : place.at < span.after
  pub placed : IsPlaceOf t place.at place

-- a refusal for syntax stands at the first token of an item that is not read, and that has no construct which is given up
abbrev pub IsPlacedIn : Tokens → ItemSpan → Refusal → Type 0
IsPlacedIn t span (Construct number place) = IsConstruct number × IsTokenOf t span place
IsPlacedIn t span (Syntax place) = (before : Context) × ShowsNothing t span.first span.after before place × IsTokenOf t span place
IsPlacedIn t span (Rule number place) = IsRule number × IsTokenOf t span place

-- the refusal stands in one of the items
abbrev pub IsPlaced : Tokens → List ItemSpan → Refusal → Type 0
IsPlaced t spans refusal = (span : ItemSpan) × Contains spans span × IsPlacedIn t span refusal

abbrev pub AnswerIsPlaced : Tokens → List ItemSpan → Checked → Type 0
AnswerIsPlaced t spans (Typed p) = Unit {0}
AnswerIsPlaced t spans (Refused refusal) = IsPlaced t spans refusal

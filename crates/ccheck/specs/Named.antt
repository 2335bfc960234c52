-- What can be named of a refusal: the number of its construct, and the file of its place.
use Rattle.std.specs.Prelude.{ℕ, ◌<◌, List, length}
use Rattle.cbase.specs.Refused.{IsConstruct}
use Rattle.ccheck.specs.declared.checking.Checked.{Checked}
use Rattle.ccheck.specs.declared.checking.Checked.TheVariants.{Typed, Refused}
use Rattle.ccheck.specs.declared.refusal.Refusal.{Refusal}
use Rattle.ccheck.specs.declared.refusal.Refusal.TheVariants.{Construct, Syntax, Rule}

abbrev pub IsNamed : List (List ℕ) → Refusal → Type 0
IsNamed names (Construct number place) = IsConstruct number × (place.file < length names)
IsNamed names (Syntax place) = place.file < length names
IsNamed names (Rule number place) = place.file < length names

abbrev pub AnswerIsNamed : List (List ℕ) → Checked → Type 0
AnswerIsNamed names (Typed p) = Unit {0}
AnswerIsNamed names (Refused refusal) = IsNamed names refusal

-- What `gave up` means.
use Rattle.std.specs.Prelude.{ℕ, List}
use Rattle.cbase.specs.declared.place.Place.{Place}
use Rattle.ccheck.specs.declared.refusal.Refusal.TheVariants as refusal
use Rattle.verdicts.specs.Verdict.{HasRefused}

-- of the items that main needs the first that is refused is so for the construct of this number, at this place
abbrev pub MeansGaveUp : List ℕ → List ℕ → ℕ → Place → Type 0
MeansGaveUp file bytes number place = HasRefused file bytes (refusal.Construct number place)

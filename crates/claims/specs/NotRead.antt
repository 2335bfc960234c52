-- What `not read` means, with each of its causes but `not yet` and the length of the text.
use Rattle.std.specs.Prelude.{ℕ, List}
use Rattle.cbase.specs.declared.place.Place.{Place}
use Rattle.ccheck.specs.declared.refusal.Refusal.TheVariants as refusal
use Rattle.verdicts.specs.Verdict.{HasNoMain, HasNoToken, HasRefused, IsTooDeep}

-- `no token`
abbrev pub MeansNoToken : List ℕ → List ℕ → Place → Type 0
MeansNoToken file bytes place = HasNoToken file bytes place

-- `too deep`
abbrev pub MeansTooDeep : List ℕ → List ℕ → Place → Type 0
MeansTooDeep file bytes place = IsTooDeep file bytes place

-- `no main`
abbrev pub MeansNoMain : List ℕ → List ℕ → Type 0
MeansNoMain file bytes = HasNoMain file bytes

-- `syntax`
abbrev pub MeansSyntax : List ℕ → List ℕ → Place → Type 0
MeansSyntax file bytes place = HasRefused file bytes (refusal.Syntax place)

-- `rule`
abbrev pub MeansRule : List ℕ → List ℕ → ℕ → Place → Type 0
MeansRule file bytes number place = HasRefused file bytes (refusal.Rule number place)

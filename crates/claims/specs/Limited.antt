-- What it means that the analysis gave up: the budget was spent, or a state was too large.
use Rattle.std.specs.Prelude.{ℕ, List, Option}
use Rattle.trail.specs.declared.trail.Entry.{Entry}
use Rattle.driver.specs.Verdicts.{IsLarge, IsSpent}
use Rattle.report.specs.declared.limits.Limits.{Limits}
use Rattle.verdicts.specs.Found.{within}
use Rattle.claims.specs.Analysed.{OnGraph}

-- `gave up: budget of N states spent`: in this trail no graph has a fault, so many are kept as the budget allows, and this one would be one more
abbrev pub MeansSpent : Limits → List ℕ → List ℕ → Type 0
MeansSpent limits file bytes = OnGraph file bytes (λ t flow. (trail : List Entry) × (next : Entry) × IsSpent flow (within limits) trail next)

-- `gave up: state too large`: a graph of this trail is large, or that of the start would be
abbrev pub MeansLarge : Limits → List ℕ → List ℕ → Type 0
MeansLarge limits file bytes = OnGraph file bytes (λ t flow. (trail : List Entry) × (entry : Option ℕ) × IsLarge flow (within limits) trail entry)
